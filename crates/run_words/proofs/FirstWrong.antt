-- Reading words from front to back finds the first wrong one.
use Rattle.std.proofs.Common.{◌≡◌, ℕ, zero, suc, ◌+◌, ◌<◌, ◌≤◌, List, [], ◌∷◌, ◌++◌, length, take, Bool, refl, sym, ap, ◌∙◌, subst, arith, Option, Some, None, Result, Ok, Err}
use Rattle.std.specs.Prelude.{codes}
use Rattle.std.specs.Result.{IfErr}
use Rattle.run_words.specs.declared.words.WordsFault.{WordsFault}
use Rattle.run_words.specs.declared.words.RunWords.{RunWords}
use Rattle.run_words.specs.declared.reading.Key.{Key}
use Rattle.run_words.specs.declared.reading.Key.TheVariants.{Partitions, Every, Turns}
use Rattle.run_words.specs.declared.reading.Place.{Place}
use Rattle.run_words.specs.declared.reading.Place.TheVariants.{Command, Module, Folder, Options, Value}
use Rattle.run_words.specs.declared.reading.Asked.{Asked}
use Rattle.run_words.specs.declared.reading.Reading.{Reading}
use Rattle.run_words.specs.Words.{Word, at, asked_by, key_in, number_in, or_missing, or_wrong, nothing, read_key, read_on, read_word, with_value, words_asked, AsksFor, IsFirstWrong}

-- ---- each reading goes on to right words

abbrev Completes : Reading → List Word → Type 0
Completes reading words = (rest : List Word) × (asked : RunWords) × ((place : ℕ) → read_on place reading (words ++ rest) ≡ Ok asked)

abbrev behind : (word : Word) (reading next : Reading) (words : List Word) → read_word reading word ≡ Some next → Completes next words → Completes reading (word ∷ words)
behind word reading next words e c = (c.0, c.1, λ place. ap (or_wrong place (λ b. read_on (place + 1) b (words ++ c.0))) e ∙ c.2 (place + 1))

abbrev with_word : (word : Word) (reading next : Reading) → read_word reading word ≡ Some next → Completes next [] → Completes reading []
with_word word reading next e c = let b = behind word reading next [] e c in (word ∷ c.0, c.1, b.2)

abbrev asked_for : Option ℕ → Option ℕ → Option ℕ → Bool → Asked
asked_for partitions every turns drain = record { partitions = partitions; every = every; turns = turns; drain = drain }

adds-turns : (p e : Option ℕ) (d : Bool) → read_word (at Options (asked_for p e None d)) (codes "--turns=1") ≡ Some (at Options (asked_for p e (Some 1) d))
unfolding read_word key_in read_key number_in
adds-turns p e d = refl

adds-every : (p t : Option ℕ) (d : Bool) → read_word (at Options (asked_for p None t d)) (codes "--every=1") ≡ Some (at Options (asked_for p (Some 1) t d))
unfolding read_word key_in read_key number_in
adds-every p t d = refl

adds-partitions : (e t : Option ℕ) (d : Bool) → read_word (at Options (asked_for None e t d)) (codes "--partitions=1") ≡ Some (at Options (asked_for (Some 1) e t d))
unfolding read_word key_in read_key number_in
adds-partitions e t d = refl

complete : (p e t : ℕ) (d : Bool) → Completes (at Options (asked_for (Some p) (Some e) (Some t) d)) []
unfolding asked_by
complete p e t d = ([], record { every = e; turns = t; drain = d }, λ place. refl)

with_turns : (p e : ℕ) (t : Option ℕ) (d : Bool) → Completes (at Options (asked_for (Some p) (Some e) t d)) []
with_turns p e (Some t) d = complete p e t d
with_turns p e None d = with_word _ _ _ (adds-turns (Some p) (Some e) d) (complete p e 1 d)

with_every : (p : ℕ) (e t : Option ℕ) (d : Bool) → Completes (at Options (asked_for (Some p) e t d)) []
with_every p (Some e) t d = with_turns p e t d
with_every p None t d = with_word _ _ _ (adds-every (Some p) t d) (with_turns p 1 t d)

with_partitions : (p e t : Option ℕ) (d : Bool) → Completes (at Options (asked_for p e t d)) []
with_partitions (Some p) e t d = with_every p e t d
with_partitions None e t d = with_word _ _ _ (adds-partitions e t d) (with_every 1 e t d)

options : (asked : Asked) → Completes (at Options asked) []
options asked = with_partitions asked.partitions asked.every asked.turns asked.drain

takes-command : (asked : Asked) → read_word (at Command asked) (codes "run") ≡ Some (at Module asked)
unfolding read_word
takes-command asked = refl

takes-module : (asked : Asked) → read_word (at Module asked) (codes "m") ≡ Some (at Folder asked)
unfolding read_word
takes-module asked = refl

takes-folder : (asked : Asked) → read_word (at Folder asked) (codes "f") ≡ Some (at Options asked)
unfolding read_word
takes-folder asked = refl

takes-value : (key : Key) (asked : Asked) → read_word (at (Value key) asked) (codes "1") ≡ Some (at Options (with_value key 1 asked))
unfolding read_word number_in
takes-value Partitions asked = refl
takes-value Every asked = refl
takes-value Turns asked = refl

folder : (asked : Asked) → Completes (at Folder asked) []
folder asked = with_word _ _ _ (takes-folder asked) (options asked)

«module» : (asked : Asked) → Completes (at Module asked) []
«module» asked = with_word _ _ _ (takes-module asked) (folder asked)

from_place : (place : Place) (asked : Asked) → Completes (at place asked) []
from_place Command asked = with_word _ _ _ (takes-command asked) («module» asked)
from_place Module asked = «module» asked
from_place Folder asked = folder asked
from_place Options asked = options asked
from_place (Value key) asked = with_word _ _ _ (takes-value key asked) (options (with_value key 1 asked))

completes : (reading : Reading) → Completes reading []
completes reading = from_place reading.place reading.asked

-- ---- where reading stops

record Stops (reading : Reading) (words : List Word) (k : ℕ) : Type 0 where
  within : k ≤ length words
  before : Completes reading (take k words)
  here : k < length words → (rest : List Word) (place : ℕ) → read_on place reading (take (k + 1) words ++ rest) ≡ Err (place + k)

abbrev StopsAt : ℕ → Reading → List Word → ℕ → Type 0
StopsAt place reading words j = (k : ℕ) × (j ≡ place + k) × Stops reading words k

err_same : (k j : ℕ) → ◌≡◌ {A = Result RunWords ℕ} (Err k) (Err j) → j ≡ k + 0
err_same k j e = let p : k ≡ j = cc in omega arith

at_end : (place j : ℕ) (reading : Reading) → or_missing place (asked_by reading) ≡ Err j → StopsAt place reading [] j
at_end place j reading e = (
  0,
  same (asked_by reading) e,
  record {
    within = omega arith;
    before = completes reading;
    here = λ l. absurd (omega arith);
  },
)
  where
    same : (o : Option RunWords) → or_missing place o ≡ Err j → j ≡ place + 0
    same (Some asked) e = absurd cc
    same None e = err_same place j e

at_word : (place j : ℕ) (reading : Reading) (word : Word) (words : List Word) → read_word reading word ≡ None → ◌≡◌ {A = Result RunWords ℕ} (Err place) (Err j) → StopsAt place reading (word ∷ words) j
at_word place j reading word words n e = (
  0,
  err_same place j e,
  record {
    within = omega arith;
    before = completes reading;
    here = λ l rest p. let z : p ≡ p + 0 = omega arith in ap (or_wrong p (λ b. read_on (p + 1) b rest)) n ∙ ap Err z;
  },
)

further : (place j : ℕ) (reading next : Reading) (word : Word) (words : List Word) → read_word reading word ≡ Some next → StopsAt (place + 1) next words j → StopsAt place reading (word ∷ words) j
further place j reading next word words e s = (
  suc s.0,
  let p = s.1 in omega arith,
  record {
    within = let w = s.2.within in omega arith;
    before = behind word reading next (take s.0 words) e s.2.before;
    here = λ l rest p.
        let q : (p + 1) + s.0 ≡ p + suc s.0 = omega arith in
        let n : suc s.0 + 1 ≡ suc (s.0 + 1) = omega arith in
        rw n (ap (or_wrong p (λ b. read_on (p + 1) b (take (s.0 + 1) words ++ rest))) e ∙ s.2.here (omega arith) rest (p + 1) ∙ ap Err q);
  },
)

stops : (words : List Word) (place j : ℕ) (reading : Reading) → read_on place reading words ≡ Err j → StopsAt place reading words j
stops [] place j reading e = at_end place j reading e
stops (word ∷ words) place j reading e = by_word (read_word reading word) refl e (λ next. stops words (place + 1) j next)
  where
    by_word : (o : Option Reading) → read_word reading word ≡ o → or_wrong place (λ b. read_on (place + 1) b words) o ≡ Err j → ((next : Reading) → read_on (place + 1) next words ≡ Err j → StopsAt (place + 1) next words j) → StopsAt place reading (word ∷ words) j
    by_word None n e h = at_word place j reading word words n e
    by_word (Some next) n e h = further place j reading next word words n (h next e)

-- ---- the words

abbrev start : Reading
start = at Command nothing

is_first : (words : List Word) (k : ℕ) → Stops start words k → IsFirstWrong words k
unfolding words_asked
is_first words k s = record {
  within = s.within;
  before = (s.before.0, s.before.1, s.before.2 0);
  here = λ l b. let e = s.here l b.0 0 in let f = b.2 in cc;
}

pub first-wrong : (words : List Word) (answer : Result RunWords WordsFault) → AsksFor (words_asked words) answer → IfErr answer (λ fault. IsFirstWrong words fault.word)
unfolding words_asked
first-wrong words (Ok asked) h = tt
first-wrong words (Err fault) h =
    let s = stops words 0 fault.word start h in
    let p : s.0 ≡ fault.word = let q = s.1 in omega arith in
    subst (IsFirstWrong words) p (is_first words s.0 s.2)

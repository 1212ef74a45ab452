-- Reading words from front to back finds the first wrong one.
use Rattle.std.proofs.Common.{◌≡◌, ℕ, zero, suc, ◌+◌, ◌<◌, ◌≤◌, List, [], ◌∷◌, ◌++◌, length, take, Bool, true, false, refl, sym, ap, ◌∙◌, subst, ◌⊎◌, inl, inr, arith, Option, Some, None, Result, Ok, Err, slice_get}
use Rattle.std.specs.Prelude.{codes}
use Rattle.std.specs.Option.{ok_or, option_and_then, option_map_or}
use Rattle.std.proofs.lemmas.Bool.{cases_lt}
use Rattle.typed_values.specs.Sameness.{same_bytes}
use Rattle.std.specs.Result.{IfErr}
use Rattle.std.proofs.lemmas.Option.{slice_get_within}
use Rattle.statefun_cli.specs.declared.end.WordsFault.{WordsFault}
use Rattle.statefun_cli.specs.declared.run_words.RunWords.{RunWords}
use Rattle.statefun_cli.specs.RunWords.{command_in, file_in, turns_in, joined_turns_in, read_at, ◌>>=◌, ended_at, ending_at, is_at, turns_of, turns_asked, AsksFor, IsFirstWrong}

abbrev Words : Type 0
Words = List (List ℕ)

-- the words of the second list are those of the first, before a place; from a place on they are those of another list
abbrev Agrees : ℕ → Words → Words → Type 0
Agrees j ws vs = (i : ℕ) → i < j → slice_get vs i ≡ slice_get ws i

abbrev GoesOn : ℕ → Words → Words → Type 0
GoesOn j rest vs = (i : ℕ) → slice_get vs (j + i) ≡ slice_get rest i

abbrev IsGood : {A : Type 0} → Result A ℕ → Type 0
IsGood {A} r = (x : A) × (r ≡ Ok x)

-- ---- lists

get-front : (j : ℕ) (ws rest : Words) (i : ℕ) → i < j → j ≤ length ws → slice_get (take j ws ++ rest) i ≡ slice_get ws i
get-front zero ws rest i l h = absurd (omega arith)
get-front (suc j) [] rest i l h = absurd (omega arith)
get-front (suc j) (w ∷ ws) rest zero l h = refl
get-front (suc j) (w ∷ ws) rest (suc i) l h = get-front j ws rest i (omega arith) (omega arith)

get-back : (j : ℕ) (ws rest : Words) (i : ℕ) → j ≤ length ws → slice_get (take j ws ++ rest) (j + i) ≡ slice_get rest i
get-back zero ws rest i h = let e : 0 + i ≡ i = omega arith in rw e refl
get-back (suc j) [] rest i h = absurd (omega arith)
get-back (suc j) (w ∷ ws) rest i h = let e : suc j + i ≡ suc (j + i) = omega arith in rw e (get-back j ws rest i (omega arith))

-- ---- what reading from a place on has

record ReadsFrom (k : ℕ) {A : Type 0} (r : Words → Result A ℕ) : Type 0 where
  low : (ws : Words) (j : ℕ) → r ws ≡ Err j → k ≤ j
  within : (ws : Words) (j : ℕ) → r ws ≡ Err j → k ≤ length ws → j ≤ length ws
  stays : (ws vs : Words) (j : ℕ) → r ws ≡ Err j → Agrees (j + 1) ws vs → r vs ≡ Err j
  mends : (ws : Words) (j : ℕ) → r ws ≡ Err j → (rest : Words) × ((vs : Words) → Agrees j ws vs → GoesOn j rest vs → IsGood (r vs))

-- ---- one word, and what is read behind it

err_same : {A : Type 0} (k j : ℕ) → ◌≡◌ {A = Result A ℕ} (Err k) (Err j) → k ≡ j
err_same k j e = cc

bind_cases : {A B : Type 0} (o : Result A ℕ) (f : A → Result B ℕ) (j : ℕ) → (o >>= f) ≡ Err j → ((x : A) × (o ≡ Ok x) × (f x ≡ Err j)) ⊎ (o ≡ Err j)
bind_cases (Ok x) f j e = inl (x, refl, e)
bind_cases {B = B} (Err k) f j e = inr (ap Err (err_same {A = B} k j e))

bind_ok : {A B : Type 0} (o : Result A ℕ) (f : A → Result B ℕ) (x : A) → o ≡ Ok x → (o >>= f) ≡ f x
bind_ok o f x e = rw e refl

bind_err : {A B : Type 0} (o : Result A ℕ) (f : A → Result B ℕ) (j : ℕ) → o ≡ Err j → (o >>= f) ≡ Err j
bind_err o f j e = rw e refl

read_place : {A : Type 0} (read : List ℕ → Option A) (ws : Words) (k j : ℕ) → read_at read ws k ≡ Err j → k ≡ j
unfolding read_at
read_place {A} read ws k j e = from_ok_or (option_and_then read (slice_get ws k)) e
  where
    from_ok_or : (o : Option A) → ok_or o k ≡ Err j → k ≡ j
    from_ok_or (Some x) e = cc
    from_ok_or None e = err_same {A = A} k j e

read_there : {A : Type 0} (read : List ℕ → Option A) (ws : Words) (k : ℕ) (x : A) → read_at read ws k ≡ Ok x → k < length ws
unfolding read_at
read_there {A} read ws k x e = from_word (slice_get ws k) refl e
  where
    from_word : (o : Option (List ℕ)) → slice_get ws k ≡ o → ok_or (option_and_then read o) k ≡ Ok x → k < length ws
    from_word (Some w) f e = slice_get_within ws k w f
    from_word None f e = absurd cc

read_same : {A : Type 0} (read : List ℕ → Option A) (ws vs : Words) (k : ℕ) → slice_get vs k ≡ slice_get ws k → read_at read vs k ≡ read_at read ws k
unfolding read_at
read_same read ws vs k e = rw e refl

read_sample : {A : Type 0} (read : List ℕ → Option A) (vs : Words) (k : ℕ) (w : List ℕ) (x : A) → slice_get vs k ≡ Some w → read w ≡ Some x → read_at read vs k ≡ Ok x
unfolding read_at
read_sample read vs k w x e f = rw (e, f) refl

-- words that go on so are read whole
abbrev Serves : (k : ℕ) {A : Type 0} (rest : Words) (r : Words → Result A ℕ) → Type 0
Serves k rest r = (vs : Words) → GoesOn k rest vs → IsGood (r vs)

serves-stage : {A B : Type 0} (read : List ℕ → Option A) (k : ℕ) (next : A → Words → Result B ℕ) (w : List ℕ) (x : A) (rest : Words) → read w ≡ Some x → Serves (k + 1) rest (next x) → Serves k (w ∷ rest) (λ vs. read_at read vs k >>= λ y. next y vs)
serves-stage read k next w x rest e h vs g =
    let z : k + 0 ≡ k = omega arith in
    let ok = read_sample read vs k w x (rw z at (g 0)) e in
    let behind : GoesOn (k + 1) rest vs = λ i. let y : (k + 1) + i ≡ k + suc i = omega arith in rw y (g (suc i)) in
    let good = h vs behind in
    (good.0, bind_ok (read_at read vs k) (λ y. next y vs) x ok ∙ good.1)

stage : {A B : Type 0} (read : List ℕ → Option A) (k : ℕ) (next : A → Words → Result B ℕ) (rest : Words) → ((x : A) → ReadsFrom (k + 1) (next x)) → Serves k rest (λ vs. read_at read vs k >>= λ x. next x vs) → ReadsFrom k (λ ws. read_at read ws k >>= λ x. next x ws)
stage read k next rest h s = record {
  low = λ ws j e. elim (bind_cases (read_at read ws k) (λ x. next x ws) j e) [
    | inl t ↦ let l = (h t.0).low ws j t.2 in omega arith
    | inr f ↦ let p = read_place read ws k j f in omega arith
  ];
  within = λ ws j e l. elim (bind_cases (read_at read ws k) (λ x. next x ws) j e) [
    | inl t ↦ let m = read_there read ws k t.0 t.1 in (h t.0).within ws j t.2 (omega arith)
    | inr f ↦ let p = read_place read ws k j f in omega arith
  ];
  stays = λ ws vs j e a. elim (bind_cases (read_at read ws k) (λ x. next x ws) j e) [
    | inl t ↦ let l = (h t.0).low ws j t.2 in let same = read_same read ws vs k (a k (omega arith)) in bind_ok (read_at read vs k) (λ x. next x vs) t.0 (same ∙ t.1) ∙ (h t.0).stays ws vs j t.2 a
    | inr f ↦ let p = read_place read ws k j f in let same = read_same read ws vs k (a k (omega arith)) in bind_err (read_at read vs k) (λ x. next x vs) j (same ∙ f)
  ];
  mends = λ ws j e. elim (bind_cases (read_at read ws k) (λ x. next x ws) j e) [
    | inl t ↦ let l = (h t.0).low ws j t.2 in let m = (h t.0).mends ws j t.2 in (m.0, λ vs a g. let same = read_same read ws vs k (a k (omega arith)) in let good = m.1 vs a g in (good.0, bind_ok (read_at read vs k) (λ x. next x vs) t.0 (same ∙ t.1) ∙ good.1))
    | inr f ↦ let p = read_place read ws k j f in (rest, λ vs a g. s vs (subst (λ n. GoesOn n rest vs) (sym p) g))
  ];
}

-- ---- the end

ended_place : {A : Type 0} (x : A) (k j : ℕ) (o : Option (List ℕ)) → ended_at x k o ≡ Err j → k ≡ j
ended_place x k j None e = absurd cc
ended_place {A} x k j (Some w) e = err_same {A = A} k j e

serves-ending : {A : Type 0} (x : A) (k : ℕ) → Serves k [] (λ vs. ending_at vs k x)
serves-ending x k vs g = let z : k + 0 ≡ k = omega arith in (x, ap (ended_at x k) (rw z at (g 0)))

ending : {A : Type 0} (x : A) (k : ℕ) → ReadsFrom k (λ ws. ending_at ws k x)
ending x k = record {
  low = λ ws j e. let p = ended_place x k j (slice_get ws k) e in omega arith;
  within = λ ws j e l. let p = ended_place x k j (slice_get ws k) e in omega arith;
  stays = λ ws vs j e a. let p = ended_place x k j (slice_get ws k) e in ap (ended_at x k) (a k (omega arith)) ∙ e;
  mends = λ ws j e. let p = ended_place x k j (slice_get ws k) e in ([], λ vs a g. serves-ending x k vs (subst (λ n. GoesOn n [] vs) (sym p) g));
}

-- ---- the turns

abbrev option : List ℕ
option = codes "--turns"

abbrev apart : Words → Result ℕ ℕ
apart ws = read_at turns_in ws 3 >>= λ x. ending_at ws 4 x

abbrev joined : Words → Result ℕ ℕ
joined ws = read_at joined_turns_in ws 2 >>= λ x. ending_at ws 3 x

apart-reads : ReadsFrom 3 apart
unfolding turns_in
apart-reads = stage turns_in 3 (λ x ws. ending_at ws 4 x) (codes "1" ∷ []) (λ x. ending x 4) (serves-stage turns_in 3 (λ x ws. ending_at ws 4 x) (codes "1") 1 [] refl (serves-ending 1 4))

joined-serves : Serves 2 (codes "--turns=1" ∷ []) joined
unfolding turns_in
joined-serves = serves-stage joined_turns_in 2 (λ x ws. ending_at ws 3 x) (codes "--turns=1") 1 [] refl (serves-ending 1 3)

joined-reads : ReadsFrom 2 joined
joined-reads = stage joined_turns_in 2 (λ x ws. ending_at ws 3 x) (codes "--turns=1" ∷ []) (λ x. ending x 3) joined-serves

turns-apart : (ws : Words) → is_at ws 2 option ≡ true → turns_of ws ≡ apart ws
unfolding turns_of
turns-apart ws e = rw e refl

turns-joined : (ws : Words) → is_at ws 2 option ≡ false → turns_of ws ≡ joined ws
unfolding turns_of
turns-joined ws e = rw e refl

split : (b : Bool) → (b ≡ true) ⊎ (b ≡ false)
split true = inl refl
split false = inr refl

at_there : (ws : Words) (k : ℕ) (w : List ℕ) → is_at ws k w ≡ true → k < length ws
at_there ws k w e = from_word (slice_get ws k) refl e
  where
    from_word : (o : Option (List ℕ)) → slice_get ws k ≡ o → option_map_or (same_bytes w) o false ≡ true → k < length ws
    from_word (Some v) f e = slice_get_within ws k v f
    from_word None f e = absurd cc

at_same : (ws vs : Words) (k : ℕ) (w : List ℕ) → slice_get vs k ≡ slice_get ws k → is_at vs k w ≡ is_at ws k w
at_same ws vs k w e = rw e refl

turns-serves : Serves 2 (codes "--turns=1" ∷ []) turns_of
turns-serves vs g =
    let here = g 0 in
    let other : is_at vs 2 option ≡ false = rw here refl in
    let good = joined-serves vs g in
    (good.0, turns-joined vs other ∙ good.1)

turns-reads : ReadsFrom 2 turns_of
turns-reads = record {
  low = λ ws j e. elim (split (is_at ws 2 option)) [
    | inl t ↦ let l = apart-reads.low ws j (sym (turns-apart ws t) ∙ e) in omega arith
    | inr f ↦ joined-reads.low ws j (sym (turns-joined ws f) ∙ e)
  ];
  within = λ ws j e l. elim (split (is_at ws 2 option)) [
    | inl t ↦ let m = at_there ws 2 option t in apart-reads.within ws j (sym (turns-apart ws t) ∙ e) (omega arith)
    | inr f ↦ joined-reads.within ws j (sym (turns-joined ws f) ∙ e) l
  ];
  stays = λ ws vs j e a. elim (split (is_at ws 2 option)) [
    | inl t ↦ let l = apart-reads.low ws j (sym (turns-apart ws t) ∙ e) in turns-apart vs (at_same ws vs 2 option (a 2 (omega arith)) ∙ t) ∙ apart-reads.stays ws vs j (sym (turns-apart ws t) ∙ e) a
    | inr f ↦ let l = joined-reads.low ws j (sym (turns-joined ws f) ∙ e) in turns-joined vs (at_same ws vs 2 option (a 2 (omega arith)) ∙ f) ∙ joined-reads.stays ws vs j (sym (turns-joined ws f) ∙ e) a
  ];
  mends = λ ws j e. elim (split (is_at ws 2 option)) [
    | inl t ↦ let l = apart-reads.low ws j (sym (turns-apart ws t) ∙ e) in let m = apart-reads.mends ws j (sym (turns-apart ws t) ∙ e) in (m.0, λ vs a g. let good = m.1 vs a g in (good.0, turns-apart vs (at_same ws vs 2 option (a 2 (omega arith)) ∙ t) ∙ good.1))
    | inr f ↦ let l = joined-reads.low ws j (sym (turns-joined ws f) ∙ e) in elim (cases_lt 2 j) [
      | inl m ↦ let n = joined-reads.mends ws j (sym (turns-joined ws f) ∙ e) in (n.0, λ vs a g. let good = n.1 vs a g in (good.0, turns-joined vs (at_same ws vs 2 option (a 2 (omega arith)) ∙ f) ∙ good.1))
      | inr m ↦ let p : j ≡ 2 = omega arith in (codes "--turns=1" ∷ [], λ vs a g. turns-serves vs (subst (λ n. GoesOn n (codes "--turns=1" ∷ []) vs) p g))
    ]
  ];
}

-- ---- the words

abbrev from1 : List ℕ → Words → Result ℕ ℕ
from1 command ws = read_at file_in ws 1 >>= λ file. turns_of ws

abbrev rest2 : Words
rest2 = codes "--turns=1" ∷ []

abbrev rest1 : Words
rest1 = codes "m" ∷ rest2

serves1 : (command : List ℕ) → Serves 1 rest1 (from1 command)
serves1 command = serves-stage file_in 1 (λ file ws. turns_of ws) (codes "m") (codes "m") rest2 refl turns-serves

reads1 : (command : List ℕ) → ReadsFrom 1 (from1 command)
reads1 command = stage file_in 1 (λ file ws. turns_of ws) rest1 (λ file. turns-reads) (serves1 command)

asked-reads : ReadsFrom 0 turns_asked
unfolding turns_asked
asked-reads = stage command_in 0 from1 (codes "run" ∷ rest1) reads1 (serves-stage command_in 0 from1 (codes "run") (codes "run") rest1 refl (serves1 (codes "run")))

pub first-wrong : (words : Words) (answer : Result RunWords WordsFault) → AsksFor (turns_asked words) answer → IfErr answer (λ fault. IsFirstWrong words fault.word)
first-wrong words (Ok asked) h = tt
first-wrong words (Err fault) h =
    let j = fault.word in
    let fits = asked-reads.within words j h (omega arith) in
    let m = asked-reads.mends words j h in
    let good = m.1 (take j words ++ m.0) (λ i l. get-front j words m.0 i l fits) (λ i. get-back j words m.0 i fits) in
    record {
      within = fits;
      before = (m.0, good.0, good.1);
      here = λ l b. let e = asked-reads.stays words (take (j + 1) words ++ b.0) j h (λ i k. get-front (j + 1) words b.0 i k (omega arith)) in let f = b.2 in cc;
    }

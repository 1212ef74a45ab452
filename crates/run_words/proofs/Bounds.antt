-- The numbers that are taken are in their bounds.
use Rattle.std.proofs.Common.{◌≡◌, ℕ, ◌+◌, ◌<◌, ◌≤◌, List, [], ◌∷◌, Bool, true, false, refl, arith, Option, Some, None, Result, Ok, Err, not, ◌&&◌, bytes_eq, if◌then◌else◌, nat_lt, nat_le}
use Rattle.std.specs.Prelude.{codes, IfSome, IfOk, is_some, option_and_then, slice_index, ◌==◌}
use Rattle.std.specs.Str.{all_ascii_digits}
use Rattle.std.specs.Str.Parse.{digits_value}
use Rattle.std.proofs.lemmas.Bool.Decides.{nat_tests}
use Rattle.run_words.specs.declared.words.RunWords.{RunWords}
use Rattle.run_words.specs.declared.words.WordsFault.{WordsFault}
use Rattle.run_words.specs.declared.reading.Key.{Key}
use Rattle.run_words.specs.declared.reading.Key.TheVariants.{Partitions, Every, Turns}
use Rattle.run_words.specs.declared.reading.Place.{Place}
use Rattle.run_words.specs.declared.reading.Place.TheVariants.{Command, Module, Folder, Options, Value}
use Rattle.run_words.specs.declared.reading.Asked.{Asked}
use Rattle.run_words.specs.declared.reading.Reading.{Reading}
use Rattle.run_words.specs.Words.{AsksFor, Word, asked_at, asked_by, asked_with, at, goes_on, is_name, joined_in, key_in, most_of, nothing, number_in, option_of, or_missing, or_wrong, read_at, read_drain, read_key, read_keyed, read_on, read_value, read_word, value_of, valued, with_value, within, words_asked}

abbrev UpTo : ℕ → ℕ → Type 0
UpTo most n = (1 ≤ n) × (n ≤ most)

abbrev Bounded : Asked → Type 0
Bounded asked = IfSome asked.every (UpTo 1000000) × IfSome asked.turns (UpTo 1000000000)

abbrev Keeps : Option Reading → Type 0
Keeps o = IfSome o (λ next. Bounded next.asked)

within-bound : (most n : ℕ) → IfSome (within most n) (UpTo most)
within-bound most n = from_tests (nat_lt 0 n) (nat_le n most) refl refl
  where
    from_tests : (a b : Bool) → nat_lt 0 n ≡ a → nat_le n most ≡ b → IfSome (if a && b then Some n else None) (UpTo most)
    from_tests false b p q = tt
    from_tests true false p q = tt
    from_tests true true p q = (grind (arith, nat_tests), grind (arith, nat_tests))

number-bound : (most : ℕ) (word : Word) → IfSome (number_in most word) (UpTo most)
unfolding number_in
number-bound most word = from_test (all_ascii_digits word && not (slice_index word 0 == 48))
  where
    from_test : (b : Bool) → IfSome (if b then within most (digits_value 10 word) else None) (UpTo most)
    from_test true = within-bound most (digits_value 10 word)
    from_test false = tt

by_test : (b : Bool) (place : Place) (asked : Asked) → Bounded asked → Keeps (goes_on b place asked)
by_test true place asked h = h
by_test false place asked h = tt

by_number : (key : Key) (asked : Asked) (o : Option ℕ) → IfSome o (UpTo (most_of key)) → Bounded asked → Keeps (valued key asked o)
by_number key asked None b h = tt
by_number Partitions asked (Some n) b h = h
by_number Every asked (Some n) b h = (b, h.1)
by_number Turns asked (Some n) b h = (h.0, b)

by_value : (key : Key) (asked : Asked) (word : Word) → Bounded asked → Keeps (read_value key asked word)
by_value key asked word h = by_number key asked (number_in (most_of key) word) (number-bound (most_of key) word) h

by_joined : (key : Key) (asked : Asked) (o : Option Word) → Bounded asked → Keeps (option_and_then (read_value key asked) o)
by_joined key asked None h = tt
by_joined key asked (Some word) h = by_value key asked word h

by_key : (key : Key) (asked : Asked) (word : Word) → Bounded asked → Keeps (read_key key asked word)
unfolding read_key
by_key key asked word h = from_tests (is_some (value_of key asked)) (bytes_eq word (option_of key))
  where
    from_tests : (there apart : Bool) → Keeps (if there then None else (if apart then Some (at (Value key) asked) else option_and_then (read_value key asked) (joined_in key word)))
    from_tests true apart = tt
    from_tests false true = h
    from_tests false false = by_joined key asked (joined_in key word) h

by_drain : (asked : Asked) (b : Bool) → Bounded asked → Keeps (if b then Some (at Options (record asked { drain = true })) else None)
by_drain asked true h = h
by_drain asked false h = tt

by_option : (asked : Asked) (word : Word) (o : Option Key) → Bounded asked → Keeps (read_keyed asked word o)
by_option asked word None h = by_drain asked (bytes_eq word (codes "--drain") && not asked.drain) h
by_option asked word (Some key) h = by_key key asked word h

by_place : (place : Place) (asked : Asked) (word : Word) → Bounded asked → Keeps (read_at place asked word)
by_place Command asked word h = by_test (bytes_eq word (codes "run")) Module asked h
by_place Module asked word h = by_test (is_name word) Folder asked h
by_place Folder asked word h = by_test (is_name word) Options asked h
by_place Options asked word h = by_option asked word (key_in word) h
by_place (Value key) asked word h = by_value key asked word h

keeps : (reading : Reading) (word : Word) → Bounded reading.asked → Keeps (read_word reading word)
unfolding read_word
keeps reading word h = by_place reading.place reading.asked word h

-- ---- the words

abbrev pub InBounds : RunWords → Type 0
InBounds asked = (1 ≤ asked.every) × (asked.every ≤ 1000000) × (1 ≤ asked.turns) × (asked.turns ≤ 1000000000)

at_options : (p e t : Option ℕ) (d : Bool) → IfSome e (UpTo 1000000) → IfSome t (UpTo 1000000000) → IfSome (asked_with p e t d) InBounds
at_options (Some p) (Some e) (Some t) d h g = (h.0, h.1, g.0, g.1)
at_options None e t d h g = tt
at_options (Some p) None t d h g = tt
at_options (Some p) (Some e) None d h g = tt

at_end : (place : Place) (asked : Asked) → Bounded asked → IfSome (asked_at place asked) InBounds
at_end Command asked h = tt
at_end Module asked h = tt
at_end Folder asked h = tt
at_end Options asked h = at_options asked.partitions asked.every asked.turns asked.drain h.0 h.1
at_end (Value key) asked h = tt

asked-bound : (reading : Reading) → Bounded reading.asked → IfSome (asked_by reading) InBounds
unfolding asked_by
asked-bound reading h = at_end reading.place reading.asked h

missing-bound : (place : ℕ) (o : Option RunWords) → IfSome o InBounds → IfOk (or_missing place o) InBounds
missing-bound place None h = tt
missing-bound place (Some asked) h = h

read-bound : (words : List Word) (place : ℕ) (reading : Reading) → Bounded reading.asked → IfOk (read_on place reading words) InBounds
read-bound [] place reading h = missing-bound place (asked_by reading) (asked-bound reading h)
read-bound (word ∷ words) place reading h = by_word (read_word reading word) (keeps reading word h) (λ next. read-bound words (place + 1) next)
  where
    by_word : (o : Option Reading) → Keeps o → ((next : Reading) → Bounded next.asked → IfOk (read_on (place + 1) next words) InBounds) → IfOk (or_wrong place (λ b. read_on (place + 1) b words) o) InBounds
    by_word None k g = tt
    by_word (Some next) k g = g next k

pub in-bounds : (words : List Word) (answer : Result RunWords WordsFault) → AsksFor (words_asked words) answer → IfOk answer InBounds
unfolding words_asked
in-bounds words (Err fault) h = tt
in-bounds words (Ok asked) h = rw h at (read-bound words 0 (at Command nothing) (tt, tt))

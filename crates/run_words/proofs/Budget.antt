-- At most ten words are taken.
use Rattle.std.proofs.Common.{◌≡◌, ℕ, ◌+◌, ◌<◌, ◌≤◌, List, Bool, true, false, refl, arith, Option, Some, None, not, ◌&&◌, bytes_eq}
use Rattle.std.specs.Prelude.{codes, IfSome, is_some, option_and_then, if◌then◌else◌}
use Rattle.run_words.specs.declared.reading.Key.{Key}
use Rattle.run_words.specs.declared.reading.Key.TheVariants.{Partitions, Every, Turns}
use Rattle.run_words.specs.declared.reading.Place.{Place}
use Rattle.run_words.specs.declared.reading.Place.TheVariants.{Command, Module, Folder, Options, Value}
use Rattle.run_words.specs.declared.reading.Asked.{Asked}
use Rattle.run_words.specs.declared.reading.Reading.{Reading}
use Rattle.run_words.specs.Words.{Word, at, goes_on, is_name, joined_in, key_in, most_of, number_in, option_of, read_at, read_drain, read_key, read_keyed, read_value, read_word, value_of, valued, with_value}

abbrev pub wanted : Option ℕ → ℕ
wanted None = 2
wanted (Some n) = 0

abbrev pub drains : Bool → ℕ
drains true = 0
drains false = 1

abbrev pub options_left : Asked → ℕ
options_left asked = wanted asked.partitions + wanted asked.every + wanted asked.turns + drains asked.drain

-- how many words may still come
abbrev pub left_at : Place → Asked → ℕ
left_at Command asked = options_left asked + 3
left_at Module asked = options_left asked + 2
left_at Folder asked = options_left asked + 1
left_at Options asked = options_left asked
left_at (Value key) asked = options_left (with_value key 0 asked) + 1

abbrev pub left : Reading → ℕ
left reading = left_at reading.place reading.asked

abbrev Fewer : ℕ → Option Reading → Type 0
Fewer n o = IfSome o (λ next. left next + 1 ≤ n)

by_test : (b : Bool) (place : Place) (asked : Asked) (n : ℕ) → left_at place asked + 1 ≤ n → Fewer n (goes_on b place asked)
by_test true place asked n h = h
by_test false place asked n h = tt

by_value : (key : Key) (asked : Asked) (o : Option ℕ) (n : ℕ) → options_left (with_value key 0 asked) + 1 ≤ n → Fewer n (valued key asked o)
by_value key asked None n h = tt
by_value Partitions asked (Some m) n h = h
by_value Every asked (Some m) n h = h
by_value Turns asked (Some m) n h = h

wanted-none : (o : Option ℕ) → is_some o ≡ false → wanted o ≡ 2
wanted-none None e = refl
wanted-none (Some n) e = absurd cc

with-less : (key : Key) (asked : Asked) → is_some (value_of key asked) ≡ false → options_left asked ≡ options_left (with_value key 0 asked) + 2
with-less Partitions asked e = let w = wanted-none asked.partitions e in omega arith
with-less Every asked e = let w = wanted-none asked.every e in omega arith
with-less Turns asked e = let w = wanted-none asked.turns e in omega arith

by_joined : (key : Key) (asked : Asked) (o : Option Word) (n : ℕ) → options_left (with_value key 0 asked) + 1 ≤ n → Fewer n (option_and_then (read_value key asked) o)
by_joined key asked None n h = tt
by_joined key asked (Some word) n h = by_value key asked (number_in (most_of key) word) n h

by_key : (key : Key) (asked : Asked) (word : Word) → Fewer (options_left asked) (read_key key asked word)
unfolding read_key
by_key key asked word = from_tests (is_some (value_of key asked)) refl (bytes_eq word (option_of key))
  where
    from_tests : (there : Bool) → is_some (value_of key asked) ≡ there → (apart : Bool) → Fewer (options_left asked) (if there then None else (if apart then Some (at (Value key) asked) else option_and_then (read_value key asked) (joined_in key word)))
    from_tests true e apart = tt
    from_tests false e true = let l = with-less key asked e in omega arith
    from_tests false e false = let l = with-less key asked e in by_joined key asked (joined_in key word) (options_left asked) (omega arith)

by_drain : (asked : Asked) (b d : Bool) → asked.drain ≡ d → Fewer (options_left asked) (if b && not d then Some (at Options (record asked { drain = true })) else None)
by_drain asked false d e = tt
by_drain asked true true e = tt
by_drain asked true false e = let f : drains asked.drain ≡ 1 = rw e refl in omega arith

by_option : (asked : Asked) (word : Word) (o : Option Key) → Fewer (options_left asked) (read_keyed asked word o)
by_option asked word None = by_drain asked (bytes_eq word (codes "--drain")) asked.drain refl
by_option asked word (Some key) = by_key key asked word

by_place : (place : Place) (asked : Asked) (word : Word) → Fewer (left_at place asked) (read_at place asked word)
by_place Command asked word = by_test (bytes_eq word (codes "run")) Module asked _ (omega arith)
by_place Module asked word = by_test (is_name word) Folder asked _ (omega arith)
by_place Folder asked word = by_test (is_name word) Options asked _ (omega arith)
by_place Options asked word = by_option asked word (key_in word)
by_place (Value key) asked word = by_value key asked (number_in (most_of key) word) _ (omega arith)

pub fewer : (reading next : Reading) (word : Word) → read_word reading word ≡ Some next → left next + 1 ≤ left reading
unfolding read_word
fewer reading next word e = rw e at (by_place reading.place reading.asked word)

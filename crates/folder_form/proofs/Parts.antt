-- The first line of a job's text, and the words of its lines.
use Rattle.std.proofs.Common.{◌≡◌, ℕ, Bor, rules, tests, List, [], ◌∷◌, true, false, refl, sym, ap, ◌∙◌, Option, None, Some, cond, slice_get}
use Rattle.std.specs.Prelude.{codes, bytes_eq}
use Rattle.std.specs.Option.{is_some, option_map}
use Rattle.folder_form.specs.Shapes.{number_up_to, partitions_in, partitions_of_lines, partitions_of_words, lines_of, words_of}

abbrev pub led_by : List ℕ → Option ℕ → List ℕ → Option ℕ
led_by word number first = cond (bytes_eq first word) number None

-- the partitions that three words name, the last of which is to be missing
abbrev pub told : Option (List ℕ) → Option (List ℕ) → Option (List ℕ) → Option ℕ
told None number more = None
told (Some word) None more = None
told (Some word) (Some number) None = led_by (codes "partitions") (number_up_to 16 number) word
told (Some word) (Some number) (Some more) = None

pub words-told : (words : List (List ℕ)) → partitions_of_words words ≡ told (slice_get words 0) (slice_get words 1) (slice_get words 2)
words-told [] = refl
words-told (word ∷ []) = refl
words-told (word ∷ number ∷ []) = refl
words-told (word ∷ number ∷ more ∷ words) = refl

abbrev pub told_by : Option (List ℕ) → Option ℕ
told_by None = None
told_by (Some line) = told (slice_get (words_of line) 0) (slice_get (words_of line) 1) (slice_get (words_of line) 2)

lines-told : (lines : List (List ℕ)) → partitions_of_lines lines ≡ told_by (slice_get lines 0)
lines-told [] = refl
lines-told (line ∷ lines) = words-told (words_of line)

pub text-told : (text : List ℕ) → partitions_in text ≡ told_by (slice_get (lines_of text) 0)
unfolding partitions_in
text-told text = lines-told (lines_of text)

pub from_told : (text line : List ℕ) (word number more : Option (List ℕ)) → Some line ≡ slice_get (lines_of text) 0 → word ≡ slice_get (words_of line) 0 → number ≡ slice_get (words_of line) 1 → more ≡ slice_get (words_of line) 2 → told word number more ≡ partitions_in text
from_told text line word number more l a b c = rw (a, b, c) (sym (text-told text ∙ ap told_by (sym l)))

pub no-more : (more : Option (Bor (List ℕ))) → is_some more ≡ false → None ≡ option_map (λ part. part.now) more
no-more None e = refl
no-more (Some part) e = absurd (search (rules, tests))

pub told-more : (word number : List ℕ) (more : Option (Bor (List ℕ))) → is_some more ≡ true → None ≡ told (Some word) (Some number) (option_map (λ part. part.now) more)
told-more word number None e = absurd (search (rules, tests))
told-more word number (Some part) e = refl

pub told-led : (word number : List ℕ) → bytes_eq word (codes "partitions") ≡ true → number_up_to 16 number ≡ told (Some word) (Some number) None
told-led word number e = rw e refl

pub told-other : (word number : List ℕ) (more : Option (List ℕ)) → bytes_eq word (codes "partitions") ≡ false → None ≡ told (Some word) (Some number) more
told-other word number None e = rw e refl
told-other word number (Some more) e = refl

-- One step of reading.
use Rattle.std.proofs.Common.{◌≡◌, ℕ, zero, suc, ◌+◌, ◌<◌, ◌≤◌, List, [], ◌∷◌, drop, length, map, get_or, refl, sym, ap, ◌∙◌, arith, Option, Some, None, Result, Ok, Err}
use Rattle.run_words.specs.declared.words.RunWords.{RunWords}
use Rattle.run_words.specs.declared.reading.Reading.{Reading}
use Rattle.run_words.specs.Words.{Word, or_wrong, read_on, read_word}

front : {A : Type 0} (f : A → Word) (d : A) (ys : List A) (j : ℕ) → j < length ys → drop j (map f ys) ≡ f (get_or ys j d) ∷ drop (j + 1) (map f ys)
front f d [] j l = absurd (omega arith)
front f d (y ∷ ys) zero l = refl
front f d (y ∷ ys) (suc j) l = let n : suc j + 1 ≡ suc (j + 1) = omega arith in rw n (front f d ys j (omega arith))

pub reads-next : {A : Type 0} (f : A → Word) (xs : List A) (i place : ℕ) (x : A) (w : Word) (reading : Reading) (r o : Option Reading) → i < length xs → x ≡ get_or xs i x → w ≡ f x → r ≡ read_word reading w → r ≡ o → read_on place reading (drop i (map f xs)) ≡ or_wrong place (λ b. read_on (place + 1) b (drop (i + 1) (map f xs))) o
reads-next {A} f xs i place x w reading r o l p q s t =
    let e : read_word reading (f (get_or xs i x)) ≡ o = ap (λ y. read_word reading (f y)) (sym p) ∙ ap (read_word reading) (sym q) ∙ sym s ∙ t in
    ap (read_on place reading) (front f x xs i l) ∙ ap (or_wrong place (λ b. read_on (place + 1) b (drop (i + 1) (map f xs)))) e

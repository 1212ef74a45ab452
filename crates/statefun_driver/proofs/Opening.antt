-- Which letters a batch is opened of, and how long their request is.
use Rattle.std.proofs.Common.{◌≡◌, ◌∙◌, refl, sym, ap, ℕ, ◌<◌, ◌≤◌, List, [], ◌∷◌, ◌++◌, length, take, Bool, true, false, cond, arith, length-append}
use Rattle.std.specs.Prelude.{◌&&◌, nat_le}
use Rattle.std.specs.Cmp.{first_so, second_so}
use Rattle.std.proofs.lemmas.Bool.{leb-true, leb-false, le-leb}
use Rattle.std.proofs.lemmas.List.{append_assoc}
use Rattle.typed_values.specs.declared.letter.Letter.{Letter}
use Rattle.batch_queue.specs.Batches.{request_size}
use Rattle.partition_core.specs.declared.bounds.Bounds.{Bounds}
use Rattle.partition_core.specs.Batches.{keeps, fitting_behind, fitting}

take_front : (xs ys : List Letter) → take (length xs) (xs ++ ys) ≡ xs
take_front [] ys = refl
take_front (x ∷ xs) ys = ap (λ zs. x ∷ zs) (take_front xs ys)

module _ (bounds : Bounds) (head : ℕ) where
  -- it is a front of the letters
  behind_front : (letters front : List Letter) → (rest : List Letter) × (front ++ letters ≡ fitting_behind bounds head front letters ++ rest)
  behind_front [] front = ([], refl)
  behind_front (letter ∷ letters) front = by (keeps bounds head (front ++ letter ∷ [])) (behind_front letters (front ++ letter ∷ []))
    where
      by : (t : Bool) → (rest : List Letter) × ((front ++ letter ∷ []) ++ letters ≡ fitting_behind bounds head (front ++ letter ∷ []) letters ++ rest)
          → (rest : List Letter) × (front ++ (letter ∷ letters) ≡ cond t (fitting_behind bounds head (front ++ letter ∷ []) letters) front ++ rest)
      by true more = (more.0, sym (append_assoc front (letter ∷ []) letters) ∙ more.1)
      by false more = (letter ∷ letters, refl)

  -- that keeps the bounds where it has any
  abbrev Keeps : List Letter → Type 0
  Keeps batch = 0 < length batch → keeps bounds head batch ≡ true

  behind_keeps : (letters front : List Letter) → Keeps front → Keeps (fitting_behind bounds head front letters)
  behind_keeps [] front h = h
  behind_keeps (letter ∷ letters) front h = by (keeps bounds head (front ++ letter ∷ [])) refl (behind_keeps letters (front ++ letter ∷ []))
    where
      by : (t : Bool) → keeps bounds head (front ++ letter ∷ []) ≡ t → (Keeps (front ++ letter ∷ []) → Keeps (fitting_behind bounds head (front ++ letter ∷ []) letters))
          → Keeps (cond t (fitting_behind bounds head (front ++ letter ∷ []) letters) front)
      by true e more = more (λ some. e)
      by false e more = h

  behind_longer : (letters front : List Letter) → length front ≤ length (fitting_behind bounds head front letters)
  behind_longer [] front = omega arith
  behind_longer (letter ∷ letters) front = by (keeps bounds head (front ++ letter ∷ [])) (behind_longer letters (front ++ letter ∷ []))
    where
      by : (t : Bool) → length (front ++ letter ∷ []) ≤ length (fitting_behind bounds head (front ++ letter ∷ []) letters) → length front ≤ length (cond t (fitting_behind bounds head (front ++ letter ∷ []) letters) front)
      by true more = omega (arith, more, length-append front (letter ∷ []))
      by false more = omega arith

  -- ---- the batch

  pub fitting_front : (letters : List Letter) → take (length (fitting bounds head letters)) letters ≡ fitting bounds head letters
  unfolding fitting
  fitting_front letters =
      let front = behind_front letters [] in
      ap (take (length (fitting_behind bounds head [] letters))) front.1 ∙ take_front (fitting_behind bounds head [] letters) front.0

  pub fitting_keeps : (letters : List Letter) → 0 < length (fitting bounds head letters) → keeps bounds head (fitting bounds head letters) ≡ true
  unfolding fitting
  fitting_keeps letters some = behind_keeps letters [] (λ none. absurd (omega (arith, none))) some

  pub keeps_count : (batch : List Letter) → keeps bounds head batch ≡ true → length batch ≤ bounds.max_letters
  keeps_count batch e = leb-true (length batch) bounds.max_letters (first_so (nat_le (length batch) bounds.max_letters) (nat_le (request_size head batch) bounds.max_bytes) e)

  pub keeps_bytes : (batch : List Letter) → keeps bounds head batch ≡ true → request_size head batch ≤ bounds.max_bytes
  keeps_bytes batch e = leb-true (request_size head batch) bounds.max_bytes (second_so (nat_le (length batch) bounds.max_letters) (nat_le (request_size head batch) bounds.max_bytes) e)

  -- where there is none, the first letter alone is too much
  pub fitting_none : (letters : List Letter) → 0 < length letters → 1 ≤ bounds.max_letters → fitting bounds head letters ≡ [] → bounds.max_bytes < request_size head (take 1 letters)
  unfolding fitting
  fitting_none [] some most e = absurd (omega (arith, some))
  fitting_none (letter ∷ letters) some most e = by (nat_le (request_size head (letter ∷ [])) bounds.max_bytes) refl
    where
      whole : (t : Bool) → nat_le (request_size head (letter ∷ [])) bounds.max_bytes ≡ t → keeps bounds head (letter ∷ []) ≡ t
      whole t w = λ i. le-leb 1 bounds.max_letters most i && w i

      longer : cond true (fitting_behind bounds head (letter ∷ []) letters) [] ≡ [] → ⊥
      longer none = let more = behind_longer letters (letter ∷ []) in absurd (omega (arith, more, ap length none))

      by : (t : Bool) → nat_le (request_size head (letter ∷ [])) bounds.max_bytes ≡ t → bounds.max_bytes < request_size head (letter ∷ [])
      by true w = absurd (longer (sym (ap (λ t. cond t (fitting_behind bounds head (letter ∷ []) letters) []) (whole true w)) ∙ e))
      by false w = leb-false (request_size head (letter ∷ [])) bounds.max_bytes w

-- What the bytes held say of CR LF at the front of those to come.
use Rattle.std.proofs.Common.{◌≡◌, ◌≢◌, ℕ, ◌≤◌, ◌⊎◌, inl, inr, List, [], ◌∷◌, ◌++◌, length, drop, Option, Some, None, refl, ap, subst, arith, slice_index}
use Rattle.std.proofs.lemmas.Bool.Decides.{nat_tests}
use Rattle.sf_outside.specs.Left.{ahead, AtEnd}
use Rattle.endpoint_http.specs.Answers.{Told, Blames}
use Rattle.endpoint_http.specs.Chunks.{crlf, IsNoLineEnd, EndsInLineEnd}
use Rattle.endpoint_http.specs.Taking.{LineEnds, LineEndFault, other, cut}
use Rattle.endpoint_http.specs.declared.fault.HttpFault.TheVariants.{Chunk, Cut}
use Rattle.endpoint_http.proofs.Fronts.{told_by, told_at_end}

abbrev pub HasLineEnd : List ℕ → Type 0
HasLineEnd bytes = (2 ≤ length bytes) × (slice_index bytes 0 ≡ 13) × (slice_index bytes 1 ≡ 10)

abbrev pub IsInLineEnd : List ℕ → Type 0
IsInLineEnd bytes = (length bytes ≡ 0) ⊎ ((length bytes ≡ 1) × (slice_index bytes 0 ≡ 13))

in_front : (bytes more : List ℕ) → HasLineEnd bytes → bytes ++ more ≡ crlf ++ (drop 2 bytes ++ more)
in_front [] more h = absurd (omega (arith, h.0))
in_front (a ∷ []) more h = absurd (omega (arith, h.0))
in_front (a ∷ b ∷ bytes) more h = rw (h.1, h.2) refl

pub line_end_told : (held now : List ℕ) (left here : Option (List ℕ)) → HasLineEnd held → now ≡ drop 2 held → ahead held left ≡ here → Told here (λ bytes. LineEnds bytes (ahead now left))
line_end_told held now None here h is known = subst (λ (o : Option (List ℕ)). Told o (λ bytes. LineEnds bytes (ahead now None))) known (tt {0})
line_end_told held now (Some more) here h is known = subst (λ (o : Option (List ℕ)). Told o (λ bytes. LineEnds bytes (ahead now (Some more)))) known
    (drop 2 held ++ more, in_front held more h, ap (λ (bs : List ℕ). Some (bs ++ more)) is)

either : (a b : ℕ) → ¬ ((a ≡ 13) × (b ≡ 10)) → (a ≢ 13) ⊎ (b ≢ 10)
either a b h = grind (arith, nat_tests)

alone : (a : ℕ) (more : List ℕ) → a ≢ 13 → IsNoLineEnd (a ∷ more)
alone a [] h = h
alone a (b ∷ more) h = inl h

pub no_line_end : (held more : List ℕ) → ¬ (HasLineEnd held) → ¬ (IsInLineEnd held) → IsNoLineEnd (held ++ more)
no_line_end [] more has ends = absurd (ends (inl refl))
no_line_end (a ∷ []) more has ends = alone a more (λ is. ends (inr (refl, is)))
no_line_end (a ∷ b ∷ held) more has ends = either a b (λ is. has (omega arith, is.0, is.1))

pub other_told : (held : List ℕ) (left here : Option (List ℕ)) → ¬ (HasLineEnd held) → ¬ (IsInLineEnd held) → ahead held left ≡ here → Told here (λ bytes. Blames (LineEndFault bytes) Chunk)
other_told held left here has ends known = subst (λ (o : Option (List ℕ)). Told o (λ bytes. Blames (LineEndFault bytes) Chunk)) known
    (told_by held left (λ bytes. Blames (LineEndFault bytes) Chunk) (λ more. other (no_line_end held more has ends)))

in_line_end : (held : List ℕ) → IsInLineEnd held → EndsInLineEnd held
in_line_end [] h = inl refl
in_line_end (a ∷ []) (inl h) = absurd (omega (arith, h))
in_line_end (a ∷ []) (inr h) = inr (ap (λ n. n ∷ []) h.1)
in_line_end (a ∷ b ∷ held) (inl h) = absurd (omega (arith, h))
in_line_end (a ∷ b ∷ held) (inr h) = absurd (omega (arith, h.0))

pub line_end_cut : (held : List ℕ) (left here : Option (List ℕ)) → IsInLineEnd held → ahead held left ≡ here → AtEnd left → Told here (λ bytes. Blames (LineEndFault bytes) Cut)
line_end_cut held left here h known end = subst (λ (o : Option (List ℕ)). Told o (λ bytes. Blames (LineEndFault bytes) Cut)) known
    (told_at_end held left (λ bytes. Blames (LineEndFault bytes) Cut) end (cut (in_line_end held h)))

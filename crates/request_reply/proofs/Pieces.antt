-- Feeding pieces is feeding them joined.
use Rattle.std.proofs.Common.{◌≡◌, ℕ, ◌+◌, ◌<◌, ◌≤◌, List, [], ◌++◌, length, Result, Ok, Err, refl, sym, ap, subst, ◌∙◌, arith, append_assoc, length-append, inl, inr, get_or, drop}
use Rattle.std.proofs.lemmas.List.{append-nil, at_drop_more, at_drop_all}
use Rattle.std.proofs.lemmas.Bool.{cases_lt}
use Rattle.proto_wire.specs.declared.fault.WireFault.{WireFault}
use Rattle.proto_wire.specs.declared.fault.WireKind.TheVariants.{OverLimit}
use Rattle.proto_wire.specs.declared.fault.DecodeFault.{DecodeFault}
use Rattle.proto_wire.specs.declared.fault.DecodeFault.TheVariants.{Wire, OutOfMemory}
use Rattle.proto_wire.proofs.Again.{below, not_below}
use Rattle.proto_wire.specs.Reads.{Fails}
use Rattle.request_reply.specs.Feeding.{Fed, fed, pieces_joined}

abbrev over : Fed → Result Fed WireFault
over held = Err (record { kind = OverLimit; at = held.limit })

abbrev after : Fed → List ℕ → Fed
after held piece = record { bytes = held.bytes ++ piece; limit = held.limit }

fed-over : (held : Fed) (piece : List ℕ) → held.limit < length held.bytes + length piece → fed held piece ≡ over held
unfolding fed
fed-over held piece h = rw (below held.limit (length held.bytes + length piece) h) refl

fed-within : (held : Fed) (piece : List ℕ) → length held.bytes + length piece ≤ held.limit → fed held piece ≡ Ok (after held piece)
unfolding fed
fed-within held piece h = rw (not_below held.limit (length held.bytes + length piece) h) refl

abbrev done : Fed → Result Fed WireFault
done held = Ok held

abbrev failed : WireFault → Result Fed WireFault
failed e = Err e

-- after a piece that was taken, what follows goes on from there
pub fed-then : (held next : Fed) (piece rest : List ℕ) → fed held piece ≡ Ok next → fed held (piece ++ rest) ≡ fed next rest
fed-then held next piece rest h =
    elim (cases_lt held.limit (length held.bytes + length piece)) [
      | inl lt ↦ let clash : over held ≡ done next = sym (fed-over held piece lt) ∙ h in absurd cc
      | inr le ↦
          let same : done (after held piece) ≡ done next = sym (fed-within held piece le) ∙ h in
          let is : after held piece ≡ next = cc in
          let one : fed held (piece ++ rest) ≡ fed (after held piece) rest =
          elim (cases_lt held.limit (length held.bytes + length piece + length rest)) [
            | inl lt ↦ fed-over held (piece ++ rest) (omega (arith, length-append piece rest)) ∙ sym (fed-over (after held piece) rest (omega (arith, length-append held.bytes piece)))
            | inr more ↦
                fed-within held (piece ++ rest) (omega (arith, length-append piece rest)) ∙ ap (λ (b : List ℕ). done (record { bytes = b; limit = held.limit })) (sym (append_assoc held.bytes piece rest))
                ∙ sym (fed-within (after held piece) rest (omega (arith, length-append held.bytes piece)))
          ] in
          one ∙ ap (λ (f : Fed). fed f rest) is
    ]

pub fed-refused : (held : Fed) (piece rest : List ℕ) (e : DecodeFault) → Fails e (fed held piece) → Fails e (fed held (piece ++ rest))
fed-refused held piece rest OutOfMemory h = tt
fed-refused held piece rest (Wire e) h =
    elim (cases_lt held.limit (length held.bytes + length piece)) [
      | inl lt ↦ fed-over held (piece ++ rest) (omega (arith, length-append piece rest)) ∙ sym (fed-over held piece lt) ∙ h
      | inr le ↦ let clash : done (after held piece) ≡ failed e = sym (fed-within held piece le) ∙ h in absurd cc
    ]

pub fed-nothing : (held : Fed) → length held.bytes ≤ held.limit → fed held [] ≡ Ok held
fed-nothing held h = fed-within held [] (omega arith) ∙ ap (λ (b : List ℕ). done (record { bytes = b; limit = held.limit })) (append-nil held.bytes)

pub fed-short : (held next : Fed) (piece : List ℕ) → fed held piece ≡ Ok next → length next.bytes ≤ next.limit
fed-short held next piece h =
    elim (cases_lt held.limit (length held.bytes + length piece)) [
      | inl lt ↦ let clash : over held ≡ done next = sym (fed-over held piece lt) ∙ h in absurd cc
      | inr le ↦
          let same : done (after held piece) ≡ done next = sym (fed-within held piece le) ∙ h in
          let is : after held piece ≡ next = cc in
          let P : Fed → Type 0 = λ f. length f.bytes ≤ f.limit in subst P is (omega (arith, length-append held.bytes piece))
    ]

-- ---- the pieces of a list

joined-next : (pieces : List (List ℕ)) (i : ℕ) (piece : List ℕ) → i < length pieces → piece ≡ get_or pieces i piece → pieces_joined (drop i pieces) ≡ piece ++ pieces_joined (drop (i + 1) pieces)
unfolding pieces_joined
joined-next pieces i piece lt is = at_drop_more pieces_joined pieces i piece lt ∙ ap (λ (p : List ℕ). p ++ pieces_joined (drop (i + 1) pieces)) (sym is)

pub step-taken : (held next : Fed) (pieces : List (List ℕ)) (i : ℕ) (piece shown : List ℕ) (total : Result Fed WireFault) → i < length pieces → piece ≡ get_or pieces i piece → shown ≡ piece
    → fed held shown ≡ Ok next → fed held (pieces_joined (drop i pieces)) ≡ total → fed next (pieces_joined (drop (i + 1) pieces)) ≡ total
step-taken held next pieces i piece shown total lt is same took so_far =
    let took_piece : fed held piece ≡ Ok next = ap (fed held) (sym same) ∙ took in
    sym (fed-then held next piece (pieces_joined (drop (i + 1) pieces)) took_piece) ∙ ap (fed held) (sym (joined-next pieces i piece lt is)) ∙ so_far

pub step-refused : (held : Fed) (pieces : List (List ℕ)) (i : ℕ) (piece shown : List ℕ) (e : DecodeFault) (total : Result Fed WireFault) → i < length pieces → piece ≡ get_or pieces i piece → shown ≡ piece
    → Fails e (fed held shown) → fed held (pieces_joined (drop i pieces)) ≡ total → Fails e total
step-refused held pieces i piece shown e total lt is same refused so_far =
    let P : Result Fed WireFault → Type 0 = λ r. Fails e r in
    let here : Fails e (fed held piece) = subst P (ap (fed held) same) refused in
    subst P (ap (fed held) (sym (joined-next pieces i piece lt is)) ∙ so_far) (fed-refused held piece (pieces_joined (drop (i + 1) pieces)) e here)

pub all-taken : (held : Fed) (pieces : List (List ℕ)) (i : ℕ) (total : Result Fed WireFault) → length pieces ≤ i → length held.bytes ≤ held.limit → fed held (pieces_joined (drop i pieces)) ≡ total → total ≡ Ok held
unfolding pieces_joined
all-taken held pieces i total le short so_far = sym so_far ∙ ap (fed held) (at_drop_all pieces_joined pieces i le) ∙ fed-nothing held short

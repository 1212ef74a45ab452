-- Starts and their places.
use Rattle.std.proofs.Common.{◌≡◌, ℕ, zero, suc, ◌+◌, List, [], ◌∷◌, ◌++◌, length, Some, refl, sym, ◌∙◌, ap, arith, append_assoc, length-append, add-one, add-zero}
use Rattle.std.specs.Prelude.{slice_get, option_and_then, Contains}
use Rattle.sf_outside.specs.declared.call.LinkEvent.{LinkEvent}
use Rattle.sf_outside.specs.declared.call.LinkEvent.TheVariants.{Started, Polled}
use Rattle.sf_outside.specs.Script.{start_number, places_from}

pub places_start : (at : ℕ) (events : List LinkEvent) (call : _) (url request : List ℕ) → places_from at (events ++ Started call url request ∷ []) ≡ places_from at events ++ (at + length events) ∷ []
places_start at [] call url request = rw add-zero refl
places_start at (Started c u r ∷ events) call url request = ap (λ (l : List ℕ). at ∷ l) (places_start (at + 1) events call url request ∙ ap (λ (n : ℕ). places_from (at + 1) events ++ n ∷ []) (omega arith))
places_start at (Polled o ∷ events) call url request = places_start (at + 1) events call url request ∙ ap (λ (n : ℕ). places_from (at + 1) events ++ n ∷ []) (omega arith)

pub places_poll : (at : ℕ) (events : List LinkEvent) (outcome : _) → places_from at (events ++ Polled outcome ∷ []) ≡ places_from at events
places_poll at [] outcome = refl
places_poll at (Started c u r ∷ events) outcome = ap (λ (l : List ℕ). at ∷ l) (places_poll (at + 1) events outcome)
places_poll at (Polled o ∷ events) outcome = places_poll (at + 1) events outcome

at_seam : (front : List LinkEvent) (e : LinkEvent) (rest : List LinkEvent) → slice_get (front ++ e ∷ rest) (length front) ≡ Some e
at_seam [] e rest = refl
at_seam (x ∷ front) e rest = at_seam front e rest

-- a start is the event at its place
pub at_place : (front events : List LinkEvent) (n : ℕ) → start_number events n ≡ option_and_then (λ place. slice_get (front ++ events) place) (slice_get (places_from (length front) events) n)
at_place front [] n = refl
at_place front (Started c u r ∷ events) zero = sym (at_seam front (Started c u r) events)
at_place front (Started c u r ∷ events) (suc n) = at_place (front ++ Started c u r ∷ []) events n ∙ again front (Started c u r) events n
  where
    again : (front : List LinkEvent) (e : LinkEvent) (events : List LinkEvent) (n : ℕ) → option_and_then (λ place. slice_get ((front ++ e ∷ []) ++ events) place) (slice_get (places_from (length (front ++ e ∷ [])) events) n) ≡ option_and_then (λ place. slice_get (front ++ e ∷ events) place) (slice_get (places_from (length front + 1) events) n)
    again front e events n = rw (length-append, append_assoc) refl
at_place front (Polled o ∷ events) n = at_place (front ++ Polled o ∷ []) events n ∙ again front (Polled o) events n
  where
    again : (front : List LinkEvent) (e : LinkEvent) (events : List LinkEvent) (n : ℕ) → option_and_then (λ place. slice_get ((front ++ e ∷ []) ++ events) place) (slice_get (places_from (length (front ++ e ∷ [])) events) n) ≡ option_and_then (λ place. slice_get (front ++ e ∷ events) place) (slice_get (places_from (length front + 1) events) n)
    again front e events n = rw (length-append, append_assoc) refl

-- a start is one of the events
pub start_among : (events : List LinkEvent) (n : ℕ) (start : LinkEvent) → start_number events n ≡ Some start → Contains events start
start_among [] n start e = absurd cc
start_among (Started c u r ∷ events) zero start e = (0, omega arith, cc)
start_among (Started c u r ∷ events) (suc n) start e = let k = start_among events n start e in (k.0 + 1, omega (arith, k.1), rw add-one k.2)
start_among (Polled o ∷ events) n start e = let k = start_among events n start e in (k.0 + 1, omega (arith, k.1), rw add-one k.2)

pub start_is : (events : List LinkEvent) (n : ℕ) → start_number events n ≡ option_and_then (λ place. slice_get events place) (slice_get (places_from 0 events) n)
start_is events n = at_place [] events n

-- How many outcomes were told, and what stands behind the next.
use Rattle.std.proofs.Common.{◌≡◌, ℕ, ◌+◌, ◌≤◌, List, [], ◌∷◌, ◌++◌, length, Option, Some, None, refl, ap, sym, ◌∙◌, arith}
use Rattle.std.specs.Prelude.{option_and_then, slice_get}
use Rattle.sf_outside.specs.declared.call.LinkEvent.{LinkEvent}
use Rattle.sf_outside.specs.declared.call.LinkEvent.TheVariants.{Started, Polled}
use Rattle.sf_outside.specs.declared.call.Outcome.{Outcome}
use Rattle.sf_outside.specs.Script.{places_from}
use Rattle.sf_outside.proofs.Starts.{start_is, places_start, places_poll}
use Rattle.function_server.specs.Asking.{outcomes_in, next_start}

pub outcomes_start : (events : List LinkEvent) (call : _) (url request : List ℕ) → outcomes_in (events ++ Started call url request ∷ []) ≡ outcomes_in events
outcomes_start [] call url request = refl
outcomes_start (Started c u r ∷ events) call url request = outcomes_start events call url request
outcomes_start (Polled None ∷ events) call url request = outcomes_start events call url request
outcomes_start (Polled (Some o) ∷ events) call url request = ap (λ (n : ℕ). n + 1) (outcomes_start events call url request)

pub outcomes_none : (events : List LinkEvent) → outcomes_in (events ++ Polled None ∷ []) ≡ outcomes_in events
outcomes_none [] = refl
outcomes_none (Started c u r ∷ events) = outcomes_none events
outcomes_none (Polled None ∷ events) = outcomes_none events
outcomes_none (Polled (Some o) ∷ events) = ap (λ (n : ℕ). n + 1) (outcomes_none events)

pub outcomes_some : (events : List LinkEvent) (outcome : Outcome) → outcomes_in (events ++ Polled (Some outcome) ∷ []) ≡ outcomes_in events + 1
outcomes_some [] outcome = refl
outcomes_some (Started c u r ∷ events) outcome = outcomes_some events outcome
outcomes_some (Polled None ∷ events) outcome = outcomes_some events outcome
outcomes_some (Polled (Some o) ∷ events) outcome = ap (λ (n : ℕ). n + 1) (outcomes_some events outcome)

-- each is one of the events
pub outcomes-le : (events : List LinkEvent) → outcomes_in events ≤ length events
outcomes-le [] = omega arith
outcomes-le (Started c u r ∷ events) = let h = outcomes-le events in omega arith
outcomes-le (Polled None ∷ events) = let h = outcomes-le events in omega arith
outcomes-le (Polled (Some o) ∷ events) = let h = outcomes-le events in omega arith

-- ---- the next start by its place

pub next_is : (events : List LinkEvent) (places : List ℕ) (told : ℕ) → places ≡ places_from 0 events → told ≡ outcomes_in events
    → option_and_then (λ place. slice_get events place) (slice_get places told) ≡ next_start events
unfolding next_start
next_is events places told stand count = rw (stand, count) (sym (start_is events (outcomes_in events)))

pub next_read : (events es : List LinkEvent) (places ps : List ℕ) (told : ℕ) (found : Option LinkEvent) → found ≡ option_and_then (λ place. slice_get es place) (slice_get ps told)
    → es ≡ events → ps ≡ places → places ≡ places_from 0 events → told ≡ outcomes_in events → found ≡ next_start events
next_read events es places ps told found is same_events same_places stand count = is ∙ rw (same_events, same_places) (next_is events places told stand count)

pub ruleset start_steps = (places_start, outcomes_start)

pub ruleset nothing_steps = (places_poll, outcomes_none)

pub ruleset outcome_steps = (places_poll, outcomes_some, outcomes-le)

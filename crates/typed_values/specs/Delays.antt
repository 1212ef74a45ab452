-- Delayed letters that wait, in order of put: what is cancelled, and what is due.
use Rattle.std.specs.Prelude.{ℕ, nat_le, Bool, not, ◌&&◌, if◌then◌else◌, List, [], ◌∷◌, filter, Option, Some, None}
use Rattle.typed_values.specs.declared.address.Address.{Address}
use Rattle.typed_values.specs.declared.record.Delay.{Delay}
use Rattle.typed_values.specs.Sameness.{same_bytes, same_address}

-- a cancellation is for all of its sender's with its token
abbrev pub is_meant : Address → List ℕ → Delay → Bool
is_meant sender token delay = same_bytes delay.token token && same_address delay.sender sender

abbrev pub cancelled : Address → List ℕ → List Delay → List Delay
cancelled sender token delays = filter (λ delay. not (is_meant sender token delay)) delays

-- one of the least due, the first among equals, and the others in their order
abbrev pub sooner : Delay → List Delay → Option (Delay × List Delay) → Delay × List Delay
sooner delay behind None = (delay, behind)
sooner delay behind (Some best) = if nat_le delay.due best.0.due then (delay, behind) else (best.0, delay ∷ best.1)

abbrev pub earliest : List Delay → Option (Delay × List Delay)
earliest [] = None
earliest (delay ∷ delays) = Some (sooner delay delays (earliest delays))

-- the one that is due at a moment
abbrev pub if_due : ℕ → Option (Delay × List Delay) → Option (Delay × List Delay)
if_due moment None = None
if_due moment (Some best) = if nat_le best.0.due moment then Some best else None

abbrev pub due_at : ℕ → List Delay → Option (Delay × List Delay)
due_at moment delays = if_due moment (earliest delays)

-- How a command ends that told what it read.
use Rattle.std.proofs.Common.{◌≡◌, ◌⊎◌, inl, inr, ℕ, List, Option}
use Rattle.std.specs.Prelude.{Result, Ok, Err}
use Rattle.sf_outside.specs.declared.fault.Fault.{Fault}
use Rattle.sf_outside.specs.declared.fault.Fault.TheVariants.{Failed, OutOfMemory}
use Rattle.sf_outside.specs.Told.{HasCause, Rose}
use Rattle.statefun_cli.specs.Outside.{IsRead, IsSettled, Outside, Reader, Tells}

-- what was told is how it ended
pub told_end : {E : Type 0} (before after : Option (List ℕ)) (text : List ℕ) (told end : E) (answer : Result E Fault)
    → Tells before after text told answer → answer ≡ Ok end → told ≡ end
told_end before after text told end (Ok other) tells is = let same = tells.0 in cc
told_end before after text told end (Err fault) tells is = absurd cc

-- an end is that of some bytes, or that of a read that failed
abbrev pub EndsBy : {E : Type 0} → Reader E → Outside → Outside → E → Type 0
EndsBy reader before after end =
    ((heard : List ℕ) × (reader.ending heard ≡ end)) ⊎ ((reader.fault_ending ≡ end) × Rose before.read_faults after.read_faults)

settled_end : {E : Type 0} (reader : Reader E) (read : Result (Unit {0}) Fault) (heard : List ℕ) (before after : Outside) (end : E) (answer : Result E Fault)
    → IsSettled reader read heard before after answer → HasCause before.read_faults after.read_faults read → answer ≡ Ok end → EndsBy reader before after end
settled_end reader (Ok x) heard before after end answer settled cause is = inl (heard, told_end _ _ _ _ end answer settled.1 is)
settled_end reader (Err Failed) heard before after end answer settled cause is = inr (told_end _ _ _ _ end answer settled is, cause.1)
settled_end reader (Err OutOfMemory) heard before after end answer settled cause is = let memory = settled.0 in absurd cc

pub read_end : {E : Type 0} (reader : Reader E) (before after : Outside) (end : E) (answer : Result E Fault)
    → IsRead reader before after answer → answer ≡ Ok end → EndsBy reader before after end
read_end reader before after end answer is_read is = settled_end reader is_read.read is_read.heard before after end answer is_read.settled is_read.read_cause is

-- What the readers of this crate answer.
use Rattle.std.specs.Prelude.{◌≡◌, Option, Some, Result, Ok, Err}
use Rattle.module_yaml.specs.declared.fault.Refusal.{Refusal}
use Rattle.module_yaml.specs.declared.fault.Fault.{Fault}
use Rattle.module_yaml.specs.declared.fault.Fault.TheVariants as fault

-- a fault is this refusal; want of memory is none
abbrev pub IsTold : Option Refusal → Fault → Type 0
IsTold refusal (fault.Refused told) = refusal ≡ Some told
IsTold refusal fault.OutOfMemory = Unit {0}

-- a value or a refusal was read
abbrev pub Reads : {A : Type 0} → Result A Refusal → Result A Fault → Type 0
Reads meaning (Ok value) = meaning ≡ Ok value
Reads meaning (Err (fault.Refused told)) = meaning ≡ Err told
Reads meaning (Err fault.OutOfMemory) = Unit {0}

-- Why a log has no answer.
use Rattle.std.specs.Prelude.{◌≡◌, ℕ, ◌≤◌, List, Result, Ok, Err, None}
use Rattle.sf_outside.specs.Told.{Rose}
use Rattle.sf_outside.specs.declared.fault.Fault.{Fault}
use Rattle.sf_outside.specs.declared.fault.Fault.TheVariants.{Failed, OutOfMemory}
use Rattle.sf_disk.specs.Moments.{Moment, WhereTold, newest}
use Rattle.block_log.specs.Blocks.{IsNoLog}
use Rattle.block_log.specs.declared.fault.LogFault.{LogFault}
use Rattle.block_log.specs.declared.fault.LogFault.TheVariants.{DiskFault, OutOfMemory as WantsMemory, NotALog}

abbrev pub of_fault : Fault → LogFault
of_fault Failed = DiskFault
of_fault OutOfMemory = WantsMemory

-- DiskFault comes only where the disk's count rose; with any other answer it stands
abbrev pub HasLogCause : {T : Type 0} → ℕ → ℕ → Result T LogFault → Type 0
HasLogCause before now (Err DiskFault) = (before ≤ now) × Rose before now
HasLogCause before now (Err WantsMemory) = now ≡ before
HasLogCause before now (Err (NotALog place)) = now ≡ before
HasLogCause before now (Ok x) = now ≡ before

-- NotALog comes only where the file as it read is no log, by that place
abbrev pub Refuses : LogFault → List Moment → ℕ → Type 0
Refuses DiskFault moments file = Unit {0}
Refuses WantsMemory moments file = Unit {0}
Refuses (NotALog place) moments file = WhereTold moments (λ now. IsNoLog (now file).seen place)

-- NotALog does not come
abbrev pub IsNoRefusal : LogFault → Type 0
IsNoRefusal DiskFault = Unit {0}
IsNoRefusal WantsMemory = Unit {0}
IsNoRefusal (NotALog place) = ⊥

-- NotALog comes only from a disk that does not tell
abbrev pub RefusesUntold : LogFault → List Moment → Type 0
RefusesUntold DiskFault moments = Unit {0}
RefusesUntold WantsMemory moments = Unit {0}
RefusesUntold (NotALog place) moments = newest moments ≡ None

-- When a folder of checkpoints has no answer.
use Rattle.std.specs.Prelude.{◌≡◌, ℕ, ◌≤◌, List, Result, Ok, Err, None}
use Rattle.sf_outside.specs.Told.{Rose}
use Rattle.sf_disk.specs.Moments.{Moment, newest}
use Rattle.block_log.specs.declared.fault.LogFault.{LogFault}
use Rattle.block_log.specs.declared.fault.LogFault.TheVariants as logs
use Rattle.store_faults.specs.declared.fault.StoreFault.{StoreFault}
use Rattle.store_faults.specs.declared.fault.StoreFault.TheVariants.{DiskFault, NotAStore, StoreOfOther, OutOfMemory}

-- a log's fault in a folder, by the number of its file
abbrev pub fault_in : ℕ → LogFault → StoreFault
fault_in file logs.DiskFault = DiskFault
fault_in file (logs.NotALog place) = NotAStore file place
fault_in file logs.OutOfMemory = OutOfMemory

-- DiskFault comes only where the disk's count rose; with any other answer it stands
abbrev pub HasStoreCause : {T : Type 0} → ℕ → ℕ → Result T StoreFault → Type 0
HasStoreCause before now (Err DiskFault) = (before ≤ now) × Rose before now
HasStoreCause before now (Err (NotAStore file place)) = now ≡ before
HasStoreCause before now (Err (StoreOfOther kept given)) = now ≡ before
HasStoreCause before now (Err OutOfMemory) = now ≡ before
HasStoreCause before now (Ok x) = now ≡ before

-- Which refusal may come, by file and place; StoreOfOther does not.
abbrev pub RefusesBy : (ℕ → ℕ → Type 0) → StoreFault → Type 0
RefusesBy P DiskFault = Unit {0}
RefusesBy P (NotAStore file place) = P file place
RefusesBy P (StoreOfOther kept given) = ⊥
RefusesBy P OutOfMemory = Unit {0}

-- no refusal comes: the disk failed, or memory ran out
abbrev pub IsNoRefusal : StoreFault → Type 0
IsNoRefusal = RefusesBy (λ file place. ⊥)

-- a refusal is of this file, and comes only from a disk that does not tell
abbrev pub RefusesUntold : ℕ → List Moment → StoreFault → Type 0
RefusesUntold file moments = RefusesBy (λ named place. (named ≡ file) × (newest moments ≡ None))

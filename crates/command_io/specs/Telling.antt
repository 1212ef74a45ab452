-- How the end of a command is told.
use Rattle.std.specs.Prelude.{◌≡◌, ◌≤◌, ℕ, List, [], ◌∷◌, ◌++◌, codes, length, take, Option, Result, Ok, Err}
use Rattle.std.specs.Fmt.{decimal}
use Rattle.sf_outside.specs.declared.fault.Fault.{Fault}
use Rattle.sf_outside.specs.declared.fault.Fault.TheVariants.{Failed, OutOfMemory}
use Rattle.sf_outside.specs.Told.{HasCause, more}

-- what a sink holds, where it tells it, and how often it failed
pub record Output : Type 0 where
  pub written : Option (List ℕ)
  pub faults : ℕ

abbrev pub output : Option (List ℕ) → ℕ → Output
output written faults = record { written = written; faults = faults }

-- a text was written whole, or a part of it, from the front
abbrev pub Writes : Option (List ℕ) → Option (List ℕ) → List ℕ → Result (Unit {0}) Fault → Type 0
Writes before after text (Ok x) = after ≡ more before text
Writes before after text (Err fault) = (k : ℕ) × (k ≤ length text) × (after ≡ more before (take k text))

-- the status of an end whose text was written so
abbrev pub status_by : ℕ → Result (Unit {0}) Fault → ℕ
status_by status (Ok x) = status
status_by status (Err Failed) = 11
status_by status (Err OutOfMemory) = 15

-- An end with this text and status was told. Where the sink failed the status is 11, and where memory ran out 15; a part of the text
-- was written then.
pub record IsTold (before after : Output) (text : List ℕ) (told status : ℕ) : Type 0 where
  pub wrote : Result (Unit {0}) Fault
  pub cause : HasCause before.faults after.faults wrote
  pub written : Writes before.written after.written text wrote
  pub status_is : status ≡ status_by told wrote

-- ---- lines that several commands write

abbrev pub usage_line : List ℕ
usage_line = codes "usage" ++ 10 ∷ []

abbrev pub disk_fault_line : List ℕ
disk_fault_line = codes "disk fault" ++ 10 ∷ []

abbrev pub not_a_store_line : ℕ → ℕ → List ℕ
not_a_store_line file place = codes "not a store file " ++ (decimal file ++ (codes " place " ++ (decimal place ++ 10 ∷ [])))

-- What stands outside of a command that reads a source and writes to a sink, and what becomes of it.
use Rattle.std.specs.Prelude.{◌≡◌, ◌≤◌, ◌+◌, ℕ, List, [], ◌∷◌, ◌++◌, codes, length, take, Option, Result, Ok, Err}
use Rattle.sf_outside.specs.declared.fault.Fault.{Fault}
use Rattle.sf_outside.specs.declared.fault.Fault.TheVariants.{Failed, OutOfMemory}
use Rattle.sf_outside.specs.Told.{HasCause, more}
use Rattle.sf_outside.specs.Left.{AtEnd, ahead}

-- what a source has left and a sink holds, where they tell it, and how often each failed
pub record Outside : Type 0 where
  pub left : Option (List ℕ)
  pub read_faults : ℕ
  pub written : Option (List ℕ)
  pub write_faults : ℕ

abbrev pub outside : Option (List ℕ) → ℕ → Option (List ℕ) → ℕ → Outside
outside left read_faults written write_faults = record {
  left = left;
  read_faults = read_faults;
  written = written;
  write_faults = write_faults;
}

-- nothing was read
abbrev pub IsUnread : Outside → Outside → Type 0
IsUnread before after = (after.left ≡ before.left) × (after.read_faults ≡ before.read_faults)

-- the line of wrong words
abbrev pub usage_line : List ℕ
usage_line = codes "usage" ++ 10 ∷ []

-- An end was told: its text was written whole. Where the sink failed or memory ran out, a part of it was, from the front.
abbrev pub Tells : {E : Type 0} → Option (List ℕ) → Option (List ℕ) → List ℕ → E → Result E Fault → Type 0
Tells before after text told (Ok end) = (end ≡ told) × (after ≡ more before text)
Tells before after text told (Err fault) = (k : ℕ) × (k ≤ length text) × (after ≡ more before (take k text))

-- ---- reading a source to its end

-- What a command makes of a source of at most so many bytes: what it writes of them, and how it ends then; and the same
-- where a read fails.
pub record Reader (E : Type 0) : Type 0 where
  pub limit : ℕ
  pub text : List ℕ → List ℕ
  pub ending : List ℕ → E
  pub fault_text : List ℕ
  pub fault_ending : E

-- bytes up to the limit are all that there were
abbrev pub IsWhole : ℕ → List ℕ → Option (List ℕ) → Type 0
IsWhole limit heard left = length heard ≤ limit → AtEnd left

-- What becomes of the bytes that were heard, by how the reading ended: they are all, or too many, and their text is told; a
-- read failed, which is told; or memory ran out.
abbrev pub IsSettled : {E : Type 0} → Reader E → Result (Unit {0}) Fault → List ℕ → Outside → Outside → Result E Fault → Type 0
IsSettled reader (Ok x) heard before after end =
    IsWhole reader.limit heard after.left × Tells before.written after.written (reader.text heard) (reader.ending heard) end
IsSettled reader (Err Failed) heard before after end = Tells before.written after.written reader.fault_text reader.fault_ending end
IsSettled reader (Err OutOfMemory) heard before after end = (end ≡ Err OutOfMemory) × (after.written ≡ before.written)

-- A source was read, up to one byte past the limit, and what became of it. The source failed exactly where its reading ended
-- so.
pub record IsRead {E : Type 0} (reader : Reader E) (before after : Outside) (end : Result E Fault) : Type 0 where
  pub heard : List ℕ
  pub taken : before.left ≡ ahead heard after.left
  pub bound : length heard ≤ reader.limit + 1
  pub read : Result (Unit {0}) Fault
  pub read_cause : HasCause before.read_faults after.read_faults read
  pub settled : IsSettled reader read heard before after end

-- What a read of an ingress over a folder finds.
use Rattle.std.specs.Prelude.{ℕ, ◌-◌, ◌^◌, ◌<◌, ◌≤◌, List, Option, Some, None}
use Rattle.sf_outside.specs.declared.ingress.IngressRecord.{IngressRecord}
use Rattle.sf_outside.specs.declared.split_log.SplitLog.{SplitLog}
use Rattle.sf_outside.specs.Log.{known, FindsRecord}

-- a read of a split whose log is open, with known bytes, finds the record there, from the next one on
abbrev pub FindsIn : {F : Type 0} → (F → Option (List ℕ)) → Option (SplitLog F) → ℕ → Option IngressRecord → Type 0
FindsIn left None offset found = Unit {0}
FindsIn left (Some log) offset found = offset < 2 ^ 63 → log.next ≤ offset → FindsRecord (known log.unread (left log.file)) (offset - log.next) found

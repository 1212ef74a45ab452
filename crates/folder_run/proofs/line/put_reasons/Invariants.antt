use Rattle.std.proofs.Common.{◌≡◌, ◌++◌, take}
use Rattle.folder_run.specs.Ends.{reasons_text}
use Rattle.folder_run.proofs.line.put_reasons.Given as goal

-- the reasons so far are added
abbrev pub invariant-loop-reason : goal.invariant-loop-reason
invariant-loop-reason l = l.into ≡ l.initial.into ++ reasons_text (take l.reason-index l.reasons)

use Rattle.std.proofs.Common.{◌≡◌, ◌++◌, take}
use Rattle.std.specs.List.{flat_map}
use Rattle.folder_commands.specs.Shown.{show_line}
use Rattle.folder_commands.proofs.show_text.put_epoch.Given as goal

-- the lines of the records so far
abbrev pub invariant-loop-record : goal.invariant-loop-record
invariant-loop-record l = l.into ≡ l.initial.into ++ flat_map (show_line l.number) (take l.record-index l.records)

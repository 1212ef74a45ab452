use Rattle.std.proofs.Common.{◌≡◌, map, take}
use Rattle.folder_form.specs.Folders.{count_of}
use Rattle.snapshot_files.proofs.store.Store.complete_of.Given as goal

-- the counts so far
abbrev pub invariant-loop-count : goal.invariant-loop-count
invariant-loop-count l = map count_of l.taken ≡ take l.count-index l.count-items

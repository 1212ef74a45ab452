use Rattle.std.proofs.Common.{◌≡◌, map, take}
use Rattle.folder_form.specs.Folders.{count_of}
use Rattle.snapshot_files.proofs.loading.counts.Given as goal

-- the counts so far
abbrev pub invariant-loop-split : goal.invariant-loop-split
invariant-loop-split l = l.counts ≡ map count_of (take l.split-index l.taken)

use Rattle.std.proofs.Common.{◌≡◌, ℕ, take}
use Rattle.sf_disk.specs.Memory.{ReadsAs, file_of, now_of}
use Rattle.sf_disk.proofs.Kept.{unkept}
use Rattle.sf_disk.proofs.image.image_of.Given as goal

-- the files and the image are as the changes so far make them
abbrev pub invariant-loop-change : goal.invariant-loop-change
invariant-loop-change l = record {
  reads : ReadsAs l.first (take l.change-index l.changes) l.seen.items;
  image : (file : ℕ) → file_of l.image.items file ≡ unkept l.pick (now_of l.first (take l.change-index l.changes) file);
}

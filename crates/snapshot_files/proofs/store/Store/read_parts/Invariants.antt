use Rattle.std.proofs.Common.{◌≡◌, List, length, take}
use Rattle.sf_disk.specs.Moments.{WhereTold}
use Rattle.folder_form.specs.Folders.{Files, Part, feedback_of, pieces_of}
use Rattle.snapshot_files.specs.Reading.{AreOwned, AreSorted, HasPartsAt}
use Rattle.snapshot_files.proofs.store.Store.read_parts.Given as goal

-- the parts so far were read, and nothing but reads
abbrev pub invariant-loop-place : goal.invariant-loop-place
invariant-loop-place g l = record {
  partition : l.partition ≡ l.place-index;
  same : g.D.Disk.moments l.disk ≡ g.D.Disk.moments l.fn.disk;
  faults : g.D.Disk.faults l.disk ≡ g.D.Disk.faults l.fn.disk;
  pieces : WhereTold (g.D.Disk.moments l.fn.disk) (λ now. (files : Files) (parts : List Part) → HasPartsAt l.self l.moment l.places now files parts → l.pieces ≡ pieces_of (take l.place-index parts));
  feedback : WhereTold (g.D.Disk.moments l.fn.disk) (λ now. (files : Files) (parts : List Part) → HasPartsAt l.self l.moment l.places now files parts → l.feedback ≡ feedback_of (take l.place-index parts));
  owned : AreOwned l.self.shape l.moment 0 l.pieces;
  sorted : AreSorted l.self.shape 0 l.feedback;
  pieces_len : length l.pieces ≡ l.place-index;
  lists_len : length l.feedback ≡ l.place-index;
}

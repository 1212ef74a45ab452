use Rattle.std.proofs.Common.{◌≡◌, List, take}
use Rattle.std.specs.List.{flat_map}
use Rattle.sf_disk.specs.Moments.{WhereTold}
use Rattle.folder_form.specs.Folders.{Files, Part, egress_of, pieces_of}
use Rattle.snapshot_files.specs.Reading.{HasPartsAt}
use Rattle.snapshot_files.proofs.store.Store.egress_at.Given as goal

-- what the pieces so far gave, and nothing but reads
abbrev pub invariant-loop-place : goal.invariant-loop-place
invariant-loop-place g l = record {
  partition : l.partition ≡ l.place-index;
  same : g.D.Disk.moments l.disk ≡ g.D.Disk.moments l.fn.disk;
  faults : g.D.Disk.faults l.disk ≡ g.D.Disk.faults l.fn.disk;
  given : WhereTold (g.D.Disk.moments l.fn.disk) (λ now. (files : Files) (parts : List Part) → HasPartsAt l.self l.moment l.places now files parts → l.given.items ≡ flat_map egress_of (pieces_of (take l.place-index parts)));
}

use Rattle.std.proofs.Common.{◌≡◌, ◌++◌, List, map, take}
use Rattle.sf_disk.specs.Moments.{WhereTold}
use Rattle.folder_form.specs.Folders.{Files, Part, entries_of, pieces_of}
use Rattle.snapshot_files.specs.Reading.{HasPartsAt}
use Rattle.snapshot_files.proofs.store.Store.add_entries.Given as goal

-- the entries of the pieces so far were added, and nothing but reads
abbrev pub invariant-loop-place : goal.invariant-loop-place
invariant-loop-place g l = record {
  partition : l.partition ≡ l.place-index;
  same : g.D.Disk.moments l.disk ≡ g.D.Disk.moments l.fn.disk;
  faults : g.D.Disk.faults l.disk ≡ g.D.Disk.faults l.fn.disk;
  added : WhereTold (g.D.Disk.moments l.fn.disk) (λ now. (files : Files) (parts : List Part) → HasPartsAt l.self l.moment l.places now files parts → l.lists ≡ l.fn.lists ++ map entries_of (pieces_of (take l.place-index parts)));
}

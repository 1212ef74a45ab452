use Rattle.std.proofs.Common.{◌≡◌, List, Ok, take}
use Rattle.sf_disk.specs.Moments.{WhereTold}
use Rattle.folder_form.specs.Folders.{Files, Part, parts_from}
use Rattle.snapshot_files.specs.Stores.{AreOpen}
use Rattle.snapshot_files.proofs.store.Store.check_parts.Given as goal

-- the parts so far may stand there, and nothing but reads
abbrev pub invariant-loop-place : goal.invariant-loop-place
invariant-loop-place g l = record {
  partition : l.partition ≡ l.place-index;
  same : g.D.Disk.moments l.disk ≡ g.D.Disk.moments l.fn.disk;
  faults : g.D.Disk.faults l.disk ≡ g.D.Disk.faults l.fn.disk;
  read : WhereTold (g.D.Disk.moments l.fn.disk) (λ now. (files : Files) → AreOpen files now 2 l.self.logs.items → (parts : List Part) × (parts_from l.self.shape.partitions 0 files l.complete.moment (take l.place-index l.complete.places) ≡ Ok parts));
}

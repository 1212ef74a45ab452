use Rattle.std.proofs.Common.{◌≡◌, Some, IsFalse}
use Rattle.folder_form.specs.Shapes.{shape_in}
use Rattle.snapshot_files.proofs.WholeManifest.{AllUpTo, AreEmpty}
use Rattle.snapshot_files.proofs.store.Store.read.Given as goal

-- the blocks up to a number were read
abbrev pub invariant-loop-number : goal.invariant-loop-number
invariant-loop-number g l = record {
  manifest : l.store.manifest ≡ l.fn.logs.manifest;
  logs : l.store.logs ≡ l.fn.logs.pieces;
  text : l.store.text ≡ l.fn.text;
  shape : shape_in l.fn.text ≡ Some l.store.shape;
  spent : IsFalse l.store.spent;
  empty : AreEmpty l.store.slots.items;
  same : g.D.Disk.moments l.disk ≡ g.D.Disk.moments l.fn.disk;
  faults : g.D.Disk.faults l.disk ≡ g.D.Disk.faults l.fn.disk;
  read : AllUpTo l.fn.logs.manifest l.fn.logs.pieces.items l.fn.text l.number l.store (g.D.Disk.moments l.fn.disk);
}

use Rattle.std.proofs.Common.{◌≡◌, length}
use Rattle.snapshot_files.specs.Logs.{AreFiles, AreUsable}
use Rattle.snapshot_files.proofs.AllOpened.{SoFar}
use Rattle.snapshot_files.proofs.logs.open_logs.Given as goal

-- the manifest and the files of so many partitions were opened
abbrev pub invariant-loop-partition : goal.invariant-loop-partition
invariant-loop-partition g l = record {
  size : length l.pieces.items ≡ l.partition;
  faults : g.D.Disk.faults l.disk ≡ g.D.Disk.faults l.fn.disk;
  numbers : AreFiles 2 l.pieces.items;
  usable : AreUsable l.pieces.items;
  so_far : SoFar (g.D.Disk.moments l.fn.disk) (g.D.Disk.moments l.disk) l.partition l.manifest l.pieces.items;
}

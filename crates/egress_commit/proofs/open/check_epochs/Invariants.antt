use Rattle.std.proofs.Common.{◌≡◌, List, Some, take}
use Rattle.sf_disk.specs.Moments.{WhereTold}
use Rattle.block_log.specs.Blocks.{Body}
use Rattle.block_log.specs.Logs.{IsOpen}
use Rattle.egress_commit.specs.Epochs.{Epoch, epochs_from}
use Rattle.egress_commit.proofs.open.check_epochs.Given as goal

-- the blocks so far spell their epochs, and nothing but reads
abbrev pub invariant-loop-position : goal.invariant-loop-position
invariant-loop-position g l = record {
  number : l.number ≡ l.position-index;
  same : g.D.Disk.moments l.disk ≡ g.D.Disk.moments l.fn.disk;
  faults : g.D.Disk.faults l.disk ≡ g.D.Disk.faults l.fn.disk;
  spelled : WhereTold (g.D.Disk.moments l.fn.disk) (λ now. (bodies : List Body) → IsOpen l.log bodies (now 1) → (epochs : List Epoch) × (epochs_from 1 (take l.position-index bodies) ≡ Some epochs));
}

use Rattle.std.proofs.Common.{◌≡◌, ◌-◌, ◌<◌}
use Rattle.sf_disk.specs.Moments.{WhereTold}
use Rattle.block_log.proofs.Walk.{Walked}
use Rattle.block_log.proofs.find.find_blocks.Given as goal

-- whole blocks so far, and nothing but reads
abbrev pub invariant-loop-blocks : goal.invariant-loop-blocks
invariant-loop-blocks g l = record {
  within : l.at < l.len;
  same : g.D.Disk.moments l.disk ≡ g.D.Disk.moments l.fn.disk;
  faults : g.D.Disk.faults l.disk ≡ g.D.Disk.faults l.fn.disk;
  walked : WhereTold (g.D.Disk.moments l.fn.disk) (λ now. Walked (now l.file).seen l.at l.blocks);
}

abbrev pub decreases-loop-blocks : goal.decreases-loop-blocks
decreases-loop-blocks g l = l.len - l.at

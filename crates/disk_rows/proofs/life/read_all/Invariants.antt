use Rattle.std.proofs.Common.{◌≡◌}
use Rattle.disk_rows.proofs.life.read_all.Given as goal

-- nothing was changed
abbrev pub invariant-loop-place : goal.invariant-loop-place
invariant-loop-place g l = g.D.Disk.moments l.disk ≡ g.D.Disk.moments l.fn.disk

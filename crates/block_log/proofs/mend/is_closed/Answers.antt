use Rattle.std.proofs.Common.{arith}
use Rattle.block_log.proofs.Gates.{closed_first, is_zero}
use Rattle.block_log.proofs.mend.is_closed.Goals as goal

pub returns-clause-closed : goal.returns-clause-closed
returns-clause-closed g c = λ shut m told. closed_first (m c.args.file).seen c.read.new.into (omega (arith, c.if-len-eq0.false, (c.requires m told).len_is)) (c.in_ok-read.ensures.read m told) (is_zero _ shut)

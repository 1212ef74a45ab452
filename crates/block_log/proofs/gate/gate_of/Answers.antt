use Rattle.std.proofs.Common.{arith}
use Rattle.block_log.proofs.Gates.{block_there}
use Rattle.block_log.proofs.gate.gate_of.Goals as goal

pub returns-clause-begins : goal.returns-clause-begins
returns-clause-begins c = λ rest size. block_there c.args.head.gate c.args.head.len c.args.left rest c.if-head-eq-CLOSED.false (omega arith) (omega (arith, c.if-head-left.false, c.requires)) size

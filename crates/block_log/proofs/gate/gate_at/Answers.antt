use Rattle.std.proofs.Common.{sym, subst, arith, drop}
use Rattle.block_log.specs.Finding.{Begins}
use Rattle.block_log.proofs.Gates.{closed_first, cut_first, left_behind, head_there, behind_head}
use Rattle.block_log.proofs.gate.gate_at.Goals as goal

pub returns-then-gate-eq-CLOSED-clause-begins : goal.returns-then-gate-eq-CLOSED-clause-begins
returns-then-gate-eq-CLOSED-clause-begins g c = λ m told.
    let size = left_behind c.args.at c.args.left (m c.args.file).seen (c.requires.told m told) in
    closed_first (drop c.args.at (m c.args.file).seen) c.read.new.into (omega (arith, size, c.requires.some)) (c.in_ok-read.ensures.read m told) c.if-gate-eq-CLOSED.true

pub returns-else-gate-eq-CLOSED-clause-begins : goal.returns-else-gate-eq-CLOSED-clause-begins
returns-else-gate-eq-CLOSED-clause-begins g c = λ m told.
    let size = left_behind c.args.at c.args.left (m c.args.file).seen (c.requires.told m told) in
    cut_first (drop c.args.at (m c.args.file).seen) c.read.new.into (omega (arith, size, c.requires.some)) (omega (arith, size, c.if-left-lt-SHORTEST.true)) (c.in_ok-read.ensures.read m told) c.if-gate-eq-CLOSED.false

pub returns-clause-begins : goal.returns-clause-begins
returns-clause-begins g c = λ m told.
    let rest = drop c.args.at (m c.args.file).seen in
    let size = left_behind c.args.at c.args.left (m c.args.file).seen (c.requires.told m told) in
    subst (Begins c.gate_of.result) (sym (head_there c.read-2.new.into rest c.head_in.result.gate c.head_in.result.len (c.in_ok-read-2.ensures.read m told) c.head_in.ensures)) (c.gate_of.ensures.begins (drop 9 rest) (behind_head rest c.args.left size (omega (arith, c.if-left-lt-SHORTEST.false))))

use Rattle.std.proofs.Common.{rules, tests, arith, sym}
use Rattle.std.proofs.lemmas.List.Sums.{position_or_len_is}
use Rattle.folder_commands.specs.Lines.{is_feed}
use Rattle.folder_commands.proofs.append_lines.line_len.Goals as goal

pub returns-else-bytes-len-ne10-clause-len : goal.returns-else-bytes-len-ne10-clause-len
returns-else-bytes-len-ne10-clause-len c = sym (position_or_len_is is_feed c.args.bytes.now c.loop-len.len 0 c.loop-len.invariant.within c.loop-len.invariant.none (λ less. search (rules, tests)))

pub returns-after-loop-len-clause-len : goal.returns-after-loop-len-clause-len
returns-after-loop-len-clause-len c =
    sym (position_or_len_is is_feed c.args.bytes.now c.loop-len.len 0 c.loop-len.invariant.within c.loop-len.invariant.none (λ less. absurd (omega (arith, less, c.loop-len-test.false))))

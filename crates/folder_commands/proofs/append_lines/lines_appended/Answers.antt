use Rattle.std.proofs.Common.{◌≡◌, ℕ, ◌+◌, Bool, true, false, List, length, drop, sym, ◌∙◌, ap, subst, arith, rules, tests}
use Rattle.std.specs.List.{after_first, position_or_len}
use Rattle.folder_commands.specs.Lines.{GoesOn, is_feed, lines_of, parts_of}
use Rattle.folder_commands.proofs.LineSteps.{goes_first, last_only, left_behind, one_more, starts, stops}
use Rattle.folder_commands.proofs.append_lines.lines_appended.Goals as goal

pub returns-then-not-branch-clause-read : goal.returns-then-not-branch-clause-read
returns-then-not-branch-clause-read c =
    let i = c.loop-len.invariant in
    let next = goes_first c.args.whole c.args.text.now c.loop-len.log c.loop-len.rest.now c.split_at.result.0.now c.loop-len.records c.loop-len.len i.so_far i.len_is c.loop-len-test.true c.split_at.ensures.front in
    stops c.args.whole c.args.text.now c.loop-len.log c.put_line.new.log c.split_at.result.0.now c.loop-len.records _ next c.in_ok-put_line.ensures.made (sym c.in_ok-put_line.ensures.is_made ∙ search (rules, tests))

pub loop-len-preserved : goal.loop-len-preserved
loop-len-preserved c =
    let i = c.loop-len.invariant in
    let next = goes_first c.args.whole c.args.text.now c.loop-len.log c.loop-len.rest.now c.split_at.result.0.now c.loop-len.records c.loop-len.len i.so_far i.len_is c.loop-len-test.true c.split_at.ensures.front in
    let more = one_more c.args.whole c.args.text.now c.loop-len.log c.put_line.new.log c.split_at.result.0.now c.loop-len.records _ next c.in_ok-put_line.ensures.made (sym c.in_ok-put_line.ensures.is_made ∙ search (rules, tests)) in
    record {
      so_far = subst (λ (l : List ℕ). GoesOn c.args.whole c.args.text.now c.put_line.new.log (c.loop-len.records + 1) (lines_of c.args.whole (parts_of l)))
          (left_behind c.loop-len.rest.now c.split_at.result.1.now c.split_at-in-loop-len.result.1.now c.loop-len.len i.len_is c.split_at.ensures.back c.split_at-in-loop-len.ensures.back) more;
      len_is = c.line_len-len-in-loop-len.ensures.len;
      bound = omega (arith, i.bound, c.split_at.ensures.back_len, c.split_at-in-loop-len.ensures.back_len, c.loop-len-test.true);
    }

pub returns-clause-read : goal.returns-clause-read
returns-clause-read c =
    let i = c.loop-len.invariant in
    let last = last_only c.args.whole c.loop-len.rest.now (omega (arith, c.loop-len-test.false, i.len_is)) in
    c.last_appended.ensures.read c.args.text.now (subst (GoesOn c.args.whole c.args.text.now c.loop-len.log c.loop-len.records) last i.so_far)

use Rattle.std.proofs.Common.{arith, ◌∙◌}
use Rattle.command_io.proofs.Written.{written-more}
use Rattle.command_io.proofs.output.write_whole.Goals as goal

pub loop-done-preserved : goal.loop-done-preserved
loop-done-preserved g c = record {
  within = omega (arith, c.split_at.ensures.back_len, c.in_ok-n.ensures.bound);
  written = written-more _ _ _ c.args.bytes.now _ c.loop-done.done c.in_ok-n.n c.loop-done.invariant.written c.split_at.ensures.back c.in_ok-n.ensures.written;
  faults = c.in_ok-n.ensures.cause ∙ c.loop-done.invariant.faults;
}

use Rattle.std.proofs.Common.{◌∙◌, arith}
use Rattle.command_io.proofs.Heard.{heard_more}
use Rattle.command_io.proofs.input.read_up_to.Goals as goal

pub loop-count-preserved : goal.loop-count-preserved
loop-count-preserved g c = record {
  within = omega (arith, c.in_ok-read.ensures.bound);
  most = omega (arith, c.read_behind.ensures.len, c.make_room.ensures.most);
  taken = heard_more _ _ _ c.loop-count.room.items c.make_room.new.room.items c.read_behind.new.room.items c.loop-count.count c.in_ok-read.read
      c.loop-count.invariant.taken c.make_room.ensures.kept c.read_behind.ensures.kept c.in_ok-read.ensures.read;
  faults = c.in_ok-read.ensures.cause ∙ c.loop-count.invariant.faults;
}

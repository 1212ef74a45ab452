use Rattle.std.proofs.Common.{◌≡◌, ◌≤◌, ◌+◌, ◌-◌, length, take}
use Rattle.sf_outside.specs.Left.{ahead}
use Rattle.command_io.proofs.input.read_up_to.Given as goal

-- the bytes so far were read, and nothing failed
abbrev pub invariant-loop-count : goal.invariant-loop-count
invariant-loop-count g l = record {
  within : l.count ≤ length l.room.items;
  most : length l.room.items ≤ l.most + 1;
  taken : g.S.Source.left l.initial.input ≡ ahead (take l.count l.room.items) (g.S.Source.left l.input);
  faults : g.S.Source.faults l.input ≡ g.S.Source.faults l.initial.input;
}

abbrev pub decreases-loop-count : goal.decreases-loop-count
decreases-loop-count g l = l.most + 1 - l.count

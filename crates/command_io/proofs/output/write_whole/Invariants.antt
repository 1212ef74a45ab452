use Rattle.std.proofs.Common.{◌≡◌, ◌≤◌, ◌-◌, length, take}
use Rattle.sf_outside.specs.Told.{more}
use Rattle.command_io.proofs.output.write_whole.Given as goal

-- the bytes so far are written, and nothing failed
abbrev pub invariant-loop-done : goal.invariant-loop-done
invariant-loop-done g l = record {
  within : l.done ≤ length l.bytes;
  written : g.O.Sink.written l.out ≡ more (g.O.Sink.written l.initial.out) (take l.done l.bytes);
  faults : g.O.Sink.faults l.out ≡ g.O.Sink.faults l.initial.out;
}

abbrev pub decreases-loop-done : goal.decreases-loop-done
decreases-loop-done g l = length l.bytes - l.done

use Rattle.std.proofs.Common.{◌≡◌, take}
use Rattle.sf_outside.specs.Splits.{Grows}
use Rattle.run_record.specs.StateOf.{state_of}
use Rattle.run_record.proofs.Known.{Known}
use Rattle.run_record.proofs.replaying.replay.Given as goal

abbrev pub invariant-loop-place : goal.invariant-loop-place
invariant-loop-place g l = record {
  known : Known (g.I.Ingress.lists l.ingress) l.fn.routes (take l.place l.fn.entries) (state_of l.machine);
  grows : Grows (g.I.Ingress.lists l.fn.ingress) (g.I.Ingress.lists l.ingress);
  counts : g.I.Ingress.faults l.ingress ≡ g.I.Ingress.faults l.fn.ingress;
}

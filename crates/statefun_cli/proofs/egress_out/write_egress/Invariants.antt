use Rattle.std.proofs.Common.{◌≡◌}
use Rattle.statefun_cli.proofs.Egress.{Sent}
use Rattle.statefun_cli.proofs.egress_out.write_egress.Given as goal

-- of the text of the entries so far a front is written, the rest is gathered, and nothing failed
abbrev pub invariant-loop-entry : goal.invariant-loop-entry
invariant-loop-entry g l = record {
  sent : Sent (g.O.Sink.written l.initial.out) (g.O.Sink.written l.out) l.text l.entries l.entry-index;
  faults : g.O.Sink.faults l.out ≡ g.O.Sink.faults l.initial.out;
}

use Rattle.std.proofs.Common.{◌≡◌, ◌-◌, length}
use Rattle.sf_outside.specs.Left.{ahead}
use Rattle.endpoint_http.proofs.body.take_line_end.Given as goal

-- the bytes to come stand, and no fault was counted
abbrev pub invariant-loop-held : goal.invariant-loop-held
invariant-loop-held g l = record {
  known : ahead l.held (g.S.Source.left l.source) ≡ ahead l.initial.held (g.S.Source.left l.initial.source);
  faults : g.S.Source.faults l.source ≡ g.S.Source.faults l.initial.source;
}

abbrev pub decreases-loop-held : goal.decreases-loop-held
decreases-loop-held g l = 16384 - length l.held

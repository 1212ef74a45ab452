use Rattle.std.proofs.Common.{◌≡◌, length, ◌-◌}
use Rattle.sf_outside.specs.Left.{ahead}
use Rattle.endpoint_http.proofs.reading.read_part.Given as goal

-- the bytes to come stand, and no fault was counted
abbrev pub invariant-loop-found : goal.invariant-loop-found
invariant-loop-found g l = record {
  known : ahead l.held (g.S.Source.left l.source) ≡ ahead l.initial.held (g.S.Source.left l.initial.source);
  faults : g.S.Source.faults l.source ≡ g.S.Source.faults l.initial.source;
  room : length l.headers ≡ 64;
}

abbrev pub decreases-loop-found : goal.decreases-loop-found
decreases-loop-found g l = 16384 - length l.held

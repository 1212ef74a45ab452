use Rattle.std.proofs.Common.{◌≡◌, ◌≤◌, ◌<◌, length, ◌-◌}
use Rattle.sf_outside.specs.Left.{ahead}
use Rattle.endpoint_http.proofs.held.Held.fill_line.Given as goal

-- the bytes to come stand, no byte held went away, and no fault was counted
abbrev pub invariant-loop-count : goal.invariant-loop-count
invariant-loop-count g l = record {
  known : ahead l.self (g.S.Source.left l.source) ≡ ahead l.initial.self (g.S.Source.left l.initial.source);
  faults : g.S.Source.faults l.source ≡ g.S.Source.faults l.initial.source;
  more : length l.initial.self ≤ length l.self;
  room : length l.self < 16384;
}

abbrev pub decreases-loop-count : goal.decreases-loop-count
decreases-loop-count g l = 16384 - length l.self

use Rattle.std.proofs.Common.{◌≡◌, ◌≤◌, ◌+◌, ◌-◌, ◌++◌, length}
use Rattle.sf_outside.specs.Left.{ahead}
use Rattle.endpoint_http.proofs.body.to_the_end.Given as goal

-- what was taken and what is to come are all the bytes, and no fault was counted
abbrev pub invariant-loop-body : goal.invariant-loop-body
invariant-loop-body g l = record {
  known : ahead (l.body ++ l.held) (g.S.Source.left l.source) ≡ ahead l.initial.held (g.S.Source.left l.initial.source);
  within : length l.body ≤ l.limit;
  faults : g.S.Source.faults l.source ≡ g.S.Source.faults l.initial.source;
}

abbrev pub decreases-loop-body : goal.decreases-loop-body
decreases-loop-body g l = l.limit + 16384 - (length l.body + length l.held)

use Rattle.std.proofs.Common.{◌≡◌, ◌+◌, ◌++◌, length}
use Rattle.sf_outside.specs.Left.{ahead}
use Rattle.endpoint_http.proofs.body.take_exact.Given as goal

-- what was taken and what is to come are together what they were, and no fault was counted
abbrev pub invariant-loop-missing : goal.invariant-loop-missing
invariant-loop-missing g l = record {
  known : ahead (l.into ++ l.held) (g.S.Source.left l.source) ≡ ahead (l.initial.into ++ l.initial.held) (g.S.Source.left l.initial.source);
  counted : length l.into + l.missing ≡ length l.initial.into + l.count;
  faults : g.S.Source.faults l.source ≡ g.S.Source.faults l.initial.source;
}

abbrev pub decreases-loop-missing : goal.decreases-loop-missing
decreases-loop-missing g l = l.missing

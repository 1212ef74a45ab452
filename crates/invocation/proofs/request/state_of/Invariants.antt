use Rattle.std.proofs.Common.{◌≡◌, map, take}
use Rattle.invocation.specs.Requests.{shipped}
use Rattle.invocation.proofs.request.state_of.Given as goal

-- the cells so far
abbrev pub invariant-loop-place : goal.invariant-loop-place
invariant-loop-place l = l.state ≡ map (shipped l.moment) (take l.place l.cells)

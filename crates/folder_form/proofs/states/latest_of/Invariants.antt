use Rattle.std.proofs.Common.{◌≡◌, drop, max}
use Rattle.folder_form.specs.Pieces.{latest_state}
use Rattle.folder_form.proofs.states.latest_of.Given as goal

abbrev pub invariant-loop-state : goal.invariant-loop-state
invariant-loop-state l = max l.latest (latest_state (drop l.state-index l.states)) ≡ latest_state l.states

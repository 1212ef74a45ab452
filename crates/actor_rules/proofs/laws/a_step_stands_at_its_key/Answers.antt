use Rattle.actor_rules.proofs.Placing.{run-placed}
use Rattle.actor_rules.proofs.laws.a_step_stands_at_its_key.Goals as goal

pub returns : goal.returns
returns g c r before sound keys s t es e rises apart own run allowed early = run-placed r sound before keys s t es e rises apart own run allowed early

use Rattle.actor_rules.proofs.Cuts.{merge_runs}
use Rattle.actor_rules.proofs.laws.a_merge_is_a_run.Goals as goal

pub returns : goal.returns
returns g c r before sound keys b s t old es run all rises lead = merge_runs r sound before keys b s t old es run all rises lead

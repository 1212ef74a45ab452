use Rattle.std.proofs.Common.{subst}
use Rattle.actor_rules.specs.Rules.{IsRun}
use Rattle.run_record.specs.Actors.{actors, world_in}
use Rattle.run_record.proofs.ByActors.{run_replays, replay_runs}
use Rattle.run_record.proofs.laws.replays_are_runs_of_actors.Goals as goal

pub returns : goal.returns
returns c m lists st entries world = (
  (λ run. run_replays m lists st entries world run),
  (λ h. subst (IsRun (actors m lists) (world_in st) entries) h.2 (replay_runs m lists st h.0 entries h.1)),
)

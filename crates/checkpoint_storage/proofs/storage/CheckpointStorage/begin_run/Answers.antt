use Rattle.std.proofs.Common.{ℕ}
use Rattle.checkpoint_storage.proofs.Calls.{beginning}
use Rattle.checkpoint_storage.proofs.storage.CheckpointStorage.begin_run.Goals as goal

pub returns-clause-meanwhile : goal.returns-clause-meanwhile
returns-clause-meanwhile g c = beginning c.args.self.now c.args.leg_limit _ _ c.begin_run.ensures.meanwhile

use Rattle.std.proofs.Common.{ℕ}
use Rattle.std.proofs.lemmas.Result.{IfOk-weaker}
use Rattle.snapshot_files.specs.Stores.{nothing_pending}
use Rattle.checkpoint_storage.proofs.storage.CheckpointStorage.load.Goals as goal

pub returns-clause-loaded : goal.returns-clause-loaded
returns-clause-loaded g c = IfOk-weaker c.load.result _ _ (λ loaded h m told contents epochs is. h m told contents nothing_pending is.store) c.load.ensures.loaded

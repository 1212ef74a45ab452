use Rattle.sf_disk.specs.declared.change.Change.TheVariants.{Sync}
use Rattle.sf_disk.proofs.Kept.{went_on, came, was_synced}
use Rattle.sf_disk.proofs.memory_disk.MemoryDiskDisk.sync.Goals as goal

pub returns-clause-synced : goal.returns-clause-synced
returns-clause-synced c = came c.args.self.now.first c.args.self.now.changes.items (Sync c.args.file) _ _ c.change.ensures.first c.in_ok-change.ensures.changed _ (λ m told. was_synced c.args.file (m c.args.file))

pub returns-clause-meanwhile : goal.returns-clause-meanwhile
returns-clause-meanwhile c = went_on c.args.self.now.first c.args.self.now.changes.items (Sync c.args.file) _ _ c.change.ensures.first c.in_ok-change.ensures.changed _ (λ m told. (was_synced c.args.file (m c.args.file)).follows)

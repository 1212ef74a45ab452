use Rattle.sf_disk.specs.declared.change.Change.TheVariants.{Cut}
use Rattle.sf_disk.proofs.Kept.{went_on, came, was_cut}
use Rattle.sf_disk.proofs.memory_disk.MemoryDiskDisk.cut.Goals as goal

pub returns-clause-shortened : goal.returns-clause-shortened
returns-clause-shortened c = came c.args.self.now.first c.args.self.now.changes.items (Cut c.args.file c.args.len) _ _ c.change.ensures.first c.in_ok-change.ensures.changed _ (λ m told. was_cut c.args.file c.args.len (m c.args.file))

pub returns-clause-meanwhile : goal.returns-clause-meanwhile
returns-clause-meanwhile c = went_on c.args.self.now.first c.args.self.now.changes.items (Cut c.args.file c.args.len) _ _ c.change.ensures.first c.in_ok-change.ensures.changed _ (λ m told. (was_cut c.args.file c.args.len (m c.args.file)).follows)

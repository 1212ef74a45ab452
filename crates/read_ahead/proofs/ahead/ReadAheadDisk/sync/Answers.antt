use Rattle.read_ahead.proofs.Kept.{synced_show}
use Rattle.read_ahead.proofs.ahead.ReadAheadDisk.sync.Goals as goal

pub invariant_of-self : goal.invariant_of-self
invariant_of-self g c = record { shown = synced_show c.args.file c.args.self.now.windows.items _ _ c.sync.ensures.meanwhile c.args.self.now.shown }

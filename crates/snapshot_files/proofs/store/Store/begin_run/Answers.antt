use Rattle.std.proofs.Common.{refl}
use Rattle.snapshot_files.proofs.Writing.{began, opens}
use Rattle.snapshot_files.proofs.store.Store.begin_run.Goals as goal

pub returns-in_err-write-clause-meanwhile : goal.returns-in_err-write-clause-meanwhile
returns-in_err-write-clause-meanwhile g c = opens c.args.self.now c.args.leg_limit _ _ c.write.ensures.meanwhile

pub returns-clause-meanwhile : goal.returns-clause-meanwhile
returns-clause-meanwhile g c = opens c.args.self.now c.args.leg_limit _ _ c.write.ensures.meanwhile

pub returns-clause-began : goal.returns-clause-began
returns-clause-began g c =
    let e = c.write.ensures in
    began c.args.self.now _ e.logs e.text e.shape e.slots e.completes c.args.leg_limit _ refl c.requires.limit _ _ c.in_ok-write.ensures.written

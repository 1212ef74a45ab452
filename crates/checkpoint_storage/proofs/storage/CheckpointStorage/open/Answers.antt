use Rattle.std.proofs.Common.{ℕ}
use Rattle.std.proofs.lemmas.Result.{err_from_is_err_and}
use Rattle.checkpoint_storage.proofs.Calls.{opening, opening_both, both_opened, refused_outlet}
use Rattle.checkpoint_storage.proofs.storage.CheckpointStorage.open.Goals as goal

pub returns-in_err-store-clause-meanwhile : goal.returns-in_err-store-clause-meanwhile
returns-in_err-store-clause-meanwhile g c = opening c.args.job.now c.args.partitions c.requires.names _ _ c.open_store.ensures.meanwhile

pub returns-in_err-outlet-clause-meanwhile : goal.returns-in_err-outlet-clause-meanwhile
returns-in_err-outlet-clause-meanwhile g c = opening_both c.args.job.now c.args.partitions c.requires.names _ _ c.open_store.ensures.meanwhile c.in_ok-store.store c.in_ok-store.ensures.opened _ c.open_outlet.ensures.meanwhile

pub returns-in_err-outlet-clause-refuses : goal.returns-in_err-outlet-clause-refuses
returns-in_err-outlet-clause-refuses g c =
    let p = err_from_is_err_and c.from_residual-in_err-outlet.result c.from_residual-in_err-outlet.ensures.1 in
    rw (p.1, p.2) (refused_outlet c.args.job.now c.args.partitions c.requires.names _ _ c.open_store.ensures.meanwhile c.in_ok-store.store c.in_ok-store.ensures.opened (g.D.Disk.moments c.args.disk.now) _ c.in_err-outlet.ensures.refuses)

pub returns-clause-meanwhile : goal.returns-clause-meanwhile
returns-clause-meanwhile g c = opening_both c.args.job.now c.args.partitions c.requires.names _ _ c.open_store.ensures.meanwhile c.in_ok-store.store c.in_ok-store.ensures.opened _ c.open_outlet.ensures.meanwhile

pub returns-clause-opened : goal.returns-clause-opened
returns-clause-opened g c = both_opened c.args.job.now c.args.partitions c.requires.names _ _ c.open_store.ensures.meanwhile c.in_ok-store.store c.in_ok-store.ensures.opened _ c.in_ok-outlet.outlet c.in_ok-outlet.ensures.opened

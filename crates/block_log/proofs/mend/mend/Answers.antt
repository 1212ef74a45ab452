use Rattle.block_log.proofs.Opening.{mending_1, mending_2, mending, nothing_to_mend, since_from, becomes_from}
use Rattle.block_log.proofs.mend.mend.Goals as goal

pub returns-then-branch-clause-mended : goal.returns-then-branch-clause-mended
returns-then-branch-clause-mended g c = nothing_to_mend c.args.file c.args.len c.requires.few _ c.requires.short _ c.is_closed.ensures.same (c.in_ok-is_closed.ensures.closed c.if-branch.true)

pub returns-in_err-write_at-clause-meanwhile : goal.returns-in_err-write_at-clause-meanwhile
returns-in_err-write_at-clause-meanwhile g c = mending_1 c.args.file c.args.len c.requires.few _ c.requires.short _ (since_from _ _ _ _ c.is_closed.ensures.same c.write_at.ensures.meanwhile)

pub returns-in_err-sync-clause-meanwhile : goal.returns-in_err-sync-clause-meanwhile
returns-in_err-sync-clause-meanwhile g c = mending_2 c.args.file c.args.len c.requires.few _ c.requires.short _ _ (since_from _ _ _ _ c.is_closed.ensures.same c.write_at.ensures.meanwhile) (becomes_from _ _ _ _ c.is_closed.ensures.same c.in_ok-write_at.ensures.wrote) c.sync.ensures.meanwhile

pub returns-clause-meanwhile : goal.returns-clause-meanwhile
returns-clause-meanwhile g c = mending_2 c.args.file c.args.len c.requires.few _ c.requires.short _ _ (since_from _ _ _ _ c.is_closed.ensures.same c.write_at.ensures.meanwhile) (becomes_from _ _ _ _ c.is_closed.ensures.same c.in_ok-write_at.ensures.wrote) c.sync.ensures.meanwhile

pub returns-clause-mended : goal.returns-clause-mended
returns-clause-mended g c = mending c.args.file c.args.len c.requires.few _ c.requires.short _ _ (since_from _ _ _ _ c.is_closed.ensures.same c.write_at.ensures.meanwhile) (becomes_from _ _ _ _ c.is_closed.ensures.same c.in_ok-write_at.ensures.wrote) c.in_ok-sync.ensures.synced

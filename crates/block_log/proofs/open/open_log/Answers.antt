use Rattle.std.proofs.Common.{◌∙◌, ap}
use Rattle.sf_disk.specs.Moments.{newest}
use Rattle.sf_disk.proofs.Onward.{file_as}
use Rattle.block_log.proofs.Opening.{started, same_keeps, opening, opened_short, opened_long, since_to, becomes_to, since_from, becomes_from}
use Rattle.block_log.proofs.open.open_log.Goals as goal

pub returns-in_err-sync-clause-meanwhile : goal.returns-in_err-sync-clause-meanwhile
returns-in_err-sync-clause-meanwhile g c = file_as c.args.file _ _ _ _ c.sync.ensures.meanwhile (λ m n told follows. same_keeps (m c.args.file) n follows)

pub returns-in_err-len-clause-meanwhile : goal.returns-in_err-len-clause-meanwhile
returns-in_err-len-clause-meanwhile g c = since_to _ _ _ _ c.len.ensures.same (started c.args.file _ _ c.sync.ensures.meanwhile c.in_ok-sync.ensures.synced).all

pub returns-in_err-mend-clause-meanwhile : goal.returns-in_err-mend-clause-meanwhile
returns-in_err-mend-clause-meanwhile g c = opening c.args.file _ _ (started c.args.file _ _ c.sync.ensures.meanwhile c.in_ok-sync.ensures.synced) _ (since_from _ _ _ _ c.len.ensures.same c.mend.ensures.meanwhile)

pub returns-then-len-lt-SHORTEST-clause-meanwhile : goal.returns-then-len-lt-SHORTEST-clause-meanwhile
returns-then-len-lt-SHORTEST-clause-meanwhile g c = opening c.args.file _ _ (started c.args.file _ _ c.sync.ensures.meanwhile c.in_ok-sync.ensures.synced) _ (since_from _ _ _ _ c.len.ensures.same c.mend.ensures.meanwhile)

pub returns-then-len-lt-SHORTEST-clause-opened : goal.returns-then-len-lt-SHORTEST-clause-opened
returns-then-len-lt-SHORTEST-clause-opened g c = opened_short c.args.file _ _ (started c.args.file _ _ c.sync.ensures.meanwhile c.in_ok-sync.ensures.synced) c.in_ok-len.len c.if-len-lt-SHORTEST.true c.in_ok-len.ensures.len _ c.at.result c.at.ensures.end (c.at.ensures.blocks ∙ c.new.ensures) (becomes_from _ _ _ _ c.len.ensures.same c.in_ok-mend.ensures.mended)

pub returns-in-Ok-clause-meanwhile : goal.returns-in-Ok-clause-meanwhile
returns-in-Ok-clause-meanwhile g c = since_to _ _ _ _ (c.find_blocks.ensures.same ∙ c.len.ensures.same) (started c.args.file _ _ c.sync.ensures.meanwhile c.in_ok-sync.ensures.synced).all

pub returns-in-Ok-clause-opened : goal.returns-in-Ok-clause-opened
returns-in-Ok-clause-opened g c = becomes_to _ _ _ _ (c.find_blocks.ensures.same ∙ c.len.ensures.same) (opened_long c.args.file _ _ (started c.args.file _ _ c.sync.ensures.meanwhile c.in_ok-sync.ensures.synced) _ (λ m told. c.in-Ok.ensures.ends m (ap newest c.len.ensures.same ∙ told)))

pub returns-in-Err-clause-meanwhile : goal.returns-in-Err-clause-meanwhile
returns-in-Err-clause-meanwhile g c = since_to _ _ _ _ (c.find_blocks.ensures.same ∙ c.len.ensures.same) (started c.args.file _ _ c.sync.ensures.meanwhile c.in_ok-sync.ensures.synced).all

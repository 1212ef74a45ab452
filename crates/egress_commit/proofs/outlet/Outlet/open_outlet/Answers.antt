use Rattle.std.proofs.Common.{refl}
use Rattle.std.proofs.lemmas.Result.{err_from_is_err_and}
use Rattle.sf_disk.proofs.Onward.{file_as}
use Rattle.block_log.proofs.Opening.{since_to}
use Rattle.egress_commit.proofs.Steps.{follows_epochs, opened_of, refused_of}
use Rattle.egress_commit.proofs.outlet.Outlet.open_outlet.Goals as goal

pub returns-in-Err-clause-meanwhile : goal.returns-in-Err-clause-meanwhile
returns-in-Err-clause-meanwhile g c = file_as 1 _ _ _ _ c.open_log.ensures.meanwhile (λ m n told. follows_epochs (m 1) n)

pub returns-in_err-check_epochs-clause-meanwhile :
    goal.returns-in_err-check_epochs-clause-meanwhile
returns-in_err-check_epochs-clause-meanwhile g c = since_to _ _ _ _ c.check_epochs.ensures.same (file_as 1 _ _ _ _ c.open_log.ensures.meanwhile (λ m n told. follows_epochs (m 1) n))

pub returns-in_err-check_epochs-clause-refuses : goal.returns-in_err-check_epochs-clause-refuses
returns-in_err-check_epochs-clause-refuses g c =
    let p = err_from_is_err_and c.from_residual.result c.from_residual.ensures.1 in
    rw (p.1, p.2) (refused_of c.in-Ok.log _ _ c.in-Ok.ensures.opened _ c.in_err-check_epochs.ensures.refuses)

pub returns-clause-meanwhile : goal.returns-clause-meanwhile
returns-clause-meanwhile g c = since_to _ _ _ _ c.check_epochs.ensures.same (file_as 1 _ _ _ _ c.open_log.ensures.meanwhile (λ m n told. follows_epochs (m 1) n))

pub returns-clause-opened : goal.returns-clause-opened
returns-clause-opened g c = opened_of c.in-Ok.log _ _ _ c.check_epochs.ensures.same c.in-Ok.ensures.opened c.in_ok-check_epochs.ensures.spelled _ refl

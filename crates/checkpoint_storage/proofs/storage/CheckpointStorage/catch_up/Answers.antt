use Rattle.std.proofs.Common.{ℕ, ◌+◌, ◌≡◌, true, List, Ok, ◌∙◌, ap, subst, arith}
use Rattle.sf_disk.specs.Moments.{Moment, Since, Becomes, InFile}
use Rattle.egress_commit.specs.Outlets.{Commits, Committed}
use Rattle.checkpoint_storage.proofs.Calls.{committing, committed, even_turns}
use Rattle.checkpoint_storage.proofs.storage.CheckpointStorage.catch_up.Goals as goal

pub returns-then-last-newest-clause-caught_up : goal.returns-then-last-newest-clause-caught_up
returns-then-last-newest-clause-caught_up g c = even_turns c.args.self.now _ _ (λ i. g.D.Disk.moments c.args.disk.now) (omega (arith, c.if-last-newest.true, c.last_epoch-last.ensures, c.newest-newest.ensures.newest))

pub returns-in_err-commit-clause-meanwhile : goal.returns-in_err-commit-clause-meanwhile
returns-in_err-commit-clause-meanwhile g c =
    let s = c.args.self.now in
    let since = subst (λ (l : List Moment). Since l (g.D.Disk.moments c.commit.new.disk) (InFile 1 (Commits s.outlet c.newest-newest.result c.in_ok-egress.egress))) c.read_egress.ensures.same c.commit.ensures.meanwhile in
    committing s c.newest-newest.result c.in_ok-egress.egress _ _ (omega (arith, c.if-not-is_next.ensures, c.last_epoch-last.ensures)) c.newest-newest.ensures.newest c.in_ok-egress.ensures.egress since

pub returns-clause-meanwhile : goal.returns-clause-meanwhile
returns-clause-meanwhile g c =
    let s = c.args.self.now in
    let since = subst (λ (l : List Moment). Since l (g.D.Disk.moments c.commit.new.disk) (InFile 1 (Commits s.outlet c.newest-newest.result c.in_ok-egress.egress))) c.read_egress.ensures.same c.commit.ensures.meanwhile in
    committing s c.newest-newest.result c.in_ok-egress.egress _ _ (omega (arith, c.if-not-is_next.ensures, c.last_epoch-last.ensures)) c.newest-newest.ensures.newest c.in_ok-egress.ensures.egress since

pub returns-clause-caught_up : goal.returns-clause-caught_up
returns-clause-caught_up g c =
    let s = c.args.self.now in
    let was = c.in_ok-commit.was ∙ ap Ok (c.in_ok-commit.ensures.is_new.1 (omega (arith, c.if-not-is_next.ensures, c.last_epoch-last.ensures))) in
    let becomes = subst (λ (l : List Moment). Becomes l (g.D.Disk.moments c.commit.new.disk) (InFile 1 (Committed s.outlet c.commit.new.self c.in_ok-egress.egress))) c.read_egress.ensures.same (c.commit.ensures.committed was) in
    committed s c.newest-newest.result c.in_ok-egress.egress _ _ (omega (arith, c.if-not-is_next.ensures, c.last_epoch-last.ensures)) c.newest-newest.ensures.newest c.in_ok-egress.ensures.egress c.commit.new.self becomes

pub returns-clause-even : goal.returns-clause-even
returns-clause-even g c =
    let was = c.in_ok-commit.was ∙ ap Ok (c.in_ok-commit.ensures.is_new.1 (omega (arith, c.if-not-is_next.ensures, c.last_epoch-last.ensures))) in
    omega (arith, c.commit.ensures.counted was, c.if-not-is_next.ensures, c.last_epoch-last.ensures, c.newest-newest.ensures.newest)

use Rattle.std.proofs.Common.{ℕ, ◌∷◌, [], length, length-append, ◌∙◌, ap, subst, arith}
use Rattle.sf_disk.specs.Moments.{Since, Becomes, InFile}
use Rattle.sf_disk.proofs.Onward.{file_as, file_becomes}
use Rattle.block_log.specs.Logs.{Adds, Added}
use Rattle.piece_messages.specs.Spelling.{commit_value}
use Rattle.egress_commit.proofs.Steps.{commits, is_committed, spells}
use Rattle.egress_commit.proofs.outlet.Outlet.commit.Goals as goal

pub returns-in-Err-clause-meanwhile : goal.returns-in-Err-clause-meanwhile
returns-in-Err-clause-meanwhile g c =
    let s = c.args.self.now in
    let since = subst (λ (f : ℕ). Since (g.D.Disk.moments c.args.disk.now) (g.D.Disk.moments c.append.new.disk) (InFile f (Adds s.log c.as_slice.result.now))) s.file c.append.ensures.meanwhile in
    file_as 1 _ _ _ _ since (λ m n told. commits s c.args.number c.args.items.now c.as_slice.result.now (m 1) n (omega (arith, c.requires.next, c.if-number-last_epoch.false, c.last_epoch.ensures)) (spells c.args.number c.args.items.now _ c.as_slice.result.now c.in_ok-try_clone.ensures (ap commit_value c.as_slice.ensures ∙ c.in_ok-body.ensures.again)))

pub returns-clause-meanwhile : goal.returns-clause-meanwhile
returns-clause-meanwhile g c =
    let s = c.args.self.now in
    let since = subst (λ (f : ℕ). Since (g.D.Disk.moments c.args.disk.now) (g.D.Disk.moments c.append.new.disk) (InFile f (Adds s.log c.as_slice.result.now))) s.file c.append.ensures.meanwhile in
    file_as 1 _ _ _ _ since (λ m n told. commits s c.args.number c.args.items.now c.as_slice.result.now (m 1) n (omega (arith, c.requires.next, c.if-number-last_epoch.false, c.last_epoch.ensures)) (spells c.args.number c.args.items.now _ c.as_slice.result.now c.in_ok-try_clone.ensures (ap commit_value c.as_slice.ensures ∙ c.in_ok-body.ensures.again)))

pub returns-clause-committed : goal.returns-clause-committed
returns-clause-committed g c = λ is.
    let s = c.args.self.now in
    let becomes = subst (λ (f : ℕ). Becomes (g.D.Disk.moments c.args.disk.now) (g.D.Disk.moments c.append.new.disk) (InFile f (Added s.log c.append.new.self c.as_slice.result.now))) s.file c.in-Ok.ensures.appended in
    file_becomes 1 _ _ _ _ becomes (λ m n told. is_committed s _ c.args.number c.args.items.now c.as_slice.result.now (m 1) n (omega (arith, c.requires.next, c.if-number-last_epoch.false, c.last_epoch.ensures)) (spells c.args.number c.args.items.now _ c.as_slice.result.now c.in_ok-try_clone.ensures (ap commit_value c.as_slice.ensures ∙ c.in_ok-body.ensures.again)))

pub returns-clause-counted : goal.returns-clause-counted
returns-clause-counted g c = λ is. ap length c.in-Ok.ensures.blocks ∙ length-append c.args.self.now.log.blocks (_ ∷ [])

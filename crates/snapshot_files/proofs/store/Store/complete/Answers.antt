use Rattle.std.proofs.Common.{ℕ, max, List, [], ◌∷◌, ◌++◌, refl, ◌∙◌, ap}
use Rattle.snapshot_files.proofs.Writing.{may_complete, completed, none_put}
use Rattle.snapshot_files.proofs.store.Store.complete.Goals as goal

pub returns-in_err-place-clause-meanwhile : goal.returns-in_err-place-clause-meanwhile
returns-in_err-place-clause-meanwhile g c =
    let e = c.in_ok-complete_of.ensures in
    may_complete c.args.self.now c.args.mark.now c.in_ok-complete_of.field-0 e.mark e.places c.requires.put c.requires.number c.requires.leg c.requires.taken c.requires.takes _ _ c.write.ensures.meanwhile

pub returns-in_err-push-clause-meanwhile : goal.returns-in_err-push-clause-meanwhile
returns-in_err-push-clause-meanwhile g c =
    let e = c.in_ok-complete_of.ensures in
    may_complete c.args.self.now c.args.mark.now c.in_ok-complete_of.field-0 e.mark e.places c.requires.put c.requires.number c.requires.leg c.requires.taken c.requires.takes _ _ c.write.ensures.meanwhile

pub returns-clause-meanwhile : goal.returns-clause-meanwhile
returns-clause-meanwhile g c =
    let e = c.in_ok-complete_of.ensures in
    may_complete c.args.self.now c.args.mark.now c.in_ok-complete_of.field-0 e.mark e.places c.requires.put c.requires.number c.requires.leg c.requires.taken c.requires.takes _ _ c.write.ensures.meanwhile

pub returns-clause-completed : goal.returns-clause-completed
returns-clause-completed g c =
    let e = c.in_ok-complete_of.ensures in
    let w = c.write.ensures in
    completed c.args.self.now c.args.mark.now c.in_ok-complete_of.field-0 e.mark e.places c.requires.put c.requires.number c.requires.leg c.requires.taken c.requires.takes _ w.logs w.text w.shape c.in_ok-place.place
    (c.in_ok-push.ensures.ok ∙ ap (λ (l : List ℕ). l ++ c.in_ok-place.place ∷ []) w.completes) (c.max-self.ensures ∙ ap (λ (l : ℕ). max l c.args.mark.now.leg) w.stored_leg)
    (none_put _ _ c.fill.new.self.items (c.fill.ensures.items (λ y same. same)) refl refl) _ _ c.in_ok-place.ensures.written

use Rattle.std.proofs.Common.{ℕ, max, List, Some, sym, ◌∙◌, ap, subst}
use Rattle.sf_disk.specs.Moments.{Moment}
use Rattle.block_log.specs.Blocks.{Body}
use Rattle.block_log.specs.Logs.{IsOpen}
use Rattle.folder_messages.specs.ManifestSpelling.{manifest_value}
use Rattle.folder_form.specs.Folders.{valued, with_leg}
use Rattle.std.specs.Result.{OnOk, IfErr}
use Rattle.folder_messages.specs.declared.manifest.Manifest.{Manifest}
use Rattle.snapshot_files.specs.Stores.{newest as count_of}
use Rattle.snapshot_files.specs.Steps.{HasParts, RefusesBlock, RefusesParts, checked}
use Rattle.snapshot_files.proofs.Advancing.{says_opening, says_job, says_nothing, checkpoint_next, checkpoint_refused}
use Rattle.snapshot_files.proofs.store.Store.read_next.Goals as goal

pub returns-in-Some-Opening-clause-next : goal.returns-in-Some-Opening-clause-next
returns-in-Some-Opening-clause-next g c = λ m told files contents body held knows at.
    let s = c.args.self.now in
    let bytes = c.as_slice.ensures ∙ c.in-Ok.ensures.body m told (files 0) body (subst (λ (f : ℕ). IsOpen s.manifest (files 0) (m f)) (sym s.file) held.first) at in
    let read = c.in_ok-opening.ensures ∙ ap (λ (b : Body). valued (manifest_value b)) bytes in (
      with_leg c.in-Some-Opening.opening.leg contents,
      says_opening s.shape files c.args.place contents body c.in_ok-opening.field-0 read c.in-Some-Opening.opening (c.in-Some-Opening.is ∙ ap (λ (x : Manifest). Some x) c.in-Some-Opening.field-0-is),
      record { kept = knows.kept; leg_is = c.max-self.ensures ∙ ap (λ (n : ℕ). max n c.in-Some-Opening.opening.leg) knows.leg_is },
    )

pub returns-in-Some-Job-clause-refuses : goal.returns-in-Some-Job-clause-refuses
returns-in-Some-Job-clause-refuses g c = subst (RefusesBlock c.args.self.now c.args.place (g.D.Disk.moments c.args.disk.now)) (sym c.broken.ensures) (λ m told files contents body held knows at.
    let s = c.args.self.now in
    let bytes = c.as_slice.ensures ∙ c.in-Ok.ensures.body m told (files 0) body (subst (λ (f : ℕ). IsOpen s.manifest (files 0) (m f)) (sym s.file) held.first) at in
    let read = c.in_ok-opening.ensures ∙ ap (λ (b : Body). valued (manifest_value b)) bytes in
    says_job s.shape files c.args.place contents body c.in_ok-opening.field-0 read c.in-Some-Job._job (c.in-Some-Job.is ∙ ap (λ (x : Manifest). Some x) c.in-Some-Job.field-0-is))

pub returns-clause-refuses : goal.returns-clause-refuses
returns-clause-refuses g c = subst (RefusesBlock c.args.self.now c.args.place (g.D.Disk.moments c.args.disk.now)) (sym c.broken-in-None.ensures) (λ m told files contents body held knows at.
    let s = c.args.self.now in
    let bytes = c.as_slice.ensures ∙ c.in-Ok.ensures.body m told (files 0) body (subst (λ (f : ℕ). IsOpen s.manifest (files 0) (m f)) (sym s.file) held.first) at in
    let read = c.in_ok-opening.ensures ∙ ap (λ (b : Body). valued (manifest_value b)) bytes in
    says_nothing s.shape files c.args.place contents body c.in_ok-opening.field-0 read c.in-None.is)

pub returns-in-Some-Complete-clause-next : goal.returns-in-Some-Complete-clause-next
returns-in-Some-Complete-clause-next g c =
    let s = c.args.self.now in
    let complete = c.in-Some-Complete.complete in
    checkpoint_next s c.read_complete.new.self c.args.place _ complete
    (λ m told files body held at.
    let bytes = c.as_slice.ensures ∙ c.in-Ok.ensures.body m told (files 0) body (subst (λ (f : ℕ). IsOpen s.manifest (files 0) (m f)) (sym s.file) held.first) at in
    sym (c.in-Some-Complete.is ∙ ap (λ (x : Manifest). Some x) c.in-Some-Complete.field-0-is) ∙ c.in_ok-opening.ensures ∙ ap (λ (b : Body). valued (manifest_value b)) bytes)
    c.read_complete.result (subst (λ (l : List Moment). OnOk c.read_complete.result (HasParts s l (λ files. checked s.shape files c.args.place (count_of s) complete))) c.read_block.ensures.same c.read_complete.ensures.parts)
    c.read_complete.ensures.completes c.read_complete.ensures.leg c.read_complete.ensures.others

pub returns-in-Some-Complete-clause-refuses : goal.returns-in-Some-Complete-clause-refuses
returns-in-Some-Complete-clause-refuses g c =
    let s = c.args.self.now in
    let complete = c.in-Some-Complete.complete in
    checkpoint_refused s c.read_complete.new.self c.args.place _ complete
    (λ m told files body held at.
    let bytes = c.as_slice.ensures ∙ c.in-Ok.ensures.body m told (files 0) body (subst (λ (f : ℕ). IsOpen s.manifest (files 0) (m f)) (sym s.file) held.first) at in
    sym (c.in-Some-Complete.is ∙ ap (λ (x : Manifest). Some x) c.in-Some-Complete.field-0-is) ∙ c.in_ok-opening.ensures ∙ ap (λ (b : Body). valued (manifest_value b)) bytes)
    c.read_complete.result (subst (λ (l : List Moment). IfErr c.read_complete.result (RefusesParts s l (λ files. checked s.shape files c.args.place (count_of s) complete))) c.read_block.ensures.same c.read_complete.ensures.refuses)

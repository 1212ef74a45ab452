use Rattle.std.proofs.Common.{ℕ, Some, sym, ap, subst, ◌∙◌, arith}
use Rattle.block_log.specs.Blocks.{Body}
use Rattle.block_log.specs.Logs.{IsOpen}
use Rattle.folder_messages.specs.declared.manifest.Manifest.{Manifest}
use Rattle.folder_messages.specs.ManifestSpelling.{manifest_value}
use Rattle.folder_form.specs.Folders.{valued}
use Rattle.snapshot_files.specs.Stores.{completes}
use Rattle.snapshot_files.proofs.Loads.{complete_is, none_complete, other_complete}
use Rattle.snapshot_files.proofs.store.Store.complete_at.Goals as goal

pub returns-then-len-self-clause-complete : goal.returns-then-len-self-clause-complete
returns-then-len-self-clause-complete g c = λ m told files opened.
    let s = c.args.self.now in
    let there = c.in_ok-body.ensures.body m told (files 0) (subst (λ (f : ℕ). IsOpen s.manifest (files 0) (m f)) (sym s.file) opened) in
    let made = c.in_ok-complete.ensures ∙ ap (λ (b : Body). valued (manifest_value b)) c.as_slice.ensures in
    complete_is c.args.place (files 0) c.in_ok-body.field-0 c.in-Some.body there c.in-Some.is c.in_ok-complete.field-0 made ∙ ap completes (c.in-Some-Complete.is ∙ ap (λ (x : Manifest). Some x) c.in-Some-Complete.field-0-is)

pub returns-in-Some-Complete-clause-refuses : goal.returns-in-Some-Complete-clause-refuses
returns-in-Some-Complete-clause-refuses g c = λ m told files complete opened has.
    let s = c.args.self.now in
    let there = c.in_ok-body.ensures.body m told (files 0) (subst (λ (f : ℕ). IsOpen s.manifest (files 0) (m f)) (sym s.file) opened) in
    let made = c.in_ok-complete.ensures ∙ ap (λ (b : Body). valued (manifest_value b)) c.as_slice.ensures in
    other_complete c.args.place (files 0) c.in_ok-body.field-0 c.in-Some.body there c.in-Some.is c.in_ok-complete.field-0 made c.in-Some-Complete.complete complete c.args.self.now.shape.partitions (ap completes (c.in-Some-Complete.is ∙ ap (λ (x : Manifest). Some x) c.in-Some-Complete.field-0-is)) (λ e. omega (arith, e, c.if-len-self.false, c.len.ensures)) has

pub returns-in-Some-Job-clause-refuses : goal.returns-in-Some-Job-clause-refuses
returns-in-Some-Job-clause-refuses g c = λ m told files complete opened has.
    let s = c.args.self.now in
    let there = c.in_ok-body.ensures.body m told (files 0) (subst (λ (f : ℕ). IsOpen s.manifest (files 0) (m f)) (sym s.file) opened) in
    let made = c.in_ok-complete.ensures ∙ ap (λ (b : Body). valued (manifest_value b)) c.as_slice.ensures in
    absurd (none_complete c.args.place (files 0) c.in_ok-body.field-0 c.in-Some.body there c.in-Some.is c.in_ok-complete.field-0 made (ap completes (c.in-Some-Job.is ∙ ap (λ (x : Manifest). Some x) c.in-Some-Job.field-0-is)) complete has)

pub returns-in-Some-Opening-clause-refuses : goal.returns-in-Some-Opening-clause-refuses
returns-in-Some-Opening-clause-refuses g c = λ m told files complete opened has.
    let s = c.args.self.now in
    let there = c.in_ok-body.ensures.body m told (files 0) (subst (λ (f : ℕ). IsOpen s.manifest (files 0) (m f)) (sym s.file) opened) in
    let made = c.in_ok-complete.ensures ∙ ap (λ (b : Body). valued (manifest_value b)) c.as_slice.ensures in
    absurd (none_complete c.args.place (files 0) c.in_ok-body.field-0 c.in-Some.body there c.in-Some.is c.in_ok-complete.field-0 made (ap completes (c.in-Some-Opening.is ∙ ap (λ (x : Manifest). Some x) c.in-Some-Opening.field-0-is)) complete has)

pub returns-clause-refuses : goal.returns-clause-refuses
returns-clause-refuses g c = λ m told files complete opened has.
    let s = c.args.self.now in
    let there = c.in_ok-body.ensures.body m told (files 0) (subst (λ (f : ℕ). IsOpen s.manifest (files 0) (m f)) (sym s.file) opened) in
    let made = c.in_ok-complete.ensures ∙ ap (λ (b : Body). valued (manifest_value b)) c.as_slice.ensures in
    absurd (none_complete c.args.place (files 0) c.in_ok-body.field-0 c.in-Some.body there c.in-Some.is c.in_ok-complete.field-0 made (ap completes c.in-None.is) complete has)

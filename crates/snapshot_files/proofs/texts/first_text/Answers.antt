use Rattle.std.proofs.Common.{◌≢◌, ℕ, List, [], slice_index_or, refl, sym, ap, subst, ◌∙◌}
use Rattle.std.proofs.lemmas.Bool.{false≢true}
use Rattle.block_log.specs.Logs.{IsOpen, HasBlockAt}
use Rattle.folder_form.specs.Folders.{job_in}
use Rattle.snapshot_files.proofs.FirstBlock.{no_blocks, first_block, first_place}
use Rattle.snapshot_files.proofs.texts.first_text.Goals as goal

pub returns-then-is_empty-clause-text : goal.returns-then-is_empty-clause-text
returns-then-is_empty-clause-text g c = λ m told bodies opened. no_blocks c.args.manifest.now bodies (m 0) (sym c.blocks-2.ensures ∙ c.is_empty.ensures.0 c.if-is_empty.true) opened

pub returns-in-Some-clause-text : goal.returns-in-Some-clause-text
returns-in-Some-clause-text g c = λ m told bodies opened.
    let log = c.args.manifest.now in
    let some : log.blocks ≢ [] = λ none. false≢true (sym c.if-is_empty.false ∙ c.is_empty.ensures.1 (c.blocks-2.ensures ∙ none)) in
    let same = c.as_slice.ensures ∙ c.blocks-3.ensures in
    let first = first_block log bodies (m 0) some opened in
    let at = subst (λ (l : List ℕ). HasBlockAt bodies (slice_index_or l 0 0) first.0) (sym same) first.3 in
    let bytes = c.as_slice-2.ensures ∙ c.in-Ok.ensures.body m told bodies first.0 (subst (λ (f : ℕ). IsOpen log bodies (m f)) (sym c.requires.file) opened) at in
    (first.0, first.1, first.2, sym (ap job_in bytes) ∙ sym c.in_ok-text.ensures ∙ c.in-Some.is)

pub returns-clause-refuses : goal.returns-clause-refuses
returns-clause-refuses g c = λ m told bodies opened.
    let log = c.args.manifest.now in
    let some : log.blocks ≢ [] = λ none. false≢true (sym c.if-is_empty.false ∙ c.is_empty.ensures.1 (c.blocks-2.ensures ∙ none)) in
    let same = c.as_slice.ensures ∙ c.blocks-3.ensures in
    let first = first_block log bodies (m 0) some opened in
    let at = subst (λ (l : List ℕ). HasBlockAt bodies (slice_index_or l 0 0) first.0) (sym same) first.3 in
    let bytes = c.as_slice-2.ensures ∙ c.in-Ok.ensures.body m told bodies first.0 (subst (λ (f : ℕ). IsOpen log bodies (m f)) (sym c.requires.file) opened) at in
    (refl, ap (λ (l : List ℕ). slice_index_or l 0 0) same ∙ first_place log bodies (m 0) some opened, (first.0, first.1, first.2, sym (ap job_in bytes) ∙ sym c.in_ok-text.ensures ∙ c.in-None.is))

use Rattle.std.proofs.Common.{◌∙◌, ap}
use Rattle.std.proofs.lemmas.Result.{err_from_is_err_and}
use Rattle.folder_form.specs.declared.shape.Shape.{Shape}
use Rattle.checkpoint_drive.proofs.Openings.{refused_counts, has_read, same_shape}
use Rattle.checkpoint_drive.proofs.opening.read.Goals as goal

pub returns-in_err-check_counts-clause-refuses : goal.returns-in_err-check_counts-clause-refuses
returns-in_err-check_counts-clause-refuses g c =
    let p = err_from_is_err_and c.from_residual-in_err-check_counts.result c.from_residual-in_err-check_counts.ensures.1 in
    let shape = same_shape c.args.routes.now _ _ c.requires.shape c.in_ok-storage.ensures.shape in
    rw (p.1, p.2, c.in_err-check_counts.ensures.0)
    (refused_counts c.args.routes.now c.args.text.now c.in_ok-storage.storage c.in_ok-loaded.loaded _ _ c.in_ok-storage.ensures.opened c.in_ok-loaded.ensures.loaded
    _ _ (ap (λ (s : Shape). s.splits) (c.shape.ensures ∙ shape)) c.as_slice.ensures c.in_err-check_counts.ensures.1)

pub returns-clause-has_read : goal.returns-clause-has_read
returns-clause-has_read g c =
    let shape = same_shape c.args.routes.now _ _ c.requires.shape c.in_ok-storage.ensures.shape in
    has_read c.args.routes.now c.args.text.now c.in_ok-storage.storage c.in_ok-loaded.loaded _ _ c.in_ok-storage.ensures.opened c.in_ok-loaded.ensures.loaded c.in_ok-start.start _
    _ _ c.load.ensures.same c.in_ok-start.ensures shape c.in_ok-loaded.ensures.fits (ap (λ (s : Shape). s.splits) (c.shape.ensures ∙ shape)) c.as_slice.ensures
    c.in_ok-check_counts.ensures c.in_ok-storage.ensures.text c.in_ok-storage.ensures.usable c.in_ok-storage.ensures.open

use Rattle.std.proofs.Common.{[], ◌∷◌}
use Rattle.std.specs.Prelude.{codes}
use Rattle.typed_values.specs.Escape.{address_text}
use Rattle.folder_run.specs.Ends.{reasons_text}
use Rattle.folder_run.proofs.Appended.{four-parts}
use Rattle.folder_run.proofs.line.put_failed.Goals as goal

pub returns-clause-ok : goal.returns-clause-ok
returns-clause-ok c = four-parts c.args.into.now _ _ _ _ (codes "endpoint failed ") (address_text c.args.address.now) (reasons_text c.args.reasons.now) (10 ∷ []) c.in_ok-append.ensures.ok c.in_ok-put_address_text.ensures.ok c.in_ok-put_reasons.ensures.ok c.in_ok-push.ensures.ok

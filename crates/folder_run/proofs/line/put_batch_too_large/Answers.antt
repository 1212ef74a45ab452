use Rattle.std.proofs.Common.{[], ◌∷◌, ◌++◌}
use Rattle.std.specs.Prelude.{codes}
use Rattle.std.specs.Fmt.{decimal}
use Rattle.typed_values.specs.Escape.{address_text}
use Rattle.folder_run.proofs.Appended.{five-parts}
use Rattle.folder_run.proofs.line.put_batch_too_large.Goals as goal

pub returns-clause-ok : goal.returns-clause-ok
returns-clause-ok c =
    five-parts c.args.into.now _ _ _ _ _ (codes "batch too large ") (address_text c.args.address.now) (32 ∷ []) (decimal c.args.size) (32 ∷ (decimal c.args.limit ++ 10 ∷ []))
    c.in_ok-append.ensures.ok c.in_ok-put_address_text.ensures.ok c.in_ok-push.ensures.ok c.in_ok-put_decimal.ensures.ok c.in_ok-put_count.ensures.ok

use Rattle.std.proofs.Common.{[], ◌∷◌, ◌++◌, ◌∙◌, ℕ, ap}
use Rattle.std.specs.Prelude.{codes}
use Rattle.std.specs.Fmt.{decimal}
use Rattle.folder_run.proofs.Appended.{three-parts}
use Rattle.folder_run.proofs.line.put_not_a_store.Goals as goal

pub returns-clause-ok : goal.returns-clause-ok
returns-clause-ok c =
    three-parts c.args.into.now _ _ _ (codes "not a store file ") (decimal c.args.file) (codes " place " ++ (decimal c.args.place ++ 10 ∷ []))
    c.in_ok-append.ensures.ok (c.in_ok-put_decimal.ensures.ok ∙ ap (λ (n : ℕ). c.append.new.self ++ decimal n) c.from.ensures) c.in_ok-put_count.ensures.ok

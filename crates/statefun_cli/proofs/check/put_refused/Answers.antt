use Rattle.std.proofs.Common.{[], ◌∷◌, ◌++◌, ◌∙◌, List, ℕ, ap}
use Rattle.std.specs.Prelude.{codes}
use Rattle.std.specs.Fmt.{decimal}
use Rattle.proto_wire.specs.Kinds.{module_kind_name}
use Rattle.statefun_cli.proofs.Appended.{seven-parts}
use Rattle.statefun_cli.proofs.check.put_refused.Goals as goal

pub returns-clause-ok : goal.returns-clause-ok
returns-clause-ok c =
    let name = c.in_ok-append-4.ensures.ok ∙ ap (λ (bytes : List ℕ). c.append-3.new.self ++ bytes) (c.as_bytes.ensures.value ∙ c.name.ensures) in
    let document = c.in_ok-put_decimal.ensures.ok ∙ ap (λ (n : ℕ). c.append.new.self ++ decimal n) c.from.ensures in
    let line = c.in_ok-put_decimal-2.ensures.ok ∙ ap (λ (n : ℕ). c.append-2.new.self ++ decimal n) c.from-2.ensures in
    seven-parts c.args.into.now _ _ _ _ _ _ _ (codes "module refused document ") (decimal c.args.document) (codes " line ") (decimal c.args.line) (codes " kind ")
    (module_kind_name c.args.kind) (10 ∷ []) c.in_ok-append.ensures.ok document c.in_ok-append-2.ensures.ok
    line c.in_ok-append-3.ensures.ok name c.in_ok-push.ensures.ok

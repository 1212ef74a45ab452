use Rattle.std.proofs.Common.{◌∙◌, ap, find, is_some}
use Rattle.address_routing.specs.Routing.{endpoint_of, is_exact, is_wide, or_else}
use Rattle.module_yaml.proofs.Serving.{any-served}
use Rattle.module_yaml.proofs.documents.has_endpoint.Goals as goal

pub returns : goal.returns
unfolding endpoint_of
returns c =
    let kind = c.args.kind.now in
    c.is_any_for.ensures
    ∙ any-served (is_exact kind) (is_wide kind) c.as_slice.result.now
    ∙ ap (λ xs. is_some (or_else (find (is_exact kind) xs) (find (is_wide kind) xs))) c.as_slice.ensures

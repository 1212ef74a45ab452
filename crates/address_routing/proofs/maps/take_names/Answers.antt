use Rattle.std.proofs.Common.{◌∙◌, ap, Bool, cond, None}
use Rattle.std.specs.BTreeMap.{get}
use Rattle.address_routing.specs.Kept.{text_order}
use Rattle.address_routing.proofs.Naming.{text_test}
use Rattle.address_routing.proofs.maps.take_names.Goals as goal

pub returns-in-Some-clause-others : goal.returns-in-Some-clause-others
returns-in-Some-clause-others c = λ other.
    c.remove.ensures.updates.0 other ∙ ap (λ (b : Bool). cond b None (get text_order c.args.spaces.now other)) (text_test c.args.namespace.now other)

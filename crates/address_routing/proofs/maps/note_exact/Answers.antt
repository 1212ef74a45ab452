use Rattle.std.proofs.Common.{◌∙◌, sym, ap, Bool, Some, cond}
use Rattle.std.specs.BTreeMap.{get}
use Rattle.typed_values.specs.declared.name.TypeName.{TypeName}
use Rattle.address_routing.specs.Kept.{name_order}
use Rattle.address_routing.proofs.Naming.{exact_test}
use Rattle.address_routing.proofs.maps.note_exact.Goals as goal

pub returns-in_ok-insert : goal.returns-in_ok-insert
returns-in_ok-insert c =
    let key : TypeName = record { namespace = c.in_ok-try_clone.field-0; name = c.in_ok-try_clone-2.field-0 } in
    λ kind. c.in_ok-insert.ensures.updates.0 kind
    ∙ ap (λ (b : Bool). cond b (Some c.args.place) (get name_order c.args.places.now kind)) (exact_test kind key c.args.endpoint.now (c.in-Some.is ∙ sym (ap Some c.in_ok-try_clone-2.ensures)) (sym c.in_ok-try_clone.ensures))

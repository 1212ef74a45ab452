use Rattle.std.proofs.Common.{◌≡◌, ◌∙◌, sym, ap, Bool, Some, None, cond, Option, false, not}
use Rattle.std.specs.Option.{is_some}
use Rattle.std.specs.BTreeMap.{get}
use Rattle.address_routing.specs.Kept.{text_order}
use Rattle.address_routing.proofs.Naming.{wide_test}
use Rattle.address_routing.proofs.maps.note_wide.Goals as goal

none_there : {A : Type 0} (o : Option A) → is_some o ≡ false → o ≡ None
none_there None e = λ i. None
none_there (Some x) e = absurd cc

pub returns-in_ok-insert : goal.returns-in_ok-insert
returns-in_ok-insert c = λ kind.
    c.in_ok-insert.ensures.updates.0 kind.namespace
    ∙ ap (λ (b : Bool). cond b (Some c.args.place) (get text_order c.args.places.now kind.namespace))
    (wide_test kind c.in_ok-try_clone.field-0 c.args.endpoint.now (none_there c.args.endpoint.now.pattern.name (c.is_none.ensures ∙ ap not c.if-is_none.true)) (sym c.in_ok-try_clone.ensures))

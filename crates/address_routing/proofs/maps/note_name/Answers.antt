use Rattle.std.proofs.Common.{◌∙◌, ap, Bool, Option, cond, None, Some}
use Rattle.std.specs.BTreeMap.{get, is_at}
use Rattle.std.specs.BTreeSet.{BTreeSet}
use Rattle.address_routing.specs.Kept.{text_order, has_name}
use Rattle.address_routing.proofs.Naming.{name_more}
use Rattle.address_routing.proofs.maps.note_name.Goals as goal

pub returns : goal.returns
returns c = λ namespace name.
    name_more c.args.noted.now namespace name c.in_ok-try_clone-2.field-0 c.in_ok-try_clone.field-0
    (get text_order c.args.spaces.now namespace) (get text_order c.insert-2.new.self namespace) c.take_names-names.result c.insert.new.self
    c.in_ok-try_clone-2.ensures c.in_ok-try_clone.ensures
    (c.in_ok-insert.ensures.updates.0 name)
    (λ e. c.take_names-names.ensures.taken name ∙ ap (λ space. has_name c.args.spaces.now space name) e)
    (c.in_ok-insert-2.ensures.updates.0 namespace ∙ ap (λ (o : Option (BTreeSet _)). cond (is_at (text_order c.in_ok-try_clone-2.field-0) namespace) (Some c.insert.new.self) o) (c.take_names-names.ensures.others namespace))

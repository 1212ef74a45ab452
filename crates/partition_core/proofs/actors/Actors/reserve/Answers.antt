use Rattle.std.proofs.Common.{◌∙◌, sym, ap, [], cond, Option, Some}
use Rattle.std.specs.Option.{option_map_or}
use Rattle.std.specs.BTreeMap.{get, is_at}
use Rattle.keyed_queues.specs.Keys.{address_order}
use Rattle.partition_core.specs.declared.actor.Actor.{Actor}
use Rattle.partition_core.proofs.Changing.{actor_added}
use Rattle.partition_core.proofs.actors.Actors.reserve.Goals as goal

pub returns-clause-cells : goal.returns-clause-cells
returns-clause-cells c =
    actor_added (λ (o : Option Actor). option_map_or (λ (actor : Actor). actor.cells) o []) c.args.self.now (record { actors = c.insert.new.self }) c.args.address.now c.in_ok-actor.actor
    (λ key. c.in_ok-insert.ensures.updates.0 key
    ∙ ap (λ own. cond (is_at (address_order own) key) (Some c.in_ok-actor.actor) (get address_order c.args.self.now.actors key)) c.in_ok-try_clone.ensures)
    (sym c.in_default.ensures.value) c.in_ok-actor.ensures.cells

pub returns-clause-seen : goal.returns-clause-seen
returns-clause-seen c =
    actor_added (λ (o : Option Actor). option_map_or (λ (actor : Actor). actor.seen) o 0) c.args.self.now (record { actors = c.insert.new.self }) c.args.address.now c.in_ok-actor.actor
    (λ key. c.in_ok-insert.ensures.updates.0 key
    ∙ ap (λ own. cond (is_at (address_order own) key) (Some c.in_ok-actor.actor) (get address_order c.args.self.now.actors key)) c.in_ok-try_clone.ensures)
    (sym c.in_default.ensures.value) c.in_ok-actor.ensures.seen

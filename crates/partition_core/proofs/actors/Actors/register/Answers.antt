use Rattle.std.proofs.Common.{◌∙◌, sym, ap, subst, refl, ℕ, List, [], map, Option}
use Rattle.std.specs.Prelude.{IsSome}
use Rattle.std.specs.Option.{option_map_or}
use Rattle.std.proofs.lemmas.Result.{on_ok_weaker}
use Rattle.typed_values.specs.declared.address.Address.{Address}
use Rattle.typed_values.specs.declared.letter.Sender.TheVariants.{Function}
use Rattle.typed_values.specs.declared.cells.Cell.{Cell}
use Rattle.state_cells.specs.Lifetimes.{Registers, after_all as cells_after}
use Rattle.invocation.specs.Laws.{AreNew}
use Rattle.partition_core.specs.declared.actor.Actor.{Actor}
use Rattle.partition_core.specs.Work.{set_for}
use Rattle.partition_core.proofs.Changing.{actor_set}
use Rattle.partition_core.proofs.actors.Actors.register.Goals as goal

pub register-requires : goal.register-requires
register-requires c =
    subst (λ o. AreNew (option_map_or (λ (actor : Actor). actor.cells) o []) c.args.specs) (sym c.in-Some.ensures.value)
    (subst (λ (f : Address → List Cell). AreNew (f c.args.address.now) c.args.specs) (sym c.reserve.ensures.cells) c.requires)

pub returns-clause-cells : goal.returns-clause-cells
returns-clause-cells c =
    let change : List Cell → List Cell = λ cells. cells_after (map Registers c.args.specs) cells in
    on_ok_weaker c.register.result
    (λ e. actor_set (λ (o : Option Actor). option_map_or (λ (actor : Actor). actor.cells) o []) c.reserve.new.self (record { actors = c.get_mut.follows.lender c.register.new.self }) c.args.address.now c.register.new.self
    ((c.get_mut.follows.holds c.register.new.self).3 (subst IsSome c.in-Some.ensures.value refl)).0
    c.in-Some.actor.now (sym c.in-Some.ensures.value) change e
    ∙ ap (λ (f : Address → List Cell). set_for (Function c.args.address.now) (change (f c.args.address.now)) f) c.reserve.ensures.cells)
    c.register.ensures.cells

pub returns-clause-seen : goal.returns-clause-seen
returns-clause-seen c =
    on_ok_weaker c.register.result
    (λ e. actor_set (λ (o : Option Actor). option_map_or (λ (actor : Actor). actor.seen) o 0) c.reserve.new.self (record { actors = c.get_mut.follows.lender c.register.new.self }) c.args.address.now c.register.new.self
    ((c.get_mut.follows.holds c.register.new.self).3 (subst IsSome c.in-Some.ensures.value refl)).0
    c.in-Some.actor.now (sym c.in-Some.ensures.value) (λ (seen : ℕ). c.args.moment) e
    ∙ ap (λ (f : Address → ℕ). set_for (Function c.args.address.now) c.args.moment f) c.reserve.ensures.seen)
    c.register.ensures.seen

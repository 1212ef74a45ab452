use Rattle.std.proofs.Common.{◌∙◌, sym, subst, refl, cond, Some}
use Rattle.std.specs.Prelude.{IsSome}
use Rattle.std.specs.BTreeMap.{get, is_at}
use Rattle.keyed_queues.specs.Keys.{address_order}
use Rattle.run_record.specs.Machine.{Own}
use Rattle.run_record.proofs.Changing.{part_set, part_added}
use Rattle.run_record.proofs.parts.Parts.reserve.Goals as goal

pub returns-in-Some-clause-same : goal.returns-in-Some-clause-same
returns-in-Some-clause-same c =
    part_set c.args.self.now (record { parts = c.get_mut.follows.lender c.reserve.new.self }) c.args.address.now c.reserve.new.self
    ((c.get_mut.follows.holds c.reserve.new.self).3 (subst IsSome c.in-Some.ensures.value refl)).0
    c.in-Some.part.now (sym c.in-Some.ensures.value) (λ (own : Own). own) c.reserve.ensures.same

pub returns-clause-same : goal.returns-clause-same
returns-clause-same c =
    part_added c.args.self.now (record { parts = c.insert.new.self }) c.args.address.now c.reserve-2.new.self
    (λ key. c.in_ok-insert.ensures.updates.0 key
    ∙ (λ i. cond (is_at (address_order (c.in_ok-try_clone.ensures i)) key) (Some c.reserve-2.new.self) (get address_order (c.get_mut.follows.holds-at-none i) key)))
    (sym c.in_default.ensures.value) (λ (own : Own). own) (c.reserve-2.ensures.same ∙ c.in_ok-part.ensures)

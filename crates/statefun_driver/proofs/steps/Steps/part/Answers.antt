use Rattle.std.proofs.Common.{rules, ◌≡◌, ◌∙◌, sym, ap, List, [], ◌++◌, filter, append-nil}
use Rattle.std.proofs.lemmas.List.{nil_from_length}
use Rattle.std.specs.Prelude.{not}
use Rattle.run_record.specs.declared.entry.Entry.{Entry}
use Rattle.run_record.specs.Egress.{egress_of}
use Rattle.statefun_driver.specs.Turns.{is_take}
use Rattle.statefun_driver.specs.Parted.{is_other}
use Rattle.statefun_driver.proofs.Parting.{part_yes, part_no}
use Rattle.statefun_driver.proofs.steps.Steps.part.Goals as goal

pub loop-entry-init : goal.loop-entry-init
loop-entry-init c =
    let items = c.into_iter-entry-iterator.ensures.into_iter_gives.0 ∙ c.into_vec-entry-items.ensures ∙ c.self.view_is in
    record {
      takes = ap (λ (xs : List Entry). xs ++ filter is_take c.into_iter-entry-iterator.result.rest.items) c.new-takes.ensures ∙ ap (filter is_take) items;
      others = ap (λ (xs : List Entry). xs ++ filter is_other c.into_iter-entry-iterator.result.rest.items) c.new-others.ensures ∙ ap (filter is_other) items;
    }

pub loop-entry-preserved-in-Continue-1 : goal.loop-entry-preserved-in-Continue-1
loop-entry-preserved-in-Continue-1 c =
    let rest = c.next.new.self.rest.items in
    let next = c.in-Some.ensures.steps.0 in
    let is = sym c.is_take.ensures ∙ c.if-is_take.true in
    record {
      takes = ap (λ (xs : List Entry). xs ++ filter is_take rest) c.in_ok-push.ensures.ok
          ∙ part_yes is_take c.in-Some.entry c.loop-entry.takes rest (filter is_take c.args.self) is (ap (λ (xs : List Entry). c.loop-entry.takes ++ filter is_take xs) (sym next) ∙ c.loop-entry.invariant.takes);
      others = part_no is_other c.in-Some.entry c.loop-entry.others rest (filter is_other c.args.self) (ap not is) (ap (λ (xs : List Entry). c.loop-entry.others ++ filter is_other xs) (sym next) ∙ c.loop-entry.invariant.others);
    }

pub loop-entry-preserved : goal.loop-entry-preserved
loop-entry-preserved c =
    let rest = c.next.new.self.rest.items in
    let next = c.in-Some.ensures.steps.0 in
    let is = sym c.is_take.ensures ∙ c.if-is_take.false in
    record {
      takes = part_no is_take c.in-Some.entry c.loop-entry.takes rest (filter is_take c.args.self) is (ap (λ (xs : List Entry). c.loop-entry.takes ++ filter is_take xs) (sym next) ∙ c.loop-entry.invariant.takes);
      others = ap (λ (xs : List Entry). xs ++ filter is_other rest) c.in_ok-push-2.ensures.ok
          ∙ part_yes is_other c.in-Some.entry c.loop-entry.others rest (filter is_other c.args.self) (ap not is) (ap (λ (xs : List Entry). c.loop-entry.others ++ filter is_other xs) (sym next) ∙ c.loop-entry.invariant.others);
    }

pub returns : goal.returns
returns c =
    let none : c.loop-entry.entry-iterator.rest.items ≡ [] = search (rules, nil_from_length) in
    record {
      takes = sym (append-nil c.loop-entry.takes) ∙ ap (λ (xs : List Entry). c.loop-entry.takes ++ filter is_take xs) (sym none) ∙ c.loop-entry.invariant.takes;
      others = sym (append-nil c.loop-entry.others) ∙ ap (λ (xs : List Entry). c.loop-entry.others ++ filter is_other xs) (sym none) ∙ c.loop-entry.invariant.others;
      egress = c.of.ensures ∙ c.self.invariant ∙ ap egress_of c.self.view_is;
    }

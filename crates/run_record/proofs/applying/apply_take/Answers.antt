use Rattle.std.proofs.Common.{◌∙◌, sym, ap, subst, Option, Some, nat_lt, ltb-true}
use Rattle.std.specs.Option.{option_copied}
use Rattle.sf_outside.specs.declared.ingress.IngressRecord.{IngressRecord}
use Rattle.address_routing.specs.declared.module.Module.{Module}
use Rattle.address_routing.specs.Routing.{splits_in}
use Rattle.run_record.specs.declared.entry.Step.TheVariants.{Take}
use Rattle.run_record.specs.StateOf.{state_of}
use Rattle.run_record.proofs.Applied.{IsRefused, IsDone, take_outside, take_none, take_done}
use Rattle.run_record.proofs.applying.apply_take.Goals as goal

pub returns-then-not-has_split-clause-allowed : goal.returns-then-not-has_split-clause-allowed
returns-then-not-has_split-clause-allowed c =
    (take_outside c.args.routes.now (option_copied c.args.taken) (state_of c.args.machine.now) c.args.split
    (ap (λ (m : Module). nat_lt c.args.split (splits_in m.ingresses)) (sym c.module.ensures.value) ∙ ap (λ xs. nat_lt c.args.split (splits_in xs)) (sym c.as_slice.ensures) ∙ sym c.has_split.ensures ∙ c.if-not-has_split.true)).0

pub returns-then-not-has_split-clause-state : goal.returns-then-not-has_split-clause-state
returns-then-not-has_split-clause-state c =
    (take_outside c.args.routes.now (option_copied c.args.taken) (state_of c.args.machine.now) c.args.split
    (ap (λ (m : Module). nat_lt c.args.split (splits_in m.ingresses)) (sym c.module.ensures.value) ∙ ap (λ xs. nat_lt c.args.split (splits_in xs)) (sym c.as_slice.ensures) ∙ sym c.has_split.ensures ∙ c.if-not-has_split.true)).1

pub returns-in_default-clause-allowed : goal.returns-in_default-clause-allowed
returns-in_default-clause-allowed c =
    let st = state_of c.args.machine.now in
    (subst (λ (o : Option IngressRecord). IsRefused c.args.routes.now o st (Take c.args.split)) (sym (ap option_copied c.in_default.is)) (take_none c.args.routes.now st c.args.split)).0

pub returns-in_default-clause-state : goal.returns-in_default-clause-state
returns-in_default-clause-state c =
    let st = state_of c.args.machine.now in
    (subst (λ (o : Option IngressRecord). IsRefused c.args.routes.now o st (Take c.args.split)) (sym (ap option_copied c.in_default.is)) (take_none c.args.routes.now st c.args.split)).1

pub returns-clause-allowed : goal.returns-clause-allowed
returns-clause-allowed c =
    let st = state_of c.args.machine.now in
    (subst (λ (o : Option IngressRecord). IsDone c.args.routes.now o st (state_of c.take_record.new.machine) (Take c.args.split)) (ap Some c.in_ok-try_clone.ensures ∙ sym (ap option_copied c.in-Some.is))
    (take_done c.args.routes.now c.in_ok-try_clone.field-0 st (state_of c.take_record.new.machine) c.args.split
    (ltb-true c.args.split (splits_in c.args.routes.now.ingresses) (ap (λ (m : Module). nat_lt c.args.split (splits_in m.ingresses)) (sym c.module.ensures.value) ∙ ap (λ xs. nat_lt c.args.split (splits_in xs)) (sym c.as_slice.ensures) ∙ sym c.has_split.ensures ∙ c.if-not-has_split.false))
    c.in_ok-take_record.ensures.ok)).0

pub returns-clause-state : goal.returns-clause-state
returns-clause-state c =
    let st = state_of c.args.machine.now in
    (subst (λ (o : Option IngressRecord). IsDone c.args.routes.now o st (state_of c.take_record.new.machine) (Take c.args.split)) (ap Some c.in_ok-try_clone.ensures ∙ sym (ap option_copied c.in-Some.is))
    (take_done c.args.routes.now c.in_ok-try_clone.field-0 st (state_of c.take_record.new.machine) c.args.split
    (ltb-true c.args.split (splits_in c.args.routes.now.ingresses) (ap (λ (m : Module). nat_lt c.args.split (splits_in m.ingresses)) (sym c.module.ensures.value) ∙ ap (λ xs. nat_lt c.args.split (splits_in xs)) (sym c.as_slice.ensures) ∙ sym c.has_split.ensures ∙ c.if-not-has_split.false))
    c.in_ok-take_record.ensures.ok)).1

use Rattle.std.proofs.Common.{sym, subst, refl}
use Rattle.std.specs.Prelude.{IsSome}
use Rattle.std.proofs.lemmas.Result.{on_ok_weaker, on_err_weaker}
use Rattle.std.specs.Option.{option_map_or}
use Rattle.invocation.specs.Laws.{AreNew}
use Rattle.run_record.specs.Machine.{Own, nothing}
use Rattle.run_record.specs.StateOf.{own_of, after_registration}
use Rattle.run_record.proofs.Changing.{part_set}
use Rattle.run_record.proofs.parts.Parts.register.Goals as goal

pub register-requires : goal.register-requires
register-requires c = subst (λ o. AreNew (option_map_or own_of o nothing).cells c.args.specs) (sym c.in-Some.ensures.value) c.requires.new

pub returns-clause-ok : goal.returns-clause-ok
returns-clause-ok c =
    on_ok_weaker c.register.result
    (λ e. part_set c.args.self.now (record { parts = c.get_mut.follows.lender c.register.new.self }) c.args.address.now c.register.new.self
    ((c.get_mut.follows.holds c.register.new.self).3 (subst IsSome c.in-Some.ensures.value refl)).0
    c.in-Some.part.now (sym c.in-Some.ensures.value) (after_registration c.args.moment c.args.specs) e)
    c.register.ensures.ok

pub returns-clause-err : goal.returns-clause-err
returns-clause-err c =
    on_err_weaker c.register.result
    (λ e. part_set c.args.self.now (record { parts = c.get_mut.follows.lender c.register.new.self }) c.args.address.now c.register.new.self
    ((c.get_mut.follows.holds c.register.new.self).3 (subst IsSome c.in-Some.ensures.value refl)).0
    c.in-Some.part.now (sym c.in-Some.ensures.value) (λ (own : Own). own) e)
    c.register.ensures.err

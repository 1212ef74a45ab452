use Rattle.std.proofs.Common.{sym, subst, refl}
use Rattle.std.specs.Prelude.{IsSome}
use Rattle.run_record.specs.StateOf.{after_due}
use Rattle.run_record.proofs.Changing.{part_set}
use Rattle.run_record.proofs.parts.Parts.drop_due.Goals as goal

pub returns-in-Some : goal.returns-in-Some
returns-in-Some c =
    part_set c.args.self.now (record { parts = c.get_mut.follows.lender c.drop_due.new.self }) c.args.address.now c.drop_due.new.self
    ((c.get_mut.follows.holds c.drop_due.new.self).3 (subst IsSome c.in-Some.ensures.value refl)).0
    c.in-Some.part.now (sym c.in-Some.ensures.value) (after_due c.args.moment) c.drop_due.ensures

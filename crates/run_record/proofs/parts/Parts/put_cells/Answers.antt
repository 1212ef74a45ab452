use Rattle.std.proofs.Common.{sym, subst, refl}
use Rattle.std.specs.Prelude.{IsSome}
use Rattle.run_record.specs.declared.parts.Parts.{Parts}
use Rattle.run_record.specs.declared.part.Part.{Part}
use Rattle.run_record.specs.Filled.{keeps}
use Rattle.run_record.proofs.Changing.{part_set, sets_same}
use Rattle.run_record.proofs.Kept.{sets_between}
use Rattle.run_record.proofs.parts.Parts.put_cells.Goals as goal

pub returns-in-Some-clause-ok : goal.returns-in-Some-clause-ok
returns-in-Some-clause-ok c =
    let address = c.args.address.now in
    let now : Part = record { cells = c.args.cells; seen = c.args.seen; delays = c.in-Some.part.now.delays } in
    let new : Parts = record { parts = c.get_mut.follows.lender now } in
    sets_between address c.args.self.now c.reserve.new.self new new (keeps c.args.cells c.args.seen)
    (sets_same c.args.self.now c.reserve.new.self address c.reserve.ensures.same)
    (part_set c.reserve.new.self new address now
    ((c.get_mut.follows.holds now).3 (subst IsSome c.in-Some.ensures.value refl)).0
    c.in-Some.part.now (sym c.in-Some.ensures.value) (keeps c.args.cells c.args.seen) refl)
    (λ other. refl)

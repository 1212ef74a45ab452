use Rattle.std.proofs.Common.{sym, subst, refl}
use Rattle.std.specs.Prelude.{IsSome}
use Rattle.run_record.specs.declared.parts.Parts.{Parts}
use Rattle.run_record.specs.declared.part.Part.{Part}
use Rattle.run_record.specs.Filled.{waits_too}
use Rattle.run_record.proofs.Changing.{part_set, sets_same}
use Rattle.run_record.proofs.Kept.{sets_between}
use Rattle.run_record.proofs.parts.Parts.put_delay.Goals as goal

pub returns-in-Some-clause-ok : goal.returns-in-Some-clause-ok
returns-in-Some-clause-ok c =
    let address = c.args.address.now in
    let part = c.in-Some.part.now in
    let now : Part = record { cells = part.cells; seen = part.seen; delays = c.put.new.self } in
    let new : Parts = record { parts = c.get_mut.follows.lender now } in
    sets_between address c.args.self.now c.reserve.new.self new new (waits_too c.args.delay)
    (sets_same c.args.self.now c.reserve.new.self address c.reserve.ensures.same)
    (part_set c.reserve.new.self new address now
    ((c.get_mut.follows.holds now).3 (subst IsSome c.in-Some.ensures.value refl)).0
    part (sym c.in-Some.ensures.value) (waits_too c.args.delay) (λ i. record { taken = 0; cells = part.cells; seen = part.seen; delays = c.put.ensures.delays i }))
    (λ other. refl)

use Rattle.std.proofs.Common.{◌≤◌, length, sym, subst, refl}
use Rattle.std.specs.Prelude.{IsSome}
use Rattle.std.specs.Option.{option_map_or}
use Rattle.run_record.specs.declared.part.Part.{Part}
use Rattle.invocation.specs.Laws.{TakesAll}
use Rattle.run_record.specs.Machine.{nothing}
use Rattle.run_record.specs.StateOf.{own_of, HasPart, after_batch}
use Rattle.run_record.proofs.Changing.{part_set}
use Rattle.run_record.proofs.parts.Parts.serve.Goals as goal

pub serve-requires-clause-fits : goal.serve-requires-clause-fits
serve-requires-clause-fits c = subst (λ o. TakesAll (option_map_or own_of o nothing).cells c.args.mutations) (sym c.in-Some.ensures.value) c.requires.fits

pub serve-requires-clause-room : goal.serve-requires-clause-room
serve-requires-clause-room c = subst (HasPart (λ (part : Part). length c.args.delays ≤ part.delays.spare)) (sym c.in-Some.ensures.value) c.requires.room

pub returns-in-Some : goal.returns-in-Some
returns-in-Some c =
    part_set c.args.self.now (record { parts = c.get_mut.follows.lender c.serve.new.self }) c.args.address.now c.serve.new.self
    ((c.get_mut.follows.holds c.serve.new.self).3 (subst IsSome c.in-Some.ensures.value refl)).0
    c.in-Some.part.now (sym c.in-Some.ensures.value) (after_batch c.args.address.now c.args.moment c.args.mutations c.args.delays) c.serve.ensures

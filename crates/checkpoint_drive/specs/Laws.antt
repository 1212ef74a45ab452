-- What legs over a folder come to: the checkpoints that they complete are good.
use Rattle.std.specs.Prelude.{◌≡◌, ◌≤◌, ℕ, List, [], ◌∷◌, ◌++◌, Option, Some, None, IfSome, IsTrue}
use Rattle.std.specs.List.{AllByRecursion}
use Rattle.sf_outside.specs.Splits.{Lists}
use Rattle.sf_outside.specs.declared.call.Call.{Call}
use Rattle.sf_outside.specs.declared.call.Exchange.{Exchange}
use Rattle.address_routing.specs.declared.module.Module.{Module}
use Rattle.address_routing.specs.Routing.{is_routable}
use Rattle.run_record.specs.declared.entry.Entry.{Entry}
use Rattle.run_record.specs.Machine.{first_state}
use Rattle.run_record.specs.Backed.{AreBacked, calls_of}
use Rattle.folder_form.specs.Folders.{Checkpoint, Contents, loaded_of, record_of, with_checkpoint}
use Rattle.partition_core.specs.Work.{state_of}
use Rattle.statefun_driver.specs.Seen.{Seen}
use Rattle.statefun_driver.specs.Turns.{Plan, Origin}
use Rattle.statefun_driver.specs.Traces.{IsFront}
use Rattle.statefun_driver.specs.Origins.{IsSoundOrigin}
use Rattle.statefun_driver.specs.Runs.{AreModest}
use Rattle.statefun_driver.specs.Stretches.{AreUpTo}
use Rattle.checkpoint_state.specs.Meaning.{given_by, state_in, IsGood}
use Rattle.checkpoint_drive.specs.declared.options.Options.{Options}
use Rattle.checkpoint_drive.specs.Drives.{Rest, Leg, AreLegs, first_rest}

-- Turns begin where contents stand: with the work that they stand for, behind each leg and each moment in them.
pub record BeginsAt (contents : Contents) (origin : Origin) : Type 0 where
  pub work : state_in contents ≡ state_of origin.counts (given_by contents) origin.work
  pub sound : IsSoundOrigin origin
  pub legs : AllByRecursion (λ (entry : Entry). entry.leg ≤ origin.turn) (record_of contents)
  pub calls : AllByRecursion (λ (call : Call). call.leg ≤ origin.turn) (calls_of (record_of contents))
  pub loaded : (loaded_of contents).leg ≤ origin.turn
  pub moment : (loaded_of contents).moment ≤ origin.moment

-- contents with the checkpoints that legs completed
abbrev pub after : Contents → Option Checkpoint → Contents
after contents None = contents
after contents (Some checkpoint) = with_checkpoint checkpoint.mark checkpoint.parts contents

abbrev pub after_all : Contents → List Leg → Contents
after_all contents [] = contents
after_all contents (leg ∷ legs) = after_all (after contents leg.taken) legs

-- each answer in the record is one that its endpoint gave to that request under that call
abbrev pub IsBackedBy : List Exchange → Module → Lists → Contents → Type 0
IsBackedBy exchanges m told contents = AreBacked exchanges m told first_state (record_of contents)

-- Contents that have grown out of others are good, and nothing of the record was lost. Where a link tells, they are backed by what
-- backed the others, with what the link exchanged.
pub record HaveGrownGood (m : Module) (told : Lists) (contents : Contents) (before after : Seen) (new : Contents) : Type 0 where
  pub later : Lists
  pub lists : after.lists ≡ Some later
  pub good : IsGood m later new
  pub grown : IsFront (record_of contents) (record_of new)
  pub backed : (others : List Exchange) → IfSome before.journal (λ done. IsBackedBy others m told contents → IsBackedBy (others ++ after.exchanges) m later new)

abbrev pub LegsCompleteWhatIsGood : Type 0
LegsCompleteWhatIsGood =
    (plan : Plan) (options : Options) (contents : Contents) (origin : Origin) (newest : ℕ) (told : Lists) (before after : Seen) (legs : List Leg) (last : Rest)
    → IsTrue (is_routable plan.routes) → AreModest plan.routes.endpoints → before.lists ≡ Some told
    → IsGood plan.routes told contents → BeginsAt contents origin → IfSome before.journal (AreUpTo origin.turn)
    → AreLegs plan options (first_rest plan origin newest) before legs last after
    → HaveGrownGood plan.routes told contents before after (after_all contents legs)

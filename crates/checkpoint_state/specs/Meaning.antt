-- What the checkpoints of a folder mean: each is what the sequential machine gives on the record up to it.
use Rattle.std.specs.Prelude.{◌≡◌, ◌≤◌, ℕ, List, ◌++◌, Some}
use Rattle.std.specs.List.{AllByRecursion, IsDistinct, flat_map}
use Rattle.typed_values.specs.declared.record.EgressRecord.{EgressRecord}
use Rattle.sf_outside.specs.Splits.{Lists}
use Rattle.address_routing.specs.declared.module.Module.{Module}
use Rattle.run_record.specs.declared.entry.Entry.{Entry}
use Rattle.run_record.specs.declared.entry.Step.{Step}
use Rattle.run_record.specs.declared.entry.Step.TheVariants.{Take, Batch, Register, Due}
use Rattle.run_record.specs.Machine.{State, first_state}
use Rattle.run_record.specs.Record.{replayed}
use Rattle.run_record.specs.Backed.{calls_of, same_call}
use Rattle.folder_form.specs.Folders.{Checkpoint, Contents, loaded_of, record_of, egress_in}
use Rattle.checkpoint_state.specs.Stored.{stored_state}

-- what all checkpoints gave to egresses, in order
abbrev pub given_by : Contents → List EgressRecord
given_by contents = flat_map egress_in contents.checkpoints

-- what the newest checkpoint stands for
abbrev pub state_in : Contents → State
state_in contents = stored_state (loaded_of contents) (given_by contents)

-- the record replays, and leaves what the newest checkpoint stands for
abbrev pub Replays : Module → Lists → Contents → Type 0
Replays m told contents = replayed m told first_state (record_of contents) ≡ Some (state_in contents)

-- the moment of a step that has one
abbrev pub moment_of : Step → ℕ
moment_of (Take split) = 0
moment_of (Batch reply) = reply.moment
moment_of (Register reply) = reply.moment
moment_of (Due address moment) = moment

-- no entry stems from a later leg, and none has a later moment
abbrev pub IsWithin : ℕ → ℕ → Entry → Type 0
IsWithin leg moment entry = (entry.leg ≤ leg) × (moment_of entry.step ≤ moment)

-- The record of a checkpoint and of all before it.
pub record IsSound (m : Module) (told : Lists) (contents : Contents) : Type 0 where
  pub replays : Replays m told contents
  pub within : AllByRecursion (IsWithin (loaded_of contents).leg (loaded_of contents).moment) (record_of contents)

abbrev pub with_only : List Checkpoint → Contents → Contents
with_only checkpoints contents = record contents { checkpoints = checkpoints }

-- So is that of each checkpoint; neither the newest one, and so no entry, nor a call is of a leg behind the stored one; and no call
-- stands in two entries.
pub record IsGood (m : Module) (told : Lists) (contents : Contents) : Type 0 where
  pub each : (front behind : List Checkpoint) → contents.checkpoints ≡ front ++ behind → IsSound m told (with_only front contents)
  pub newest : (loaded_of contents).leg ≤ contents.leg
  pub calls : AllByRecursion (λ call. call.leg ≤ contents.leg) (calls_of (record_of contents))
  pub distinct : IsDistinct same_call (calls_of (record_of contents))

-- The record of an entry's step.
use Rattle.std.proofs.Common.{◌≡◌, ℕ, Bool, false, List, [], ◌++◌, Some, refl, append_assoc, arith, ◌&&◌, true}
use Rattle.std.proofs.lemmas.List.{append-nil}
use Rattle.std.proofs.lemmas.Grind.{common_steps}
use Rattle.run_record.specs.declared.entry.Step.{Step}
use Rattle.run_record.specs.declared.entry.Step.TheVariants as steps
use Rattle.proto_wire.specs.Message.{spelling, fit, spelled_choice, spelled_message, fit_choice, fit_message}
use Rattle.folder_messages.specs.Entries.{split_taken, batch_held, register_held, due_held, step_read, fit_step, reply_rows, due_rows}
use Rattle.folder_messages.specs.Spelling.{spelled_step, reply_spelling, due_spelling}

pub step-spelled : (step : Step) → spelled_choice 10 (split_taken (Some (step_read step))) ++ (spelled_message (spelling reply_rows) 11 (batch_held (Some (step_read step)))
    ++ (spelled_message (spelling reply_rows) 12 (register_held (Some (step_read step))) ++ (spelled_message (spelling due_rows) 13 (due_held (Some (step_read step))) ++ []))) ≡ spelled_step step
unfolding spelled_choice spelled_message split_taken batch_held register_held due_held step_read spelled_step reply_spelling due_spelling
step-spelled (steps.Take split) = append-nil _
step-spelled (steps.Batch reply) = append-nil _
step-spelled (steps.Register reply) = append-nil _
step-spelled (steps.Due address moment) = append-nil _

and-true : (b : Bool) → (b && true) ≡ b
and-true true = refl
and-true false = refl

pub step-fits : (step : Step) → (fit_choice (split_taken (Some (step_read step))) && (fit_message (fit reply_rows) (batch_held (Some (step_read step)))
    && (fit_message (fit reply_rows) (register_held (Some (step_read step))) && (fit_message (fit due_rows) (due_held (Some (step_read step))) && true)))) ≡ fit_step step
unfolding fit_choice fit_message split_taken batch_held register_held due_held step_read fit_step
step-fits (steps.Take split) = and-true _
step-fits (steps.Batch reply) = and-true _
step-fits (steps.Register reply) = and-true _
step-fits (steps.Due address moment) = and-true _

pub ruleset step_steps = (common_steps, arith, append_assoc, append-nil, step-spelled, step-fits)

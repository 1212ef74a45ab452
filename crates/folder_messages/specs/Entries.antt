-- The fields of an entry's messages. While one is read, what it needs may still be absent.
use Rattle.std.specs.Prelude.{ℕ, ◌^◌, nat_lt, Bool, List, [], ◌∷◌, map, Option, Some, None, option_map}
use Rattle.proto_wire.specs.Message.{Row, numbers, bytes, messages, members, choices, lists, fit}
use Rattle.typed_values.specs.declared.address.Address.{Address}
use Rattle.typed_values.specs.declared.letter.Sender.{Sender}
use Rattle.typed_values.specs.declared.letter.Sender.TheVariants.{Split, Function}
use Rattle.typed_values.specs.Tables.{empty_address, address_rows}
use Rattle.typed_values.specs.Stored.{split_of, function_of}
use Rattle.sf_outside.specs.declared.call.Call.{Call}
use Rattle.run_record.specs.declared.entry.Entry.{Entry}
use Rattle.run_record.specs.declared.entry.Step.{Step}
use Rattle.run_record.specs.declared.entry.Step.TheVariants as steps
use Rattle.run_record.specs.declared.entry.Reply.{Reply}
use Rattle.folder_messages.specs.declared.call.CallRead.{CallRead}
use Rattle.folder_messages.specs.declared.reply.PickRead.{PickRead}
use Rattle.folder_messages.specs.declared.reply.ReplyRead.{ReplyRead}
use Rattle.folder_messages.specs.declared.due_step.DueStep.{DueStep}
use Rattle.folder_messages.specs.declared.due_step.DueRead.{DueRead}
use Rattle.folder_messages.specs.declared.entry.EntryRead.{EntryRead}
use Rattle.folder_messages.specs.declared.entry.StepRead.{StepRead}
use Rattle.folder_messages.specs.declared.entry.StepRead.TheVariants.{Take, Batch, Register, Due}
use Rattle.folder_messages.specs.Needs.{◌>>=◌}
use Rattle.folder_messages.specs.Parts.{shorts, all_of}

-- ---- calls

unfoldable pub empty_call : CallRead
empty_call = record { leg = 0; partition = 0; turn = 0 }

unfoldable pub call_rows : List (Row CallRead)
call_rows =
    numbers 1 (λ it. it.leg) (λ it new. record it { leg = new })
    ∷ shorts 2 (λ it. it.partition) (λ it new. record it { partition = new })
    ∷ shorts 3 (λ it. it.turn) (λ it new. record it { turn = new })
    ∷ []

abbrev pub call_read : Call → CallRead
call_read call = record { leg = call.leg; partition = call.partition; turn = call.turn }

abbrev pub call_of : CallRead → Call
call_of it = record { leg = it.leg; partition = it.partition; turn = it.turn }

-- ---- senders of picked letters

unfoldable pub empty_pick : PickRead
empty_pick = record { member = None }

unfoldable pub pick_rows : List (Row PickRead)
pick_rows =
    choices 1 (λ it. split_of it.member) (λ it split. record { member = Some (Split split) })
    ∷ members empty_address address_rows 2 (λ it. function_of it.member) (λ it address. record { member = Some (Function address) })
    ∷ []

abbrev pub pick_read : Sender → PickRead
pick_read sender = record { member = Some sender }

abbrev pub pick_of : PickRead → Option Sender
pick_of it = it.member

-- ---- replies

unfoldable pub empty_reply : ReplyRead
empty_reply = record { call = None; address = None; moment = 0; picks = []; answer = [] }

unfoldable pub reply_rows : List (Row ReplyRead)
reply_rows =
    messages empty_call call_rows 1 (λ it. it.call) (λ it new. record it { call = new })
    ∷ messages empty_address address_rows 2 (λ it. it.address) (λ it new. record it { address = new })
    ∷ numbers 3 (λ it. it.moment) (λ it new. record it { moment = new })
    ∷ lists empty_pick pick_rows 4 (λ it. it.picks) (λ it new. record it { picks = new })
    ∷ bytes 5 (λ it. it.answer) (λ it new. record it { answer = new })
    ∷ []

abbrev pub reply_read : Reply → ReplyRead
reply_read reply = record {
  call = Some (call_read reply.call);
  address = Some reply.address;
  moment = reply.moment;
  picks = map pick_read reply.picks;
  answer = reply.answer;
}

abbrev pub reply_with : Option CallRead → Option Address → ℕ → List Sender → List ℕ → Option Reply
reply_with call address moment picks answer = do
  it ← call
  function ← address
  Some (record { call = call_of it; address = function; moment = moment; picks = picks; answer = answer })

-- a reply needs its call, its address, and the member of each sender
unfoldable pub reply_of : ReplyRead → Option Reply
reply_of it = do
  picks ← all_of pick_of it.picks
  reply_with it.call it.address it.moment picks it.answer

-- ---- delayed letters that were sent

unfoldable pub empty_due : DueRead
empty_due = record { address = None; moment = 0 }

unfoldable pub due_rows : List (Row DueRead)
due_rows =
    messages empty_address address_rows 1 (λ it. it.address) (λ it new. record it { address = new })
    ∷ numbers 2 (λ it. it.moment) (λ it new. record it { moment = new })
    ∷ []

abbrev pub due_read : DueStep → DueRead
due_read due = record { address = Some due.address; moment = due.moment }

-- it needs its address
unfoldable pub due_of : DueRead → Option DueStep
due_of it = option_map (λ address. record { address = address; moment = it.moment }) it.address

-- ---- entries

-- the member that stands, where it is this one
unfoldable pub split_taken : Option StepRead → Option ℕ
split_taken None = None
split_taken (Some (Take split)) = Some split
split_taken (Some (Batch reply)) = None
split_taken (Some (Register reply)) = None
split_taken (Some (Due due)) = None

unfoldable pub batch_held : Option StepRead → Option ReplyRead
batch_held None = None
batch_held (Some (Take split)) = None
batch_held (Some (Batch reply)) = Some reply
batch_held (Some (Register reply)) = None
batch_held (Some (Due due)) = None

unfoldable pub register_held : Option StepRead → Option ReplyRead
register_held None = None
register_held (Some (Take split)) = None
register_held (Some (Batch reply)) = None
register_held (Some (Register reply)) = Some reply
register_held (Some (Due due)) = None

unfoldable pub due_held : Option StepRead → Option DueRead
due_held None = None
due_held (Some (Take split)) = None
due_held (Some (Batch reply)) = None
due_held (Some (Register reply)) = None
due_held (Some (Due due)) = Some due

unfoldable pub empty_entry : EntryRead
empty_entry = record { leg = 0; stamp = 0; node = 0; step = None }

unfoldable pub entry_rows : List (Row EntryRead)
entry_rows =
    numbers 1 (λ it. it.leg) (λ it new. record it { leg = new })
    ∷ numbers 2 (λ it. it.stamp) (λ it new. record it { stamp = new })
    ∷ shorts 3 (λ it. it.node) (λ it new. record it { node = new })
    ∷ choices 10 (λ it. split_taken it.step) (λ it split. record it { step = Some (Take split) })
    ∷ members empty_reply reply_rows 11 (λ it. batch_held it.step) (λ it reply. record it { step = Some (Batch reply) })
    ∷ members empty_reply reply_rows 12 (λ it. register_held it.step) (λ it reply. record it { step = Some (Register reply) })
    ∷ members empty_due due_rows 13 (λ it. due_held it.step) (λ it due. record it { step = Some (Due due) })
    ∷ []

unfoldable pub step_read : Step → StepRead
step_read (steps.Take split) = Take split
step_read (steps.Batch reply) = Batch (reply_read reply)
step_read (steps.Register reply) = Register (reply_read reply)
step_read (steps.Due address moment) = Due (record { address = Some address; moment = moment })

unfoldable pub step_of : StepRead → Option Step
step_of (Take split) = Some (steps.Take split)
step_of (Batch reply) = option_map steps.Batch (reply_of reply)
step_of (Register reply) = option_map steps.Register (reply_of reply)
step_of (Due due) = option_map (λ it. steps.Due it.address it.moment) (due_of due)

abbrev pub entry_read : Entry → EntryRead
entry_read entry = record { leg = entry.leg; stamp = entry.stamp; node = entry.node; step = Some (step_read entry.step) }

-- an entry needs a whole step
unfoldable pub entry_of : EntryRead → Option Entry
entry_of it = do
  read ← it.step
  step ← step_of read
  Some (record { leg = it.leg; stamp = it.stamp; node = it.node; step = step })

-- the step has a spelling
unfoldable pub fit_step : Step → Bool
fit_step (steps.Take split) = nat_lt split (2 ^ 32)
fit_step (steps.Batch reply) = fit reply_rows (reply_read reply)
fit_step (steps.Register reply) = fit reply_rows (reply_read reply)
fit_step (steps.Due address moment) = fit due_rows (due_read (record { address = address; moment = moment }))

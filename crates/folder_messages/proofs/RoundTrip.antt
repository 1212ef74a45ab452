-- The spelling of each message is read as that message.
use Rattle.std.proofs.Common.{◌≡◌, ℕ, ◌^◌, ◌<◌, true, ltb, List, length, Option, Some, None, Result, Ok, refl, sym, ap, ◌∙◌, inl, inr, arith, ◌&&◌}
use Rattle.std.specs.Prelude.{nat_lt}
use Rattle.std.proofs.lemmas.Bool.{ltb-true}
use Rattle.std.proofs.lemmas.Bool.Decides.{nat_tests}
use Rattle.proto_wire.specs.declared.fault.WireFault.{WireFault}
use Rattle.proto_wire.specs.Varint.{ItemFault, ◌>>=◌}
use Rattle.proto_wire.specs.Record.{Item}
use Rattle.proto_wire.specs.Places.{present}
use Rattle.proto_wire.specs.Message.{Row, fit, spelling, short_of, spelled_number, members}
use Rattle.proto_wire.proofs.Again.{IsTag}
use Rattle.proto_wire.proofs.RoundTrip.{IsAgain, AllCopies, Fills, Copies, AreSpelled, IsSpelled, again, written-again, tag-of, scalars-copies, numbers-spelled, members-step, with_some, if_some, bytes-copies, numbers-copies, messages-copies, members-copies, choices-copies, lists-copies}
use Rattle.typed_values.specs.declared.letter.Sender.{Sender}
use Rattle.typed_values.specs.declared.letter.Sender.TheVariants.{Split, Function}
use Rattle.typed_values.specs.Tables.{empty_address, address_rows}
use Rattle.typed_values.specs.Stored.{split_of, function_of}
use Rattle.typed_values.proofs.RoundTrip.{address-again}
use Rattle.sf_outside.specs.declared.call.Call.{Call}
use Rattle.run_record.specs.declared.entry.Entry.{Entry}
use Rattle.run_record.specs.declared.entry.Step.{Step}
use Rattle.run_record.specs.declared.entry.Step.TheVariants as steps
use Rattle.run_record.specs.declared.entry.Reply.{Reply}
use Rattle.folder_messages.specs.declared.call.CallRead.{CallRead}
use Rattle.folder_messages.specs.declared.due_step.DueStep.{DueStep}
use Rattle.folder_messages.specs.declared.entry.EntryRead.{EntryRead}
use Rattle.folder_messages.specs.declared.entry.StepRead.{StepRead}
use Rattle.folder_messages.specs.declared.entry.StepRead.TheVariants.{Take, Batch, Register, Due}
use Rattle.folder_messages.specs.Parts.{shorts, whole_value}
use Rattle.folder_messages.specs.Entries.{empty_call, call_rows, call_read, call_of, empty_pick, pick_rows, pick_read, pick_of, empty_reply, reply_rows, reply_read, reply_of}
use Rattle.folder_messages.specs.Entries.{empty_due, due_rows, due_read, due_of, split_taken, batch_held, register_held, due_held, empty_entry, entry_rows, step_read, step_of, entry_read, entry_of}
use Rattle.folder_messages.specs.Spelling.{call_value, reply_spelling, reply_value, due_spelling, due_value, entry_spelling, entry_value}
use Rattle.folder_messages.proofs.Lists.{all-back}

-- ---- numbers of 32 bits

abbrev said : ℕ → Result ℕ ItemFault
said number = Ok number

short-again : (item : Item) (number : ℕ) → nat_lt number (2 ^ 32) ≡ true → said item.number ≡ said number → short_of item ≡ Ok number
unfolding short_of
short-again item number fits says = let is : item.number ≡ number = cc in rw (is, fits) refl

pub shorts-spelled : (field : ℕ) → IsTag field 0 → AreSpelled field 0 short_of spelled_number (λ number. nat_lt number (2 ^ 32)) 0
shorts-spelled field tag number fits short = step (numbers-spelled field tag number wide short)
  where
    low : number < 2 ^ 32
    low = ltb-true _ _ fits

    wide : nat_lt number (2 ^ 64) ≡ true
    wide = grind (arith, nat_tests)

    step : IsSpelled field 0 (λ item. Ok item.number) 0 (spelled_number field number) number → IsSpelled field 0 short_of 0 (spelled_number field number) number
    step (inl none) = inl none
    step (inr one) = inr (record { item = one.item; belongs_there = one.belongs_there; read = one.read; says = short-again one.item number fits one.says })

abbrev pub shorts-copies : {M : Type 0} (field : ℕ) → (ltb 0 field && ltb field 536870912) ≡ true → (get : M → ℕ) (put : M → ℕ → M) → Copies (shorts field get put)
shorts-copies field h get put = scalars-copies field 0 short_of spelled_number (λ number. nat_lt number (2 ^ 32)) 0 get put (shorts-spelled field (tag-of field 0 h refl (omega arith)))

-- ---- a member beside other fields

-- a member of a oneof that stands beside other fields: `without` is the value with no member
abbrev pub beside-copies : {M N : Type 0} (field : ℕ) → (ltb 0 field && ltb field 536870912) ≡ true → (blank : N) (inner : List (Row N)) → IsAgain blank inner → (get : M → Option N) (put : M → N → M) (without : M → M)
    → ((into : M) → get (without into) ≡ None) → Copies (members blank inner field get put)
beside-copies field h blank inner again get put without lens = record {
  copy = λ value into. with_some put (get value) into;
  clear = λ value into. if_some (get value) (without into) into;
  reads = λ rows enters value into fits short clear. members-step rows field (tag-of field 2 h refl (omega arith)) blank inner again get put (without into) (lens into) enters (get value) into fits short clear;
}

-- ---- what was written is read again

pub written-whole : {M N : Type 0} (blank : M) (rows : List (Row M)) (read : N → M) (whole : M → Option N) → IsAgain blank rows → ((value : N) → whole (read value) ≡ Some value)
    → (value : N) (bytes : List ℕ) → bytes ≡ spelling rows (read value) → fit rows (read value) ≡ true → length bytes < 2 ^ 64 → whole_value rows blank whole bytes ≡ Ok value
written-whole {M} {N} blank rows read whole is back value bytes spelled fits short =
    ap (λ (r : Result M WireFault). r >>= λ it. present (length bytes) (whole it)) (written-again blank rows is (read value) bytes spelled fits short)
    ∙ ap (λ (o : Option N). present (length bytes) o) (back value)

-- ---- the messages of an entry

pub call-again : IsAgain empty_call call_rows
unfolding call_rows empty_call
call-again = again empty_call call_rows refl (
  numbers-copies 1 refl _ (λ it new. record it { leg = new }),
  (shorts-copies 2 refl _ (λ it new. record it { partition = new }), (shorts-copies 3 refl _ (λ it new. record it { turn = new }), tt)),
) (λ v. (refl, (refl, (refl, refl))))

abbrev pick-copies : AllCopies pick_rows
unfolding pick_rows empty_pick split_of function_of
pick-copies = (choices-copies 1 refl _ _, (members-copies 2 refl empty_address address_rows address-again _ _ empty_pick refl, tt))

pick-fills : (member : Option Sender) → Fills pick_rows pick-copies (record { member = member }) empty_pick
unfolding pick_rows empty_pick split_of function_of pick-copies
pick-fills None = (refl, (refl, refl))
pick-fills (Some (Split split)) = (refl, (refl, refl))
pick-fills (Some (Function address)) = (refl, (refl, refl))

pub pick-again : IsAgain empty_pick pick_rows
unfolding pick_rows
pick-again = again empty_pick pick_rows refl pick-copies (λ v. pick-fills v.member)

pub reply-again : IsAgain empty_reply reply_rows
unfolding reply_rows empty_reply
reply-again = again empty_reply reply_rows refl (
  messages-copies 1 refl empty_call call_rows call-again _ _ (λ into. refl),
  (
    messages-copies 2 refl empty_address address_rows address-again _ _ (λ into. refl),
    (
      numbers-copies 3 refl _ (λ it new. record it { moment = new }),
      (
        lists-copies 4 refl empty_pick pick_rows pick-again _ _ (record { there = λ into values. refl; last = λ into values others. refl }),
        (bytes-copies 5 refl _ (λ it new. record it { answer = new }), tt),
      ),
    ),
  ),
) (λ v. (refl, (refl, (refl, (refl, (refl, refl))))))

pub due-again : IsAgain empty_due due_rows
unfolding due_rows empty_due
due-again = again empty_due due_rows refl
    (messages-copies 1 refl empty_address address_rows address-again _ _ (λ into. refl), (numbers-copies 2 refl _ (λ it new. record it { moment = new }), tt)) (λ v. (refl, (refl, refl)))

abbrev no_step : EntryRead → EntryRead
no_step it = record it { step = None }

abbrev entry-copies : AllCopies entry_rows
unfolding entry_rows empty_entry split_taken batch_held register_held due_held
entry-copies = (
  numbers-copies 1 refl _ (λ it new. record it { leg = new }),
  (
    numbers-copies 2 refl _ (λ it new. record it { stamp = new }),
    (
      shorts-copies 3 refl _ (λ it new. record it { node = new }),
      (
        choices-copies 10 refl _ _,
        (
          beside-copies 11 refl empty_reply reply_rows reply-again _ _ no_step (λ into. refl),
          (beside-copies 12 refl empty_reply reply_rows reply-again _ _ no_step (λ into. refl), (beside-copies 13 refl empty_due due_rows due-again _ _ no_step (λ into. refl), tt)),
        ),
      ),
    ),
  ),
)

entry-fills : (leg stamp node : ℕ) (step : Option StepRead) → Fills entry_rows entry-copies (record { leg = leg; stamp = stamp; node = node; step = step }) empty_entry
unfolding entry_rows empty_entry split_taken batch_held register_held due_held entry-copies
entry-fills leg stamp node None = (refl, (refl, (refl, (refl, (refl, (refl, (refl, refl)))))))
entry-fills leg stamp node (Some (Take split)) = (refl, (refl, (refl, (refl, (refl, (refl, (refl, refl)))))))
entry-fills leg stamp node (Some (Batch reply)) = (refl, (refl, (refl, (refl, (refl, (refl, (refl, refl)))))))
entry-fills leg stamp node (Some (Register reply)) = (refl, (refl, (refl, (refl, (refl, (refl, (refl, refl)))))))
entry-fills leg stamp node (Some (Due due)) = (refl, (refl, (refl, (refl, (refl, (refl, (refl, refl)))))))

pub entry-again : IsAgain empty_entry entry_rows
unfolding entry_rows
entry-again = again empty_entry entry_rows refl entry-copies (λ v. entry-fills v.leg v.stamp v.node v.step)

-- ---- nothing is absent of a message that was written

pub reply-back : (reply : Reply) → reply_of (reply_read reply) ≡ Some reply
unfolding reply_of
reply-back reply = rw (all-back pick_of pick_read (λ sender. refl) reply.picks) refl

pub due-back : (due : DueStep) → due_of (due_read due) ≡ Some due
unfolding due_of
due-back due = refl

step-back : (step : Step) → step_of (step_read step) ≡ Some step
unfolding step_of step_read due_of
step-back (steps.Take split) = refl
step-back (steps.Batch reply) = rw (reply-back reply) refl
step-back (steps.Register reply) = rw (reply-back reply) refl
step-back (steps.Due address moment) = refl

pub entry-back : (entry : Entry) → entry_of (entry_read entry) ≡ Some entry
unfolding entry_of
entry-back entry = rw (step-back entry.step) refl

-- ---- whole messages

pub call-written : (bytes : List ℕ) (it : CallRead) (call : Call) → it ≡ call_read call → bytes ≡ spelling call_rows it → fit call_rows it ≡ true → length bytes < 2 ^ 64 → call_value bytes ≡ Ok call
unfolding call_value
call-written bytes it call is spelled fits short =
    written-whole empty_call call_rows call_read (λ it. Some (call_of it)) call-again (λ it. refl) call bytes (spelled ∙ ap (spelling call_rows) is) (ap (fit call_rows) (sym is) ∙ fits) short

pub reply-written : (bytes : List ℕ) (reply : Reply) → bytes ≡ reply_spelling reply → fit reply_rows (reply_read reply) ≡ true → length bytes < 2 ^ 64 → reply_value bytes ≡ Ok reply
unfolding reply_value reply_spelling
reply-written bytes reply spelled fits short = written-whole empty_reply reply_rows reply_read reply_of reply-again reply-back reply bytes spelled fits short

pub due-written : (bytes : List ℕ) (due : DueStep) → bytes ≡ due_spelling due → fit due_rows (due_read due) ≡ true → length bytes < 2 ^ 64 → due_value bytes ≡ Ok due
unfolding due_value due_spelling
due-written bytes due spelled fits short = written-whole empty_due due_rows due_read due_of due-again due-back due bytes spelled fits short

pub entry-written : (bytes : List ℕ) (entry : Entry) → bytes ≡ entry_spelling entry → fit entry_rows (entry_read entry) ≡ true → length bytes < 2 ^ 64 → entry_value bytes ≡ Ok entry
unfolding entry_value entry_spelling
entry-written bytes entry spelled fits short = written-whole empty_entry entry_rows entry_read entry_of entry-again entry-back entry bytes spelled fits short

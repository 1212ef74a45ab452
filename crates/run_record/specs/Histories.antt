-- What a record does to the cells and to the delayed letters of an address, and when.
use Rattle.std.specs.Prelude.{◌≡◌, ◌≤◌, ◌<◌, ℕ, ◌+◌, List, [], ◌∷◌, ◌++◌, map, count_by, Bool, false, if◌then◌else◌, Option, Some, None, IfSome}
use Rattle.std.specs.List.{AllByRecursion, flat_map}
use Rattle.typed_values.specs.declared.address.Address.{Address}
use Rattle.typed_values.specs.declared.value.TypedValue.{TypedValue}
use Rattle.typed_values.specs.declared.letter.Sender.{Sender}
use Rattle.typed_values.specs.declared.letter.Sender.TheVariants.{Function}
use Rattle.typed_values.specs.declared.letter.Letter.{Letter}
use Rattle.typed_values.specs.declared.cells.Cell.{Cell}
use Rattle.typed_values.specs.declared.cell.Expiry.TheVariants.{AfterWrite}
use Rattle.typed_values.specs.declared.record.Delay.{Delay}
use Rattle.typed_values.specs.Sameness.{same_bytes, same_address}
use Rattle.typed_values.specs.Cells.{found, is_expired}
use Rattle.typed_values.specs.Delays.{is_meant}
use Rattle.sf_outside.specs.Splits.{Lists}
use Rattle.state_cells.specs.Lifetimes.{Call as CellCall, Registers, Modifies, Deletes, Invokes, after_all as cells_after}
use Rattle.delayed_messages.specs.Laws.{Call as DelayCall, Cancels, after_all as delays_after, put_by, sent_by, delay_in}
use Rattle.address_routing.specs.declared.module.Module.{Module}
use Rattle.invocation.specs.declared.judging.Judged.TheVariants.{Flaw as Refused}
use Rattle.request_reply.specs.declared.flaw.Flaw.{Flaw}
use Rattle.request_reply.specs.declared.request.ToFunction.{ToFunction}
use Rattle.request_reply.specs.declared.request.ToFunction.TheVariants.{Invocation}
use Rattle.request_reply.specs.declared.request.PersistedValue.{PersistedValue}
use Rattle.sf_outside.specs.declared.ingress.IngressRecord.{IngressRecord}
use Rattle.run_record.specs.declared.entry.Entry.{Entry}
use Rattle.run_record.specs.declared.entry.Step.{Step}
use Rattle.run_record.specs.declared.entry.Step.TheVariants.{Take, Batch, Register, Due}
use Rattle.run_record.specs.declared.entry.Reply.{Reply}
use Rattle.run_record.specs.Machine.{State, first_state, letter_of, judged, reply_of, request_of_picks, step_with}
use Rattle.run_record.specs.Record.{replayed}
use Rattle.run_record.specs.Deliveries.{over_acts, of_actor}

-- the calls that a record makes on the cells of an address, and on its delays, in order
unfoldable pub cell_calls : Module → Lists → List Entry → Address → List CellCall
cell_calls m lists entries address = over_acts (of_actor (Function address) (λ before act. act.on_cells)) m lists first_state entries

unfoldable pub delay_calls : Module → Lists → List Entry → Address → List DelayCall
delay_calls m lists entries address = over_acts (of_actor (Function address) (λ before act. act.on_delays)) m lists first_state entries

-- ---- cells

-- the value that was written last under a name and not deleted since, with its moment
abbrev pub written_after : List ℕ → CellCall → Option (TypedValue × ℕ) → Option (TypedValue × ℕ)
written_after name (Registers spec) last = last
written_after name (Modifies other value moment) last = if same_bytes other name then Some (value, moment) else last
written_after name (Deletes other) last = if same_bytes other name then None else last
written_after name (Invokes moment) last = last

abbrev pub last_written : List ℕ → List CellCall → Option (TypedValue × ℕ) → Option (TypedValue × ℕ)
last_written name [] last = last
last_written name (call ∷ calls) last = last_written name calls (written_after name call last)

-- the cells of an address are what the accepted answers of its record made of none
abbrev pub CellsAreMade : Type 0
CellsAreMade =
    (m : Module) (lists : Lists) (last : State) (entries : List Entry) → replayed m lists first_state entries ≡ Some last
    → (address : Address) → (last.own (Function address)).cells ≡ cells_after (cell_calls m lists entries address) []

-- a value of a cell is the last that was written under its name, and its time is not over at a moment
pub record IsLastWritten (calls : List CellCall) (cells : List Cell) (moment : ℕ) (name : List ℕ) (value : TypedValue) : Type 0 where
  pub cell : Cell
  pub there : found name cells ≡ Some cell
  pub written : ℕ
  pub last : last_written name calls None ≡ Some (value, written)
  pub lives : is_expired moment cell ≡ false
  pub in_time : cell.spec.mode ≡ AfterWrite → moment < written + cell.spec.millis

abbrev pub AreLastWritten : List CellCall → List Cell → ℕ → List PersistedValue → Type 0
AreLastWritten calls cells moment carried = AllByRecursion (λ v. IfSome v.state_value (IsLastWritten calls cells moment v.state_name)) carried

abbrev pub CarriesLastWritten : List CellCall → List Cell → ℕ → ToFunction → Type 0
CarriesLastWritten calls cells moment (Invocation batch) = AreLastWritten calls cells moment batch.state

-- each value that a request carries was written last by an accepted answer, and has not expired
abbrev pub LastWrittenIsCarried : Type 0
LastWrittenIsCarried =
    (m : Module) (lists : Lists) (last : State) (entries : List Entry) → replayed m lists first_state entries ≡ Some last
    → (address : Address) (moment : ℕ) (picks : List Sender) (request : ToFunction)
    → let cells = (last.own (Function address)).cells in
    request_of_picks m cells (λ sender. last.mail sender address) address moment picks ≡ Some request
    → CarriesLastWritten (cell_calls m lists entries address) cells moment request

-- ---- delayed letters

abbrev pub DelaysAreMade : Type 0
DelaysAreMade =
    (m : Module) (lists : Lists) (last : State) (entries : List Entry) → replayed m lists first_state entries ≡ Some last
    → (address : Address) → (last.own (Function address)).delays ≡ delays_after (delay_calls m lists entries address) []

-- the letters that the steps Due of an address send, each with its step's moment
abbrev pub sent_in : Address → Step → List Letter → List (ℕ × Letter)
sent_in address (Due other moment) letters = if same_address other address then map (λ letter. (moment, letter)) letters else []
sent_in address (Take split) letters = []
sent_in address (Batch reply) letters = []
sent_in address (Register reply) letters = []

unfoldable pub sent_late : Module → Lists → List Entry → Address → List (ℕ × Letter)
sent_late m lists entries address = over_acts (λ before step act. sent_in address step act.letters) m lists first_state entries

abbrev pub late_letter : Address → ℕ × Delay → ℕ × Letter
late_letter address due = (due.0, letter_of (Function address) (delay_in due).target (delay_in due).argument)

-- what they send is what comes due of the delays that its answers put and cancel, each at the moment of its step
abbrev pub DueAreSent : Type 0
DueAreSent =
    (m : Module) (lists : Lists) (last : State) (entries : List Entry) → replayed m lists first_state entries ≡ Some last
    → (address : Address) → sent_late m lists entries address ≡ map (late_letter address) (sent_by (delay_calls m lists entries address) [])

-- each delayed letter is sent as often at most as an answer put it: what still waits is not yet sent
abbrev pub SentOnce : Type 0
SentOnce =
    (m : Module) (lists : Lists) (last : State) (entries : List Entry) → replayed m lists first_state entries ≡ Some last
    → (address : Address) (looked : Delay → Bool)
    → let calls = delay_calls m lists entries address in
    count_by looked (map delay_in (sent_by calls [])) + count_by looked (last.own (Function address)).delays ≤ count_by looked (put_by calls)

-- it is sent at its due or later
abbrev pub SentInTime : Type 0
SentInTime =
    (m : Module) (lists : Lists) (entries : List Entry) (address : Address)
    → AllByRecursion (λ due. (delay_in due).due ≤ due.0) (sent_by (delay_calls m lists entries address) [])

-- behind a cancellation none is sent that it is for and that was not put behind it
abbrev pub NotSentOnceCancelled : Type 0
NotSentOnceCancelled =
    (m : Module) (lists : Lists) (entries : List Entry) (address : Address) (token : List ℕ) (front behind : List DelayCall)
    → delay_calls m lists entries address ≡ front ++ Cancels address token ∷ behind
    → (looked : Delay → Bool) → ((delay : Delay) → is_meant address token delay ≡ false → looked delay ≡ false)
    → count_by looked (map delay_in (sent_by behind (delays_after (front ++ Cancels address token ∷ []) []))) ≤ count_by looked (put_by behind)

-- ---- moments, and answers that are not valid

-- the moments of the batches and registrations of an address, in order
abbrev pub moments_in : Address → Option Reply → List ℕ
moments_in address None = []
moments_in address (Some reply) = if same_address reply.address address then reply.moment ∷ [] else []

abbrev pub moments_of : Address → List Entry → List ℕ
moments_of address entries = flat_map (λ entry. moments_in address (reply_of entry.step)) entries

-- from a number on none is less than the one before it, and this is the last
abbrev pub RisesTo : ℕ → ℕ → List ℕ → Type 0
RisesTo last first [] = last ≡ first
RisesTo last first (moment ∷ moments) = (first ≤ moment) × RisesTo last moment moments

-- the moments of an address never fall, and the last is the one that the state keeps
abbrev pub MomentsNeverFall : Type 0
MomentsNeverFall =
    (m : Module) (lists : Lists) (st last : State) (entries : List Entry) → replayed m lists st entries ≡ Some last
    → (address : Address) → RisesTo (last.own (Function address)).seen (st.own (Function address)).seen (moments_of address entries)

abbrev pub OnlyValidAnswersCount : Type 0
OnlyValidAnswersCount =
    (m : Module) (found : Option IngressRecord) (st : State) (reply : Reply) (flaw : Flaw)
    → judged m (st.own (Function reply.address)) reply ≡ Refused flaw
    → (step_with m found st (Batch reply) ≡ None) × (step_with m found st (Register reply) ≡ None)

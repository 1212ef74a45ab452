-- The sequential machine: its state, what a step does, and the one rule by which all steps are made.
use Rattle.std.specs.Prelude.{ℕ, ◌+◌, nat_lt, nat_le, List, [], ◌∷◌, ◌++◌, length, Bool, true, ◌&&◌, if◌then◌else◌}
use Rattle.std.specs.Prelude.{Option, Some, None, map, filter, drop, count_by, slice_get, is_some, option_and_then}
use Rattle.std.specs.Option.{option_map, option_map_or}
use Rattle.typed_values.specs.declared.name.TypeName.{TypeName}
use Rattle.typed_values.specs.declared.address.Address.{Address}
use Rattle.typed_values.specs.declared.value.TypedValue.{TypedValue}
use Rattle.typed_values.specs.declared.letter.Sender.{Sender}
use Rattle.typed_values.specs.declared.letter.Sender.TheVariants.{Split, Function}
use Rattle.typed_values.specs.declared.letter.Letter.{Letter}
use Rattle.typed_values.specs.declared.cells.Cell.{Cell}
use Rattle.typed_values.specs.declared.record.Delay.{Delay}
use Rattle.typed_values.specs.declared.record.EgressRecord.{EgressRecord}
use Rattle.typed_values.specs.Sameness.{same_name, same_address, same_sender}
use Rattle.typed_values.specs.Delays.{due_at}
use Rattle.sf_outside.specs.declared.ingress.IngressRecord.{IngressRecord}
use Rattle.request_reply.specs.declared.request.ToFunction.{ToFunction}
use Rattle.request_reply.specs.Spelling.{to_spelling}
use Rattle.state_cells.specs.Lifetimes.{Call as CellCall, Registers, Modifies, Deletes, Invokes, after_all as cells_after}
use Rattle.delayed_messages.specs.Laws.{Call as DelayCall, Puts, Cancels, Asks, after_all as delays_after}
use Rattle.address_routing.specs.declared.module.Module.{Module}
use Rattle.address_routing.specs.declared.module.Endpoint.{Endpoint}
use Rattle.address_routing.specs.Routing.{splits_in, endpoint_of}
use Rattle.typed_values.specs.declared.cell.CellSpec.{CellSpec}
use Rattle.invocation.specs.declared.effects.Effects.{Effects}
use Rattle.invocation.specs.declared.effects.Change.{Change}
use Rattle.invocation.specs.declared.effects.Change.TheVariants.{Set, Clear}
use Rattle.invocation.specs.declared.effects.DelayChange.{DelayChange}
use Rattle.invocation.specs.declared.effects.DelayChange.TheVariants.{Add, Cancel}
use Rattle.invocation.specs.declared.judging.Judged.{Judged}
use Rattle.invocation.specs.declared.judging.Judged.TheVariants.{Accept, Register as Declare, Flaw}
use Rattle.invocation.specs.Judging.{judgement}
use Rattle.invocation.specs.Requests.{request_of}
use Rattle.run_record.specs.declared.entry.Step.{Step}
use Rattle.run_record.specs.declared.entry.Step.TheVariants.{Take, Batch, Register, Due}
use Rattle.run_record.specs.declared.entry.Reply.{Reply}
use Rattle.run_record.specs.Letters.{letters_of}

-- ---- the state

abbrev pub Mail : Type 0
Mail = Sender → Address → List TypedValue

-- what an actor has of its own: a split its count, a function the rest
pub record Own : Type 0 where
  -- how many records were taken
  pub taken : ℕ
  -- in order of registration
  pub cells : List Cell
  -- the moment of the last batch or registration
  pub seen : ℕ
  -- the delayed letters that it sent, in order of sending
  pub delays : List Delay

pub record State : Type 0 where
  pub own : Sender → Own
  -- of each pair of sender and target, the arguments that wait, in order
  pub mail : Mail
  -- of each pair of address and egress, the arguments that were given, in order
  pub egress : Address → TypeName → List TypedValue

abbrev pub nothing : Own
nothing = record { taken = 0; cells = []; seen = 0; delays = [] }

-- nothing has happened
abbrev pub first_state : State
first_state = record { own = λ actor. nothing; mail = λ sender target. []; egress = λ address name. [] }

-- ---- letters and egress records

-- whether a letter is of this sender to this target
abbrev pub is_of_pair : Sender → Address → Letter → Bool
is_of_pair sender target letter = same_sender letter.sender sender && same_address letter.target target

-- the arguments of the letters of one pair of sender and target, in order
unfoldable pub arguments_of : Sender → Address → List Letter → List TypedValue
arguments_of sender target letters = map (λ (letter : Letter). letter.argument) (filter (is_of_pair sender target) letters)

abbrev pub letter_of : Sender → Address → TypedValue → Letter
letter_of sender target argument = record { sender = sender; target = target; argument = argument }

-- letters go last in the mail of their pairs, in order
abbrev pub posted : Mail → List Letter → Mail
posted mail letters = λ sender target. mail sender target ++ arguments_of sender target letters

-- whether an egress record is one of this address to this egress
abbrev pub is_between : Address → TypeName → EgressRecord → Bool
is_between address egress r = same_address r.sender address && same_name r.egress egress

-- the arguments of an address' records to an egress, in order
unfoldable pub arguments_at : Address → TypeName → List EgressRecord → List TypedValue
arguments_at address egress records = map (λ (r : EgressRecord). r.argument) (filter (is_between address egress) records)

-- records go last in the egress of their pairs, in order
abbrev pub given : (Address → TypeName → List TypedValue) → List EgressRecord → Address → TypeName → List TypedValue
given egress records = λ address name. egress address name ++ arguments_at address name records

-- ---- the request of picked letters

infixl 10 ◌>>=◌
abbrev ◌>>=◌ : {A B : Type 0} → Option A → (A → Option B) → Option B
o >>= f = option_and_then f o

-- The letters to a target that picks stand for: the k-th pick of a sender stands for letter k of its mail, which must be
-- there. The first list is the picks before these.
abbrev pub picked_behind : Address → List Sender → (Sender → List TypedValue) → List Sender → Option (List Letter)
picked_behind target before mail [] = Some []
picked_behind target before mail (sender ∷ picks) = do
  argument ← slice_get (mail sender) (count_by (same_sender sender) before)
  others ← picked_behind target (before ++ sender ∷ []) mail picks
  Some (letter_of sender target argument ∷ others)

unfoldable pub picked : Address → (Sender → List TypedValue) → List Sender → Option (List Letter)
picked target mail picks = picked_behind target [] mail picks

-- a batch keeps its endpoint's limits
abbrev pub is_within : Endpoint → List Letter → ToFunction → Bool
is_within endpoint letters request =
    nat_lt 0 (length letters) && nat_le (length letters) endpoint.max_letters && nat_le (length (to_spelling request)) endpoint.max_bytes

-- The request to an address at a moment for some picks: all its cells as they are then, and the picked letters.
-- There is none where a picked letter is not there, the type has no endpoint, or a limit is passed.
unfoldable pub request_of_picks : Module → List Cell → (Sender → List TypedValue) → Address → ℕ → List Sender → Option ToFunction
request_of_picks m cells mail address moment picks = do
  endpoint ← endpoint_of m address.kind
  letters ← picked address mail picks
  let request = request_of address cells moment letters
  if is_within endpoint letters request then Some request else None

-- ---- who makes a step

-- the split whose record is taken, or the function
abbrev pub actor_of : Step → Sender
actor_of (Take split) = Split split
actor_of (Batch reply) = Function reply.address
actor_of (Register reply) = Function reply.address
actor_of (Due address moment) = Function address

-- the answer that a step is made of, if it is made of one
abbrev pub reply_of : Step → Option Reply
reply_of (Take split) = None
reply_of (Batch reply) = Some reply
reply_of (Register reply) = Some reply
reply_of (Due address moment) = None

-- of which senders the first letters leave: a registration delivers none
abbrev pub leaving : Step → List Sender
leaving (Take split) = []
leaving (Batch reply) = reply.picks
leaving (Register reply) = []
leaving (Due address moment) = []

-- ---- what a step does

pub record Act : Type 0 where
  -- to its actor's own: how many records were taken then, the calls on its cells and its delays, and the moment of the last
  pub taken : ℕ
  pub on_cells : List CellCall
  pub seen : ℕ
  pub on_delays : List DelayCall
  -- the letters that it sends, and what it gives to egresses, in order
  pub letters : List Letter
  pub egress : List EgressRecord

-- nothing is done
abbrev pub idle : Own → Act
idle own = record { taken = own.taken; on_cells = []; seen = own.seen; on_delays = []; letters = []; egress = [] }

-- the split's next record becomes one letter for each target
abbrev pub took : Module → ℕ → Own → IngressRecord → Act
took m split own next = record (idle own) { taken = own.taken + 1; letters = letters_of m split next }

abbrev pub take_act : Module → ℕ → Option IngressRecord → Own → Option Act
take_act m split found own = if nat_lt split (splits_in m.ingresses) then option_map (took m split own) found else None

abbrev pub cell_call : ℕ → Change → CellCall
cell_call moment (Set name value) = Modifies name value moment
cell_call moment (Clear name) = Deletes name

abbrev pub delay_call : Address → DelayChange → DelayCall
delay_call address (Add delay) = Puts delay
delay_call address (Cancel token) = Cancels address token

-- An accepted result takes effect. Values that have expired go, and those whose time counts from an invocation begin it anew;
-- then come its mutations, its messages, its delays and cancellations and its egress, each in order.
abbrev pub served : Reply → Effects → Own → Act
served reply effects own = record {
  taken = own.taken;
  on_cells = Invokes reply.moment ∷ map (cell_call reply.moment) effects.mutations;
  seen = reply.moment;
  on_delays = map (delay_call reply.address) effects.delays;
  letters = effects.letters;
  egress = effects.egress;
}

abbrev pub batch_act : Reply → Judged → Own → Option Act
batch_act reply (Accept effects) own = Some (served reply effects own)
batch_act reply (Declare specs) own = None
batch_act reply (Flaw flaw) own = None

-- The values that an accepted answer misses become cells. All else stays, the letters too.
abbrev pub declared : Reply → List CellSpec → Own → Act
declared reply specs own = record (idle own) { on_cells = map Registers specs; seen = reply.moment }

abbrev pub register_act : Reply → Judged → Own → Option Act
register_act reply (Accept effects) own = None
register_act reply (Declare specs) own = Some (declared reply specs own)
register_act reply (Flaw flaw) own = None

-- the delayed letter that comes due first is sent, where its moment has come
abbrev pub later_letter : Address → Delay × List Delay → Letter
later_letter address due = letter_of (Function address) due.0.target due.0.argument

abbrev pub sent_later : Address → ℕ → Own → Delay × List Delay → Act
sent_later address moment own due = record (idle own) { on_delays = Asks moment ∷ []; letters = later_letter address due ∷ [] }

abbrev pub judged : Module → Own → Reply → Judged
judged m own reply = judgement m own.cells reply.address reply.moment reply.answer

-- What a step does, by its actor's own and the record that its split has next. Without it the step is not allowed.
abbrev pub act_of : Module → Option IngressRecord → Own → Step → Option Act
act_of m found own (Take split) = take_act m split found own
act_of m found own (Batch reply) = batch_act reply (judged m own reply) own
act_of m found own (Register reply) = register_act reply (judged m own reply) own
act_of m found own (Due address moment) = option_map (sent_later address moment own) (due_at moment own.delays)

-- ---- the one rule

-- an answer is taken where its moment is not before its address' last and its picks give a request
abbrev pub is_asked : Module → Own → Mail → Reply → Bool
is_asked m own mail reply =
    nat_le own.seen reply.moment && is_some (request_of_picks m own.cells (λ sender. mail sender reply.address) reply.address reply.moment reply.picks)

-- what the answer of a reply is, where it is taken
abbrev pub answer_by : Module → Own → Mail → Reply → Option Judged
answer_by m own mail reply = if is_asked m own mail reply then Some (judged m own reply) else None

-- a step may be made, as far as letters go
abbrev pub may_act : Module → Own → Mail → Step → Bool
may_act m own mail step = option_map_or (is_asked m own mail) (reply_of step) true

-- what an act leaves of its actor's own
abbrev pub left : Act → Own → Own
left act own = record {
  taken = act.taken;
  cells = cells_after act.on_cells own.cells;
  seen = act.seen;
  delays = delays_after act.on_delays own.delays;
}

-- letters to an actor leave: from the front of each pair, as many as its sender stands in the list
abbrev pub unpicked : Sender → List Sender → Mail → Mail
unpicked actor picks mail = λ sender target.
    if same_sender actor (Function target)
    then drop (count_by (same_sender sender) picks) (mail sender target)
    else mail sender target

-- the state after an act: letters leave, the actor's own changes, and what it sends and gives stands last
abbrev pub acted : Step → Act → State → State
acted step act st = record {
  own = λ actor. if same_sender (actor_of step) actor then left act (st.own actor) else st.own actor;
  mail = posted (unpicked (actor_of step) (leaving step) st.mail) act.letters;
  egress = given st.egress act.egress;
}

-- what a step does in a state, where it is allowed and the split's next record is this one
unfoldable pub made : Module → Option IngressRecord → State → Step → Option Act
made m found st step =
    let own = st.own (actor_of step) in
    if may_act m own st.mail step then act_of m found own step else None

-- the state after it
abbrev pub step_with : Module → Option IngressRecord → State → Step → Option State
step_with m found st step = option_map (λ act. acted step act st) (made m found st step)

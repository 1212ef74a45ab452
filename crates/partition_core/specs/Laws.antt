-- A partition's work is the sequential machine's state, whatever steps it makes.
use Rattle.std.specs.Prelude.{◌≡◌, ◌≤◌, ◌++◌, ℕ, true, List, take, map, Option, Some}
use Rattle.std.specs.Option.{option_map}
use Rattle.std.specs.List.{AllByRecursion, IsDistinct, list_any}
use Rattle.sf_outside.specs.declared.ingress.IngressRecord.{IngressRecord}
use Rattle.typed_values.specs.declared.address.Address.{Address}
use Rattle.typed_values.specs.declared.letter.Sender.{Sender}
use Rattle.typed_values.specs.declared.letter.Letter.{Letter}
use Rattle.typed_values.specs.declared.record.Delay.{Delay}
use Rattle.typed_values.specs.Sameness.{same_address}
use Rattle.typed_values.specs.Delays.{due_at}
use Rattle.typed_values.specs.declared.record.EgressRecord.{EgressRecord}
use Rattle.batch_queue.specs.Post.{Post, is_ready}
use Rattle.piece_messages.specs.declared.address_state.AddressState.{AddressState}
use Rattle.address_routing.specs.declared.module.Module.{Module}
use Rattle.address_routing.specs.declared.module.Endpoint.{Endpoint}
use Rattle.address_routing.specs.Routing.{endpoint_of}
use Rattle.invocation.specs.Requests.{request_of}
use Rattle.run_record.specs.declared.entry.Reply.{Reply}
use Rattle.run_record.specs.declared.entry.Step.{Step}
use Rattle.run_record.specs.declared.entry.Step.TheVariants.{Take, Batch, Register, Due}
use Rattle.run_record.specs.Machine.{Act, is_within, request_of_picks, act_of, arguments_of, sent_later, is_asked, made, acted}
use Rattle.partition_core.specs.Batches.{sender_of}
use Rattle.partition_core.specs.declared.kept_work.KeptWork.{KeptWork}
use Rattle.partition_core.specs.Work.{Work, own_in, own_of, mail_in, state_of, done, counted}
use Rattle.partition_core.specs.KeptWork.{kept_work, IsKeptOf}

-- each address' letters are letters to it
abbrev pub IsOwned : Work → Type 0
IsOwned work = (address : Address) → AllByRecursion (λ (letter : Letter). letter.target ≡ address) (work.post.letters address)

abbrev pub sender_of_due : Delay × List Delay → Address
sender_of_due due = due.0.sender

-- A partition's steps are in its own order: a batch is that of the letters in flight, and of all delayed letters that are due the
-- first is sent.
abbrev pub IsInTurn : Work → Step → Type 0
IsInTurn work (Take split) = Unit {0}
IsInTurn work (Batch reply) = reply.picks ≡ map sender_of (take (work.post.in_flight reply.address) (work.post.letters reply.address))
IsInTurn work (Register reply) = Unit {0}
IsInTurn work (Due address moment) = option_map sender_of_due (due_at moment work.delays) ≡ Some address

-- what is done of a step that the machine makes is the machine's state behind it, and the letters stay with their targets
abbrev pub IsTheMachine : Type 0
IsTheMachine =
    (m : Module) (found : Option IngressRecord) (counts : ℕ → ℕ) (given : List EgressRecord) (work : Work) (step : Step) (act : Act)
    → made m found (state_of counts given work) step ≡ Some act → IsOwned work → IsInTurn work step
    → (acted step act (state_of counts given work) ≡ state_of (counted step act counts) (given ++ act.egress) (done step act work))
    × IsOwned (done step act work)

-- ---- the machine makes the steps that are in turn

-- the letters in flight of an address
abbrev pub flying : Address → Work → List Letter
flying address work = take (work.post.in_flight address) (work.post.letters address)

-- An answer to the letters in flight is asked for, where its moment is none of the past and the request is within the limits;
-- and what its picks ask is the request of these letters.
abbrev pub AnswersAreAsked : Type 0
AnswersAreAsked =
    (m : Module) (work : Work) (reply : Reply) (endpoint : Endpoint)
    → IsOwned work → reply.picks ≡ map sender_of (flying reply.address work) → work.seen reply.address ≤ reply.moment
    → endpoint_of m reply.address.kind ≡ Some endpoint
    → is_within endpoint (flying reply.address work) (request_of reply.address (work.cells reply.address) reply.moment (flying reply.address work)) ≡ true
    → (is_asked m (own_of work reply.address) (mail_in work) reply ≡ true)
    × (request_of_picks m (work.cells reply.address) (λ sender. mail_in work sender reply.address) reply.address reply.moment reply.picks
    ≡ Some (request_of reply.address (work.cells reply.address) reply.moment (flying reply.address work)))

-- the delayed letter that is due first of all is the one that its sender's machine sends
abbrev pub DueIsMade : Type 0
DueIsMade =
    (m : Module) (found : Option IngressRecord) (work : Work) (moment : ℕ) (due : Delay × List Delay) → due_at moment work.delays ≡ Some due
    → act_of m found (own_of work due.0.sender) (Due due.0.sender moment) ≡ Some (sent_later due.0.sender moment (own_of work due.0.sender) due)

-- ---- what a checkpoint keeps

-- work that is kept is the same state of the machine: its actors have the same of their own, and its mail is the same
abbrev pub KeptIsTheState : Type 0
KeptIsTheState =
    (counts : ℕ → ℕ) (given : List EgressRecord) (work : Work) (kept : KeptWork) → IsKeptOf work kept
    → (own_in counts (kept_work kept.letters kept.states kept.delays) ≡ own_in counts work)
    × (mail_in (kept_work kept.letters kept.states kept.delays) ≡ mail_in work)
    × (state_of counts given (kept_work kept.letters kept.states kept.delays) ≡ state_of counts given work)

-- who stands in line is ready
abbrev pub AreReady : Post → Type 0
AreReady post = AllByRecursion (λ (address : Address). is_ready post address ≡ true) post.ready

-- in line stands who is ready, each once
pub record IsLined (post : Post) : Type 0 where
  pub ready : AreReady post
  pub lined : (address : Address) → is_ready post address ≡ true → list_any (same_address address) post.ready ≡ true
  pub once : IsDistinct same_address post.ready

-- letters wait with their targets, who all stand in line
pub record Await (work : Work) (letters : List Letter) : Type 0 where
  pub owned : IsOwned work
  pub none_in_flight : (address : Address) → work.post.in_flight address ≡ 0
  pub line : IsLined work.post
  pub mail : (sender : Sender) (target : Address) → mail_in work sender target ≡ arguments_of sender target letters

-- all letters that were kept wait, whatever they are
abbrev pub KeptLettersWait : Type 0
KeptLettersWait = (letters : List Letter) (states : List AddressState) (delays : List Delay) → Await (kept_work letters states delays) letters

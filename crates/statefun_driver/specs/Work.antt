-- What a run has done, as a control of the turns.
use Rattle.std.specs.Prelude.{◌≡◌, ℕ, ◌+◌, ◌<◌, ◌≤◌, true, get_or, vec_len, length, List, [], map, take, Option, Some, None, Result, Ok, Err}
use Rattle.typed_values.specs.declared.address.Address.{Address}
use Rattle.typed_values.specs.declared.cells.Cell.{Cell}
use Rattle.request_reply.specs.declared.flaw.Reason.{Reason}
use Rattle.request_reply.specs.Spelling.{from_value}
use Rattle.state_cells.specs.Kept.{most_cells}
use Rattle.batch_queue.specs.Post.{is_ready}
use Rattle.address_routing.specs.declared.module.Module.{Module}
use Rattle.address_routing.specs.Routing.{url_of}
use Rattle.invocation.specs.declared.judging.Judged.TheVariants.{Accept, Register as Declare}
use Rattle.invocation.specs.Laws.{TakesAll, AreNew}
use Rattle.run_record.specs.declared.entry.Entry.{Entry}
use Rattle.run_record.specs.Egress.{records_spelled}
use Rattle.partition_core.specs.Batches.{sender_of, request_bytes}
use Rattle.partition_core.specs.Kept.{work_of}
use Rattle.statefun_driver.specs.declared.attempts.Asked.{Asked}
use Rattle.statefun_driver.specs.declared.attempts.Answer.{Answer}
use Rattle.statefun_driver.specs.declared.settled.Valid.{Valid}
use Rattle.statefun_driver.specs.declared.settled.Valid.TheVariants.{Accepted, Missed}
use Rattle.statefun_driver.specs.declared.job.Job.{Job}
use Rattle.statefun_driver.specs.declared.progress.Progress.{Progress}
use Rattle.statefun_driver.specs.declared.end.End.{End}
use Rattle.statefun_driver.specs.Seen.{Seen}
use Rattle.statefun_driver.specs.Turns.{Plan, Control, Asking, Opening, Asked as Batch, Came, Answers, Failed, at, dues, finish, open_batch, send_due, settled}
use Rattle.statefun_driver.specs.Traces.{Leads, Ends, IsFront}

abbrev pub plan_of : Job → Plan
plan_of job = record { routes = job.routes; turns = job.turns; rests = job.rests }

unfoldable pub here : Progress → Control
here p = record {
  turn = p.turn;
  moment = p.moment;
  calls = p.calls;
  left = p.left;
  counts = λ split. get_or p.counts.items split 0;
  work = work_of p.partition;
  entries = p.entries;
  before = p.before;
  phase = Asking;
}

-- how many splits it counts
unfoldable pub splits_of : Progress → ℕ
splits_of p = vec_len p.counts

-- a part of a run led there, or the run ended in it
abbrev pub Led : {A : Type 0} → Plan → Control → Seen → Result A End → Control → List Entry → Seen → Type 0
Led plan c o (Ok x) d entries p = Leads plan c o d p
Led plan c o (Err end) d entries p = Ends plan c o entries end p

-- the same, where it depends on the answer
abbrev pub LedBy : {A : Type 0} → Plan → Control → Seen → Result A End → (A → Control) → List Entry → Seen → Type 0
LedBy plan c o (Ok x) there entries p = Leads plan c o (there x) p
LedBy plan c o (Err end) there entries p = Ends plan c o entries end p

-- the entries are a front of those behind the delayed letters that are due
abbrev pub IsSentFront : Plan → Control → List Entry → Type 0
IsSentFront plan c entries = IsFront entries (send_due plan.routes dues c).entries

-- a part of a run that goes on with the same turn, and takes no record
pub record IsCalledBy (old new : Progress) : Type 0 where
  pub turn : new.turn ≡ old.turn
  pub counts : new.counts ≡ old.counts

abbrev pub called : Progress → Progress
called p = record p { calls = p.calls + 1 }

-- ---- batches

abbrev pub Reasons : Type 0
Reasons = List Reason

-- the batch of an address that is in flight, behind attempts that failed for these reasons
abbrev pub flying : Address → List Reason → Control → Batch
flying address reasons c = record { address = address; letters = take (c.work.post.in_flight address) (c.work.post.letters address); reasons = reasons }

abbrev pub opening_at : Address → List Reason → Control → Control
opening_at address reasons c = at (Opening (flying address reasons c)) c

-- so the batch in flight is asked for
pub record IsAskedIn (m : Module) (address : Address) (c : Control) (asked : Asked) : Type 0 where
  pub whose : asked.address ≡ address
  pub url : url_of m address.kind ≡ Some asked.url
  pub picks : asked.batch.picks ≡ map sender_of (flying address [] c).letters
  pub request : asked.batch.request ≡ request_bytes address (c.work.cells address) c.moment (flying address [] c).letters

-- ---- answers

abbrev pub valid_as : Valid → Came
valid_as (Accepted answer effects) = Answers answer (Accept effects)
valid_as (Missed answer specs) = Answers answer (Declare specs)

abbrev pub came_as : Result Valid Reason → Came
came_as (Ok valid) = valid_as valid
came_as (Err reason) = Failed reason

-- cells take what a valid answer does to them, and of the values that it misses some are new
abbrev pub IsTaken : List Cell → Valid → Type 0
IsTaken cells (Accepted answer effects) = TakesAll cells effects.mutations
IsTaken cells (Missed answer specs) = AreNew cells specs × (0 < length specs)

-- what a valid answer gives to egresses is what it spells
abbrev pub IsSpelled : Address → Valid → Type 0
IsSpelled address (Accepted answer effects) = records_spelled address (from_value answer) ≡ effects.egress
IsSpelled address (Missed answer specs) = records_spelled address (from_value answer) ≡ []

-- where the turns go on behind a valid answer
abbrev pub replied : Plan → Address → Answer → Control → Control
replied plan address answer c = settled plan (flying address [] c) answer.call c (valid_as answer.valid)

-- the turn ends, or the letters go again in a batch of as many at most
abbrev pub served_on : Plan → Address → Option ℕ → Control → Control
served_on plan address None c = finish plan c
served_on plan address (Some letters) c = open_batch plan address letters c

-- the address waits with so many letters, and has more cells than it had, though no more than any may have
pub record GoesAgain (address : Address) (most : ℕ) (old new : Control) (letters : ℕ) : Type 0 where
  pub some : 1 ≤ letters
  pub fewer : letters ≤ most
  pub waits : is_ready new.work.post address ≡ true
  pub more : length (old.work.cells address) < length (new.work.cells address)
  pub bound : length (new.work.cells address) ≤ most_cells

abbrev pub IfAgain : Address → ℕ → Control → Control → Option ℕ → Type 0
IfAgain address most old new None = Unit {0}
IfAgain address most old new (Some letters) = GoesAgain address most old new letters

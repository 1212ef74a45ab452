-- What a partition has to do: the machine's state, with the letters of an address by arrival and all delayed letters by put.
use Rattle.std.specs.Prelude.{◌≡◌, ℕ, nat_eq, Bool, true, false, ◌&&◌, List, [], ◌∷◌, filter, if◌then◌else◌, Option, Some, None}
use Rattle.typed_values.specs.declared.address.Address.{Address}
use Rattle.typed_values.specs.declared.letter.Sender.{Sender}
use Rattle.typed_values.specs.declared.letter.Sender.TheVariants.{Split, Function}
use Rattle.typed_values.specs.declared.letter.Letter.{Letter}
use Rattle.typed_values.specs.declared.cells.Cell.{Cell}
use Rattle.typed_values.specs.declared.record.Delay.{Delay}
use Rattle.typed_values.specs.declared.record.EgressRecord.{EgressRecord}
use Rattle.typed_values.specs.Sameness.{same_address}
use Rattle.typed_values.specs.Delays.{due_at}
use Rattle.state_cells.specs.Lifetimes.{after_all as cells_after}
use Rattle.delayed_messages.specs.Laws.{after_all as delays_after}
use Rattle.batch_queue.specs.Post.{Post, no_post, put, taken, returned}
use Rattle.run_record.specs.declared.entry.Step.{Step}
use Rattle.run_record.specs.declared.entry.Step.TheVariants.{Take, Batch, Register, Due}
use Rattle.run_record.specs.Machine.{State, Own, Act, Mail, nothing, arguments_of, arguments_at, actor_of, sent_later}

pub record Work : Type 0 where
  -- the letters that wait, and who waits longest
  pub post : Post
  -- of each address its cells, and the moment of its last batch or registration
  pub cells : Address → List Cell
  pub seen : Address → ℕ
  -- the delayed letters of all addresses, in order of put
  pub delays : List Delay

abbrev pub no_work : Work
no_work = record { post = no_post; cells = λ address. []; seen = λ address. 0; delays = [] }

-- ---- the state of the sequential machine that it is

abbrev pub is_from : Address → Delay → Bool
is_from address delay = same_address delay.sender address

-- what an actor has of its own, beside the counts of the splits
abbrev pub own_in : (ℕ → ℕ) → Work → Sender → Own
own_in counts work (Split split) = record nothing { taken = counts split }
own_in counts work (Function address) = record {
  taken = 0;
  cells = work.cells address;
  seen = work.seen address;
  delays = filter (is_from address) work.delays;
}

abbrev pub own_of : Work → Address → Own
own_of work address = own_in (λ split. 0) work (Function address)

abbrev pub mail_in : Work → Mail
mail_in work = λ sender target. arguments_of sender target (work.post.letters target)

-- beside the counts of the splits, and what was given to egresses
unfoldable pub state_of : (ℕ → ℕ) → List EgressRecord → Work → State
state_of counts given work = record {
  own = own_in counts work;
  mail = mail_in work;
  egress = λ address name. arguments_at address name given;
}

-- ---- what a step's act makes of it

-- a batch's letters leave for good, and those of a registration wait again
abbrev pub settled : Step → Post → Post
settled (Take split) post = post
settled (Batch reply) post = taken reply.address post
settled (Register reply) post = returned reply.address post
settled (Due address moment) post = post

abbrev pub put_all : List Letter → Post → Post
put_all [] post = post
put_all (letter ∷ letters) post = put_all letters (put letter post)

-- letters arrive
abbrev pub with_posted : List Letter → Work → Work
with_posted letters work = record work { post = put_all letters work.post }

-- what an actor has now, if it is an address
abbrev pub set_for : {A : Type 0} → Sender → A → (Address → A) → Address → A
set_for (Split split) value f = f
set_for (Function address) value f = λ other. if same_address address other then value else f other

abbrev pub cells_of : Sender → (Address → List Cell) → List Cell
cells_of (Split split) cells = []
cells_of (Function address) cells = cells address

unfoldable pub done : Step → Act → Work → Work
done step act work = record {
  post = put_all act.letters (settled step work.post);
  cells = set_for (actor_of step) (cells_after act.on_cells (cells_of (actor_of step) work.cells)) work.cells;
  seen = set_for (actor_of step) act.seen work.seen;
  delays = delays_after act.on_delays work.delays;
}

-- a split's count, where it made the step
abbrev pub counted : Step → Act → (ℕ → ℕ) → ℕ → ℕ
counted (Take split) act counts = λ other. if nat_eq split other then act.taken else counts other
counted (Batch reply) act counts = counts
counted (Register reply) act counts = counts
counted (Due address moment) act counts = counts

-- no address is ready, and no delayed letter waits
abbrev pub is_empty : {A : Type 0} → List A → Bool
is_empty [] = true
is_empty (x ∷ xs) = false

unfoldable pub is_idle : Work → Bool
is_idle work = is_empty work.post.ready && is_empty work.delays

-- the delayed letter that is due first of all is sent, where its moment has come
unfoldable pub sent : ℕ → Delay × List Delay → Work → Work
sent moment due work = let sender = due.0.sender in done (Due sender moment) (sent_later sender moment (own_of work sender) due) work

abbrev pub IsSentBy : ℕ → Option (Delay × List Delay) → Work → Option Address → Work → Type 0
IsSentBy moment None old sender new = (sender ≡ None) × (new ≡ old)
IsSentBy moment (Some due) old sender new = (sender ≡ Some due.0.sender) × (new ≡ sent moment due old)

abbrev pub IsSent : ℕ → Work → Option Address → Work → Type 0
IsSent moment old sender new = IsSentBy moment (due_at moment old.delays) old sender new

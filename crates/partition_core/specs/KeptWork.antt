-- What a checkpoint keeps of a partition's work, and the work that it stands for.
use Rattle.std.specs.Prelude.{◌≡◌, ◌≤◌, ℕ, true, List}
use Rattle.std.specs.List.{AllByRecursion, list_all}
use Rattle.typed_values.specs.declared.address.Address.{Address}
use Rattle.typed_values.specs.declared.letter.Letter.{Letter}
use Rattle.typed_values.specs.declared.cells.Cell.{Cell}
use Rattle.typed_values.specs.declared.record.Delay.{Delay}
use Rattle.batch_queue.specs.Post.{no_post, IsAll}
use Rattle.piece_messages.specs.declared.address_state.AddressState.{AddressState}
use Rattle.piece_messages.specs.Stands.{cells_at, seen_at}
use Rattle.folder_form.specs.Pieces.{are_cells, are_in_order, latest_state}
use Rattle.partition_core.specs.declared.kept_work.KeptWork.{KeptWork}
use Rattle.partition_core.specs.Work.{Work, put_all}

-- the work that letters, states and delays stand for: the letters arrive one by one, none is in flight
abbrev pub kept_work : List Letter → List AddressState → List Delay → Work
kept_work letters states delays = record { post = put_all letters no_post; cells = cells_at states; seen = seen_at states; delays = delays }

-- no address was served after a moment, and no cell was stamped after it
abbrev pub AreUpTo : ℕ → (Address → List Cell) → (Address → ℕ) → Type 0
AreUpTo moment cells seen = (address : Address) → (seen address ≤ moment) × AllByRecursion (λ (cell : Cell). cell.stamp ≤ moment) (cells address)

-- States stand for what each address has beside its letters, once each, in byte order of their encoded addresses; and what is in
-- them is such as a piece may have.
pub record StandFor (own : Address → List Cell) (last : Address → ℕ) (states : List AddressState) : Type 0 where
  pub cells : cells_at states ≡ own
  pub seen : seen_at states ≡ last
  pub in_order : are_in_order states ≡ true
  pub sound : list_all (λ (state : AddressState). are_cells state.cells) states ≡ true
  pub moments : (moment : ℕ) → AreUpTo moment own last → latest_state states ≤ moment

-- all of the work is kept
pub record IsKeptOf (work : Work) (kept : KeptWork) : Type 0 where
  pub letters : IsAll work.post kept.letters
  pub states : StandFor work.cells work.seen kept.states
  pub delays : kept.delays ≡ work.delays

-- A run over a folder: legs, one after the other, and checkpoints between them.
use Rattle.std.specs.Prelude.{◌≡◌, ℕ, ◌+◌, ◌%◌, nat_lt, nat_eq, get_or, List, [], ◌∷◌, ◌++◌, length, filter, not, Bool, false, ◌&&◌, ◌||◌, Option, Some, None}
use Rattle.std.specs.Option.{option_to_list, is_some}
use Rattle.batch_queue.specs.Post.{IsAll}
use Rattle.address_routing.specs.Routing.{splits_in}
use Rattle.run_record.specs.Egress.{egress_of}
use Rattle.piece_messages.specs.declared.piece.Piece.{Piece}
use Rattle.piece_messages.specs.Stands.{cells_at, seen_at}
use Rattle.folder_form.specs.declared.mark.Mark.{Mark}
use Rattle.folder_form.specs.Folders.{Checkpoint, takes}
use Rattle.partition_core.specs.Work.{is_idle, is_empty}
use Rattle.statefun_driver.specs.Seen.{Event, Seen}
use Rattle.statefun_driver.specs.Turns.{Plan, Control, Origin, Asking, first_control, is_done, origin_of}
use Rattle.statefun_driver.specs.Traces.{Trace}
use Rattle.checkpoint_drive.specs.declared.options.Options.{Options}

-- ---- what stands between legs

pub record Rest : Type 0 where
  -- what the turns began with since the newest checkpoint, and where they are
  pub origin : Origin
  pub control : Control
  -- how many legs of the run were made
  pub legs : ℕ
  -- the newest checkpoint's number, 0 for none
  pub newest : ℕ
  -- the leg before ended with nothing left, and not all of it is in a checkpoint
  pub unheld : Bool

abbrev pub first_rest : Plan → Origin → ℕ → Rest
first_rest plan origin newest = record { origin = origin; control = first_control plan origin; legs = 0; newest = newest; unheld = false }

-- ---- legs

-- a checkpoint is taken behind every so many legs, and, where the run drains, behind a leg that follows one without work
abbrev pub is_asked : Options → Rest → Bool
is_asked options rest = rest.unheld || nat_eq ((rest.legs + 1) % options.every) 0

-- ---- checkpoints

-- so many records of each split were taken
pub record AreCounts (splits : ℕ) (taken : List ℕ) (counts : ℕ → ℕ) : Type 0 where
  pub each : (λ split. get_or taken split 0) ≡ counts
  pub len : length taken ≡ splits

-- a piece holds what the only partition has to do, with the steps since the checkpoint before
pub record IsPieceOf (control : Control) (piece : Piece) : Type 0 where
  pub partition : piece.partition ≡ 0
  pub entries : piece.entries ≡ filter (λ entry. not (takes entry)) control.entries
  pub egress : piece.egress ≡ egress_of control.entries
  pub letters : IsAll control.work.post piece.letters
  pub cells : cells_at piece.states ≡ control.work.cells
  pub seen : seen_at piece.states ≡ control.work.seen
  pub delays : piece.delays ≡ control.work.delays

pub record IsCheckpointOf (plan : Plan) (newest : ℕ) (control : Control) (mark : Mark) (kept : Piece) : Type 0 where
  pub number : mark.number ≡ newest + 1
  pub leg : mark.leg ≡ control.turn
  pub moment : mark.moment ≡ control.moment
  pub taken : AreCounts (splits_in plan.routes.ingresses) mark.taken control.counts
  pub takes : mark.takes ≡ filter takes control.entries
  pub piece : IsPieceOf control kept

-- no letter is on the way: all that was sent is in the mail
abbrev pub checkpoint_of : Mark → Piece → Checkpoint
checkpoint_of mark piece = record { mark = mark; parts = record { piece = piece; letters = [] } ∷ [] }

-- ---- behind a leg

-- all steps are in a checkpoint, and there is one
abbrev pub is_held : ℕ → Control → Bool
is_held newest control = nat_lt 0 newest && is_empty control.entries

-- what a leg came to: where its turn ended, and the checkpoint behind it
pub record Leg : Type 0 where
  pub events : List Event
  pub control : Control
  pub taken : Option Checkpoint

abbrev pub rested : Options → Origin → Control → ℕ → ℕ → Rest
rested options origin control legs newest = record {
  origin = origin;
  control = control;
  legs = legs;
  newest = newest;
  unheld = options.drain && is_idle control.work && not (is_held newest control);
}

abbrev pub behind_with : Plan → Options → Rest → Control → Option Checkpoint → Rest
behind_with plan options rest control None = rested options rest.origin control (rest.legs + 1) rest.newest
behind_with plan options rest control (Some checkpoint) =
    rested options (origin_of control) (first_control plan (origin_of control)) (rest.legs + 1) (rest.newest + 1)

abbrev pub behind : Plan → Options → Rest → Leg → Rest
behind plan options rest leg = behind_with plan options rest leg.control leg.taken

abbrev pub IsTaken : Plan → Rest → Control → Option Checkpoint → Type 0
IsTaken plan rest control None = Unit {0}
IsTaken plan rest control (Some checkpoint) = (mark : Mark) × (piece : Piece) × IsCheckpointOf plan rest.newest control mark piece × (checkpoint ≡ checkpoint_of mark piece)

-- A leg: its turn began and ended, and the checkpoint that was asked for was taken.
pub record IsLeg (plan : Plan) (options : Options) (rest : Rest) (before : Seen) (leg : Leg) (after : Seen) : Type 0 where
  pub trace : Trace plan rest.control before leg.events leg.control after
  pub one : leg.control.turn ≡ rest.control.turn + 1
  pub rests : leg.control.phase ≡ Asking
  pub asked : is_some leg.taken ≡ is_asked options rest
  pub taken : IsTaken plan rest leg.control leg.taken

-- legs one after the other
abbrev pub AreLegs : Plan → Options → Rest → Seen → List Leg → Rest → Seen → Type 0
AreLegs plan options rest before [] last after = (rest ≡ last) × (before ≡ after)
AreLegs plan options rest before (leg ∷ legs) last after =
    (between : Seen) × IsLeg plan options rest before leg between × AreLegs plan options (behind plan options rest leg) between legs last after

-- the checkpoints that they completed
abbrev pub completed_by : List Leg → List Checkpoint
completed_by [] = []
completed_by (leg ∷ legs) = option_to_list leg.taken ++ completed_by legs

-- the run ends here: it drains, no split may have more records, nothing is left, and all is in a checkpoint
abbrev pub is_over : Options → Control → Rest → Bool
is_over options control rest = options.drain && is_done control && is_held rest.newest rest.control

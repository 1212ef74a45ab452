-- What the blocks of a folder's files stand for: its job and its checkpoints, or the first block that breaks their form.
use Rattle.std.specs.Prelude.{ℕ, ◌+◌, max, length, List, [], ◌∷◌, ◌++◌, map, Bool, ◌&&◌, true, false, nat_eq, nat_le, if◌then◌else◌, Option, Some, None, Result, Ok, Err}
use Rattle.std.specs.List.{list_all, flat_map}
use Rattle.typed_values.specs.declared.letter.Letter.{Letter}
use Rattle.typed_values.specs.declared.record.EgressRecord.{EgressRecord}
use Rattle.proto_wire.specs.declared.fault.WireFault.{WireFault}
use Rattle.block_log.specs.Blocks.{Body}
use Rattle.run_record.specs.declared.entry.Entry.{Entry}
use Rattle.run_record.specs.declared.entry.Step.{Step}
use Rattle.run_record.specs.declared.entry.Step.TheVariants.{Take, Batch, Register, Due}
use Rattle.run_record.specs.Record.{merged}
use Rattle.folder_messages.specs.declared.manifest.Manifest.{Manifest}
use Rattle.folder_messages.specs.declared.manifest.Manifest.TheVariants as says
use Rattle.folder_messages.specs.declared.manifest.Complete.{Complete}
use Rattle.folder_messages.specs.declared.manifest.Taken.{Taken}
use Rattle.folder_messages.specs.declared.manifest.Place.{Place}
use Rattle.folder_messages.specs.ManifestSpelling.{manifest_value}
use Rattle.piece_messages.specs.declared.piece.Piece.{Piece}
use Rattle.piece_messages.specs.declared.feedback.Feedback.{Feedback}
use Rattle.piece_messages.specs.Spelling.{piece_value, feedback_value}
use Rattle.folder_form.specs.declared.shape.Shape.{Shape}
use Rattle.folder_form.specs.declared.mark.Mark.{Mark}
use Rattle.folder_form.specs.declared.loaded.Loaded.{Loaded}
use Rattle.folder_form.specs.Shapes.{shape_in}
use Rattle.folder_form.specs.Pieces.{Home, owns_piece, owns_letters, latest_in}

-- ---- what stands

-- one partition's part of a checkpoint: its piece, and the letters that were on the way to it
pub record Part : Type 0 where
  pub piece : Piece
  pub letters : List Letter

pub record Checkpoint : Type 0 where
  pub mark : Mark
  pub parts : List Part

-- the stored leg, and the checkpoints from the first on
pub record Contents : Type 0 where
  pub leg : ℕ
  pub checkpoints : List Checkpoint

abbrev pub no_contents : Contents
no_contents = record { leg = 0; checkpoints = [] }

-- the blocks of each file
abbrev pub Files : Type 0
Files = ℕ → List Body

-- the block at which the form breaks first
pub record Break : Type 0 where
  pub file : ℕ
  pub place : ℕ

abbrev pub Reading : Type 0 → Type 0
Reading A = Result A Break

abbrev pub and_then : {A B : Type 0} → Reading A → (A → Reading B) → Reading B
and_then (Ok a) f = f a
and_then (Err e) f = Err e

infixl 10 ◌>>=◌
abbrev ◌>>=◌ : {A B : Type 0} → Reading A → (A → Reading B) → Reading B
r >>= f = and_then r f

-- ---- blocks

-- the file of a partition
abbrev pub file_of : ℕ → ℕ
file_of partition = 2 + partition

-- the block that begins at a place, the first of these at another
abbrev pub block_from : ℕ → ℕ → List Body → Option Body
block_from at place [] = None
block_from at place (body ∷ bodies) = if nat_eq place at then Some body else block_from (at + 9 + length body) place bodies

abbrev pub block_at : ℕ → List Body → Option Body
block_at place bodies = block_from 0 place bodies

abbrev pub valued : {A : Type 0} → Result A WireFault → Option A
valued (Ok a) = Some a
valued (Err fault) = None

abbrev pub kept : {A : Type 0} → (A → Bool) → Option A → Option A
kept test None = None
kept test (Some a) = if test a then Some a else None

abbrev pub spelled_at : {A : Type 0} → (Body → Option A) → Option Body → Option A
spelled_at read None = None
spelled_at read (Some body) = read body

abbrev pub or_break : {A : Type 0} → ℕ → ℕ → Option A → Reading A
or_break file place None = Err (record { file = file; place = place })
or_break file place (Some a) = Ok a

-- ---- pieces

-- a piece that belongs to its partition, with no moment above that of its checkpoint
abbrev pub is_piece : Home → ℕ → Piece → Bool
is_piece home moment piece = owns_piece home piece && nat_le (latest_in piece) moment

unfoldable pub piece_in : Home → ℕ → Body → Option Piece
piece_in home moment body = kept (is_piece home moment) (valued (piece_value body))

abbrev pub letters_of : Feedback → List Letter
letters_of feedback = feedback.letters

abbrev pub feedback_letters : Option Feedback → Option (List Letter)
feedback_letters None = None
feedback_letters (Some feedback) = Some feedback.letters

unfoldable pub letters_in : Home → Body → Option (List Letter)
letters_in home body = kept (owns_letters home) (feedback_letters (valued (feedback_value body)))

-- a partition's part, by the places that a Complete names
abbrev pub part_at : Home → Files → ℕ → Place → Reading Part
part_at home files moment place = do
  piece ← or_break (file_of home.partition) place.piece (spelled_at (piece_in home moment) (block_at place.piece (files (file_of home.partition))))
  letters ← or_break (file_of home.partition) place.feedback (spelled_at (letters_in home) (block_at place.feedback (files (file_of home.partition))))
  Ok (record { piece = piece; letters = letters })

-- those of the partitions from one on
abbrev pub parts_from : ℕ → ℕ → Files → ℕ → List Place → Reading (List Part)
parts_from partitions partition files moment [] = Ok []
parts_from partitions partition files moment (place ∷ places) = do
  part ← part_at (record { partitions = partitions; partition = partition }) files moment place
  parts ← parts_from partitions (partition + 1) files moment places
  Ok (part ∷ parts)

-- ---- the manifest

abbrev pub is_take : Step → Bool
is_take (Take split) = true
is_take (Batch reply) = false
is_take (Register reply) = false
is_take (Due address moment) = false

abbrev pub takes : Entry → Bool
takes entry = is_take entry.step

-- Numbers run 1, 2, 3 without a gap, none above its leg; there is a count for each split and a place for each partition,
-- and the entries beside them are takes.
unfoldable pub is_next : Shape → ℕ → Complete → Bool
is_next shape newest complete =
    nat_eq complete.number (newest + 1) && nat_le complete.number complete.leg && nat_eq (length complete.taken) shape.splits
    && nat_eq (length complete.places) shape.partitions && list_all takes complete.takes

abbrev pub with_leg : ℕ → Contents → Contents
with_leg leg contents = record contents { leg = max contents.leg leg }

abbrev pub count_of : Taken → ℕ
count_of taken = taken.count

-- what a Complete says beside the places of its parts
abbrev pub mark_of : Complete → Mark
mark_of complete = record {
  number = complete.number;
  leg = complete.leg;
  moment = complete.moment;
  taken = map count_of complete.taken;
  takes = complete.takes;
}

abbrev pub with_checkpoint : Mark → List Part → Contents → Contents
with_checkpoint mark parts contents = record {
  leg = max contents.leg mark.leg;
  checkpoints = contents.checkpoints ++ record { mark = mark; parts = parts } ∷ [];
}

abbrev pub completed : Shape → Files → Complete → Contents → Reading Contents
completed shape files complete contents = do
  parts ← parts_from shape.partitions 0 files complete.moment complete.places
  Ok (with_checkpoint (mark_of complete) parts contents)

-- what a block of the manifest, behind its first, adds to those before it
abbrev pub said : Shape → Files → ℕ → Contents → Option Manifest → Reading Contents
said shape files place contents None = or_break 0 place None
said shape files place contents (Some (says.Job job)) = or_break 0 place None
said shape files place contents (Some (says.Opening opening)) = Ok (with_leg opening.leg contents)
said shape files place contents (Some (says.Complete complete)) =
    if is_next shape (length contents.checkpoints) complete then completed shape files complete contents else or_break 0 place None

abbrev pub step_in : Shape → Files → ℕ → Contents → Body → Reading Contents
step_in shape files place contents body = said shape files place contents (valued (manifest_value body))

abbrev pub contents_from : Shape → Files → ℕ → Contents → List Body → Reading Contents
contents_from shape files place contents [] = Ok contents
contents_from shape files place contents (body ∷ bodies) = do
  next ← step_in shape files place contents body
  contents_from shape files (place + 9 + length body) next bodies

-- the text of a job, where this is the block of one
abbrev pub text_of : Option Manifest → Option (List ℕ)
text_of None = None
text_of (Some (says.Job job)) = if nat_eq job.version 1 then Some job.text else None
text_of (Some (says.Opening opening)) = None
text_of (Some (says.Complete complete)) = None

unfoldable pub job_in : Body → Option (List ℕ)
job_in body = text_of (valued (manifest_value body))

-- ---- the form of a folder

-- whose job it is, what that says, and what stands
pub record Held : Type 0 where
  pub text : List ℕ
  pub shape : Shape
  pub contents : Contents

abbrev pub form_from : Files → List Body → Reading (Option Held)
form_from files [] = Ok None
form_from files (job ∷ rest) = do
  text ← or_break 0 0 (job_in job)
  shape ← or_break 0 0 (shape_in text)
  contents ← contents_from shape files (9 + length job) no_contents rest
  Ok (Some (record { text = text; shape = shape; contents = contents }))

-- What the blocks of a folder's files stand for, or the first block that breaks their form. A manifest without blocks has no job.
abbrev pub form_of : Files → Reading (Option Held)
form_of files = form_from files (files 0)

-- ---- what is read of contents

abbrev pub pieces_of : List Part → List Piece
pieces_of [] = []
pieces_of (part ∷ parts) = part.piece ∷ pieces_of parts

abbrev pub feedback_of : List Part → List (List Letter)
feedback_of [] = []
feedback_of (part ∷ parts) = part.letters ∷ feedback_of parts

abbrev pub loaded_checkpoint : Checkpoint → Loaded
loaded_checkpoint checkpoint = record {
  number = checkpoint.mark.number;
  leg = checkpoint.mark.leg;
  moment = checkpoint.mark.moment;
  taken = checkpoint.mark.taken;
  pieces = pieces_of checkpoint.parts;
  feedback = feedback_of checkpoint.parts;
}

-- the newest checkpoint, or the empty one
abbrev pub loaded_from : Loaded → List Checkpoint → Loaded
loaded_from loaded [] = loaded
loaded_from loaded (checkpoint ∷ checkpoints) = loaded_from (loaded_checkpoint checkpoint) checkpoints

abbrev pub nothing_loaded : Loaded
nothing_loaded = record { number = 0; leg = 0; moment = 0; taken = []; pieces = []; feedback = [] }

unfoldable pub loaded_of : Contents → Loaded
loaded_of contents = loaded_from nothing_loaded contents.checkpoints

-- the entries checkpoint by checkpoint, the takes first and then the pieces by partition
abbrev pub entries_of : Piece → List Entry
entries_of piece = piece.entries

abbrev pub entry_lists : Checkpoint → List (List Entry)
entry_lists checkpoint = checkpoint.mark.takes ∷ map entries_of (pieces_of checkpoint.parts)

unfoldable pub record_of : Contents → List Entry
record_of contents = merged (flat_map entry_lists contents.checkpoints)

-- what the pieces of a checkpoint gave to egress, by partition
abbrev pub egress_of : Piece → List EgressRecord
egress_of piece = piece.egress

unfoldable pub egress_in : Checkpoint → List EgressRecord
egress_in checkpoint = flat_map egress_of (pieces_of checkpoint.parts)

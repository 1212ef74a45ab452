-- The parts of a checkpoint, one after the other.
use Rattle.std.proofs.Common.{◌≡◌, ℕ, ◌+◌, ◌<◌, List, [], ◌∷◌, ◌++◌, length, take, drop, take-append-drop, length-take-le, Bool, slice_get, slice_index_or, Option, Some, None, Ok, Err, false, sym, ◌∙◌, ap, subst, arith, is_some}
use Rattle.std.proofs.lemmas.List.{drop_more}
use Rattle.std.proofs.lemmas.Grind.{take_at_read}
use Rattle.std.specs.Option.{option_map_or}
use Rattle.typed_values.specs.declared.letter.Letter.{Letter}
use Rattle.piece_messages.specs.declared.piece.Piece.{Piece}
use Rattle.folder_messages.specs.declared.manifest.Place.{Place}
use Rattle.folder_form.specs.declared.shape.Shape.{Shape}
use Rattle.sf_disk.specs.Moments.{Moment, newest}
use Rattle.block_log.specs.declared.log.BlockLog.{BlockLog}
use Rattle.block_log.specs.Blocks.{Body}
use Rattle.block_log.specs.Logs.{IsOpen}
use Rattle.folder_form.specs.Folders.{Files, Part, Break, Reading, block_at, letters_in, part_at, parts_from, piece_in, spelled_at}
use Rattle.snapshot_files.specs.Logs.{AreFiles}
use Rattle.snapshot_files.specs.Stores.{AreOpen, home_in}
use Rattle.snapshot_files.specs.Reading.{BreaksThere}
use Rattle.snapshot_files.specs.Steps.{RefusesParts}
use Rattle.snapshot_files.specs.declared.store.Store.{Store}
use Rattle.store_faults.specs.declared.fault.StoreFault.{StoreFault}
use Rattle.store_faults.specs.declared.fault.StoreFault.TheVariants.{DiskFault, NotAStore, StoreOfOther, OutOfMemory}
use Rattle.snapshot_files.proofs.Folding.{parts_next, parts_break, part_is, piece_breaks, letters_break}

-- the log of a partition is open on its file
pub open_at : (logs : List BlockLog) (files : Files) (now : Moment) (partition : ℕ) (log : BlockLog) → AreFiles 2 logs → AreOpen files now 2 logs → slice_get logs partition ≡ Some log → IsOpen log (files (2 + partition)) (now log.file)
open_at logs files now partition log numbers opened is = subst (λ (f : ℕ). IsOpen log (files (2 + partition)) (now f)) (sym (numbers partition log is)) (opened partition log is)

-- a block that was found, and what it spells
module _ {A : Type 0} (read : Body → Option A) (place : ℕ) (bodies : List Body) (found : Option Body) (body : Body) (there : found ≡ block_at place bodies) (is : found ≡ Some body) (value : Option A) (made : value ≡ read body) where
  pub spells : (a : A) → value ≡ Some a → spelled_at read (block_at place bodies) ≡ Some a
  spells a is_a = ap (spelled_at read) (sym there ∙ is) ∙ sym made ∙ is_a

  pub breaks : value ≡ None → option_map_or (λ b. is_some (read b)) (block_at place bodies) false ≡ false
  breaks none = ap (λ (o : Option Body). option_map_or (λ b. is_some (read b)) o false) (sym there ∙ is) ∙ ap (λ (o : Option A). is_some o) (sym made ∙ none)

-- a part that may not stand there refuses the parts
pub refused_part : (store : Store) (a b : List Moment) → b ≡ a → (file place : ℕ) (is_right : Body → Bool) (read : Files → Reading (List Part))
    → ((now : Moment) → newest a ≡ Some now → (files : Files) → AreOpen files now 2 store.logs.items → option_map_or is_right (block_at place (files file)) false ≡ false → read files ≡ Err (record { file = file; place = place }))
    → (fault : StoreFault) → BreaksThere store b file place is_right fault → RefusesParts store a read fault
refused_part store a b same file place is_right read f DiskFault r = tt
refused_part store a b same file place is_right read f (NotAStore named at) r = λ now told files opened.
    let h = r now (ap newest same ∙ told) in
    f now told files opened (h.2 files opened) ∙ ap (λ (n : ℕ). Err (record { file = n; place = place })) (sym h.0) ∙ ap (λ (n : ℕ). Err (record { file = named; place = n })) (sym h.1)
refused_part store a b same file place is_right read f (StoreOfOther kept given) r = absurd r
refused_part store a b same file place is_right read f OutOfMemory r = tt

abbrev pub nowhere : Place
nowhere = record { piece = 0; feedback = 0 }

-- the part of one partition, behind those of the partitions before it
module _ (shape : Shape) (moment : ℕ) (places : List Place) (i : ℕ) (less : i < length places) (place : Place) (is : place ≡ slice_index_or places i nowhere) (partition : ℕ) (count : partition ≡ i) (files : Files) (so_far : (parts : List Part) × (parts_from shape.partitions 0 files moment (take i places) ≡ Ok parts)) where
  size : length (take i places) ≡ i
  size = length-take-le i places (omega (arith, less))

  here : part_at (record { partitions = shape.partitions; partition = length (take i places) }) files moment place ≡ part_at (home_in shape partition) files moment place
  here = ap (λ (q : ℕ). part_at (record { partitions = shape.partitions; partition = q }) files moment place) (size ∙ sym count)

  front : take (i + 1) places ≡ take i places ++ place ∷ []
  front = (take_at_read places i nowhere less).1 ∙ ap (λ (p : Place). take i places ++ p ∷ []) (sym is)

  whole : places ≡ take i places ++ place ∷ drop (i + 1) places
  whole = sym (take-append-drop i places) ∙ ap (λ (l : List Place). take i places ++ l) (drop_more places i nowhere less) ∙ ap (λ (p : Place). take i places ++ p ∷ drop (i + 1) places) (sym is)

  break_here : (e : Break) → part_at (home_in shape partition) files moment place ≡ Err e → parts_from shape.partitions 0 files moment places ≡ Err e
  break_here e breaks_at = ap (parts_from shape.partitions 0 files moment) whole ∙ parts_break shape.partitions files moment (take i places) place (drop (i + 1) places) so_far.0 e so_far.1 (here ∙ breaks_at)

  pub no_piece : option_map_or (λ b. is_some (piece_in (home_in shape partition) moment b)) (block_at place.piece (files (2 + partition))) false ≡ false → parts_from shape.partitions 0 files moment places ≡ Err (record { file = 2 + partition; place = place.piece })
  no_piece none = break_here _ (piece_breaks (home_in shape partition) files moment place none)

  module _ (piece : Piece) (spelled : spelled_at (piece_in (home_in shape partition) moment) (block_at place.piece (files (2 + partition))) ≡ Some piece) where
    pub no_letters : option_map_or (λ b. is_some (letters_in (home_in shape partition) b)) (block_at place.feedback (files (2 + partition))) false ≡ false → parts_from shape.partitions 0 files moment places ≡ Err (record { file = 2 + partition; place = place.feedback })
    no_letters none = break_here _ (letters_break (home_in shape partition) files moment place piece spelled none)

    pub part_next : (letters : List Letter) → spelled_at (letters_in (home_in shape partition)) (block_at place.feedback (files (2 + partition))) ≡ Some letters → (parts : List Part) × (parts_from shape.partitions 0 files moment (take (i + 1) places) ≡ Ok parts)
    part_next letters too = (
      so_far.0 ++ record { piece = piece; letters = letters } ∷ [],
      ap (parts_from shape.partitions 0 files moment) front ∙ parts_next shape.partitions files moment (take i places) place so_far.0 (record { piece = piece; letters = letters }) so_far.1 (here ∙ part_is (home_in shape partition) files moment place piece spelled letters too),
    )

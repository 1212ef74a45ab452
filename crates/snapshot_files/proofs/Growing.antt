-- What stands in files still stands when blocks come behind theirs.
use Rattle.std.proofs.Common.{◌≡◌, ◌≢◌, ℕ, zero, suc, ◌+◌, ◌<◌, ◌≤◌, Bool, true, false, ◌&&◌, nat_eq, nat_le, if◌then◌else◌, List, [], ◌∷◌, ◌++◌, map, take, length, slice_get, Option, Some, None, Result, Ok, Err, refl, ◌∙◌, ap, arith}
use Rattle.std.proofs.lemmas.Bool.Decides.{nat_tests}
use Rattle.std.specs.List.{list_all}
use Rattle.std.specs.Option.{unwrap_or}
use Rattle.typed_values.specs.declared.letter.Letter.{Letter}
use Rattle.proto_wire.specs.declared.fault.WireFault.{WireFault}
use Rattle.block_log.specs.Blocks.{Body, extent}
use Rattle.folder_messages.specs.declared.manifest.Manifest.{Manifest}
use Rattle.folder_messages.specs.declared.manifest.Manifest.TheVariants as says
use Rattle.folder_messages.specs.declared.manifest.Complete.{Complete}
use Rattle.folder_messages.specs.declared.manifest.Place.{Place}
use Rattle.folder_messages.specs.ManifestSpelling.{manifest_value}
use Rattle.piece_messages.specs.declared.piece.Piece.{Piece}
use Rattle.piece_messages.specs.declared.feedback.Feedback.{Feedback}
use Rattle.piece_messages.specs.Spelling.{piece_value, feedback_value}
use Rattle.folder_form.specs.declared.shape.Shape.{Shape}
use Rattle.folder_form.specs.declared.pieces.Home.{Home}
use Rattle.folder_form.specs.Shapes.{shape_in}
use Rattle.folder_form.specs.Pieces.{owns_piece, owns_letters, latest_in}
use Rattle.folder_form.specs.Folders.{Part, Checkpoint, Contents, Files, Held, Reading, and_then, block_from, block_at, file_of, spelled_at, or_break, part_at, parts_from, said, step_in, contents_from, no_contents, form_from, form_of, job_in, completed, is_next, mark_of, with_leg, with_checkpoint, valued, kept, is_piece, piece_in, feedback_letters, letters_in, takes}
use Rattle.snapshot_files.specs.declared.slot.Slot.{Slot}
use Rattle.snapshot_files.specs.Stores.{Pending, IsPut, IsSlot, IsKept, AreKept, complete_in, completes}
use Rattle.snapshot_files.specs.Changes.{with_block, part_of, and_parts, parts_put, place_of}

-- ---- the blocks of a file

pub same_place : {X : Type 0} (a b : ℕ) (x y : X) → a ≡ b → (if nat_eq a b then x else y) ≡ x
same_place a b x y same = grind (arith, nat_tests)

pub other_place : {X : Type 0} (a b : ℕ) (x y : X) → a ≢ b → (if nat_eq a b then x else y) ≡ y
other_place a b x y differs = grind (arith, nat_tests)

first_or : (t : Bool) (y : Body) (o n : Option Body) (b : Body) → (o ≡ Some b → n ≡ Some b) → (if t then Some y else o) ≡ Some b → (if t then Some y else n) ≡ Some b
first_or true y o n b f is = is
first_or false y o n b f is = f is

-- a block stays at its place
pub block_kept : (at place : ℕ) (bodies : List Body) (x b : Body) → block_from at place bodies ≡ Some b → block_from at place (bodies ++ x ∷ []) ≡ Some b
block_kept at place [] x b is = absurd cc
block_kept at place (y ∷ bodies) x b is = first_or (nat_eq place at) y (block_from (at + 9 + length y) place bodies) (block_from (at + 9 + length y) place (bodies ++ x ∷ [])) b (block_kept (at + 9 + length y) place bodies x b) is

-- and the new one stands behind them
pub block_new : (at : ℕ) (bodies : List Body) (x : Body) (place : ℕ) → place ≡ at + extent bodies → block_from at place (bodies ++ x ∷ []) ≡ Some x
block_new at [] x place is = same_place place at (Some x) None (omega (arith, is))
block_new at (y ∷ bodies) x place is =
    other_place place at (Some y) (block_from (at + 9 + length y) place (bodies ++ x ∷ [])) (λ same. omega (arith, is, same)) ∙ block_new (at + 9 + length y) bodies x place (omega (arith, is))

-- ---- files of which one has more blocks

-- each block that stands still stands
abbrev pub Behind : Files → Files → Type 0
Behind files now = (file place : ℕ) (b : Body) → block_at place (files file) ≡ Some b → block_at place (now file) ≡ Some b

pub block_here : (file : ℕ) (body : Body) (files : Files) → with_block file body files file ≡ files file ++ body ∷ []
block_here file body files = same_place file file (files file ++ body ∷ []) (files file) refl

pub block_other : (file : ℕ) (body : Body) (files : Files) (other : ℕ) → other ≢ file → with_block file body files other ≡ files other
block_other file body files other differs = other_place other file (files other ++ body ∷ []) (files other) differs

either_way : (t : Bool) (place : ℕ) (bodies : List Body) (x b : Body) → block_at place bodies ≡ Some b → block_at place (if t then bodies ++ x ∷ [] else bodies) ≡ Some b
either_way true place bodies x b is = block_kept 0 place bodies x b is
either_way false place bodies x b is = is

pub behind_block : (file : ℕ) (body : Body) (files : Files) → Behind files (with_block file body files)
behind_block file body files = λ other place b is. either_way (nat_eq other file) place (files other) body b is

pub block_there : (file : ℕ) (body : Body) (files : Files) (place : ℕ) → place ≡ extent (files file) → block_at place (with_block file body files file) ≡ Some body
block_there file body files place is = ap (block_at place) (block_here file body files) ∙ block_new 0 (files file) body place (omega (arith, is))

-- ---- what reads of them

pub then_made : {A B : Type 0} (r : Reading A) (f : A → Reading B) (a : A) (b : B) → r ≡ Ok a → f a ≡ Ok b → and_then r f ≡ Ok b
then_made r f a b is next = ap (λ x. and_then x f) is ∙ next

pub then_parts : {A B : Type 0} (r : Reading A) (f : A → Reading B) (b : B) → and_then r f ≡ Ok b → (a : A) × (r ≡ Ok a) × (f a ≡ Ok b)
then_parts (Ok a) f b is = (a, refl, is)
then_parts (Err e) f b is = absurd cc

then_kept : {A B : Type 0} (r s : Reading A) (f g : A → Reading B) (b : B) → ((a : A) → r ≡ Ok a → s ≡ Ok a) → ((a : A) → f a ≡ Ok b → g a ≡ Ok b) → and_then r f ≡ Ok b → and_then s g ≡ Ok b
then_kept r s f g b first next is = let p = then_parts r f b is in then_made s g p.0 b (first p.0 p.1) (next p.0 p.2)

pub spelled_kept : {A : Type 0} (read : Body → Option A) (o n : Option Body) (a : A) → ((b : Body) → o ≡ Some b → n ≡ Some b) → spelled_at read o ≡ Some a → spelled_at read n ≡ Some a
spelled_kept read None n a f is = absurd cc
spelled_kept read (Some b) n a f is = ap (spelled_at read) (f b refl) ∙ is

or_kept : {A : Type 0} (file place : ℕ) (o n : Option A) (a : A) → ((x : A) → o ≡ Some x → n ≡ Some x) → or_break file place o ≡ Ok a → or_break file place n ≡ Ok a
or_kept file place None n a f is = absurd cc
or_kept file place (Some x) n a f is = ap (or_break file place) (f x refl) ∙ is

-- what a block spells that stands there still
still_there : {A : Type 0} (read : Body → Option A) (named at file place : ℕ) (files now : Files) (a : A) → Behind files now → or_break named at (spelled_at read (block_at place (files file))) ≡ Ok a → or_break named at (spelled_at read (block_at place (now file))) ≡ Ok a
still_there read named at file place files now a behind is = or_kept named at (spelled_at read (block_at place (files file))) (spelled_at read (block_at place (now file))) a
    (λ x. spelled_kept read (block_at place (files file)) (block_at place (now file)) x (behind file place)) is

pub part_kept : (home : Home) (files now : Files) (moment : ℕ) (place : Place) (part : Part) → Behind files now → part_at home files moment place ≡ Ok part → part_at home now moment place ≡ Ok part
part_kept home files now moment place part behind is = then_kept _ _ _ _ part
    (λ piece. still_there (piece_in home moment) (file_of home.partition) place.piece (file_of home.partition) place.piece files now piece behind)
    (λ piece. then_kept _ _ _ _ part (λ letters. still_there (letters_in home) (file_of home.partition) place.feedback (file_of home.partition) place.feedback files now letters behind) (λ letters e. e))
    is

pub parts_kept : (partitions partition : ℕ) (files now : Files) (moment : ℕ) (places : List Place) (parts : List Part) → Behind files now → parts_from partitions partition files moment places ≡ Ok parts → parts_from partitions partition now moment places ≡ Ok parts
parts_kept partitions partition files now moment [] parts behind is = is
parts_kept partitions partition files now moment (place ∷ places) parts behind is = then_kept _ _ _ _ parts
    (λ part. part_kept (record { partitions = partitions; partition = partition }) files now moment place part behind)
    (λ part. then_kept _ _ _ _ parts (λ rest. parts_kept partitions (partition + 1) files now moment places rest behind) (λ rest e. e))
    is

pub completed_kept : (shape : Shape) (files now : Files) (complete : Complete) (c d : Contents) → Behind files now → completed shape files complete c ≡ Ok d → completed shape now complete c ≡ Ok d
completed_kept shape files now complete c d behind is = then_kept _ _ _ _ d (λ parts. parts_kept shape.partitions 0 files now complete.moment complete.places parts behind) (λ parts e. e) is

if_kept : {A : Type 0} (t : Bool) (r s o : Reading A) (a : A) → (r ≡ Ok a → s ≡ Ok a) → (if t then r else o) ≡ Ok a → (if t then s else o) ≡ Ok a
if_kept true r s o a f is = f is
if_kept false r s o a f is = is

said_kept : (shape : Shape) (files now : Files) (place : ℕ) (c : Contents) (o : Option Manifest) (d : Contents) → Behind files now → said shape files place c o ≡ Ok d → said shape now place c o ≡ Ok d
said_kept shape files now place c None d behind is = is
said_kept shape files now place c (Some (says.Job job)) d behind is = is
said_kept shape files now place c (Some (says.Opening opening)) d behind is = is
said_kept shape files now place c (Some (says.Complete complete)) d behind is = if_kept (is_next shape (length c.checkpoints) complete) (completed shape files complete c) (completed shape now complete c) (or_break 0 place None) d (completed_kept shape files now complete c d behind) is

pub contents_kept : (shape : Shape) (files now : Files) (place : ℕ) (c : Contents) (bodies : List Body) (d : Contents) → Behind files now → contents_from shape files place c bodies ≡ Ok d → contents_from shape now place c bodies ≡ Ok d
contents_kept shape files now place c [] d behind is = is
contents_kept shape files now place c (body ∷ bodies) d behind is = then_kept _ _ _ _ d (λ next. said_kept shape files now place c (valued (manifest_value body)) next behind)
    (λ next. contents_kept shape files now (place + 9 + length body) next bodies d behind)
    is

-- one block more in the manifest
pub contents_push : (shape : Shape) (files : Files) (place : ℕ) (c : Contents) (bodies : List Body) (b : Body) (d e : Contents) → contents_from shape files place c bodies ≡ Ok d → ((at : ℕ) → step_in shape files at d b ≡ Ok e) → contents_from shape files place c (bodies ++ b ∷ []) ≡ Ok e
contents_push shape files place c [] b d e is step =
    let same : c ≡ d = cc in
    then_made (step_in shape files place c b) (λ next. Ok next) e e (ap (λ (x : Contents). step_in shape files place x b) same ∙ step place) refl
contents_push shape files place c (x ∷ bodies) b d e is step =
    let p = then_parts (step_in shape files place c x) (λ next. contents_from shape files (place + 9 + length x) next bodies) d is in
    then_made (step_in shape files place c x) (λ next. contents_from shape files (place + 9 + length x) next (bodies ++ b ∷ [])) p.0 e p.1 (contents_push shape files (place + 9 + length x) p.0 bodies b d e p.2 step)

-- what stands, where the manifest's first block has this text
abbrev held_of : List ℕ → Shape → Contents → Reading (Option Held)
held_of text shape contents = Ok (Some (record { text = text; shape = shape; contents = contents }))

abbrev shaped : Files → ℕ → List Body → List ℕ → Shape → Reading (Option Held)
shaped files place rest text shape = and_then (contents_from shape files place no_contents rest) (held_of text shape)

abbrev texted : Files → ℕ → List Body → List ℕ → Reading (Option Held)
texted files place rest text = and_then (or_break 0 0 (shape_in text)) (shaped files place rest text)

form_still : (files now : Files) (bodies : List Body) (held : Held) → Behind files now → form_from files bodies ≡ Ok (Some held) → form_from now bodies ≡ Ok (Some held)
form_still files now [] held behind is = is
form_still files now (job ∷ rest) held behind is =
    let place = 9 + length job in
    let t = then_parts (or_break 0 0 (job_in job)) (texted files place rest) (Some held) is in
    let s = then_parts (or_break 0 0 (shape_in t.0)) (shaped files place rest t.0) (Some held) t.2 in
    let c = then_parts (contents_from s.0 files place no_contents rest) (held_of t.0 s.0) (Some held) s.2 in
    then_made (or_break 0 0 (job_in job)) (texted now place rest) t.0 (Some held) t.1
    (then_made (or_break 0 0 (shape_in t.0)) (shaped now place rest t.0) s.0 (Some held) s.1
    (then_made (contents_from s.0 now place no_contents rest) (held_of t.0 s.0) c.0 (Some held) (contents_kept s.0 files now place no_contents rest c.0 behind c.1) c.2))

-- the form stands where the manifest has the same blocks
pub form_kept : (files now : Files) (held : Held) → Behind files now → now 0 ≡ files 0 → form_of files ≡ Ok (Some held) → form_of now ≡ Ok (Some held)
form_kept files now held behind same is = ap (form_from now) same ∙ form_still files now (files 0) held behind is

abbrev some_held : Held → Reading (Option Held)
some_held held = Ok (Some held)

one_held : (a b : Held) → some_held a ≡ some_held b → a ≡ b
one_held a b is = cc

form_more : (files now : Files) (bodies : List Body) (b : Body) (held : Held) (d : Contents) → Behind files now → ((at : ℕ) → step_in held.shape now at held.contents b ≡ Ok d) → form_from files bodies ≡ Ok (Some held) → form_from now (bodies ++ b ∷ []) ≡ Ok (Some (record held { contents = d }))
form_more files now [] b held d behind step is = absurd cc
form_more files now (job ∷ rest) b held d behind step is =
    let place = 9 + length job in
    let more = rest ++ b ∷ [] in
    let t = then_parts (or_break 0 0 (job_in job)) (texted files place rest) (Some held) is in
    let s = then_parts (or_break 0 0 (shape_in t.0)) (shaped files place rest t.0) (Some held) t.2 in
    let c = then_parts (contents_from s.0 files place no_contents rest) (held_of t.0 s.0) (Some held) s.2 in
    let same : record { text = t.0; shape = s.0; contents = c.0 } ≡ held = one_held (record { text = t.0; shape = s.0; contents = c.0 }) held c.2 in
    let last = Some (record held { contents = d }) in
    then_made (or_break 0 0 (job_in job)) (texted now place more) t.0 last t.1
    (then_made (or_break 0 0 (shape_in t.0)) (shaped now place more t.0) s.0 last s.1
    (then_made (contents_from s.0 now place no_contents more) (held_of t.0 s.0) d last
    (contents_push s.0 now place no_contents rest b c.0 d (contents_kept s.0 files now place no_contents rest c.0 behind c.1) (λ at. ap (λ (h : Held). step_in h.shape now at h.contents b) same ∙ step at))
    (ap (λ (h : Held). some_held (record h { contents = d })) same)))

-- or one more
pub form_pushed : (files now : Files) (b : Body) (held : Held) (d : Contents) → Behind files now → now 0 ≡ files 0 ++ b ∷ [] → ((at : ℕ) → step_in held.shape now at held.contents b ≡ Ok d) → form_of files ≡ Ok (Some held) → form_of now ≡ Ok (Some (record held { contents = d }))
form_pushed files now b held d behind more step is = ap (form_from now) more ∙ form_more files now (files 0) b held d behind step is

-- ---- what a block of the manifest says

pub says_opening : (shape : Shape) (files : Files) (leg : ℕ) (c : Contents) (body : Body) → manifest_value body ≡ Ok (says.Opening (record { leg = leg })) → (at : ℕ) → step_in shape files at c body ≡ Ok (with_leg leg c)
says_opening shape files leg c body spells at = ap (λ (v : Result Manifest WireFault). said shape files at c (valued v)) spells

-- the test of a checkpoint that comes next
pub next_is : (shape : Shape) (newest : ℕ) (complete : Complete) → complete.number ≡ newest + 1 → complete.number ≤ complete.leg → length complete.taken ≡ shape.splits → length complete.places ≡ shape.partitions → list_all takes complete.takes ≡ true → is_next shape newest complete ≡ true
unfolding is_next
next_is shape newest complete number leg taken places all = grind (arith, nat_tests)

pub says_complete : (shape : Shape) (files : Files) (complete : Complete) (c : Contents) (body : Body) (parts : List Part) → manifest_value body ≡ Ok (says.Complete complete) → is_next shape (length c.checkpoints) complete ≡ true → parts_from shape.partitions 0 files complete.moment complete.places ≡ Ok parts → (at : ℕ) → step_in shape files at c body ≡ Ok (with_checkpoint (mark_of complete) parts c)
says_complete shape files complete c body parts spells next is at =
    ap (λ (v : Result Manifest WireFault). said shape files at c (valued v)) spells ∙ ap (λ (t : Bool). if t then completed shape files complete c else or_break 0 at None) next
    ∙ then_made (parts_from shape.partitions 0 files complete.moment complete.places) (λ (ps : List Part). Ok (with_checkpoint (mark_of complete) ps c)) parts (with_checkpoint (mark_of complete) parts c) is refl

pub spells_complete : (body : Body) (complete : Complete) → manifest_value body ≡ Ok (says.Complete complete) → complete_in body ≡ Some complete
unfolding complete_in
spells_complete body complete spells = ap (λ (v : Result Manifest WireFault). completes (valued v)) spells

-- ---- checkpoints that are kept

pub kept_still : (shape : Shape) (files now : Files) (place : ℕ) (checkpoint : Checkpoint) → Behind files now → IsKept shape files place checkpoint → IsKept shape now place checkpoint
kept_still shape files now place checkpoint behind is = record {
  complete = is.complete;
  block = spelled_kept complete_in (block_at place (files 0)) (block_at place (now 0)) is.complete (behind 0 place) is.block;
  mark = is.mark;
  parts = parts_kept shape.partitions 0 files now is.complete.moment is.complete.places checkpoint.parts behind is.parts;
}

pub are_still : (shape : Shape) (files now : Files) (places : List ℕ) (checkpoints : List Checkpoint) → Behind files now → AreKept shape files places checkpoints → AreKept shape now places checkpoints
are_still shape files now [] [] behind are = tt
are_still shape files now (place ∷ places) (checkpoint ∷ checkpoints) behind are = (kept_still shape files now place checkpoint behind are.0, are_still shape files now places checkpoints behind are.1)
are_still shape files now [] (checkpoint ∷ checkpoints) behind are = absurd are
are_still shape files now (place ∷ places) [] behind are = absurd are

pub are_pushed : (shape : Shape) (files : Files) (places : List ℕ) (checkpoints : List Checkpoint) (place : ℕ) (checkpoint : Checkpoint) → AreKept shape files places checkpoints → IsKept shape files place checkpoint → AreKept shape files (places ++ place ∷ []) (checkpoints ++ checkpoint ∷ [])
are_pushed shape files [] [] place checkpoint are is = (is, tt)
are_pushed shape files (p ∷ places) (c ∷ checkpoints) place checkpoint are is = (are.0, are_pushed shape files places checkpoints place checkpoint are.1 is)
are_pushed shape files [] (c ∷ checkpoints) place checkpoint are is = absurd are
are_pushed shape files (p ∷ places) [] place checkpoint are is = absurd are

-- ---- what was put

pub put_still : {A : Type 0} (read : Body → Option A) (old new : List Body) (place : Option ℕ) (put : Option A) → ((p : ℕ) (b : Body) → block_at p old ≡ Some b → block_at p new ≡ Some b) → IsPut read old place put → IsPut read new place put
put_still read old new None None behind is = tt
put_still read old new (Some place) (Some put) behind is = spelled_kept read (block_at place old) (block_at place new) put (behind place) is
put_still read old new None (Some put) behind is = absurd is
put_still read old new (Some place) None behind is = absurd is

pub slot_still : (home : Home) (old new : List Body) (slot : Slot) (pending : Pending) → ((p : ℕ) (b : Body) → block_at p old ≡ Some b → block_at p new ≡ Some b) → IsSlot home old slot pending → IsSlot home new slot pending
slot_still home old new slot pending behind is = record {
  piece = put_still (piece_in home slot.latest) old new slot.piece pending.piece behind is.piece;
  letters = put_still (letters_in home) old new slot.letters pending.letters behind is.letters;
}

-- what was put, at the place of its slot
put_at : {A : Type 0} (read : Body → Option A) (bodies : List Body) (place : Option ℕ) (put : Option A) (a : A) → put ≡ Some a → IsPut read bodies place put → spelled_at read (block_at (unwrap_or place 0) bodies) ≡ Some a
put_at read bodies None None a same is = absurd cc
put_at read bodies (Some place) (Some put) a same is = is ∙ same
put_at read bodies None (Some put) a same is = absurd is
put_at read bodies (Some place) None a same is = absurd is

spelled_more : {A : Type 0} (f g : Body → Option A) (o : Option Body) (a : A) → ((b : Body) (x : A) → f b ≡ Some x → g b ≡ Some x) → spelled_at f o ≡ Some a → spelled_at g o ≡ Some a
spelled_more f g None a more is = absurd cc
spelled_more f g (Some b) a more is = more b a is

if_some : {A : Type 0} (s t : Bool) (x a : A) → (s ≡ true → t ≡ true) → (if s then Some x else None) ≡ Some a → (if t then Some x else None) ≡ Some a
if_some true t x a more is = ap (λ (b : Bool). if b then Some x else None) (more refl) ∙ is
if_some false t x a more is = absurd cc

kept_more : {A : Type 0} (f g : A → Bool) (o : Option A) (a : A) → ((x : A) → f x ≡ true → g x ≡ true) → kept f o ≡ Some a → kept g o ≡ Some a
kept_more f g None a more is = absurd cc
kept_more f g (Some x) a more is = if_some (f x) (g x) x a (more x) is

within_more : (t : Bool) (l m n : ℕ) → m ≤ n → (t && nat_le l m) ≡ true → (t && nat_le l n) ≡ true
within_more t l m n less is = grind (arith, nat_tests)

-- a piece that belongs to its partition up to a moment does so up to a later one
pub piece_more : (home : Home) (m n : ℕ) → m ≤ n → (b : Body) (piece : Piece) → piece_in home m b ≡ Some piece → piece_in home n b ≡ Some piece
unfolding piece_in
piece_more home m n less b piece is = kept_more (is_piece home m) (is_piece home n) (valued (piece_value b)) piece (λ x. within_more (owns_piece home x) (latest_in x) m n less) is

both_hold : (t : Bool) (l : ℕ) → t ≡ true → (t && nat_le l l) ≡ true
both_hold t l is = grind (arith, nat_tests)

pub spells_piece : (home : Home) (body : Body) (piece : Piece) → owns_piece home piece ≡ true → piece_value body ≡ Ok piece → piece_in home (latest_in piece) body ≡ Some piece
unfolding piece_in
spells_piece home body piece owned spells =
    ap (λ (v : Result Piece WireFault). kept (is_piece home (latest_in piece)) (valued v)) spells ∙ ap (λ (t : Bool). if t then Some piece else None) (both_hold (owns_piece home piece) (latest_in piece) owned)

pub spells_letters : (home : Home) (body : Body) (letters : List Letter) → owns_letters home letters ≡ true → feedback_value body ≡ Ok (record { letters = letters }) → letters_in home body ≡ Some letters
unfolding letters_in
spells_letters home body letters owned spells =
    ap (λ (v : Result Feedback WireFault). kept (owns_letters home) (feedback_letters (valued v))) spells ∙ ap (λ (t : Bool). if t then Some letters else None) owned

-- ---- the parts of a checkpoint

and_both : (o : Option Part) (r : Option (List Part)) (parts : List Part) → and_parts o r ≡ Some parts → (part : Part) × (rest : List Part) × (o ≡ Some part) × (r ≡ Some rest) × (part ∷ rest ≡ parts)
and_both None r parts is = absurd cc
and_both (Some part) None parts is = absurd cc
and_both (Some part) (Some rest) parts is = (part, rest, refl, refl, cc)

part_both : (o : Option Piece) (r : Option (List Letter)) (part : Part) → part_of o r ≡ Some part → (o ≡ Some part.piece) × (r ≡ Some part.letters)
part_both None r part is = absurd cc
part_both (Some piece) None part is = absurd cc
part_both (Some piece) (Some letters) part is = let same : record { piece = piece; letters = letters } ≡ part = cc in (ap (λ (p : Part). Some p.piece) same, ap (λ (p : Part). Some p.letters) same)

or_made : {A : Type 0} (file place : ℕ) (o : Option A) (a : A) → o ≡ Some a → or_break file place o ≡ Ok a
or_made file place o a is = ap (or_break file place) is

-- the part of a slot, by the places that its slot names
part_stands : (home : Home) (files : Files) (slot : Slot) (pending : Pending) (moment : ℕ) (part : Part) → IsSlot home (files (file_of home.partition)) slot pending → slot.latest ≤ moment → part_of pending.piece pending.letters ≡ Some part → part_at home files moment (place_of slot) ≡ Ok part
part_stands home files slot pending moment part is less put =
    let both = part_both pending.piece pending.letters part put in
    let bodies = files (file_of home.partition) in
    let piece = spelled_more (piece_in home slot.latest) (piece_in home moment) (block_at (unwrap_or slot.piece 0) bodies) part.piece (piece_more home slot.latest moment less) (put_at (piece_in home slot.latest) bodies slot.piece pending.piece part.piece both.0 is.piece) in
    let letters = put_at (letters_in home) bodies slot.letters pending.letters part.letters both.1 is.letters in
    then_made _ _ part.piece part (or_made (file_of home.partition) (unwrap_or slot.piece 0) _ part.piece piece) (then_made _ _ part.letters part (or_made (file_of home.partition) (unwrap_or slot.letters 0) _ part.letters letters) refl)

pub parts_stand : (partitions : ℕ) (files : Files) (pending : ℕ → Pending) (moment : ℕ) (n p : ℕ) (slots : List Slot) (parts : List Part) → n ≤ length slots
    → ((k q : ℕ) (slot : Slot) → k < n → slice_get slots k ≡ Some slot → q ≡ p + k → IsSlot (record { partitions = partitions; partition = q }) (files (file_of q)) slot (pending q) × (slot.latest ≤ moment))
    → parts_put n p pending ≡ Some parts → parts_from partitions p files moment (map place_of (take n slots)) ≡ Ok parts
parts_stand partitions files pending moment zero p slots parts few are put = let none : [] ≡ parts = cc in ap (λ (l : List Part). Ok l) none
parts_stand partitions files pending moment (suc n) p [] parts few are put = absurd (omega (arith, few))
parts_stand partitions files pending moment (suc n) p (slot ∷ slots) parts few are put =
    let both = and_both (part_of (pending p).piece (pending p).letters) (parts_put n (p + 1) pending) parts put in
    let here = are 0 p slot (omega arith) refl (omega arith) in
    let rest = parts_stand partitions files pending moment n (p + 1) slots both.1 (omega (arith, few)) (λ k q s less at is. are (suc k) q s (omega (arith, less)) at (omega (arith, is))) both.3 in
    then_made _ _ both.0 parts (part_stands (record { partitions = partitions; partition = p }) files slot (pending p) moment both.0 here.0 here.1 both.2) (then_made _ _ both.1 parts rest (ap (λ (l : List Part). Ok l) both.4))

-- Reading the parts of a checkpoint that stand in the files.
use Rattle.std.proofs.Common.{◌≡◌, ◌≢◌, ℕ, zero, suc, ◌+◌, ◌<◌, true, false, List, [], ◌∷◌, ◌++◌, map, length, take, slice_get, slice_index_or, Option, Some, None, Ok, is_some, refl, sym, ◌∙◌, ap, arith}
use Rattle.std.proofs.lemmas.Bool.{false≢true}
use Rattle.std.specs.Option.{option_map_or}
use Rattle.typed_values.specs.declared.letter.Letter.{Letter}
use Rattle.piece_messages.specs.declared.piece.Piece.{Piece}
use Rattle.std.proofs.lemmas.List.{map-append}
use Rattle.std.proofs.lemmas.Grind.{take_at_read}
use Rattle.folder_messages.specs.declared.manifest.Manifest.{Manifest}
use Rattle.folder_messages.specs.declared.manifest.Complete.{Complete}
use Rattle.folder_messages.specs.declared.manifest.Taken.{Taken}
use Rattle.folder_messages.specs.declared.manifest.Place.{Place}
use Rattle.folder_messages.specs.ManifestSpelling.{manifest_value}
use Rattle.folder_form.specs.declared.pieces.Home.{Home}
use Rattle.sf_disk.specs.Moments.{Moment, WhereTold, newest}
use Rattle.block_log.specs.Blocks.{Body}
use Rattle.block_log.proofs.Reading.{untold}
use Rattle.store_faults.specs.declared.fault.StoreFault.{StoreFault}
use Rattle.store_faults.specs.declared.fault.StoreFault.TheVariants.{DiskFault, NotAStore, StoreOfOther, OutOfMemory}
use Rattle.folder_form.specs.Folders.{Files, Part, count_of, valued, and_then, block_at, feedback_of, file_of, letters_in, or_break, part_at, parts_from, piece_in, pieces_of, spelled_at}
use Rattle.snapshot_files.specs.declared.store.Store.{Store}
use Rattle.snapshot_files.specs.Stores.{complete_in, completes, home_in}
use Rattle.snapshot_files.specs.Reading.{BreaksThere, HasPartsAt, IsUntold}
use Rattle.snapshot_files.proofs.Growing.{then_parts}
use Rattle.snapshot_files.proofs.Checkpoints.{nowhere}

-- ---- lists

pub taken_next : {X : Type 0} (xs : List X) (i : ℕ) (x : X) → slice_get xs i ≡ Some x → take (i + 1) xs ≡ take i xs ++ x ∷ []
taken_next [] i x is = absurd cc
taken_next (y ∷ xs) zero x is = let same : y ≡ x = cc in ap (λ z. z ∷ []) same
taken_next (y ∷ xs) (suc i) x is = let more : suc i + 1 ≡ suc (i + 1) = omega arith in ap (λ (n : ℕ). take n (y ∷ xs)) more ∙ ap (λ l. y ∷ l) (taken_next xs i x is)

pub pieces_next : (parts : List Part) (part : Part) → pieces_of (parts ++ part ∷ []) ≡ pieces_of parts ++ part.piece ∷ []
pieces_next [] part = refl
pieces_next (p ∷ parts) part = ap (λ (l : List Piece). p.piece ∷ l) (pieces_next parts part)

pub feedback_next : (parts : List Part) (part : Part) → feedback_of (parts ++ part ∷ []) ≡ feedback_of parts ++ part.letters ∷ []
feedback_next [] part = refl
feedback_next (p ∷ parts) part = ap (λ (l : List (List Letter)). p.letters ∷ l) (feedback_next parts part)

-- ---- one part

or_there : {A : Type 0} (file place : ℕ) (o : Option A) (a : A) → or_break file place o ≡ Ok a → o ≡ Some a
or_there file place None a is = absurd cc
or_there file place (Some x) a is = let same : x ≡ a = cc in ap (λ z. Some z) same

part_spelled : (home : Home) (files : Files) (moment : ℕ) (place : Place) (part : Part) → part_at home files moment place ≡ Ok part
    → (spelled_at (piece_in home moment) (block_at place.piece (files (file_of home.partition))) ≡ Some part.piece) × (spelled_at (letters_in home) (block_at place.feedback (files (file_of home.partition))) ≡ Some part.letters)
part_spelled home files moment place part is =
    let a = then_parts (or_break (file_of home.partition) place.piece (spelled_at (piece_in home moment) (block_at place.piece (files (file_of home.partition))))) _ part is in
    let b = then_parts (or_break (file_of home.partition) place.feedback (spelled_at (letters_in home) (block_at place.feedback (files (file_of home.partition))))) (λ letters. Ok (record { piece = a.0; letters = letters })) part a.2 in
    let same : record { piece = a.0; letters = b.0 } ≡ part = cc in (
      or_there _ _ _ a.0 a.1 ∙ ap (λ (p : Part). Some p.piece) same,
      or_there _ _ _ b.0 b.1 ∙ ap (λ (p : Part). Some p.letters) same,
    )

part_there : (n p : ℕ) (files : Files) (moment : ℕ) (places : List Place) (parts : List Part) (i : ℕ) → parts_from n p files moment places ≡ Ok parts → i < length places
    → (part : Part) × (slice_get parts i ≡ Some part) × (part_at (record { partitions = n; partition = p + i }) files moment (slice_index_or places i nowhere) ≡ Ok part)
part_there n p files moment [] parts i is less = absurd (omega (arith, less))
part_there n p files moment (x ∷ places) parts zero is less =
    let a = then_parts (part_at (record { partitions = n; partition = p }) files moment x) (λ part. and_then (parts_from n (p + 1) files moment places) (λ more. Ok (part ∷ more))) parts is in
    let b = then_parts (parts_from n (p + 1) files moment places) (λ more. Ok (a.0 ∷ more)) parts a.2 in
    let whole : a.0 ∷ b.0 ≡ parts = cc in
    let here : p + 0 ≡ p = omega arith in
    (a.0, ap (λ (l : List Part). slice_get l 0) (sym whole), ap (λ (q : ℕ). part_at (record { partitions = n; partition = q }) files moment x) here ∙ a.1)
part_there n p files moment (x ∷ places) parts (suc i) is less =
    let a = then_parts (part_at (record { partitions = n; partition = p }) files moment x) (λ part. and_then (parts_from n (p + 1) files moment places) (λ more. Ok (part ∷ more))) parts is in
    let b = then_parts (parts_from n (p + 1) files moment places) (λ more. Ok (a.0 ∷ more)) parts a.2 in
    let whole : a.0 ∷ b.0 ≡ parts = cc in
    let r = part_there n (p + 1) files moment places b.0 i b.1 (omega (arith, less)) in
    let there : p + suc i ≡ p + 1 + i = omega arith in
    (r.0, ap (λ (l : List Part). slice_get l (suc i)) (sym whole) ∙ r.1, ap (λ (q : ℕ). part_at (record { partitions = n; partition = q }) files moment (slice_index_or places i nowhere)) there ∙ r.2)

pub lengths : (n p : ℕ) (files : Files) (moment : ℕ) (places : List Place) (parts : List Part) → parts_from n p files moment places ≡ Ok parts → length parts ≡ length places
lengths n p files moment [] parts is = let none : parts ≡ [] = cc in ap length none
lengths n p files moment (x ∷ places) parts is =
    let a = then_parts (part_at (record { partitions = n; partition = p }) files moment x) (λ part. and_then (parts_from n (p + 1) files moment places) (λ more. Ok (part ∷ more))) parts is in
    let b = then_parts (parts_from n (p + 1) files moment places) (λ more. Ok (a.0 ∷ more)) parts a.2 in
    let whole : a.0 ∷ b.0 ≡ parts = cc in
    ap length (sym whole) ∙ ap suc (lengths n (p + 1) files moment places b.0 b.1)

pub parts_length : (store : Store) (moment : ℕ) (places : List Place) (now : Moment) (files : Files) (parts : List Part) → HasPartsAt store moment places now files parts → length parts ≡ length places
parts_length store moment places now files parts has = lengths store.shape.partitions 0 files moment places parts has.are

pub some_same : {A : Type 0} (o : Option A) (x y : A) → o ≡ Some x → o ≡ Some y → x ≡ y
some_same o x y is_x is_y = cc

-- the part of one partition
module _ (store : Store) (moment : ℕ) (places : List Place) (i : ℕ) (less : i < length places) (place : Place) (is : place ≡ slice_index_or places i nowhere) (partition : ℕ) (count : partition ≡ i) where
  module _ (now : Moment) (files : Files) (parts : List Part) (has : HasPartsAt store moment places now files parts) where
    there : (part : Part) × (slice_get parts i ≡ Some part) × (part_at (record { partitions = store.shape.partitions; partition = 0 + i }) files moment (slice_index_or places i nowhere) ≡ Ok part)
    there = part_there store.shape.partitions 0 files moment places parts i has.are less

    same_part : part_at (home_in store.shape partition) files moment place ≡ Ok there.0
    same_part =
        let at : partition ≡ 0 + i = omega (arith, count) in
        ap (part_at (home_in store.shape partition) files moment) is ∙ ap (λ (q : ℕ). part_at (record { partitions = store.shape.partitions; partition = q }) files moment (slice_index_or places i nowhere)) at ∙ there.2

    spelled : (spelled_at (piece_in (home_in store.shape partition) moment) (block_at place.piece (files (2 + partition))) ≡ Some there.0.piece) × (spelled_at (letters_in (home_in store.shape partition)) (block_at place.feedback (files (2 + partition))) ≡ Some there.0.letters)
    spelled = part_spelled (home_in store.shape partition) files moment place there.0 same_part

    front : take (i + 1) parts ≡ take i parts ++ there.0 ∷ []
    front = taken_next parts i there.0 there.1

    pub pieces_more : (piece : Piece) → spelled_at (piece_in (home_in store.shape partition) moment) (block_at place.piece (files (2 + partition))) ≡ Some piece → pieces_of (take (i + 1) parts) ≡ pieces_of (take i parts) ++ piece ∷ []
    pieces_more piece read = ap pieces_of front ∙ pieces_next (take i parts) there.0 ∙ ap (λ (p : Piece). pieces_of (take i parts) ++ p ∷ []) (some_same _ there.0.piece piece spelled.0 read)

    pub feedback_more : (letters : List Letter) → spelled_at (letters_in (home_in store.shape partition)) (block_at place.feedback (files (2 + partition))) ≡ Some letters → feedback_of (take (i + 1) parts) ≡ feedback_of (take i parts) ++ letters ∷ []
    feedback_more letters read = ap feedback_of front ∙ feedback_next (take i parts) there.0 ∙ ap (λ (l : List Letter). feedback_of (take i parts) ++ l ∷ []) (some_same _ there.0.letters letters spelled.1 read)

    spelled_true : {A : Type 0} (read : Body → Option A) (o : Option Body) (a : A) → spelled_at read o ≡ Some a → option_map_or (λ b. is_some (read b)) o false ≡ true
    spelled_true read None a is_a = absurd cc
    spelled_true read (Some b) a is_a = ap (λ o. is_some o) is_a

    no_break_piece : option_map_or (λ b. is_some (piece_in (home_in store.shape partition) moment b)) (block_at place.piece (files (2 + partition))) false ≡ false → ⊥
    no_break_piece none = false≢true (sym none ∙ spelled_true (piece_in (home_in store.shape partition) moment) (block_at place.piece (files (2 + partition))) there.0.piece spelled.0)

    no_break_letters : option_map_or (λ b. is_some (letters_in (home_in store.shape partition) b)) (block_at place.feedback (files (2 + partition))) false ≡ false → ⊥
    no_break_letters none = false≢true (sym none ∙ spelled_true (letters_in (home_in store.shape partition)) (block_at place.feedback (files (2 + partition))) there.0.letters spelled.1)

  module _ (a b : List Moment) (same : b ≡ a) (exist : WhereTold a (λ now. (files : Files) × (parts : List Part) × HasPartsAt store moment places now files parts)) where
    pub piece_untold : (fault : StoreFault) → BreaksThere store b (2 + partition) place.piece (λ body. is_some (piece_in (home_in store.shape partition) moment body)) fault → IsUntold a fault
    piece_untold DiskFault r = tt
    piece_untold (NotAStore file at) r = untold a (λ m told. let e = exist m told in no_break_piece m e.0 e.1 e.2 ((r m (ap newest same ∙ told)).2 e.0 e.2.opened))
    piece_untold (StoreOfOther kept given) r = absurd r
    piece_untold OutOfMemory r = tt

    pub letters_untold : (fault : StoreFault) → BreaksThere store b (2 + partition) place.feedback (λ body. is_some (letters_in (home_in store.shape partition) body)) fault → IsUntold a fault
    letters_untold DiskFault r = tt
    letters_untold (NotAStore file at) r = untold a (λ m told. let e = exist m told in no_break_letters m e.0 e.1 e.2 ((r m (ap newest same ∙ told)).2 e.0 e.2.opened))
    letters_untold (StoreOfOther kept given) r = absurd r
    letters_untold OutOfMemory r = tt

-- ---- the block of a checkpoint

module _ (place : ℕ) (bodies : List Body) (found : Option Body) (body : Body) (there : found ≡ block_at place bodies) (is : found ≡ Some body) (read : Option Manifest) (made : read ≡ valued (manifest_value body)) where
  pub complete_is : spelled_at complete_in (block_at place bodies) ≡ completes read
  unfolding complete_in
  complete_is = ap (spelled_at complete_in) (sym there ∙ is) ∙ ap completes (sym made)

  pub none_complete : completes read ≡ None → (complete : Complete) → spelled_at complete_in (block_at place bodies) ≡ Some complete → ⊥
  none_complete none complete some = let both : None ≡ Some complete = sym (complete_is ∙ none) ∙ some in absurd cc

  pub other_complete : (complete other : Complete) (n : ℕ) → completes read ≡ Some complete → length complete.places ≢ n → spelled_at complete_in (block_at place bodies) ≡ Some other → length other.places ≢ n
  other_complete complete other n made_so differs some = λ e. differs (ap (λ (x : Complete). length x.places) (some_same (spelled_at complete_in (block_at place bodies)) complete other (complete_is ∙ made_so) some) ∙ e)

-- ---- counts

pub counts_next : (taken : List Taken) (i : ℕ) → i < length taken → (d : Taken) → map count_of (take (i + 1) taken) ≡ map count_of (take i taken) ++ (slice_index_or taken i d).count ∷ []
counts_next taken i less d = ap (map count_of) (take_at_read taken i d less).1 ∙ map-append count_of (take i taken) (slice_index_or taken i d ∷ [])

-- What is read of a partition belongs to it, whether the disk tells or not.
use Rattle.std.proofs.Common.{◌≡◌, refl, ℕ, ◌+◌, Bool, true, false, if◌then◌else◌, List, [], ◌∷◌, ◌++◌, length, Option, Some, None, Result, Ok, Err, IfOk, sym, ◌∙◌, ap, subst, arith}
use Rattle.typed_values.specs.declared.letter.Letter.{Letter}
use Rattle.block_log.specs.Blocks.{Body}
use Rattle.piece_messages.specs.declared.piece.Piece.{Piece}
use Rattle.store_faults.specs.declared.fault.StoreFault.{StoreFault}
use Rattle.folder_form.specs.declared.shape.Shape.{Shape}
use Rattle.folder_form.specs.declared.pieces.Home.{Home}
use Rattle.folder_form.specs.Shapes.{shape_in}
use Rattle.folder_form.specs.Pieces.{owns_letters}
use Rattle.folder_form.specs.Folders.{is_piece, kept, piece_in, letters_in}
use Rattle.snapshot_files.specs.declared.store.Store.{Store}
use Rattle.snapshot_files.specs.Stores.{home_in}
use Rattle.snapshot_files.specs.Reading.{AreOwned, AreSorted}

passed : {A : Type 0} (test : A → Bool) (o : Option A) (a : A) → kept test o ≡ Some a → test a ≡ true
passed test None a is = absurd cc
passed test (Some x) a is = by (test x) refl is
  where
    by : (t : Bool) → test x ≡ t → (if t then Some x else None) ≡ Some a → test a ≡ true
    by true e is = let same : x ≡ a = cc in subst (λ y. test y ≡ true) same e
    by false e is = absurd cc

pub piece_owned : (home : Home) (moment : ℕ) (body : Body) (piece : Piece) → piece_in home moment body ≡ Some piece → is_piece home moment piece ≡ true
unfolding piece_in
piece_owned home moment body piece is = passed (is_piece home moment) _ piece is

pub letters_owned : (home : Home) (body : Body) (letters : List Letter) → letters_in home body ≡ Some letters → owns_letters home letters ≡ true
unfolding letters_in
letters_owned home body letters is = passed (owns_letters home) _ letters is

-- ---- one more

pub owned_next : (shape : Shape) (moment partition : ℕ) (pieces : List Piece) (piece : Piece) → AreOwned shape moment partition pieces → is_piece (home_in shape (partition + length pieces)) moment piece ≡ true → AreOwned shape moment partition (pieces ++ piece ∷ [])
owned_next shape moment partition [] piece are is = (subst (λ (n : ℕ). is_piece (home_in shape n) moment piece ≡ true) (omega arith) is, tt)
owned_next shape moment partition (p ∷ pieces) piece are is = (are.0, owned_next shape moment (partition + 1) pieces piece are.1 (subst (λ (n : ℕ). is_piece (home_in shape n) moment piece ≡ true) (omega arith) is))

pub sorted_next : (shape : Shape) (partition : ℕ) (lists : List (List Letter)) (letters : List Letter) → AreSorted shape partition lists → owns_letters (home_in shape (partition + length lists)) letters ≡ true → AreSorted shape partition (lists ++ letters ∷ [])
sorted_next shape partition [] letters are is = (subst (λ (n : ℕ). owns_letters (home_in shape n) letters ≡ true) (omega arith) is, tt)
sorted_next shape partition (l ∷ lists) letters are is = (are.0, sorted_next shape (partition + 1) lists letters are.1 (subst (λ (n : ℕ). owns_letters (home_in shape n) letters ≡ true) (omega arith) is))

-- ---- the shape of what was opened

pub shape_told : (text copy : List ℕ) → copy ≡ text → (r : Result Store StoreFault) → IfOk r (λ store. shape_in copy ≡ Some store.shape) → IfOk r (λ store. shape_in text ≡ Some store.shape)
shape_told text copy copied (Ok store) h = ap shape_in (sym copied) ∙ h
shape_told text copy copied (Err e) h = tt

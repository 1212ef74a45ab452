-- The moments of a disk, and what calls make of them.
use Rattle.std.specs.Prelude.{◌≡◌, ◌≢◌, ◌⊎◌, ℕ, List, [], ◌∷◌, ◌++◌, Option, Some, None}
use Rattle.std.specs.List.{AllByRecursion}
use Rattle.sf_disk.specs.Images.{FileState, Leaves}

-- one moment: the state of each file
abbrev pub Moment : Type 0
Moment = ℕ → FileState

-- the bytes of each file
abbrev pub Folder : Type 0
Folder = ℕ → List ℕ

-- A crash at that moment may leave this folder: each file by itself.
abbrev pub IsImage : Moment → Folder → Type 0
IsImage moment folder = (file : ℕ) → Leaves (moment file) (folder file)

-- The moment that it is now. A disk that tells nothing has none.
abbrev pub newest : List Moment → Option Moment
newest [] = None
newest (moment ∷ past) = Some moment

-- of the moment that it is now, where it is told
abbrev pub WhereTold : List Moment → (Moment → Type 0) → Type 0
WhereTold moments P = (moment : Moment) → newest moments ≡ Some moment → P moment

-- Time went on from the first list to the second, and each new moment stands so to the one that it was then.
pub record Since (old new : List Moment) (R : Moment → Moment → Type 0) : Type 0 where
  pub more : List Moment
  pub goes_on : new ≡ more ++ old
  pub each : AllByRecursion (λ later. (first : Moment) × (newest old ≡ Some first) × R first later) more

-- The moment that it is now stands so to the one that it was then, where that is told.
abbrev pub Becomes : List Moment → List Moment → (Moment → Moment → Type 0) → Type 0
Becomes old new R = (first : Moment) → newest old ≡ Some first → (last : Moment) × (newest new ≡ Some last) × R first last

-- the other files are as they were
abbrev pub Others : ℕ → Moment → Moment → Type 0
Others file first last = (other : ℕ) → other ≢ file → last other ≡ first other

-- one file went on so, and the others are as they were
pub record InFile (file : ℕ) (Q : FileState → FileState → Type 0) (first last : Moment) : Type 0 where
  pub others : Others file first last
  pub here : Q (first file) (last file)

-- one of these moments may leave the folder
abbrev pub OneLeaves : List Moment → Folder → Type 0
OneLeaves [] folder = ⊥
OneLeaves (moment ∷ past) folder = IsImage moment folder ⊎ OneLeaves past folder

-- A crash at some moment from then on, the one that it was then among them, might have left this folder.
abbrev pub MightHaveLeft : List Moment → List Moment → Folder → Type 0
MightHaveLeft old new folder =
    ((first : Moment) × (newest old ≡ Some first) × IsImage first folder) ⊎ ((more : List Moment) × (new ≡ more ++ old) × OneLeaves more folder)

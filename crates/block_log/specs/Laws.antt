-- What follows from how blocks are kept, for any files, logs and crashes.
use Rattle.std.specs.Prelude.{◌≡◌, ◌⊎◌, ℕ, ◌+◌, List, [], ◌∷◌, ◌++◌, take, Option, Some, None, option_to_list}
use Rattle.sf_disk.specs.Images.{Leaves, Follows}
use Rattle.sf_disk.specs.Moments.{Moment, Folder, Since, Becomes, InFile, WhereTold, MightHaveLeft}
use Rattle.block_log.specs.declared.log.BlockLog.{BlockLog}
use Rattle.block_log.specs.Blocks.{Body, HasBlocks, StandsFor, IsNoLog, Keeps, extent}
use Rattle.block_log.specs.Logs.{IsOpened, Adds, Added}

abbrev pub StandsForOne : Type 0
StandsForOne = (file : List ℕ) (bodies others : List Body) → StandsFor file bodies → StandsFor file others → others ≡ bodies

abbrev pub IsRefusedOrStands : Type 0
IsRefusedOrStands = (file : List ℕ) (bodies : List Body) (place : ℕ) → StandsFor file bodies → IsNoLog file place → ⊥

abbrev pub IsRefusedByOnePlace : Type 0
IsRefusedByOnePlace = (file : List ℕ) (place other : ℕ) → IsNoLog file place → IsNoLog file other → other ≡ place

-- a file that begins with the same blocks and the closed gate stands for the same, whatever is behind
abbrev pub BehindMeansNothing : Type 0
BehindMeansNothing =
    (file other : List ℕ) (bodies : List Body) → HasBlocks file bodies → take (extent bodies + 1) other ≡ take (extent bodies + 1) file → HasBlocks other bodies

-- One life of a log, from its opening to a crash: the bodies whose `append` was answered Ok, in their order, and the body of the one
-- that answered a fault or was not answered, if there was one.
pub record Life : Type 0 where
  pub sure : List Body
  pub unsure : Option Body

-- The calls of `append` on an open log, by their clauses, up to a crash that left this folder: in the last call, or behind it.
abbrev pub Appends : ℕ → BlockLog → List Moment → (sure : List Body) (unsure : Option Body) → Folder → Type 0
Appends file log start [] None folder = MightHaveLeft start start folder
Appends file log start [] (Some body) folder = (now : List Moment) × Since start now (InFile file (Adds log body)) × MightHaveLeft start now folder
Appends file log start (body ∷ sure) unsure folder =
    (now : List Moment) × (next : BlockLog) × Since start now (InFile file (Adds log body)) × Becomes start now (InFile file (Added log next body))
    × Appends file next now sure unsure folder

-- A life by the clauses of its calls: a crash in `open_log`, or `open_log` and then calls of `append`.
abbrev pub Lived : ℕ → List Moment → Life → Folder → Type 0
Lived file start life folder =
    (now : List Moment) × Since start now (InFile file (Follows Keeps))
    × (((life.sure ≡ []) × (life.unsure ≡ None) × MightHaveLeft start now folder)
    ⊎ ((log : BlockLog) × Becomes start now (InFile file (IsOpened log)) × Appends file log now life.sure life.unsure folder))

-- The bytes that crashes have left in a file behind these lives, the newest of them first. It was empty before the first, and each
-- found what the crash before it had left.
abbrev pub LeftBehind : ℕ → List Life → List ℕ → Type 0
LeftBehind file [] bytes = bytes ≡ []
LeftBehind file (life ∷ earlier) bytes =
    (found : List ℕ) × LeftBehind file earlier found × (start : List Moment) × WhereTold start (λ now. (c : List ℕ) → Leaves (now file) c → c ≡ found)
    × (folder : Folder) × Lived file start life folder × (bytes ≡ folder file)

-- Of each life all that was answered Ok, in order, and of its last call the body or nothing.
abbrev pub MayHold : List Life → List Body → Type 0
MayHold [] bodies = bodies ≡ []
MayHold (life ∷ earlier) bodies =
    (held : List Body) × MayHold earlier held × ((bodies ≡ held ++ life.sure) ⊎ (bodies ≡ held ++ life.sure ++ option_to_list life.unsure))

abbrev pub HoldsWhatWasAnswered : Type 0
HoldsWhatWasAnswered =
    (file : ℕ) (lives : List Life) (bytes : List ℕ) → LeftBehind file lives bytes → (bodies : List Body) × StandsFor bytes bodies × MayHold lives bodies

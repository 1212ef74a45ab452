-- Logs that are open, and what their calls make of a file.
use Rattle.std.specs.Prelude.{◌≡◌, ◌⊎◌, ℕ, List, [], ◌∷◌, ◌++◌}
use Rattle.sf_disk.specs.Images.{FileState, Leaves, Follows}
use Rattle.block_log.specs.Blocks.{Body, HasBlocks, StandsFor, Keeps, extent, places_from}
use Rattle.block_log.specs.declared.log.BlockLog.{BlockLog}

-- each outcome of a crash has these blocks, and so has what a read gives
abbrev pub AtRest : FileState → List Body → Type 0
AtRest state bodies = (bytes : List ℕ) → Leaves state bytes → HasBlocks bytes bodies

-- the log knows where these blocks stand, and where they end
pub record Knows (log : BlockLog) (bodies : List Body) : Type 0 where
  pub blocks : log.blocks ≡ places_from 0 bodies
  pub end : log.end ≡ extent bodies

-- the log stands for these blocks
pub record IsOpen (log : BlockLog) (bodies : List Body) (state : FileState) : Type 0 where
  pub rest : AtRest state bodies
  pub knows : Knows log bodies

-- each outcome of a crash has the blocks before, with this one or without
abbrev pub WithOrWithout : List Body → Body → FileState → Type 0
WithOrWithout bodies body state = (bytes : List ℕ) → Leaves state bytes → HasBlocks bytes bodies ⊎ HasBlocks bytes (bodies ++ body ∷ [])

-- while a block is added to what the log stands for
abbrev pub Adds : BlockLog → Body → FileState → FileState → Type 0
Adds log body old new = (bodies : List Body) → IsOpen log bodies old → WithOrWithout bodies body new

-- when it was added
abbrev pub Added : BlockLog → BlockLog → Body → FileState → FileState → Type 0
Added log now body old new = (bodies : List Body) → IsOpen log bodies old → IsOpen now (bodies ++ body ∷ []) new

-- the file has blocks, and the log is of them
abbrev pub EndsAt : BlockLog → List ℕ → Type 0
EndsAt log file = (bodies : List Body) × HasBlocks file bodies × Knows log bodies

-- A log was opened: what the file stood for it still stands for, and the log is of that.
pub record IsOpened (log : BlockLog) (old new : FileState) : Type 0 where
  pub follows : Follows Keeps old new
  pub bodies : List Body
  pub stood : StandsFor old.seen bodies
  pub is_open : IsOpen log bodies new

-- a block of this body stands at that place
pub record HasBlockAt (bodies : List Body) (place : ℕ) (body : Body) : Type 0 where
  pub before : List Body
  pub behind : List Body
  pub is : bodies ≡ before ++ body ∷ behind
  pub place_is : place ≡ extent before

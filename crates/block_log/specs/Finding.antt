-- What stands at a gate.
use Rattle.std.specs.Prelude.{◌≡◌, ◌≢◌, ℕ, ◌+◌, ◌^◌, ◌<◌, ◌≤◌, List, ◌∷◌, ◌++◌, length}
use Rattle.block_log.specs.Blocks.{Body, framed, IsCut}
use Rattle.block_log.specs.declared.gate.Gate.{Gate}
use Rattle.block_log.specs.declared.gate.Gate.TheVariants.{Closed, Block, Cut}

-- these bytes begin with that gate
abbrev pub Begins : Gate → List ℕ → Type 0
Begins Closed bytes = (tail : List ℕ) × (bytes ≡ 0 ∷ tail)
Begins (Block len) bytes =
    (gate : ℕ) × (body : Body) × (rest : List ℕ) × (gate ≢ 0) × (length body ≡ len) × (len < 2 ^ 64) × (bytes ≡ gate ∷ framed body ++ rest)
Begins Cut bytes = (gate : ℕ) × (tail : List ℕ) × (gate ≢ 0) × (bytes ≡ gate ∷ tail) × IsCut tail

-- its block and the next gate fit into so many bytes
abbrev pub FitsInto : ℕ → Gate → Type 0
FitsInto left Closed = Unit {0}
FitsInto left (Block len) = len + 10 ≤ left
FitsInto left Cut = Unit {0}

-- The moments that a clock gives.
use Rattle.std.specs.Prelude.{ℕ, List, [], ◌∷◌}

-- the next of the moments ahead; where none is ahead it is 0
abbrev pub next_of : List ℕ → ℕ
next_of [] = 0
next_of (moment ∷ moments) = moment

-- what is ahead behind it: the last moment stays
abbrev pub behind : List ℕ → List ℕ
behind [] = []
behind (moment ∷ []) = moment ∷ []
behind (moment ∷ later ∷ moments) = later ∷ moments

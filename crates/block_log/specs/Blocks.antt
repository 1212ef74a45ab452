-- The blocks of a file: a gate byte, the body's length in 8 bytes big-endian, the body; then the next gate. A closed gate, 0, ends them.
use Rattle.std.specs.Prelude.{◌≡◌, ◌≢◌, ◌⊎◌, ℕ, ◌+◌, ◌^◌, ◌<◌, ◌≤◌, List, [], ◌∷◌, ◌++◌, length, take}
use Rattle.std.specs.Int.{to_be_bytes, from_be_bytes, w64}

abbrev pub Body : Type 0
Body = List ℕ

-- the length and the body
abbrev pub framed : Body → List ℕ
framed body = to_be_bytes w64 (length body) ++ body

-- the bytes are blocks of these bodies, each gate open
abbrev pub AreBlocks : List ℕ → List Body → Type 0
AreBlocks bytes [] = bytes ≡ []
AreBlocks bytes (body ∷ bodies) =
    (gate : ℕ) × (rest : List ℕ) × (gate ≢ 0) × (length body < 2 ^ 64) × (bytes ≡ gate ∷ framed body ++ rest) × AreBlocks rest bodies

-- how many bytes they take, and where each begins, the first of them at a place
abbrev pub extent : List Body → ℕ
extent [] = 0
extent (body ∷ bodies) = 9 + length body + extent bodies

abbrev pub places_from : ℕ → List Body → List ℕ
places_from place [] = []
places_from place (body ∷ bodies) = place ∷ places_from (place + 9 + length body) bodies

-- blocks of these bodies, a closed gate, and bytes that mean nothing
pub record HasBlocks (file : List ℕ) (bodies : List Body) : Type 0 where
  pub front : List ℕ
  pub tail : List ℕ
  pub blocks : AreBlocks front bodies
  pub is : file ≡ front ++ 0 ∷ tail

-- What a file stands for. One of fewer than 10 bytes has no blocks, whatever these are.
abbrev pub StandsFor : List ℕ → List Body → Type 0
StandsFor file bodies = HasBlocks file bodies ⊎ ((length file < 10) × (bodies ≡ []))

-- what follows an open gate does not fit: fewer than 10 bytes from the gate on, or the block with the next gate passes the end
abbrev pub IsCut : List ℕ → Type 0
IsCut tail = (1 + length tail < 10) ⊎ (1 + length tail < 10 + from_be_bytes w64 (take 8 tail))

-- The file is no log, by the gate at that place: whole blocks stand before it, it is open, and its block does not fit.
pub record IsNoLog (file : List ℕ) (place : ℕ) : Type 0 where
  pub bodies : List Body
  pub front : List ℕ
  pub gate : ℕ
  pub tail : List ℕ
  pub blocks : AreBlocks front bodies
  pub is : file ≡ front ++ gate ∷ tail
  pub place_is : place ≡ length front
  pub is_open : gate ≢ 0
  pub cut : IsCut tail
  pub long : 10 ≤ length file

-- what the file stood for it still stands for
abbrev pub Keeps : List ℕ → List ℕ → Type 0
Keeps old new = (bodies : List Body) → StandsFor old bodies → StandsFor new bodies

-- Varints (Protocol Buffers encoding guide, "Base 128 Varints"), and faults of items.
use Rattle.std.specs.Prelude.{ℕ, zero, suc, ◌+◌, ◌-◌, ◌*◌, ◌/◌, ◌%◌, ◌^◌, List, [], ◌∷◌, length, Result, Ok, Err, nat_lt, if◌then◌else◌}
use Rattle.proto_wire.specs.declared.fault.WireKind.{WireKind}
use Rattle.proto_wire.specs.declared.fault.WireKind.TheVariants.{Truncated, LongVarint}

-- what is wrong with an item, and how many bytes are left from its first byte to the end of the bytes that are read
pub record ItemFault : Type 0 where
  pub kind : WireKind
  pub left : ℕ

-- what is read, and then something with it; the first fault stops
infixl 10 ◌>>=◌
abbrev pub ◌>>=◌ : {A B E : Type 0} → Result A E → (A → Result B E) → Result B E
(Ok x) >>= f = f x
(Err e) >>= f = Err e

-- a fault of the item that begins with the first of the bytes
abbrev pub fault : {A : Type 0} → WireKind → List ℕ → Result A ItemFault
fault kind bytes = Err (record { kind = kind; left = length bytes })

-- The number that groups of seven bits make, lowest first, modulo 2 ^ 64, and the bytes behind the last group.
-- There are at most so many groups; `left` bytes were left where they began.
unfoldable pub groups : ℕ → ℕ → List ℕ → Result (ℕ × List ℕ) ItemFault
groups left zero bytes = Err (record { kind = LongVarint; left = left })
groups left (suc more) [] = Err (record { kind = Truncated; left = left })
groups left (suc more) (b ∷ bytes) =
    if nat_lt b 128 then Ok (b, bytes) else (groups left more bytes >>= λ high. Ok ((b - 128 + 128 * high.0) % 2 ^ 64, high.1))

-- a varint: at most ten groups
unfoldable pub varint_in : List ℕ → Result (ℕ × List ℕ) ItemFault
varint_in bytes = groups (length bytes) 10 bytes

-- the shortest groups of a number, of which there are `more` beside the last at most
unfoldable pub groups_of : ℕ → ℕ → List ℕ
groups_of zero number = number % 128 ∷ []
groups_of (suc more) number = if nat_lt number 128 then number ∷ [] else (number % 128 + 128) ∷ groups_of more (number / 128)

-- the shortest varint
unfoldable pub varint : ℕ → List ℕ
varint number = groups_of 9 number

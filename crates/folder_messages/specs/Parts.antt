-- Fields of 32 bits, and messages that need some of their parts.
use Rattle.std.specs.Prelude.{ℕ, ◌^◌, nat_lt, List, [], ◌∷◌, length, Option, Some, option_and_then, Result}
use Rattle.proto_wire.specs.declared.fault.WireFault.{WireFault}
use Rattle.proto_wire.specs.Varint.{◌>>=◌}
use Rattle.proto_wire.specs.Places.{present}
use Rattle.proto_wire.specs.Message.{Row, scalars, short_of, spelled_number, value_of}

-- a number of 32 bits
abbrev pub shorts : {M : Type 0} → ℕ → (M → ℕ) → (M → ℕ → M) → Row M
shorts field get put = scalars field 0 short_of spelled_number (λ number. nat_lt number (2 ^ 32)) get put

-- each of a list, where each is there
abbrev pub all_of : {A B : Type 0} → (A → Option B) → List A → Option (List B)
all_of f [] = Some []
all_of f (x ∷ xs) = option_and_then (λ y. option_and_then (λ ys. Some (y ∷ ys)) (all_of f xs)) (f x)

-- the message that a whole input spells, which needs its parts, or the first fault
abbrev pub whole_value : {M N : Type 0} → List (Row M) → M → (M → Option N) → List ℕ → Result N WireFault
whole_value rows blank whole bytes = value_of rows blank bytes >>= λ it. present (length bytes) (whole it)

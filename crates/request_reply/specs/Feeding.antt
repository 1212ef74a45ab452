-- Bytes that come in pieces, up to a limit.
use Rattle.std.specs.Prelude.{ℕ, ◌+◌, List, [], ◌∷◌, ◌++◌, length, Result, Ok, Err, nat_lt, if◌then◌else◌}
use Rattle.proto_wire.specs.declared.fault.WireFault.{WireFault}
use Rattle.proto_wire.specs.declared.fault.WireKind.TheVariants.{OverLimit}
use Rattle.proto_wire.specs.Varint.{◌>>=◌}
use Rattle.request_reply.specs.declared.request.ToFunction.{ToFunction}
use Rattle.request_reply.specs.declared.answer.FromFunction.{FromFunction}
use Rattle.request_reply.specs.Spelling.{to_value, from_value}

-- what was fed, and how much may be fed in all
pub record Fed : Type 0 where
  pub bytes : List ℕ
  pub limit : ℕ

-- a piece goes behind what was fed; past the limit it is refused, at the limit
unfoldable pub fed : Fed → List ℕ → Result Fed WireFault
fed held piece =
    if nat_lt held.limit (length held.bytes + length piece) then Err (record { kind = OverLimit; at = held.limit })
    else Ok (record { bytes = held.bytes ++ piece; limit = held.limit })

-- pieces one behind the other
unfoldable pub pieces_joined : List (List ℕ) → List ℕ
pieces_joined [] = []
pieces_joined (piece ∷ pieces) = piece ++ pieces_joined pieces

abbrev pub nothing_fed : ℕ → Fed
nothing_fed limit = record { bytes = []; limit = limit }

-- the value of bytes that may be so long at most
unfoldable pub limited_to : ℕ → List ℕ → Result ToFunction WireFault
limited_to limit bytes = fed (nothing_fed limit) bytes >>= λ held. to_value held.bytes

unfoldable pub limited_from : ℕ → List ℕ → Result FromFunction WireFault
limited_from limit bytes = fed (nothing_fed limit) bytes >>= λ held. from_value held.bytes

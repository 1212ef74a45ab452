-- What the values of the types are.
use Rattle.std.proofs.Common.{◌≡◌, ℕ, ◌^◌, ◌<◌, true, ltb, ℤ, pos, negsuc, arith}
use Rattle.std.specs.Int.{w32, w64}
use Rattle.std.specs.Prelude.{FitsSigned}
use Rattle.std.proofs.lemmas.Str.{is_utf8-from_IsUtf8}
use Rattle.std.proofs.lemmas.Int.{ints, to_z-of_z}
use Rattle.std.proofs.lemmas.Bool.Decides.{nat_tests}
use Rattle.std.proofs.lemmas.Grind.{common_steps}
use Rattle.proto_wire.specs.Message.{fits_signed}

below : (n limit : ℕ) → n < limit → ltb n limit ≡ true
below n limit h = grind (arith, nat_tests)

pub fits_enum : (z : ℤ) → FitsSigned w32 z → fits_signed 31 z ≡ true
unfolding fits_signed
fits_enum (pos n) h = below n (2 ^ 31) h.sfits
fits_enum (negsuc n) h = below n (2 ^ 31) h.sfits

pub fits_long : (z : ℤ) → FitsSigned w64 z → fits_signed 63 z ≡ true
unfolding fits_signed
fits_long (pos n) h = below n (2 ^ 63) h.sfits
fits_long (negsuc n) h = below n (2 ^ 63) h.sfits

pub ruleset fit_steps = (common_steps, ints, to_z-of_z, is_utf8-from_IsUtf8, fits_enum, fits_long)

-- What is written, field by field.
use Rattle.std.proofs.Common.{append_assoc, arith}
use Rattle.std.proofs.lemmas.List.{append-nil}
use Rattle.std.proofs.lemmas.Int.{ints, to_z-of_z}
use Rattle.std.proofs.lemmas.Grind.{common_steps}

pub ruleset put_steps = (common_steps, ints, to_z-of_z, arith, append_assoc, append-nil)

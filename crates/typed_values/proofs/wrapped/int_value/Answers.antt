use Rattle.std.proofs.Common.{◌∙◌, ap, Some, ℤ, to_z, of_z}
use Rattle.std.specs.Int.{w32}
use Rattle.std.proofs.lemmas.Int.{to_z-of_z}
use Rattle.proto_wire.specs.Message.{spelled_four}
use Rattle.typed_values.specs.Wrappers.{int_rows, int_name}
use Rattle.typed_values.proofs.RoundTrip.{made-is, int-written}
use Rattle.typed_values.proofs.wrapped.int_value.Goals as goal

pub returns-clause-again : goal.returns-clause-again
unfolding int_rows
returns-clause-again c = int-written c.in_ok-value.value (to_z w32 (of_z w32 c.args.number)) (made-is int_name c.in_ok-value.value c.new.result c.in_ok-bytes.bytes (spelled_four 1 (to_z w32 (of_z w32 c.args.number))) c.in_ok-value.ensures.is c.new.ensures c.in_ok-bytes.ensures.spelled)
    c.in_ok-bytes.ensures.fits c.in_ok-value.ensures.short
    ∙ ap (λ (z : ℤ). Some z) (to_z-of_z w32 c.args.number c.ranges.number)

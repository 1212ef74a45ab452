use Rattle.std.proofs.Common.{◌∙◌, ap, Some, ℤ, to_z, of_z}
use Rattle.std.specs.Int.{w64}
use Rattle.std.proofs.lemmas.Int.{to_z-of_z}
use Rattle.proto_wire.specs.Message.{spelled_eight}
use Rattle.typed_values.specs.Wrappers.{long_rows, long_name}
use Rattle.typed_values.proofs.RoundTrip.{made-is, long-written}
use Rattle.typed_values.proofs.wrapped.long_value.Goals as goal

pub returns-clause-again : goal.returns-clause-again
unfolding long_rows
returns-clause-again c = long-written c.in_ok-value.value (to_z w64 (of_z w64 c.args.number)) (made-is long_name c.in_ok-value.value c.new.result c.in_ok-bytes.bytes (spelled_eight 1 (to_z w64 (of_z w64 c.args.number))) c.in_ok-value.ensures.is c.new.ensures c.in_ok-bytes.ensures.spelled)
    c.in_ok-bytes.ensures.fits c.in_ok-value.ensures.short
    ∙ ap (λ (z : ℤ). Some z) (to_z-of_z w64 c.args.number c.ranges.number)

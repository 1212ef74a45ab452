use Rattle.std.proofs.Common.{◌≡◌, sym, ap, ◌∙◌, Some, ℤ}
use Rattle.proto_wire.specs.Places.{item_of}
use Rattle.typed_values.proofs.LastRecord.{bool-some, bool-none, bool-broken}
use Rattle.typed_values.proofs.wrapped.bool_of.Goals as goal

pub returns-in-Ok-Some : goal.returns-in-Ok-Some
returns-in-Ok-Some c =
    let found = rw (c.in-Ok-Some.field-0-is, c.as_slice.ensures) at c.in-Ok-Some.ensures in
    ap Some c.bool.ensures ∙ sym (bool-some c.args.value.now (item_of c.in-Ok-Some.last) (sym c.is_of.ensures ∙ c.if-not-is_of.false) found)

pub returns-in-Ok-None : goal.returns-in-Ok-None
returns-in-Ok-None c =
    let found = rw (c.in-Ok-None.field-0-is, c.as_slice.ensures) at c.in-Ok-None.ensures in
    sym (bool-none c.args.value.now (sym c.is_of.ensures ∙ c.if-not-is_of.false) found)

pub returns-in-Err : goal.returns-in-Err
returns-in-Err c = sym (bool-broken c.args.value.now _ (sym c.is_of.ensures ∙ c.if-not-is_of.false) (rw c.as_slice.ensures at c.in-Err.ensures.0))

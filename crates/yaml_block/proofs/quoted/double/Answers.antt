use Rattle.std.proofs.Common.{◌∙◌}
use Rattle.yaml_block.proofs.Lexing.{double_byte, double_escape}
use Rattle.yaml_block.proofs.quoted.double.Goals as goal

pub loop-byte-preserved-then-byte-eq92 : goal.loop-byte-preserved-then-byte-eq92
loop-byte-preserved-then-byte-eq92 c =
    rw c.in_ok-push.ensures.ok (double_escape c.loop-byte.content c.in-Some.byte c.in-Some-first_of.code c.in-Some-escaped.byte c.loop-byte.rest.now c.in-Some.after.now c.in-Some-first_of.after.now c.in-Some.ensures c.in-Some-first_of.ensures c.if-byte-eq92.true c.in-Some-escaped.ensures ∙ c.loop-byte.invariant)

pub loop-byte-preserved : goal.loop-byte-preserved
loop-byte-preserved c =
    rw c.in_ok-push-2.ensures.ok (double_byte c.loop-byte.content c.in-Some.byte c.loop-byte.rest.now c.in-Some.after.now c.in-Some.ensures c.if-byte-eq34.false c.if-byte-eq92.false ∙ c.loop-byte.invariant)

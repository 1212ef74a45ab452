use Rattle.std.proofs.Common.{sym, rules}
use Rattle.std.specs.Prelude.{IsUtf8}
use Rattle.endpoint_http.proofs.Lengths.{length-not_led, length-not_utf8}
use Rattle.endpoint_http.proofs.fields.length_of.Goals as goal

pub returns-then-not-begins_with_digit : goal.returns-then-not-begins_with_digit
returns-then-not-begins_with_digit c = sym (length-not_led c.args.value.now (λ p. let e = c.if-not-begins_with_digit.ensures.1 p in cc))

pub returns-in-Err : goal.returns-in-Err
returns-in-Err c = let no : ¬ (IsUtf8 c.args.value.now) = search rules in sym (length-not_utf8 c.args.value.now no)

use Rattle.std.proofs.Common.{sym, refl, ◌∙◌, arith}
use Rattle.run_words.proofs.Digits.{number-not_led, number-parsed}
use Rattle.run_words.proofs.numbers.number_in.Goals as goal

pub returns-then-not-is_led : goal.returns-then-not-is_led
returns-then-not-is_led c = sym (number-not_led c.args.most c.args.word.now (λ p. let e = c.if-not-is_led.ensures.1 p in cc))

pub returns-in-Ok : goal.returns-in-Ok
returns-in-Ok c = let e = number-parsed c.args.most c.args.word.now c.parse.result (omega arith) c.parse.ensures.value.0 (c.if-not-is_led.ensures.0 refl) in c.within.ensures ∙ sym (rw c.in-Ok.is at e)

pub returns-in-Err : goal.returns-in-Err
returns-in-Err c = let e = number-parsed c.args.most c.args.word.now c.parse.result (omega arith) c.parse.ensures.value.0 (c.if-not-is_led.ensures.0 refl) in sym (rw c.in-Err.is at e)

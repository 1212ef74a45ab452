use Rattle.std.proofs.Common.{sym, refl, ◌∙◌}
use Rattle.module_yaml.proofs.Numbers.{number-not_led, number-parsed}
use Rattle.module_yaml.proofs.values.number_in.Goals as goal

pub returns-then-not-is_led-clause-value : goal.returns-then-not-is_led-clause-value
returns-then-not-is_led-clause-value c = sym (number-not_led c.args.least c.args.most c.args.text.now c.requires.least (λ p. let e = c.if-not-is_led.ensures.1 p in cc))

pub returns-in-Ok-clause-value : goal.returns-in-Ok-clause-value
returns-in-Ok-clause-value c = let e = number-parsed c.args.least c.args.most c.args.text.now c.parse.result c.requires.least c.requires.most c.parse.ensures.value.0 (c.if-not-is_led.ensures.0 refl) in c.number_within.ensures.value ∙ sym (rw c.in-Ok.is at e)

pub returns-in-Err-clause-value : goal.returns-in-Err-clause-value
returns-in-Err-clause-value c = let e = number-parsed c.args.least c.args.most c.args.text.now c.parse.result c.requires.least c.requires.most c.parse.ensures.value.0 (c.if-not-is_led.ensures.0 refl) in sym (rw c.in-Err.is at e)

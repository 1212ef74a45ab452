use Rattle.std.proofs.Common.{sym, refl, ◌∙◌}
use Rattle.statefun_cli.proofs.Numbers.{turns-not_led, turns-parsed}
use Rattle.statefun_cli.proofs.run_words.turns_in.Goals as goal

pub returns-then-not-is_led-clause-value : goal.returns-then-not-is_led-clause-value
returns-then-not-is_led-clause-value c = sym (turns-not_led c.args.word.now (λ p. let e = c.if-not-is_led.ensures.1 p in cc))

pub returns-in-Ok-clause-value : goal.returns-in-Ok-clause-value
returns-in-Ok-clause-value c = let e = turns-parsed c.args.word.now c.parse.result c.parse.ensures.value.0 (c.if-not-is_led.ensures.0 refl) in c.turns_within.ensures.value ∙ sym (rw c.in-Ok.is at e)

pub returns-in-Err-clause-value : goal.returns-in-Err-clause-value
returns-in-Err-clause-value c = let e = turns-parsed c.args.word.now c.parse.result c.parse.ensures.value.0 (c.if-not-is_led.ensures.0 refl) in sym (rw c.in-Err.is at e)

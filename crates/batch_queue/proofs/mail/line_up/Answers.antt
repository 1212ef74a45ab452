use Rattle.std.proofs.Common.{◌≡◌, ◌∙◌, sym, refl, Bool, true, false}
use mathlib.Core.Bool.{beq}
use Rattle.batch_queue.specs.Post.{waits}
use Rattle.batch_queue.proofs.Keeping.{lined_same}
use Rattle.batch_queue.proofs.mail.line_up.Goals as goal

alike : (a b : Bool) → beq a b ≡ true → a ≡ b
alike true true e = refl
alike false false e = refl
alike true false e = absurd cc
alike false true e = absurd cc

pub returns-then-is_ready-was_ready : goal.returns-then-is_ready-was_ready
returns-then-is_ready-was_ready c =
    let same = lined_same c.args.kept.now.number c.args.line.now.numbers (waits c.args.kept.now.letters c.args.kept.now.in_flight)
    (c.requires.before ∙ sym (alike c.is_ready-is_ready.result c.args.was_ready c.if-is_ready-was_ready.true) ∙ c.is_ready-is_ready.ensures) in
    (λ i. record { size = c.args.line.now.size; numbers = sym same i })

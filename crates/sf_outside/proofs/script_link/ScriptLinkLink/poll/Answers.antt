use Rattle.std.proofs.Common.{◌≡◌, ◌++◌, slice_get, option_to_list, arith}
use Rattle.std.proofs.lemmas.Grind.{common_steps}
use Rattle.sf_outside.specs.Script.{told, exchange_of}
use Rattle.sf_outside.proofs.Backed.{is_answered_as}
use Rattle.sf_outside.proofs.script_link.ScriptLinkLink.poll.Goals as goal
use Rattle.sf_outside.proofs.script_link.ScriptLinkLink.poll.Goals.{then-self-len, else-self-len}

pub returns-clause-answered : goal.returns-clause-answered
returns-clause-answered c =
    let before = c.args.self.now in
    let turn = slice_get before.turns before.taken in
    let tells : c.in_ok-outcome.field-0.outcome ≡ told before.done turn = grind (arith, common_steps) in
    let exchanged : c.if-self-len.self.answered ≡ before.answered ++ option_to_list (exchange_of before.done turn) =
    elim c.if-self-len.branch [ then-self-len w ↦ grind (arith, common_steps) | else-self-len w ↦ grind (arith, common_steps) ] in
    is_answered_as before.done before.answered c.if-self-len.self.answered turn c.in_ok-outcome.field-0.outcome tells exchanged

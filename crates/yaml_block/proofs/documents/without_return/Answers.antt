use Rattle.std.proofs.Common.{◌++◌, ◌∷◌, [], cond, sym, ap, ◌∙◌, eq-eqb, arith}
use Rattle.yaml_block.specs.Steps.{without_return}
use Rattle.yaml_block.proofs.Lexing.{unequal}
use Rattle.yaml_block.proofs.Texts.{return_last}
use Rattle.yaml_block.proofs.Utf8.{utf8_before}
use Rattle.yaml_block.proofs.documents.without_return.Goals as goal

pub returns-then-last-eq13-clause-value : goal.returns-then-last-eq13-clause-value
returns-then-last-eq13-clause-value c =
    let front = c.in-Some.front.now in
    let last = c.in-Some.last.now in
    sym (ap without_return c.in-Some.ensures.cases.0 ∙ return_last front last ∙ ap (λ v. cond v front (front ++ last ∷ [])) (eq-eqb last 13 c.if-last-eq13.true))

pub returns-else-last-eq13-clause-value : goal.returns-else-last-eq13-clause-value
returns-else-last-eq13-clause-value c =
    let front = c.in-Some.front.now in
    let last = c.in-Some.last.now in
    sym (ap without_return c.in-Some.ensures.cases.0 ∙ return_last front last ∙ ap (λ v. cond v front (front ++ last ∷ [])) (unequal last 13 c.if-last-eq13.false) ∙ sym c.in-Some.ensures.cases.0)

pub returns-then-last-eq13-clause-utf8 : goal.returns-then-last-eq13-clause-utf8
returns-then-last-eq13-clause-utf8 c = utf8_before c.in-Some.front.now [] c.in-Some.last.now (omega (arith, c.if-last-eq13.true)) (rw c.in-Some.ensures.cases.0 at c.requires)

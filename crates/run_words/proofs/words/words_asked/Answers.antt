use Rattle.std.proofs.Common.{None, Some, sym, ◌∙◌, arith}
use Rattle.std.specs.String.{string_bytes}
use Rattle.run_words.proofs.Budget.{fewer}
use Rattle.run_words.proofs.Steps.{reads-next}
use Rattle.run_words.proofs.words.words_asked.Goals as goal

pub returns-in-None : goal.returns-in-None
returns-in-None c =
    let e = reads-next string_bytes c.args.words.now c.loop-next.next-index c.loop-next.word c.next-item.result c.as_str.result.now c.loop-next.reading c.read.result None c.loop-next-test.true c.next-item.is c.as_str.ensures.value c.read.ensures c.in-None.is in
    sym c.loop-next.invariant.same ∙ e

pub loop-next-preserved : goal.loop-next-preserved
loop-next-preserved c =
    let e = reads-next string_bytes c.args.words.now c.loop-next.next-index c.loop-next.word c.next-item.result c.as_str.result.now c.loop-next.reading c.read.result (Some c.in-Some.behind) c.loop-next-test.true c.next-item.is c.as_str.ensures.value c.read.ensures c.in-Some.is in
    let l = fewer c.loop-next.reading c.in-Some.behind c.as_str.result.now (sym c.read.ensures ∙ c.in-Some.is) in
    let f = c.loop-next.invariant.few in
    record { same = sym e ∙ c.loop-next.invariant.same; few = omega arith }

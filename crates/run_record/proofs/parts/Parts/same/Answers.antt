use Rattle.std.specs.Prelude.{◌↔◌, IsTrue}
use Rattle.std.proofs.lemmas.Result.{IfOk-weaker}
use Rattle.keyed_queues.specs.Keys.{address_order}
use Rattle.keyed_queues.specs.Queues.{AreReadIn}
use Rattle.run_record.specs.Filled.{own_read}
use Rattle.run_record.proofs.Same.{AreAlike, fails, read_all, alike_both}
use Rattle.run_record.proofs.parts.Parts.same.Goals as goal

pub returns-then-not-branch : goal.returns-then-not-branch
returns-then-not-branch c =
    fails c.in_ok-are_in.field-0 c.if-not-branch.true c.in_ok-are_in.ensures.alike (read_all c.args.self.now c.args.other.now c.are_in.ensures.ordered)

pub returns : goal.returns
returns c =
    let a = c.args.self.now in
    let b = c.args.other.now in
    IfOk-weaker c.are_in-2.result (λ t. IsTrue t ↔ AreReadIn address_order own_read a.parts b.parts.entries) (λ t. IsTrue t ↔ AreAlike a b)
    (λ t told. alike_both a b c.are_in.ensures.ordered c.are_in-2.ensures.ordered (c.in_ok-are_in.ensures.alike.0 c.if-not-branch.false) t told)
    c.are_in-2.ensures.alike

use Rattle.std.specs.Prelude.{◌↔◌, IsTrue}
use Rattle.std.proofs.lemmas.Result.{IfOk-weaker}
use Rattle.std.proofs.Common.{refl}
use Rattle.run_record.proofs.Same.{counts_fail, mail_fails, matches_by, AreAlike, Matches}
use Rattle.run_record.proofs.machine.Machine.matches.Goals as goal

pub returns-then-not-same_counts : goal.returns-then-not-same_counts
returns-then-not-same_counts c = counts_fail c.args.self.now c.args.other.now c.as_slice.result.now c.as_slice-2.result.now c.as_slice.ensures.value c.as_slice-2.ensures.value c.same_counts.result c.if-not-same_counts.true c.same_counts.ensures

pub returns-then-not-same : goal.returns-then-not-same
returns-then-not-same c = mail_fails c.args.self.now c.args.other.now c.same.result c.if-not-same.true c.same.ensures

pub returns : goal.returns
returns c =
    IfOk-weaker c.same-2.result (λ same. IsTrue same ↔ AreAlike c.args.self.now.parts c.args.other.now.parts) (λ same. IsTrue same ↔ Matches c.args.self.now c.args.other.now)
    (λ same told. matches_by c.args.self.now c.args.other.now c.as_slice.result.now c.as_slice-2.result.now c.as_slice.ensures.value c.as_slice-2.ensures.value (c.if-not-same_counts.ensures.0 refl) (c.if-not-same.ensures.0 refl) same told)
    c.same-2.ensures

use Rattle.std.proofs.Common.{List, ap, sym, subst, ◌∙◌}
use Rattle.std.proofs.lemmas.Result.{IfOk-weaker}
use Rattle.sf_disk.specs.Images.{Leaves}
use Rattle.sf_disk.specs.Memory.{Files, file_of, now_of, crashed}
use Rattle.sf_disk.specs.declared.change.Change.{Change}
use Rattle.sf_disk.proofs.Kept.{crashed_leaves}
use Rattle.sf_disk.proofs.memory_disk.MemoryDisk.crash.Goals as goal

pub returns-clause-image : goal.returns-clause-image
returns-clause-image c = IfOk-weaker c.steady.result _ _ (λ image is file.
    let now = now_of c.args.self.now.first c.args.self.now.changes.items file in
    let made = ap (λ (l : Files). file_of l file) (is ∙ c.of.ensures) ∙ c.in_ok-files.ensures file ∙ ap (λ (l : List Change). crashed c.args.pick (now_of c.args.self.now.first l file)) c.as_slice.ensures.value in
    subst (Leaves now) (sym made) (crashed_leaves c.args.pick now)) c.steady.ensures.content

use Rattle.std.proofs.Common.{◌∙◌, ◌+◌, ℕ, ap, arith, get_or, set, refl}
use Rattle.std.proofs.lemmas.List.{get_or_read}
use Rattle.std.proofs.lemmas.Result.{on_ok_weaker}
use Rattle.std.specs.Prelude.{vec_len}
use Rattle.partition_core.specs.Work.{with_posted}
use Rattle.partition_core.specs.Kept.{work_of}
use Rattle.statefun_driver.specs.Work.{here}
use Rattle.statefun_driver.proofs.Recorded.{take_is, counted_one}
use Rattle.statefun_driver.proofs.progress.Progress.take.Goals as goal

pub returns-clause-ok : goal.returns-clause-ok
unfolding here
returns-clause-ok c =
    let old = c.args.self.now in
    let split = c.args.split in
    let items = old.counts.items in
    let more = c.index_mut.result.now + 1 in
    let counted = counted_one items split more (omega (arith, old.counts.ok.0, c.requires.split, c.requires.counts))
    (ap (λ (n : ℕ). n + 1) (get_or_read items split c.index_mut.result.now (omega (arith, old.counts.ok.0, c.requires.split, c.requires.counts)) c.index_mut.ensures.value 0)) in
    let posted = c.in_ok-post.ensures ∙ ap (λ letters. with_posted letters (work_of old.partition)) c.in_ok-letters.ensures in
    on_ok_weaker c.note.result
    (λ e. ap here e ∙ take_is c.args.job.now.routes split c.args.found (here old) (λ (other : ℕ). get_or (set items split more) other 0) (work_of c.post.new.self) _ counted posted refl)
    c.note.ensures.ok

pub returns-clause-counts : goal.returns-clause-counts
returns-clause-counts c = ap vec_len c.note.ensures.counts

use Rattle.std.proofs.Common.{ℕ, sym, ◌∙◌, ap, subst}
use Rattle.block_log.specs.Logs.{IsOpen}
use Rattle.egress_commit.specs.Epochs.{epoch_in}
use Rattle.egress_commit.proofs.reading.epoch_at.Goals as goal

pub returns-clause-epoch : goal.returns-clause-epoch
returns-clause-epoch g c = λ m told bodies body opened at.
    c.in_ok-found.ensures
    ∙ ap (epoch_in c.args.number) (c.as_slice.ensures ∙ c.in-Ok.ensures.body m told bodies body (subst (λ (f : ℕ). IsOpen c.args.log.now bodies (m f)) (sym c.requires.file) opened) at)

use Rattle.std.proofs.Common.{◌≡◌, ◌<◌, ℕ, ◌+◌, List, Some, take_all, slice_index_or, length, refl, ◌∙◌, ap, subst, arith}
use Rattle.sf_disk.specs.Moments.{newest}
use Rattle.block_log.specs.Blocks.{Body}
use Rattle.egress_commit.specs.Epochs.{Epoch, epoch_in, epochs_from}
use Rattle.egress_commit.proofs.Steps.{goes_on, breaks_here, length_blocks}
use Rattle.egress_commit.proofs.open.check_epochs.Goals as goal

pub returns-in-None-clause-refuses : goal.returns-in-None-clause-refuses
returns-in-None-clause-refuses g c =
    let i = c.loop-position.position-index in
    let same = c.as_slice-position-items.ensures ∙ c.blocks-2.ensures in (
      refl,
      λ m told bodies opened. breaks_here c.args.log.now bodies (m 1) i opened (subst (λ (l : List ℕ). i < length l) same c.loop-position-test.true) _ (ap (λ (l : List ℕ). slice_index_or l i 0) same) c.in_ok-_records.field-0
          (λ b at. c.in_ok-_records.ensures.epoch m (ap newest c.loop-position.invariant.same ∙ told) bodies b opened at ∙ ap (λ (k : ℕ). epoch_in k b) (omega (arith, c.loop-position.invariant.number)))
          (c.loop-position.invariant.spelled m told bodies opened) c.in-None.is,
    )

pub loop-position-preserved : goal.loop-position-preserved
loop-position-preserved g c =
    let i = c.loop-position.position-index in
    let same = c.as_slice-position-items.ensures ∙ c.blocks-2.ensures in
    record {
      number = ap (λ (k : ℕ). k + 1) c.loop-position.invariant.number;
      same = c.epoch_at.ensures.same ∙ c.loop-position.invariant.same;
      faults = c.in_ok-_records.ensures.cause ∙ c.loop-position.invariant.faults;
      spelled = λ m told bodies opened. goes_on c.args.log.now bodies (m 1) i opened (subst (λ (l : List ℕ). i < length l) same c.loop-position-test.true) _ (ap (λ (l : List ℕ). slice_index_or l i 0) same) c.in_ok-_records.field-0
          (λ b at. c.in_ok-_records.ensures.epoch m (ap newest c.loop-position.invariant.same ∙ told) bodies b opened at ∙ ap (λ (k : ℕ). epoch_in k b) (omega (arith, c.loop-position.invariant.number)))
          (c.loop-position.invariant.spelled m told bodies opened) c.in-Some._records c.in-Some.is;
    }

pub returns-clause-spelled : goal.returns-clause-spelled
returns-clause-spelled g c = λ m told bodies opened.
    let same = c.as_slice-position-items.ensures ∙ c.blocks-2.ensures in
    subst (λ (l : List Body). (epochs : List Epoch) × (epochs_from 1 l ≡ Some epochs)) (take_all c.loop-position.position-index bodies (omega (arith, ap length same, length_blocks c.args.log.now bodies (m 1) opened))) (c.loop-position.invariant.spelled m told bodies opened)

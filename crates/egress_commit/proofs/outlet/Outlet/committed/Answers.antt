use Rattle.std.proofs.Common.{◌≡◌, ℕ, ◌-◌, List, Some, None, slice_index_or, refl, sym, ◌∙◌, ap}
use Rattle.block_log.proofs.Reading.{untold}
use Rattle.egress_commit.specs.Epochs.{Epoch}
use Rattle.egress_commit.proofs.Steps.{epoch_there}
use Rattle.egress_commit.proofs.outlet.Outlet.committed.Goals as goal

pub returns-in-Some-clause-records : goal.returns-in-Some-clause-records
returns-in-Some-clause-records g c = λ m told epochs is.
    let same = c.as_slice.ensures ∙ c.blocks-2.ensures in
    let there = epoch_there c.args.self.now epochs (m 1) is c.args.number c.requires.first c.requires.last _ (ap (λ (l : List ℕ). slice_index_or l (c.args.number - 1) 0) same) c.in_ok-records.field-0 (λ b at. c.in_ok-records.ensures.epoch m told is.bodies b is.is_open at) in
    there.2 ∙ sym there.1 ∙ c.in-Some.is

pub returns-in-None-clause-refuses : goal.returns-in-None-clause-refuses
returns-in-None-clause-refuses g c = (
  refl,
  untold _ (λ m told.
      let now = c.requires.is_open m told in
      let is = now.1 in
      let same = c.as_slice.ensures ∙ c.blocks-2.ensures in
      let there = epoch_there c.args.self.now now.0 (m 1) is c.args.number c.requires.first c.requires.last _ (ap (λ (l : List ℕ). slice_index_or l (c.args.number - 1) 0) same) c.in_ok-records.field-0 (λ b at. c.in_ok-records.ensures.epoch m told is.bodies b is.is_open at) in
      none_is_some there.0 (sym c.in-None.is ∙ there.1)),
)
  where
    none_is_some : (e : Epoch) → None ≡ Some e → ⊥
    none_is_some e is = absurd cc

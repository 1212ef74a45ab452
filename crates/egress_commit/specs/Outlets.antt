-- Outlets that are open, and what their calls make of the egress file.
use Rattle.std.specs.Prelude.{◌≡◌, ◌⊎◌, ℕ, ◌+◌, List, [], ◌∷◌, ◌++◌, length, Some}
use Rattle.sf_disk.specs.Images.{FileState, Leaves, Follows}
use Rattle.sf_disk.specs.Moments.{Moment, WhereTold}
use Rattle.block_log.specs.Blocks.{Body}
use Rattle.block_log.specs.Logs.{IsOpen}
use Rattle.store_faults.specs.declared.fault.StoreFault.{StoreFault}
use Rattle.store_faults.specs.Faults.{RefusesBy}
use Rattle.egress_commit.specs.declared.outlet.Outlet.{Outlet}
use Rattle.egress_commit.specs.Epochs.{Epoch, epochs_from, HasEpochs, KeepsEpochs, IsNoOutlet}

-- the number of the newest epoch, 0 for none
abbrev pub last_epoch : Outlet → ℕ
last_epoch outlet = length outlet.log.blocks

-- The outlet stands for these epochs: each outcome of a crash has them, and so has what a read gives.
pub record IsOutlet (outlet : Outlet) (epochs : List Epoch) (state : FileState) : Type 0 where
  pub bodies : List Body
  pub is_open : IsOpen outlet.log bodies state
  pub spelled : epochs_from 1 bodies ≡ Some epochs

-- An outlet was opened: what the file stood for it still stands for, and the outlet is of that.
pub record IsOpened (outlet : Outlet) (old new : FileState) : Type 0 where
  pub follows : Follows KeepsEpochs old new
  pub epochs : List Epoch
  pub stood : HasEpochs old.seen epochs
  pub is_open : IsOutlet outlet epochs new

-- The egress file, which is file 1, had not its form, by that place.
abbrev pub RefusesOutlet : List Moment → StoreFault → Type 0
RefusesOutlet moments = RefusesBy (λ file place. (file ≡ 1) × WhereTold moments (λ now. IsNoOutlet (now 1).seen place))

-- While an epoch is committed, each outcome of a crash has the epochs before, or these and the new one, which is the next.
abbrev pub Commits : Outlet → ℕ → Epoch → FileState → FileState → Type 0
Commits outlet number epoch old new =
    (epochs : List Epoch) → IsOutlet outlet epochs old → (bytes : List ℕ) → Leaves new bytes
    → HasEpochs bytes epochs ⊎ ((number ≡ length epochs + 1) × HasEpochs bytes (epochs ++ epoch ∷ []))

-- when it was committed
abbrev pub Committed : Outlet → Outlet → Epoch → FileState → FileState → Type 0
Committed outlet now epoch old new = (epochs : List Epoch) → IsOutlet outlet epochs old → IsOutlet now (epochs ++ epoch ∷ []) new

-- The epochs of an egress file: block k, counted from 1, is the commit of epoch k.
use Rattle.std.specs.Prelude.{◌≡◌, ◌⊎◌, ℕ, ◌+◌, nat_eq, List, [], ◌∷◌, ◌++◌, length, if◌then◌else◌, Option, Some, None, option_and_then, Result, Ok, Err}
use Rattle.proto_wire.specs.declared.fault.WireFault.{WireFault}
use Rattle.typed_values.specs.declared.record.EgressRecord.{EgressRecord}
use Rattle.piece_messages.specs.declared.commit.Commit.{Commit}
use Rattle.piece_messages.specs.Spelling.{commit_value}
use Rattle.block_log.specs.Blocks.{Body, StandsFor, IsNoLog, extent}

-- what one checkpoint gave to egress, in order
abbrev pub Epoch : Type 0
Epoch = List EgressRecord

-- the epoch of that number, where this commit is its
abbrev pub numbered : ℕ → Result Commit WireFault → Option Epoch
numbered number (Ok commit) = if nat_eq commit.epoch number then Some commit.records else None
numbered number (Err fault) = None

-- the epoch of that number, where the body of a block spells it
unfoldable pub epoch_in : ℕ → Body → Option Epoch
epoch_in number body = numbered number (commit_value body)

infixl 10 ◌>>=◌
abbrev ◌>>=◌ : {A B : Type 0} → Option A → (A → Option B) → Option B
o >>= f = option_and_then f o

-- the epochs of blocks, the first of them with that number, where each is the commit of its own
abbrev pub epochs_from : ℕ → List Body → Option (List Epoch)
epochs_from number [] = Some []
epochs_from number (body ∷ bodies) = do
  epoch ← epoch_in number body
  epochs ← epochs_from (number + 1) bodies
  Some (epoch ∷ epochs)

-- what an egress file stands for
abbrev pub HasEpochs : List ℕ → List Epoch → Type 0
HasEpochs file epochs = (bodies : List Body) × StandsFor file bodies × (epochs_from 1 bodies ≡ Some epochs)

-- Of these blocks the one at that place is the first that does not spell its own epoch.
pub record BreaksIn (bodies : List Body) (place : ℕ) : Type 0 where
  pub before : List Body
  pub body : Body
  pub behind : List Body
  pub epochs : List Epoch
  pub is : bodies ≡ before ++ body ∷ behind
  pub spelled : epochs_from 1 before ≡ Some epochs
  pub breaks : epoch_in (length before + 1) body ≡ None
  pub place_is : place ≡ extent before

-- the file has not the form of an egress file: it is no log, or a block breaks it
abbrev pub IsNoOutlet : List ℕ → ℕ → Type 0
IsNoOutlet file place = IsNoLog file place ⊎ ((bodies : List Body) × StandsFor file bodies × BreaksIn bodies place)

-- what the file stood for it still stands for
abbrev pub KeepsEpochs : List ℕ → List ℕ → Type 0
KeepsEpochs old new = (epochs : List Epoch) → HasEpochs old epochs → HasEpochs new epochs

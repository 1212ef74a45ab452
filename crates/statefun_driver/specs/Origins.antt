-- From what work turns may be made.
use Rattle.std.specs.Prelude.{◌≡◌, ◌≤◌, ℕ, true, List}
use Rattle.std.specs.List.{AllByRecursion, list_any}
use Rattle.typed_values.specs.declared.address.Address.{Address}
use Rattle.typed_values.specs.declared.cells.Cell.{Cell}
use Rattle.typed_values.specs.Sameness.{same_address}
use Rattle.batch_queue.specs.Post.{Post, is_ready}
use Rattle.partition_core.specs.Work.{Work}
use Rattle.partition_core.specs.Laws.{IsOwned, AreReady}
use Rattle.statefun_driver.specs.Turns.{Origin}

-- ---- the line

-- who has letters, none of them in flight, is in line
abbrev pub AreLined : Post → Type 0
AreLined post = (address : Address) → is_ready post address ≡ true → list_any (same_address address) post.ready ≡ true

abbrev pub NoneFlies : Post → Type 0
NoneFlies post = (address : Address) → post.in_flight address ≡ 0

-- ---- work

-- no stamp is later than a moment
abbrev pub AreStamped : ℕ → List Cell → Type 0
AreStamped moment cells = AllByRecursion (λ (cell : Cell). cell.stamp ≤ moment) cells

-- What holds at all times: letters stand with their targets, nothing is of a later moment, and who is in line has letters.
pub record IsHeld (work : Work) (moment : ℕ) : Type 0 where
  pub owned : IsOwned work
  pub seen : (address : Address) → work.seen address ≤ moment
  pub stamps : (address : Address) → AreStamped moment (work.cells address)
  pub line : AreReady work.post

-- between two turns no letters are in flight, and all that wait are in line
pub record IsStill (work : Work) (moment : ℕ) : Type 0 where
  pub held : IsHeld work moment
  pub lined : AreLined work.post
  pub none : NoneFlies work.post

abbrev pub IsSoundOrigin : Origin → Type 0
IsSoundOrigin start = IsStill start.work start.moment

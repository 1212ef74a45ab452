-- Which calls on a disk in memory fail.
use Rattle.std.specs.Prelude.{◌≡◌, ◌⊎◌, ℕ, ◌+◌, ◌-◌, ◌^◌, ◌≤◌, min, List, Contains, None, IsSomeAnd}
use Rattle.sf_disk.specs.declared.call_count.CallCount.{CallCount}

-- no call was made yet, the listed ones are to fail, and none is to stop all
pub record IsFresh (failing : List ℕ) (count : CallCount) : Type 0 where
  pub made : count.made ≡ 0
  pub listed : count.failing ≡ failing
  pub no_stop : count.stop ≡ None
  pub faults : count.faults ≡ 0

-- the next call is listed, or it is the one that stops all, or a later one
abbrev pub FailsNext : CallCount → Type 0
FailsNext count = Contains count.failing count.made ⊎ IsSomeAnd count.stop (λ k. k ≤ count.made)

-- one more call was made; which are to fail stands
pub record CountsOne (before now : CallCount) : Type 0 where
  pub made : now.made ≡ min (before.made + 1) (2 ^ 64 - 1)
  pub listed : now.failing ≡ before.failing
  pub stop : now.stop ≡ before.stop

-- Which calls on a form in memory fail.
use Rattle.std.specs.Prelude.{◌≡◌, ℕ, ◌+◌, ◌-◌, ◌^◌, min, List, Contains}
use Rattle.sf_outside.specs.declared.call_count.CallCount.{CallCount}

-- no call was made yet, and the listed ones are to fail
pub record IsFresh (failing : List ℕ) (count : CallCount) : Type 0 where
  pub made : count.made ≡ 0
  pub listed : count.failing ≡ failing
  pub faults : count.faults ≡ 0

-- the next call is listed
abbrev pub FailsNext : CallCount → Type 0
FailsNext count = Contains count.failing count.made

-- one more call was made; the list stands
pub record CountsOne (before now : CallCount) : Type 0 where
  pub made : now.made ≡ min (before.made + 1) (2 ^ 64 - 1)
  pub listed : now.failing ≡ before.failing

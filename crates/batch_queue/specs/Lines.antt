-- A waiting line of numbers, by links in both directions.
use Rattle.std.specs.Prelude.{◌≡◌, ℕ, zero, suc, ◌+◌, ◌-◌, ◌<◌, Bool, false, not, nat_eq, List, [], ◌∷◌, length, filter, slice_index_or}
use Rattle.std.specs.List.{list_any}
use Rattle.batch_queue.specs.declared.line.Link.{Link}

-- how many numbers there are, and those in line, the first in front
pub record InLine : Type 0 where
  pub size : ℕ
  pub numbers : List ℕ

-- whether a number is in line
abbrev pub stands : ℕ → List ℕ → Bool
stands n ns = list_any (nat_eq n) ns

-- the line, where a number has left
abbrev pub without : ℕ → List ℕ → List ℕ
without n ns = filter (λ m. not (nat_eq n m)) ns

abbrev pub no_link : Link
no_link = record { before = 0; after = 0 }

abbrev pub after : List Link → ℕ → ℕ
after links at = (slice_index_or links at no_link).after

abbrev pub before : List Link → ℕ → ℕ
before links at = (slice_index_or links at no_link).before

-- the numbers behind a link, down to link 0
abbrev pub numbers_from : ℕ → (ℕ → ℕ) → ℕ → List ℕ
numbers_from zero next at = []
numbers_from (suc more) next zero = []
numbers_from (suc more) next (suc n) = n ∷ numbers_from more next (next (suc n))

-- there is one link more than numbers, so the walk is long enough
abbrev pub in_line : List Link → InLine
in_line links = record { size = length links - 1; numbers = numbers_from (length links) (after links) (after links 0) }

-- behind the link `at` stand these numbers, and no more; each link names both of its neighbours
abbrev pub Linked : (ℕ → ℕ) → (ℕ → ℕ) → ℕ → ℕ → List ℕ → Type 0
Linked next last links at [] = (next at ≡ 0) × (last 0 ≡ at)
Linked next last links at (n ∷ ns) = (next at ≡ suc n) × (last (suc n) ≡ at) × (n + 1 < links) × Linked next last links (suc n) ns

-- no number stands twice
abbrev pub AreApart : List ℕ → Type 0
AreApart [] = Unit {0}
AreApart (n ∷ ns) = (stands n ns ≡ false) × AreApart ns

pub record IsLinked (links : List Link) : Type 0 where
  pub ended : 0 < length links
  pub linked : Linked (after links) (before links) (length links) 0 (in_line links).numbers
  pub apart : AreApart (in_line links).numbers

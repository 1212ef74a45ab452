-- The letters of one address, with a number.
use Rattle.std.specs.Prelude.{ℕ, List}
use Rattle.typed_values.specs.declared.letter.Letter.{Letter}

pub record Waiting : Type 0 where
  -- in order of arrival
  pub letters : List Letter
  -- how many of them, from the first on, are in flight
  pub in_flight : ℕ
  pub number : ℕ

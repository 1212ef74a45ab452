-- Bytes that were read ahead, and those that are still to be read.
use Rattle.std.specs.Prelude.{◌≡◌, ℕ, ◌+◌, List, ◌++◌, drop, length, Option}
use Rattle.std.specs.Io.KnownBytes.{Consumes, IsAtEnd}

-- this many bytes were read, and stand behind those that were there
pub record AreAdded (count : ℕ) (held now : List ℕ) (left left_now : Option (List ℕ)) : Type 0 where
  pub stand : now ≡ held ++ drop (length held) now
  pub count_is : length now ≡ length held + count
  pub read : Consumes left left_now (drop (length held) now)
  pub end : count ≡ 0 → IsAtEnd left_now

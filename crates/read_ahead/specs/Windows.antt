-- Bytes of a file that were read ahead, and what they show of it.
use Rattle.std.specs.Prelude.{◌≡◌, ℕ, ◌+◌, ◌≤◌, List, length, take, drop, All}
use Rattle.sf_disk.specs.Moments.{Moment, WhereTold}
use Rattle.read_ahead.specs.declared.window.Window.{Window}

-- they are the bytes of its file from its place on
abbrev pub Shows : Moment → Window → Type 0
Shows now window = window.bytes ≡ take (length window.bytes) (drop window.at (now window.file).seen)

-- so are those of each window, where the disk tells
abbrev pub AllShow : List Moment → List Window → Type 0
AllShow moments windows = WhereTold moments (λ now. All (Shows now) windows)

-- so many bytes of a file from a place on are among them
pub record Covers (window : Window) (file at len : ℕ) : Type 0 where
  pub named : window.file ≡ file
  pub from : window.at ≤ at
  pub upto : at + len ≤ window.at + length window.bytes

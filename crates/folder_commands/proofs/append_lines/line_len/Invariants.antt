use Rattle.std.proofs.Common.{◌≡◌, ◌<◌, ◌≤◌, ◌-◌, ℕ, length, false, get_or}
use Rattle.folder_commands.specs.Lines.{is_feed}
use Rattle.folder_commands.proofs.append_lines.line_len.Given as goal

-- no byte so far is a line feed
abbrev pub invariant-loop-len : goal.invariant-loop-len
invariant-loop-len l = record {
  within : l.len ≤ length l.bytes;
  none : (k : ℕ) → k < l.len → is_feed (get_or l.bytes k 0) ≡ false;
}

abbrev pub decreases-loop-len : goal.decreases-loop-len
decreases-loop-len l = length l.bytes - l.len

use Rattle.std.proofs.Common.{◌≡◌, ◌≤◌, ◌+◌, length}
use Rattle.std.specs.List.{position_or_len}
use Rattle.folder_commands.specs.Lines.{GoesOn, is_feed, lines_of, parts_of}
use Rattle.folder_commands.proofs.append_lines.lines_appended.Given as goal

-- each line so far made its record, and these are left
abbrev pub invariant-loop-len : goal.invariant-loop-len
invariant-loop-len l = record {
  so_far : GoesOn l.whole l.text l.log l.records (lines_of l.whole (parts_of l.rest));
  len_is : l.len ≡ position_or_len is_feed l.rest;
  bound : l.records + length l.rest ≤ length l.text;
}

abbrev pub decreases-loop-len : goal.decreases-loop-len
decreases-loop-len l = length l.rest

use Rattle.std.proofs.Common.{◌≡◌, ◌≤◌, drop}
use Rattle.folder_form.specs.Shapes.{number_up_to}
use Rattle.folder_form.proofs.Numbers.{onward}
use Rattle.folder_form.proofs.shape.number_up_to.Given as goal

abbrev pub invariant-loop-byte : goal.invariant-loop-byte
invariant-loop-byte l = record { so_far : onward l.most l.number (drop l.byte-index l.word) ≡ number_up_to l.most l.word; most : l.number ≤ l.most }

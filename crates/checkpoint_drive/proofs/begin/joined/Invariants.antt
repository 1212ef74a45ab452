use Rattle.std.proofs.Common.{◌≡◌, ◌++◌}
use Rattle.checkpoint_state.specs.Stored.{on_the_way}
use Rattle.checkpoint_drive.proofs.begin.joined.Given as goal

-- what is joined so far, and what is left
abbrev pub invariant-loop-letters : goal.invariant-loop-letters
invariant-loop-letters l = l.all.items ++ on_the_way l.letters-iterator.rest.items ≡ on_the_way l.fn.lists

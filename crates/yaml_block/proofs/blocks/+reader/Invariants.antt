use Rattle.std.proofs.Common.{◌≡◌, ◌+◌, ◌*◌, ◌-◌, [], length}
use Rattle.yaml_block.specs.Trees.{items, pairs}
use Rattle.yaml_block.specs.Steps.{read_as}
use Rattle.yaml_block.proofs.Reading.{ahead}
use Rattle.yaml_block.proofs.blocks.+reader.Given as goal

-- Levels fall by one from a block to those in it, and a block, its lines and an entry are three steps of one level.
abbrev pub decreases-block : goal.decreases-block
decreases-block l = 3 * (18 - l.level) + 1

abbrev pub decreases-items : goal.decreases-items
decreases-items l = 3 * (18 - l.level)

abbrev pub decreases-pairs : goal.decreases-pairs
decreases-pairs l = 3 * (18 - l.level)

abbrev pub decreases-value : goal.decreases-value
decreases-value l = 3 * (18 - l.level) - 1

abbrev pub invariant-items-loop-piece : goal.invariant-items-loop-piece
invariant-items-loop-piece l = ahead l.items (read_as items l.level l.home [] l.bound l.rest) ≡ read_as items l.level l.home [] l.bound l.pieces

abbrev pub decreases-items-loop-piece : goal.decreases-items-loop-piece
decreases-items-loop-piece l = length l.rest

abbrev pub invariant-pairs-loop-piece : goal.invariant-pairs-loop-piece
invariant-pairs-loop-piece l = ahead l.pairs (read_as pairs l.level l.home l.keys l.bound l.rest) ≡ read_as pairs l.level l.home [] l.bound l.pieces

abbrev pub decreases-pairs-loop-piece : goal.decreases-pairs-loop-piece
decreases-pairs-loop-piece l = length l.rest

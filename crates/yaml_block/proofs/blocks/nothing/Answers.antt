use Rattle.yaml_block.proofs.Reading.{nothing_there, something_there}
use Rattle.yaml_block.proofs.blocks.nothing.Goals as goal

pub returns-in-None : goal.returns-in-None
returns-in-None c = nothing_there c.args.bound c.args.pieces.now c.in-None.ensures

pub returns-in-Some : goal.returns-in-Some
returns-in-Some c = rw (c.refused.ensures, c.misplaced_kind.ensures) (something_there c.args.bound c.args.pieces.now c.in-Some.piece.now c.in-Some.field-0-1.now c.in-Some.ensures)

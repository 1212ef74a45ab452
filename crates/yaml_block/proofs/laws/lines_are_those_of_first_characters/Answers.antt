use Rattle.yaml_block.proofs.Places.{block_line, empty_line, pieces_stand}
use Rattle.yaml_block.proofs.laws.lines_are_those_of_first_characters.Goals as goal

pub returns-clause-block : goal.returns-clause-block
returns-clause-block c = block_line

pub returns-clause-empty : goal.returns-clause-empty
returns-clause-empty c = empty_line

pub returns-clause-piece : goal.returns-clause-piece
returns-clause-piece c = pieces_stand

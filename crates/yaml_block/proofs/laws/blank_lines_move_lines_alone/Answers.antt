use Rattle.yaml_block.proofs.Moving.{blank_moves}
use Rattle.yaml_block.proofs.laws.blank_lines_move_lines_alone.Goals as goal

pub returns : goal.returns
returns c = blank_moves

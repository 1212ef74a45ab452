use Rattle.yaml_block.proofs.Moving.{mark_parts}
use Rattle.yaml_block.proofs.laws.documents_stand_apart.Goals as goal

pub returns : goal.returns
returns c = mark_parts

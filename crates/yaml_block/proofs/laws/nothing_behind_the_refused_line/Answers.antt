use Rattle.yaml_block.proofs.Beginnings.{same_refusal, same_refusal_in_text}
use Rattle.yaml_block.proofs.laws.nothing_behind_the_refused_line.Goals as goal

pub returns-clause-lines : goal.returns-clause-lines
returns-clause-lines c = same_refusal

pub returns-clause-text : goal.returns-clause-text
returns-clause-text c = same_refusal_in_text

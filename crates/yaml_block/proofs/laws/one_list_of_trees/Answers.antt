use Rattle.yaml_block.proofs.OneReading.{one_list, read_has_trees, has_trees_read}
use Rattle.yaml_block.proofs.laws.one_list_of_trees.Goals as goal

pub returns-clause-one : goal.returns-clause-one
returns-clause-one c = one_list

pub returns-clause-read : goal.returns-clause-read
returns-clause-read c = read_has_trees

pub returns-clause-has : goal.returns-clause-has
returns-clause-has c = has_trees_read

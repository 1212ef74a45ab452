use Rattle.block_log.proofs.Unique.{stands_for_one, refused_or_stands, refused_by_one}
use Rattle.block_log.proofs.laws.a_file_has_one_meaning.Goals as goal

pub returns-clause-one : goal.returns-clause-one
returns-clause-one c = stands_for_one

pub returns-clause-either : goal.returns-clause-either
returns-clause-either c = refused_or_stands

pub returns-clause-place : goal.returns-clause-place
returns-clause-place c = refused_by_one

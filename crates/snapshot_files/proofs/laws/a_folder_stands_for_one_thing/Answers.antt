use Rattle.snapshot_files.proofs.OneThing.{one_thing, breaks_or_stands, refused_or_stands_for}
use Rattle.snapshot_files.proofs.laws.a_folder_stands_for_one_thing.Goals as goal

pub returns-clause-one : goal.returns-clause-one
returns-clause-one c = one_thing

pub returns-clause-either : goal.returns-clause-either
returns-clause-either c = breaks_or_stands

pub returns-clause-refused : goal.returns-clause-refused
returns-clause-refused c = refused_or_stands_for

use Rattle.checkpoint_drive.proofs.FromNothing.{lives_make_good}
use Rattle.checkpoint_drive.proofs.laws.what_runs_make_of_nothing_is_good.Goals as goal

pub returns : goal.returns
returns c = lives_make_good c.what_many_runs_leave_is_good.ensures c.an_empty_folder_is_good.ensures

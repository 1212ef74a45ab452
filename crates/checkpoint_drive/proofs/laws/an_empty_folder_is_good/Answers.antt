use Rattle.checkpoint_drive.proofs.FromNothing.{empty_is_good}
use Rattle.checkpoint_drive.proofs.laws.an_empty_folder_is_good.Goals as goal

pub returns : goal.returns
returns c = empty_is_good c.no_checkpoint_is_good.ensures

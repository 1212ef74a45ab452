use Rattle.snapshot_files.proofs.OneThing.{all_there}
use Rattle.snapshot_files.proofs.laws.what_was_put_is_there.Goals as goal

pub returns : goal.returns
returns c = all_there

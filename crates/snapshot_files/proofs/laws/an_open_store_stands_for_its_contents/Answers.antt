use Rattle.snapshot_files.proofs.OneThing.{store_stands}
use Rattle.snapshot_files.proofs.laws.an_open_store_stands_for_its_contents.Goals as goal

pub returns : goal.returns
returns c = store_stands

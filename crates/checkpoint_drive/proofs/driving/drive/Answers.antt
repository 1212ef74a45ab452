use Rattle.checkpoint_drive.specs.Jobs.{folder_text}
use Rattle.checkpoint_drive.proofs.driving.drive.Goals as goal

pub returns-clause-good : goal.returns-clause-good
returns-clause-good g c =
    c.what_a_run_leaves_is_good.ensures c.args.routes c.args.options (folder_text c.args.routes) _ _ _ _ _ c.module-module.ensures.routable c.requires.modest c.run_over.ensures.driven

use Rattle.checkpoint_drive.proofs.FromNothing.{lives_end_done}
use Rattle.checkpoint_drive.proofs.laws.what_many_runs_have_done.Goals as goal

pub returns : goal.returns
returns c =
    lives_end_done (record { runs = c.what_a_run_leaves_is_good.ensures; lists = c.longer_lists_keep_what_is_good.ensures; backing = c.backed_records_go_on.ensures })
    c.what_runs_make_of_nothing_is_good.ensures c.an_empty_folder_is_good.ensures

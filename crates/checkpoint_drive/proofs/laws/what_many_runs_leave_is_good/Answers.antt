use Rattle.checkpoint_drive.proofs.LongLives.{lives_keep_good}
use Rattle.checkpoint_drive.proofs.laws.what_many_runs_leave_is_good.Goals as goal

pub returns : goal.returns
returns c = lives_keep_good (record {
  runs = c.what_a_run_leaves_is_good.ensures;
  lists = c.longer_lists_keep_what_is_good.ensures;
  backing = c.backed_records_go_on.ensures;
})

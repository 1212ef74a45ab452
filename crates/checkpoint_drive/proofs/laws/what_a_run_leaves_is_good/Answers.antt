use Rattle.checkpoint_drive.proofs.Keeping.{runs_keep_good}
use Rattle.checkpoint_drive.proofs.laws.what_a_run_leaves_is_good.Goals as goal

pub returns : goal.returns
returns c = runs_keep_good (record {
  legs = record {
    stretches = c.what_turns_come_to.ensures;
    next = c.a_checkpoint_behind_a_good_record_is_good.ensures;
    lists = c.longer_lists_keep_what_is_good.ensures;
    backing = c.backed_records_go_on.ensures;
    leads = c.entries_lead_to_the_next_checkpoint.ensures;
    egress = c.egress_backs_no_step.ensures;
  };
  later = c.a_later_leg_keeps_what_is_good.ensures;
  work = c.what_is_stored_is_a_partition.ensures;
})

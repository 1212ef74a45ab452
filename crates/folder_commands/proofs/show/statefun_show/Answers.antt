use Rattle.std.proofs.Common.{◌∙◌, ap, refl, sym, arith}
use Rattle.clap.specs.Words.{fault_of}
use Rattle.command_io.proofs.Ran.{help_run, no_write_fault, told_run, work_run, write_fault, wrong_run}
use Rattle.command_io.specs.Folders.{disk_state}
use Rattle.folder_commands.specs.ShowWords.{show_app}
use Rattle.folder_commands.specs.Show.{show_command}
use Rattle.folder_commands.proofs.AskedOf.{show_is_taken, show_only_help}
use Rattle.folder_commands.proofs.Showing.{disk_faults, no_form, no_usage, no_write, nothing_read}
use Rattle.folder_commands.proofs.show.statefun_show.Goals as goal

pub returns-clause-right : goal.returns-clause-right
returns-clause-right g c first folder is plain =
    work_run show_command _ _ _ _ _ c.tell_made.result (ap (fault_of show_app) is ∙ show_is_taken first folder plain) (nothing_read _ _)
    (told_run show_command _ _ _ _ _ c.show_end-end.result _ c.tell_made.result c.show_end-end.ensures.ends c.status-status.ensures (c.tell_made.ensures _ c.text_of.ensures))

pub returns-clause-help : goal.returns-clause-help
returns-clause-help g c help =
    help_run show_command _ _ _ _ _ c.tell_made.result (show_only_help _ help) refl refl
    (told_run show_command _ _ _ _ _ c.show_end-end.result _ c.tell_made.result c.show_end-end.ensures.ends c.status-status.ensures (c.tell_made.ensures _ c.text_of.ensures))

pub returns-clause-usage : goal.returns-clause-usage
returns-clause-usage g c at =
    wrong_run show_command _ _ _ _ _ c.tell_made.result (no_usage (disk_state (g.D.Disk.moments c.args.disk.now) (g.D.Disk.faults c.args.disk.now)) (disk_state (g.D.Disk.moments c.show_end-end.new.disk) (g.D.Disk.faults c.show_end-end.new.disk))) (λ e. omega (arith, e)) (λ e. omega (arith, e))
    (told_run show_command _ _ _ _ _ c.show_end-end.result _ c.tell_made.result c.show_end-end.ensures.ends c.status-status.ensures (c.tell_made.ensures _ c.text_of.ensures)) at

pub returns-clause-disk_fault : goal.returns-clause-disk_fault
returns-clause-disk_fault g c at =
    disk_faults _ _ _ _ _ c.tell_made.result (told_run show_command _ _ _ _ _ c.show_end-end.result _ c.tell_made.result c.show_end-end.ensures.ends c.status-status.ensures (c.tell_made.ensures _ c.text_of.ensures)) at

pub returns-clause-no_store : goal.returns-clause-no_store
returns-clause-no_store g c at =
    no_form _ _ _ _ _ c.tell_made.result (told_run show_command _ _ _ _ _ c.show_end-end.result _ c.tell_made.result c.show_end-end.ensures.ends c.status-status.ensures (c.tell_made.ensures _ c.text_of.ensures)) at

pub returns-clause-write_fault : goal.returns-clause-write_fault
returns-clause-write_fault g c at =
    write_fault _ _ _ c.status-status.result c.tell_made.result (c.tell_made.ensures _ c.text_of.ensures) (λ e. no_write c.show_end-end.result (sym c.status-status.ensures ∙ e)) at

pub returns-clause-written : goal.returns-clause-written
returns-clause-written g c other = no_write_fault _ _ _ _ c.tell_made.result (c.tell_made.ensures _ c.text_of.ensures) other

use Rattle.std.proofs.Common.{◌∙◌, ap, refl, arith}
use Rattle.clap.specs.Words.{fault_of}
use Rattle.command_io.proofs.Ran.{help_run, no_write_fault, told_run, work_run, wrong_run}
use Rattle.folder_commands.specs.AppendWords.{append_app}
use Rattle.folder_commands.specs.Append.{append_command}
use Rattle.folder_commands.proofs.AskedOf.{append_is_taken, append_only_help}
use Rattle.folder_commands.proofs.Appending.{no_usage, nothing_put, read_faults, write_faults}
use Rattle.folder_commands.proofs.append.statefun_append.Goals as goal

pub returns-clause-right : goal.returns-clause-right
returns-clause-right g c first folder split is plain less =
    work_run append_command _ _ _ _ _ c.tell_made.result (ap (fault_of append_app) is ∙ append_is_taken first folder plain split less) (nothing_put _ _)
    (told_run append_command _ _ _ _ _ c.append_end-end.result _ c.tell_made.result c.append_end-end.ensures c.status.ensures (c.tell_made.ensures _ c.text.ensures))

pub returns-clause-help : goal.returns-clause-help
returns-clause-help g c help =
    help_run append_command _ _ _ _ _ c.tell_made.result (append_only_help _ help) refl refl
    (told_run append_command _ _ _ _ _ c.append_end-end.result _ c.tell_made.result c.append_end-end.ensures c.status.ensures (c.tell_made.ensures _ c.text.ensures))

pub returns-clause-usage : goal.returns-clause-usage
returns-clause-usage g c at =
    wrong_run append_command _ _ _ _ _ c.tell_made.result (no_usage _ _) (λ e. omega (arith, e)) (λ e. omega (arith, e))
    (told_run append_command _ _ _ _ _ c.append_end-end.result _ c.tell_made.result c.append_end-end.ensures c.status.ensures (c.tell_made.ensures _ c.text.ensures)) at

pub returns-clause-read_fault : goal.returns-clause-read_fault
returns-clause-read_fault g c at =
    read_faults _ _ _ _ _ c.tell_made.result (told_run append_command _ _ _ _ _ c.append_end-end.result _ c.tell_made.result c.append_end-end.ensures c.status.ensures (c.tell_made.ensures _ c.text.ensures)) at

pub returns-clause-write_fault : goal.returns-clause-write_fault
returns-clause-write_fault g c at =
    write_faults _ _ _ _ c.tell_made.result _ (told_run append_command _ _ _ _ _ c.append_end-end.result _ c.tell_made.result c.append_end-end.ensures c.status.ensures (c.tell_made.ensures _ c.text.ensures)) at

pub returns-clause-written : goal.returns-clause-written
returns-clause-written g c other = no_write_fault _ _ _ _ c.tell_made.result (c.tell_made.ensures _ c.text.ensures) other

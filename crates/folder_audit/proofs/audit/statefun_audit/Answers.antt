use Rattle.std.proofs.Common.{◌∙◌, ap, refl, sym, arith}
use Rattle.clap.specs.Words.{fault_of}
use Rattle.command_io.proofs.Ran.{help_run, no_write_fault, told_run, work_run, write_fault, wrong_run}
use Rattle.folder_audit.specs.Words.{audit_app}
use Rattle.folder_audit.specs.Audited.{audit_command, outside}
use Rattle.folder_audit.proofs.AskedOf.{audit_is_taken, only_help}
use Rattle.folder_audit.proofs.Auditing.{disk_faults, ingress_faults, module_faults, no_usage, no_write, nothing_read}
use Rattle.folder_audit.proofs.audit.statefun_audit.Goals as goal

pub returns-clause-right : goal.returns-clause-right
returns-clause-right g c first file folder is plain also =
    work_run audit_command _ _ _ _ _ c.tell_made.result (ap (fault_of audit_app) is ∙ audit_is_taken first file folder plain also) (nothing_read _ _)
    (told_run audit_command _ _ _ _ _ c.audit_end-end.result _ c.tell_made.result c.audit_end-end.ensures.ends c.status.ensures (c.tell_made.ensures _ c.text.ensures))

pub returns-clause-help : goal.returns-clause-help
returns-clause-help g c help =
    help_run audit_command _ _ _ _ _ c.tell_made.result (only_help _ help) refl refl
    (told_run audit_command _ _ _ _ _ c.audit_end-end.result _ c.tell_made.result c.audit_end-end.ensures.ends c.status.ensures (c.tell_made.ensures _ c.text.ensures))

pub returns-clause-usage : goal.returns-clause-usage
returns-clause-usage g c at =
    wrong_run audit_command _ _ _ _ _ c.tell_made.result (no_usage (outside (g.Y.Source.left c.args.module.now) (g.Y.Source.faults c.args.module.now) (g.I.Ingress.lists c.args.ingress.now) (g.I.Ingress.faults c.args.ingress.now) (g.D.Disk.moments c.args.disk.now) (g.D.Disk.faults c.args.disk.now))
    (outside (g.Y.Source.left c.audit_end-end.new.module) (g.Y.Source.faults c.audit_end-end.new.module) (g.I.Ingress.lists c.audit_end-end.new.ingress) (g.I.Ingress.faults c.audit_end-end.new.ingress) (g.D.Disk.moments c.audit_end-end.new.disk) (g.D.Disk.faults c.audit_end-end.new.disk))) (λ e. omega (arith, e)) (λ e. omega (arith, e))
    (told_run audit_command _ _ _ _ _ c.audit_end-end.result _ c.tell_made.result c.audit_end-end.ensures.ends c.status.ensures (c.tell_made.ensures _ c.text.ensures)) at

pub returns-clause-module_fault : goal.returns-clause-module_fault
returns-clause-module_fault g c at =
    module_faults _ _ _ _ _ c.tell_made.result (told_run audit_command _ _ _ _ _ c.audit_end-end.result _ c.tell_made.result c.audit_end-end.ensures.ends c.status.ensures (c.tell_made.ensures _ c.text.ensures)) at

pub returns-clause-ingress_fault : goal.returns-clause-ingress_fault
returns-clause-ingress_fault g c at =
    ingress_faults _ _ _ _ _ c.tell_made.result (told_run audit_command _ _ _ _ _ c.audit_end-end.result _ c.tell_made.result c.audit_end-end.ensures.ends c.status.ensures (c.tell_made.ensures _ c.text.ensures)) at

pub returns-clause-disk_fault : goal.returns-clause-disk_fault
returns-clause-disk_fault g c at =
    disk_faults _ _ _ _ _ c.tell_made.result (told_run audit_command _ _ _ _ _ c.audit_end-end.result _ c.tell_made.result c.audit_end-end.ensures.ends c.status.ensures (c.tell_made.ensures _ c.text.ensures)) at

pub returns-clause-write_fault : goal.returns-clause-write_fault
returns-clause-write_fault g c at =
    write_fault _ _ _ c.status.result c.tell_made.result (c.tell_made.ensures _ c.text.ensures) (λ e. no_write c.audit_end-end.result (sym c.status.ensures ∙ e)) at

pub returns-clause-written : goal.returns-clause-written
returns-clause-written g c other = no_write_fault _ _ _ _ c.tell_made.result (c.tell_made.ensures _ c.text.ensures) other

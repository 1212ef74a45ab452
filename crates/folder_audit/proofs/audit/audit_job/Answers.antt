use Rattle.std.proofs.Common.{subst}
use Rattle.folder_audit.specs.declared.record.Found.{Found}
use Rattle.folder_audit.specs.Stored.{IsFound}
use Rattle.folder_audit.proofs.Ending.{of_job}
use Rattle.folder_audit.proofs.audit.audit_job.Goals as goal

pub returns-in-Ok-Record-clause-audited : goal.returns-in-Ok-Record-clause-audited
returns-in-Ok-Record-clause-audited g c =
    let found = subst (λ (f : Found). IsFound c.args.job (g.D.Disk.moments c.args.disk.now) f) c.in-Ok-Record.field-0-is c.in-Ok-Record.ensures.found in
    of_job c.args.job c.in-Ok-Record.entries c.in-Ok-Record.loaded _ _ _ _ _ _ c.audit_record.result c.in-Ok-Record.ensures.cause found.1 c.audit_record.ensures.audited

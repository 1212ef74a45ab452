use Rattle.folder_audit.proofs.Ending.{of_bytes}
use Rattle.folder_audit.proofs.audit.audit_bytes.Goals as goal

pub returns-in-Ok-clause-audited : goal.returns-in-Ok-clause-audited
returns-in-Ok-clause-audited g c = of_bytes c.in-Ok.job c.args.bytes.now _ _ _ _ _ _ c.audit_job.result c.in-Ok.ensures.ok c.audit_job.ensures.audited

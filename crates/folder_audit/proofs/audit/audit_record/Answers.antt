use Rattle.folder_audit.proofs.Ending.{of_record}
use Rattle.folder_audit.proofs.audit.audit_record.Goals as goal

pub returns-in-Ok-clause-audited : goal.returns-in-Ok-clause-audited
returns-in-Ok-clause-audited g c = of_record c.args.job c.args.entries.now c.args.loaded.now _ _ _ c.in-Ok.end c.in-Ok.ensures.cause c.in-Ok.ensures.judged

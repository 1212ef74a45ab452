use Rattle.std.proofs.Common.{ℕ, List, refl, subst}
use Rattle.folder_audit.specs.Audited.{IsBytesAudited, outside}
use Rattle.folder_audit.proofs.Ending.{of_file}
use Rattle.folder_audit.proofs.audit.audit_file.Goals as goal

pub returns-in-Ok-clause-audited : goal.returns-in-Ok-clause-audited
returns-in-Ok-clause-audited g c = record {
  heard = c.in-Ok.bytes;
  taken = c.in-Ok.ensures.heard;
  bound = c.in-Ok.ensures.bound;
  audited = of_file c.in-Ok.bytes
      (outside (g.Y.Source.left c.args.module.now) (g.Y.Source.faults c.args.module.now) (g.I.Ingress.lists c.args.ingress.now) (g.I.Ingress.faults c.args.ingress.now) (g.D.Disk.moments c.args.disk.now) (g.D.Disk.faults c.args.disk.now))
      (outside (g.Y.Source.left c.read_up_to.new.input) (g.Y.Source.faults c.read_up_to.new.input) (g.I.Ingress.lists c.audit_bytes.new.ingress) (g.I.Ingress.faults c.audit_bytes.new.ingress) (g.D.Disk.moments c.audit_bytes.new.disk) (g.D.Disk.faults c.audit_bytes.new.disk))
      c.audit_bytes.result c.in-Ok.ensures.cause c.in-Ok.ensures.whole
      (subst (λ (bytes : List ℕ). IsBytesAudited bytes (g.D.Disk.moments c.args.disk.now) (g.I.Ingress.lists c.audit_bytes.new.ingress) (g.I.Ingress.faults c.args.ingress.now) (g.I.Ingress.faults c.audit_bytes.new.ingress) (g.D.Disk.faults c.args.disk.now) (g.D.Disk.faults c.audit_bytes.new.disk) c.audit_bytes.result) c.as_slice.ensures c.audit_bytes.ensures.audited);
}

pub returns-in-Err-Failed-clause-audited : goal.returns-in-Err-Failed-clause-audited
returns-in-Err-Failed-clause-audited g c = record {
  heard = c.in-Err-Failed.ensures.part.0;
  taken = c.in-Err-Failed.ensures.part.2;
  bound = c.in-Err-Failed.ensures.part.1;
  audited = (rw c.in-Err-Failed.field-0-is at c.in-Err-Failed.ensures.cause, refl, refl);
}

pub returns-in-Err-OutOfMemory-clause-audited : goal.returns-in-Err-OutOfMemory-clause-audited
returns-in-Err-OutOfMemory-clause-audited g c = record {
  heard = c.in-Err-OutOfMemory.ensures.part.0;
  taken = c.in-Err-OutOfMemory.ensures.part.2;
  bound = c.in-Err-OutOfMemory.ensures.part.1;
  audited = (rw c.in-Err-OutOfMemory.field-0-is at c.in-Err-OutOfMemory.ensures.cause, refl, refl);
}

use Rattle.std.proofs.Common.{rules, append_assoc}
use Rattle.run_record.proofs.egress.put_egress_line.Goals as goal

pub returns-clause-ok : goal.returns-clause-ok
returns-clause-ok c = search (rules, append_assoc)

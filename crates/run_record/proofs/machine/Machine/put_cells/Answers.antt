use Rattle.std.proofs.lemmas.Result.{on_ok_weaker, on_err_weaker}
use Rattle.run_record.specs.Filled.{keeps}
use Rattle.run_record.proofs.Filled.{own_changes, state_stays}
use Rattle.run_record.proofs.machine.Machine.put_cells.Goals as goal

pub returns-clause-ok : goal.returns-clause-ok
returns-clause-ok c = on_ok_weaker c.put_cells.result (λ sets. own_changes c.args.self.now c.put_cells.new.self c.args.address.now (keeps c.args.cells c.args.seen) sets) c.put_cells.ensures.ok

pub returns-clause-err : goal.returns-clause-err
returns-clause-err c = on_err_weaker c.put_cells.result (λ sets. state_stays c.args.self.now c.put_cells.new.self c.args.address.now sets) c.put_cells.ensures.err

use Rattle.std.proofs.Common.{subst}
use Rattle.std.proofs.lemmas.Result.{on_ok_weaker, on_err_weaker}
use Rattle.keyed_queues.specs.Queues.{SetsAt}
use Rattle.typed_values.specs.declared.record.Delay.{Delay}
use Rattle.run_record.specs.StateOf.{own_in}
use Rattle.run_record.specs.Filled.{waits_too}
use Rattle.run_record.proofs.Filled.{own_changes, state_stays}
use Rattle.run_record.proofs.machine.Machine.put_delay.Goals as goal

pub returns-clause-ok : goal.returns-clause-ok
returns-clause-ok c =
    let old = c.args.self.now in
    let address = c.args.delay.now.sender in
    on_ok_weaker c.put_delay.result
    (λ sets. own_changes old c.put_delay.new.self address (waits_too c.args.delay.now)
    (subst (λ (delay : Delay). SetsAt (own_in old.parts) (own_in c.put_delay.new.self) address (waits_too delay (own_in old.parts address))) c.in_ok-copy.ensures sets)) c.put_delay.ensures.ok

pub returns-clause-err : goal.returns-clause-err
returns-clause-err c = on_err_weaker c.put_delay.result (λ sets. state_stays c.args.self.now c.put_delay.new.self c.args.delay.now.sender sets) c.put_delay.ensures.err

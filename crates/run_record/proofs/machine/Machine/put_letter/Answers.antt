use Rattle.std.proofs.lemmas.Result.{on_ok_weaker}
use Rattle.run_record.proofs.Filled.{letter_pushed}
use Rattle.run_record.proofs.machine.Machine.put_letter.Goals as goal

pub returns-clause-ok : goal.returns-clause-ok
returns-clause-ok c =
    on_ok_weaker c.push.result (λ changes. letter_pushed c.args.self.now c.push.new.self c.args.letter.now c.in_ok-argument.argument c.in_ok-argument.ensures changes) c.push.ensures.ok

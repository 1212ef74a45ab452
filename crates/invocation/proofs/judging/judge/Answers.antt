use Rattle.invocation.proofs.Accepting.{made-fits}
use Rattle.invocation.proofs.judging.judge.Goals as goal

pub returns-clause-fits : goal.returns-clause-fits
returns-clause-fits c = made-fits c.args.routes.now c.args.cells.now c.args.address.now c.args.moment c.args.answer.now c.judgement.result c.judgement.ensures

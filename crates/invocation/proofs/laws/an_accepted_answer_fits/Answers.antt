use Rattle.invocation.proofs.Accepting.{judgement-fits}
use Rattle.invocation.proofs.laws.an_accepted_answer_fits.Goals as goal

pub returns : goal.returns
returns c = judgement-fits

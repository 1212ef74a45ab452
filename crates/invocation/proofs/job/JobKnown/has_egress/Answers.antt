use Rattle.invocation.proofs.job.JobKnown.has_egress.Goals as goal

pub returns : goal.returns
returns c = c.knows_egress.ensures

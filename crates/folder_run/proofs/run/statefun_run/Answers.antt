use Rattle.folder_run.specs.declared.end.RunEnd.TheVariants.{Usage}
use Rattle.folder_run.proofs.Ran.{unrun, usage_run}
use Rattle.folder_run.proofs.run.statefun_run.Goals as goal

pub returns-in-Err-clause-ran : goal.returns-in-Err-clause-ran
returns-in-Err-clause-ran g c = (
  record { ingress = c.args.ingress.ghost_name; link = c.args.link.ghost_name; clock = c.args.clock.ghost_name },
  usage_run _ c.in-Err.fault.word _ _ _ c.told.result c.in-Err.ensures.reads
      (unrun (Usage c.in-Err.fault.word) _ _ _ _ _ c.told.result c.told.ensures.told),
)

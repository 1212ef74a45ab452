use Rattle.statefun_cli.specs.declared.end.PlainEnd.TheVariants.{Usage}
use Rattle.statefun_cli.proofs.Ran.{unrun, usage-run}
use Rattle.statefun_cli.proofs.run.statefun_run.Goals as goal

pub returns-in-Err-clause-ran : goal.returns-in-Err-clause-ran
returns-in-Err-clause-ran g c = (
  record { ingress = c.args.ingress.ghost_name; link = c.args.link.ghost_name; clock = c.args.clock.ghost_name },
  usage-run _ c.in-Err.fault.word _ _ _ c.told.result.entries c.told.result.end c.in-Err.ensures.reads
      (unrun (Usage c.in-Err.fault.word) _ _ _ c.new.result c.told.result.entries c.told.result.end c.new.ensures c.told.ensures.entries c.told.ensures.told),
)

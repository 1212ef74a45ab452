use Rattle.std.proofs.Common.{inl}
use Rattle.statefun_cli.specs.declared.end.PlainEnd.TheVariants.{OutOfMemory}
use Rattle.statefun_cli.proofs.Ran.{unrun}
use Rattle.statefun_cli.proofs.run.run_job.Goals as goal

pub returns-in-Err-clause-ran : goal.returns-in-Err-clause-ran
returns-in-Err-clause-ran g c = (
  record { ingress = c.args.ingress.ghost_name; link = c.args.link.ghost_name; clock = c.args.clock.ghost_name },
  inl (unrun OutOfMemory _ _ _ c.new-in-Err.result c.told.result.entries c.told.result.end c.new-in-Err.ensures c.told.ensures.entries c.told.ensures.told),
)

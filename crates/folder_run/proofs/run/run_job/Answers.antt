use Rattle.std.proofs.Common.{inl}
use Rattle.folder_run.specs.declared.end.RunEnd.TheVariants.{OutOfMemory}
use Rattle.folder_run.proofs.Ran.{unrun}
use Rattle.folder_run.proofs.run.run_job.Goals as goal

pub returns-in-Err-clause-ran : goal.returns-in-Err-clause-ran
returns-in-Err-clause-ran g c = (record { ingress = c.args.ingress.ghost_name; link = c.args.link.ghost_name; clock = c.args.clock.ghost_name }, inl (unrun OutOfMemory _ _ _ _ _ c.told.result c.told.ensures.told))

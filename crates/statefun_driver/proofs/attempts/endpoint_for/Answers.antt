use Rattle.statefun_driver.proofs.Endpoints.{endpoint_usable, endpoint_modest}
use Rattle.statefun_driver.proofs.attempts.endpoint_for.Goals as goal

pub returns-clause-usable : goal.returns-clause-usable
returns-clause-usable c = endpoint_usable c.args.job.now.routes c.args.address.now.kind _ c.endpoint_of.ensures c.module-routed.ensures.routable

pub returns-clause-attempts : goal.returns-clause-attempts
returns-clause-attempts c = endpoint_modest c.args.job.now.routes c.args.address.now.kind _ c.endpoint_of.ensures c.requires

use Rattle.std.proofs.Common.{◌∙◌, ◌≡◌, ap, sym, is_some, Option, Some, None, refl, Bor}
use Rattle.std.specs.Option.{option_copied}
use Rattle.address_routing.specs.declared.module.Endpoint.{Endpoint}
use Rattle.invocation.proofs.Endpoints.{endpoint-is}
use Rattle.invocation.proofs.job.JobKnown.has_endpoint.Goals as goal

still-some : (o : Option (Bor Endpoint)) → is_some o ≡ is_some (option_copied o)
still-some None = refl
still-some (Some endpoint) = refl

pub returns : goal.returns
returns c = c.is_some.ensures ∙ still-some c.endpoint_of.result ∙ ap is_some c.endpoint_of.ensures ∙ endpoint-is c.args.self.now.routes.now c.args.kind.now

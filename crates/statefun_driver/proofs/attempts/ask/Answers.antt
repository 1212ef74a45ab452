use Rattle.std.proofs.Common.{◌≡◌, sym, ◌∙◌, Option, Some, None}
use Rattle.std.specs.Prelude.{IsSome}
use Rattle.std.specs.Option.{option_map}
use Rattle.typed_values.specs.declared.name.TypeName.{TypeName}
use Rattle.address_routing.specs.declared.module.Endpoint.{Endpoint}
use Rattle.address_routing.specs.declared.module.Module.{Module}
use Rattle.address_routing.specs.Routing.{endpoint_of, filled, url_of}
use Rattle.statefun_driver.proofs.attempts.ask.Goals as goal

url_there : (m : Module) (kind : TypeName) → IsSome (endpoint_of m kind) → url_of m kind ≡ None → ⊥
unfolding url_of
url_there m kind some none = by (endpoint_of m kind) some none
  where
    by : (o : Option Endpoint) → IsSome o → option_map (λ (endpoint : Endpoint). filled kind.name endpoint.template) o ≡ None → ⊥
    by None some none = absurd cc
    by (Some endpoint) some none = cc

pub unreachable-requires : goal.unreachable-requires
unreachable-requires c = url_there c.args.job.now.routes c.args.address.now.kind c.requires (sym c.in_ok-url.ensures ∙ c.in_default.is)

use Rattle.std.proofs.Common.{sym, subst, List, None, codes, IfErr, if◌then◌else◌}
use Rattle.std.specs.List.{list_any}
use Rattle.proto_wire.specs.declared.module_kind.ModuleKind.TheVariants.{DuplicateId}
use Rattle.typed_values.specs.declared.name.TypeName.{TypeName}
use Rattle.typed_values.specs.Pattern.{same_pattern}
use Rattle.typed_values.specs.Sameness.{same_name}
use Rattle.address_routing.specs.declared.module.Endpoint.{Endpoint}
use Rattle.address_routing.specs.declared.module.IngressSpec.{IngressSpec}
use Rattle.module_yaml.specs.declared.part.Part.{Part}
use Rattle.module_yaml.specs.Mappings.{refused}
use Rattle.module_yaml.specs.Files.{duplicate, line_under}
use Rattle.module_yaml.specs.Told.{IsTold}
use Rattle.module_yaml.proofs.Telling.{test_told}
use Rattle.module_yaml.proofs.documents.check_new.Goals as goal

pub returns-in-Endpoint-clause-refused : goal.returns-in-Endpoint-clause-refused
unfolding duplicate
returns-in-Endpoint-clause-refused c =
    let pairs = c.args.pairs.now in
    subst (λ (p : Part). IfErr c.check_pattern.result (IsTold (duplicate c.args.job.now p pairs))) (sym c.in-Endpoint.is)
    (subst (λ (known : List Endpoint). IfErr c.check_pattern.result (IsTold (if list_any (λ (other : Endpoint). same_pattern other.pattern c.in-Endpoint.endpoint.pattern) known then refused (line_under (codes "functions") pairs 0) DuplicateId else None))) c.as_slice.ensures
    (test_told (list_any (λ (other : Endpoint). same_pattern other.pattern c.in-Endpoint.endpoint.pattern) c.as_slice.result.now) (record { line = line_under (codes "functions") pairs 0; kind = DuplicateId }) c.check_pattern.result c.check_pattern.ensures.refused))

pub returns-in-Ingress-clause-refused : goal.returns-in-Ingress-clause-refused
unfolding duplicate
returns-in-Ingress-clause-refused c =
    let pairs = c.args.pairs.now in
    subst (λ (p : Part). IfErr c.check_ingress.result (IsTold (duplicate c.args.job.now p pairs))) (sym c.in-Ingress.is)
    (subst (λ (known : List IngressSpec). IfErr c.check_ingress.result (IsTold (if list_any (λ (other : IngressSpec). same_name other.id c.in-Ingress.ingress.id) known then refused (line_under (codes "id") pairs 0) DuplicateId else None))) c.as_slice-in-Ingress.ensures
    (test_told (list_any (λ (other : IngressSpec). same_name other.id c.in-Ingress.ingress.id) c.as_slice-in-Ingress.result.now) (record { line = line_under (codes "id") pairs 0; kind = DuplicateId }) c.check_ingress.result c.check_ingress.ensures.refused))

pub returns-in-Egress-clause-refused : goal.returns-in-Egress-clause-refused
unfolding duplicate
returns-in-Egress-clause-refused c =
    let pairs = c.args.pairs.now in
    subst (λ (p : Part). IfErr c.check_egress.result (IsTold (duplicate c.args.job.now p pairs))) (sym c.in-Egress.is)
    (subst (λ (known : List TypeName). IfErr c.check_egress.result (IsTold (if list_any (λ (other : TypeName). same_name other c.in-Egress.name) known then refused (line_under (codes "id") pairs 0) DuplicateId else None))) c.as_slice-in-Egress.ensures
    (test_told (list_any (λ (other : TypeName). same_name other c.in-Egress.name) c.as_slice-in-Egress.result.now) (record { line = line_under (codes "id") pairs 0; kind = DuplicateId }) c.check_egress.result c.check_egress.ensures.refused))

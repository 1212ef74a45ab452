use Rattle.typed_values.proofs.Fields.{egress-fields}
use Rattle.typed_values.proofs.field_laws.fields_of_an_egress.Goals as goal

pub returns : goal.returns
returns c = egress-fields

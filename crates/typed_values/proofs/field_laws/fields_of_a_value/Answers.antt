use Rattle.typed_values.proofs.Fields.{value-fields}
use Rattle.typed_values.proofs.field_laws.fields_of_a_value.Goals as goal

pub returns : goal.returns
returns c = value-fields

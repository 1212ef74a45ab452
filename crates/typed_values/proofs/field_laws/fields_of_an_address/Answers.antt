use Rattle.typed_values.proofs.Fields.{address-fields}
use Rattle.typed_values.proofs.field_laws.fields_of_an_address.Goals as goal

pub returns : goal.returns
returns c = address-fields

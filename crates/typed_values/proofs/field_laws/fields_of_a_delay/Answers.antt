use Rattle.typed_values.proofs.Fields.{delay-fields}
use Rattle.typed_values.proofs.field_laws.fields_of_a_delay.Goals as goal

pub returns : goal.returns
returns c = delay-fields

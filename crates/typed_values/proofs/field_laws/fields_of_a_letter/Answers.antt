use Rattle.typed_values.proofs.Fields.{letter-fields}
use Rattle.typed_values.proofs.field_laws.fields_of_a_letter.Goals as goal

pub returns : goal.returns
returns c = letter-fields

use Rattle.typed_values.proofs.Fields.{sender-member}
use Rattle.typed_values.proofs.field_laws.member_of_a_sender.Goals as goal

pub returns : goal.returns
returns c = sender-member

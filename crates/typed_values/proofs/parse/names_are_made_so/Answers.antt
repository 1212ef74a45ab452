use Rattle.typed_values.proofs.Slash.{names-made}
use Rattle.typed_values.proofs.parse.names_are_made_so.Goals as goal

pub returns : goal.returns
returns c = names-made

use Rattle.address_routing.proofs.JobLines.{text_tells_module}
use Rattle.address_routing.proofs.laws.the_text_tells_the_module.Goals as goal

pub returns : goal.returns
returns c = text_tells_module

use Rattle.invocation.proofs.Sizing.{request-parts}
use Rattle.invocation.proofs.laws.a_request_is_its_head_and_its_letters.Goals as goal

pub returns : goal.returns
returns c = request-parts

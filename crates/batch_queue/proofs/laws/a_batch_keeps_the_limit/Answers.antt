use Rattle.batch_queue.proofs.Requests.{kept_limit}
use Rattle.batch_queue.proofs.laws.a_batch_keeps_the_limit.Goals as goal

pub returns : goal.returns
returns c = kept_limit

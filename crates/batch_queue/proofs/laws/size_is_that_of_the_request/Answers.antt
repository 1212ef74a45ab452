use Rattle.batch_queue.proofs.Requests.{request_length}
use Rattle.batch_queue.proofs.laws.size_is_that_of_the_request.Goals as goal

pub returns : goal.returns
returns c = request_length

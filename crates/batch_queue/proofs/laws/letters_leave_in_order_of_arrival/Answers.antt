use Rattle.batch_queue.specs.Post.{no_post}
use Rattle.batch_queue.proofs.Leaving.{in_order}
use Rattle.batch_queue.proofs.laws.letters_leave_in_order_of_arrival.Goals as goal

pub returns : goal.returns
returns c = λ calls address. in_order calls no_post address

use Rattle.std.proofs.Common.{◌≡◌, subst}
use Rattle.std.specs.Prelude.{OnOk}
use Rattle.batch_queue.specs.Post.{Post, put}
use Rattle.batch_queue.specs.Kept.{post_of}
use Rattle.batch_queue.proofs.mail.Mail.put.Goals as goal

pub returns-in-Ok-clause-ok : goal.returns-in-Ok-clause-ok
returns-in-Ok-clause-ok c = subst (λ (p : Post). OnOk c.add.result (post_of c.add.new.self ≡ put c.args.letter p)) c.make_box.ensures c.add.ensures.ok

use Rattle.function_server.proofs.Refusals.{replied_as, refused}
use Rattle.function_server.proofs.serving.reply_from.Goals as goal

pub returns-in-Ok-clause-reply : goal.returns-in-Ok-clause-reply
returns-in-Ok-clause-reply g c = replied_as _ _ c.in-Ok.body _ _ c.in-Ok.ensures.body c.as_slice.ensures c.reply_with.ensures.reply

pub returns-in-Err-clause-reply : goal.returns-in-Err-clause-reply
returns-in-Err-clause-reply g c = refused _ _ c.in-Err.fault _ c.in-Err.ensures.body c.reply_without.ensures.reply

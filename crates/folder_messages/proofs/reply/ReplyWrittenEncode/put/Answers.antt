use Rattle.std.proofs.Common.{◌≡◌, ◌++◌, ◌∙◌, ap}
use Rattle.std.proofs.lemmas.Result.{IfOk-weaker}
use Rattle.proto_wire.specs.Record.{bytes_record}
use Rattle.proto_wire.specs.Message.{spelling, spelled_message, spelled_bytes}
use Rattle.folder_messages.specs.Entries.{call_rows, reply_rows}
use Rattle.folder_messages.specs.Spelling.{reply_spelling}
use Rattle.folder_messages.proofs.Puts.{ends, behind}
use Rattle.folder_messages.proofs.reply.ReplyWrittenEncode.put.Goals as goal

pub returns-clause-spelled : goal.returns-clause-spelled
unfolding reply_spelling reply_rows spelled_message
returns-clause-spelled c =
    let call = ap (λ it. c.args.into ++ bytes_record 1 (spelling call_rows it)) c.call_read.ensures in
    let answer = ap (λ it. c.in_ok-into-4.into ++ spelled_bytes 5 it) c.as_slice.ensures in
    IfOk-weaker c.with_bytes.result (λ bytes. bytes ≡ c.in_ok-into-4.into ++ spelled_bytes 5 c.as_slice.result.now) (λ bytes. bytes ≡ c.args.into ++ reply_spelling c.args.self.now.reply.now)
    (λ bytes e.
    behind c.args.into _ _ (c.in_ok-into.ensures.spelled ∙ call)
    (behind c.in_ok-into.into _ _ c.in_ok-into-2.ensures.spelled
    (behind c.in_ok-into-2.into _ _ c.in_ok-into-3.ensures.spelled
    (behind c.in_ok-into-3.into _ _ c.in_ok-into-4.ensures.spelled (ends c.in_ok-into-4.into _ (e ∙ answer))))))
    c.with_bytes.ensures

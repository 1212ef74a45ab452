use Rattle.std.proofs.Common.{◌≡◌, ◌++◌, map}
use Rattle.std.proofs.lemmas.Result.{IfOk-weaker}
use Rattle.proto_wire.specs.Message.{spelling, spelled_messages}
use Rattle.folder_messages.proofs.Puts.{ends, behind}
use Rattle.piece_messages.specs.Stored.{delay_rows, delay_read}
use Rattle.piece_messages.specs.States.{piece_rows}
use Rattle.piece_messages.specs.Spelling.{piece_spelling}
use Rattle.piece_messages.proofs.piece.PieceEncode.put.Goals as goal

pub returns-clause-spelled : goal.returns-clause-spelled
unfolding piece_spelling piece_rows
returns-clause-spelled c =
    IfOk-weaker c.with_delays.result (λ bytes. bytes ≡ c.in_ok-into-5.into ++ spelled_messages (spelling delay_rows) 6 (map delay_read c.args.self.now.delays)) (λ bytes. bytes ≡ c.args.into ++ piece_spelling c.args.self.now)
    (λ bytes e.
    behind c.args.into _ _ c.in_ok-into.ensures.spelled
    (behind c.in_ok-into.into _ _ c.in_ok-into-2.ensures.spelled
    (behind c.in_ok-into-2.into _ _ c.in_ok-into-3.ensures.spelled
    (behind c.in_ok-into-3.into _ _ c.in_ok-into-4.ensures.spelled
    (behind c.in_ok-into-4.into _ _ c.in_ok-into-5.ensures.spelled (ends c.in_ok-into-5.into _ e))))))
    c.with_delays.ensures.spelled

use Rattle.std.proofs.Common.{◌≡◌, ◌++◌, ◌∙◌, ap}
use Rattle.std.proofs.lemmas.Result.{IfOk-weaker}
use Rattle.proto_wire.specs.Message.{spelling, spelled_message, spelled_messages}
use Rattle.folder_messages.proofs.Puts.{ends, behind}
use Rattle.piece_messages.specs.States.{cell_rows, state_rows}
use Rattle.piece_messages.specs.Spelling.{state_spelling}
use Rattle.piece_messages.proofs.address_state.AddressStateEncode.put.Goals as goal

pub returns-clause-spelled : goal.returns-clause-spelled
unfolding state_spelling state_rows spelled_message
returns-clause-spelled c =
    let cells = ap (λ it. c.in_ok-into-2.into ++ spelled_messages (spelling cell_rows) 3 it) c.as_slice.ensures in
    IfOk-weaker c.with_messages.result (λ bytes. bytes ≡ c.in_ok-into-2.into ++ spelled_messages (spelling cell_rows) 3 c.as_slice.result.now) (λ bytes. bytes ≡ c.args.into ++ state_spelling c.args.self.now)
    (λ bytes e. behind c.args.into _ _ c.in_ok-into.ensures.spelled (behind c.in_ok-into.into _ _ c.in_ok-into-2.ensures.spelled (ends c.in_ok-into-2.into _ (e ∙ cells))))
    c.with_messages.ensures.spelled

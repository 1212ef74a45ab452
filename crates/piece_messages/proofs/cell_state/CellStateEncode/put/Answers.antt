use Rattle.std.proofs.Common.{◌≡◌, ◌++◌, ◌∙◌, ap, w32, to_z, of_z}
use Rattle.std.proofs.lemmas.Grind.{common_steps}
use Rattle.std.proofs.lemmas.Int.{ints, to_z-of_z}
use Rattle.std.proofs.lemmas.Result.{IfOk-weaker}
use Rattle.proto_wire.specs.Message.{spelling, spelled_bytes, spelled_signed}
use Rattle.folder_messages.proofs.Puts.{ends, behind}
use Rattle.piece_messages.specs.States.{cell_rows}
use Rattle.piece_messages.proofs.cell_state.CellStateEncode.put.Goals as goal

pub returns-clause-spelled : goal.returns-clause-spelled
unfolding cell_rows
returns-clause-spelled c =
    let same : to_z w32 (of_z w32 c.args.self.now.mode) ≡ c.args.self.now.mode = search (common_steps, ints, to_z-of_z) in
    let mode = ap (λ it. c.in_ok-into-2.into ++ spelled_signed 3 it) same in
    let value = ap (λ it. c.in_ok-into-6.into ++ spelled_bytes 7 it) c.as_slice.ensures in
    IfOk-weaker c.with_bytes.result (λ bytes. bytes ≡ c.in_ok-into-6.into ++ spelled_bytes 7 c.as_slice.result.now) (λ bytes. bytes ≡ c.args.into ++ spelling cell_rows c.args.self.now)
    (λ bytes e.
    behind c.args.into _ _ c.in_ok-into.ensures.spelled
    (behind c.in_ok-into.into _ _ c.in_ok-into-2.ensures.spelled
    (behind c.in_ok-into-2.into _ _ (c.in_ok-into-3.ensures.spelled ∙ mode)
    (behind c.in_ok-into-3.into _ _ c.in_ok-into-4.ensures.spelled
    (behind c.in_ok-into-4.into _ _ c.in_ok-into-5.ensures
    (behind c.in_ok-into-5.into _ _ c.in_ok-into-6.ensures.spelled (ends c.in_ok-into-6.into _ (e ∙ value))))))))
    c.with_bytes.ensures

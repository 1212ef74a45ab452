use Rattle.std.proofs.Common.{◌≡◌, ◌++◌, ◌∙◌, ap}
use Rattle.std.proofs.lemmas.Result.{IfOk-weaker}
use Rattle.proto_wire.specs.Message.{spelling, spelled_messages}
use Rattle.folder_messages.specs.Manifests.{taken_rows, place_rows, complete_rows}
use Rattle.folder_messages.specs.ManifestSpelling.{complete_spelling}
use Rattle.folder_messages.proofs.Puts.{ends, behind}
use Rattle.folder_messages.proofs.complete.CompleteEncode.put.Goals as goal

pub returns-clause-spelled : goal.returns-clause-spelled
unfolding complete_spelling complete_rows
returns-clause-spelled c =
    let taken = ap (λ it. c.in_ok-into-3.into ++ spelled_messages (spelling taken_rows) 4 it) c.as_slice.ensures in
    let places = ap (λ it. c.in_ok-into-5.into ++ spelled_messages (spelling place_rows) 6 it) c.as_slice-2.ensures in
    IfOk-weaker c.with_messages-2.result (λ bytes. bytes ≡ c.in_ok-into-5.into ++ spelled_messages (spelling place_rows) 6 c.as_slice-2.result.now) (λ bytes. bytes ≡ c.args.into ++ complete_spelling c.args.self.now)
    (λ bytes e.
    behind c.args.into _ _ c.in_ok-into.ensures.spelled
    (behind c.in_ok-into.into _ _ c.in_ok-into-2.ensures.spelled
    (behind c.in_ok-into-2.into _ _ c.in_ok-into-3.ensures.spelled
    (behind c.in_ok-into-3.into _ _ (c.in_ok-into-4.ensures.spelled ∙ taken)
    (behind c.in_ok-into-4.into _ _ c.in_ok-into-5.ensures.spelled (ends c.in_ok-into-5.into _ (e ∙ places)))))))
    c.with_messages-2.ensures.spelled

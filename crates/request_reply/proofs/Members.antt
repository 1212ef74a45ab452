-- What one record does to the members of an answer.
use Rattle.std.proofs.Common.{◌≡◌, ℕ, List, [], ◌∷◌, Option, Some, None, Result, Ok, Err, refl, sym, ◌∙◌}
use Rattle.proto_wire.specs.Record.{Item}
use Rattle.proto_wire.specs.Message.{Row, belongs, accepted, joined}
use Rattle.proto_wire.specs.Encoding.{IsMember}
use Rattle.proto_wire.proofs.RoundTrip.{EnterBy, enter-all}
use Rattle.proto_wire.proofs.Tables.{Minds, is_own, is_other, member-field, drops}
use Rattle.request_reply.specs.declared.answer.FromFunction.{FromFunction}
use Rattle.request_reply.specs.declared.answer.FromFunction.TheVariants as answers
use Rattle.request_reply.specs.declared.answer.InvocationResponse.{InvocationResponse}
use Rattle.request_reply.specs.declared.answer.IncompleteInvocationContext.{IncompleteInvocationContext}
use Rattle.request_reply.specs.declared.whole.FromRead.{FromRead}
use Rattle.request_reply.specs.AnswerTables.{empty_response, response_rows, empty_context, context_rows}
use Rattle.request_reply.specs.Oneofs.{response_of, context_of, from_rows}
use Rattle.request_reply.specs.Members.{AnswerMembers}

abbrev with_response : FromRead → InvocationResponse → FromRead
with_response it x = record { member = Some (answers.Result x) }

abbrev with_context : FromRead → IncompleteInvocationContext → FromRead
with_context it x = record { member = Some (answers.Incomplete x) }

response-member : IsMember from_rows response_rows empty_response 100 2 (belongs 101 2) (λ (it : FromRead). response_of it.member)
unfolding from_rows response_of context_of
response-member =
    let e : EnterBy from_rows from_rows = enter-all 0 from_rows refl in
    let get = λ (it : FromRead). response_of it.member in
    member-field from_rows response_rows empty_response 100 2 (belongs 101 2) get with_response e.0 (λ it x. refl)
    (λ old new item h o. drops get (joined empty_context context_rows (context_of old.member) item) with_context old new (λ it x. refl) (sym (e.1.0 old item o) ∙ h))
    (is_own refl refl, (is_other (λ item b. b), tt))

context-member : IsMember from_rows context_rows empty_context 101 2 (belongs 100 2) (λ (it : FromRead). context_of it.member)
unfolding from_rows response_of context_of
context-member =
    let e : EnterBy from_rows from_rows = enter-all 0 from_rows refl in
    let get = λ (it : FromRead). context_of it.member in
    member-field from_rows context_rows empty_context 101 2 (belongs 100 2) get with_context e.1.0 (λ it x. refl)
    (λ old new item h o. drops get (joined empty_response response_rows (response_of old.member) item) with_response old new (λ it x. refl) (sym (e.0 old item o) ∙ h))
    (is_other (λ item b. b), (is_own refl refl, tt))

pub answer-members : AnswerMembers
answer-members = record { response = response-member; context = context-member }

-- The spelling of each message is read as that message.
use Rattle.std.proofs.Common.{◌≡◌, ℕ, ◌^◌, ◌<◌, true, List, length, Option, Some, None, Result, Ok, refl, ap}
use Rattle.proto_wire.specs.declared.fault.WireFault.{WireFault}
use Rattle.proto_wire.specs.Varint.{◌>>=◌}
use Rattle.proto_wire.specs.Places.{present}
use Rattle.proto_wire.specs.Message.{fit}
use Rattle.proto_wire.proofs.RoundTrip.{IsAgain, AllCopies, Fills, again, written-again, texts-copies, bools-copies, enums-copies, longs-copies, messages-copies, lists-copies, members-copies}
use Rattle.typed_values.specs.Tables.{empty_address, address_rows, empty_value, value_rows}
use Rattle.typed_values.proofs.RoundTrip.{address-again, value-again}
use Rattle.request_reply.specs.declared.request.ToFunction.{ToFunction}
use Rattle.request_reply.specs.declared.request.ToFunction.TheVariants.{Invocation}
use Rattle.request_reply.specs.declared.answer.FromFunction.{FromFunction}
use Rattle.request_reply.specs.declared.answer.FromFunction.TheVariants as answers
use Rattle.request_reply.specs.declared.whole.ToRead.{ToRead}
use Rattle.request_reply.specs.declared.whole.FromRead.{FromRead}
use Rattle.request_reply.specs.RequestTables.{empty_persisted_value, persisted_value_rows, empty_batch_invocation, batch_invocation_rows, empty_batch, batch_rows}
use Rattle.request_reply.specs.AnswerTables.{empty_mutation, mutation_rows, empty_outgoing, outgoing_rows, empty_delayed, delayed_rows, empty_egress_message, egress_message_rows, empty_response, response_rows, empty_expiration, expiration_rows, empty_value_spec, value_spec_rows, empty_context, context_rows}
use Rattle.request_reply.specs.Oneofs.{no_request, to_rows, batch_of, no_answer, from_rows, response_of, context_of}
use Rattle.request_reply.specs.Spelling.{to_spelling, from_spelling, to_value, from_value}

-- ---- requests

persisted-again : IsAgain empty_persisted_value persisted_value_rows
unfolding persisted_value_rows empty_persisted_value
persisted-again = again empty_persisted_value persisted_value_rows refl
    (texts-copies 1 refl _ _, (messages-copies 2 refl empty_value value_rows value-again _ _ (λ into. refl), tt)) (λ v. (refl, (refl, refl)))

invocation-again : IsAgain empty_batch_invocation batch_invocation_rows
unfolding batch_invocation_rows empty_batch_invocation
invocation-again = again empty_batch_invocation batch_invocation_rows refl
    (messages-copies 1 refl empty_address address_rows address-again _ _ (λ into. refl), (messages-copies 2 refl empty_value value_rows value-again _ _ (λ into. refl), tt)) (λ v. (refl, (refl, refl)))

batch-again : IsAgain empty_batch batch_rows
unfolding batch_rows empty_batch
batch-again = again empty_batch batch_rows refl (
  messages-copies 1 refl empty_address address_rows address-again _ _ (λ into. refl),
  (
    lists-copies 2 refl empty_persisted_value persisted_value_rows persisted-again _ _ (record { there = λ into values. refl; last = λ into values others. refl }),
    (lists-copies 3 refl empty_batch_invocation batch_invocation_rows invocation-again _ _ (record { there = λ into values. refl; last = λ into values others. refl }), tt),
  ),
)
    (λ v. (refl, (refl, (refl, refl))))

-- ---- answers

mutation-again : IsAgain empty_mutation mutation_rows
unfolding mutation_rows empty_mutation
mutation-again = again empty_mutation mutation_rows refl
    (enums-copies 1 refl _ (λ it new. record it { mutation_type = new }), (texts-copies 2 refl _ _, (messages-copies 3 refl empty_value value_rows value-again _ _ (λ into. refl), tt)))
    (λ v. (refl, (refl, (refl, refl))))

outgoing-again : IsAgain empty_outgoing outgoing_rows
unfolding outgoing_rows empty_outgoing
outgoing-again = again empty_outgoing outgoing_rows refl
    (messages-copies 1 refl empty_address address_rows address-again _ _ (λ into. refl), (messages-copies 2 refl empty_value value_rows value-again _ _ (λ into. refl), tt)) (λ v. (refl, (refl, refl)))

delayed-again : IsAgain empty_delayed delayed_rows
unfolding delayed_rows empty_delayed
delayed-again = again empty_delayed delayed_rows refl (
  longs-copies 1 refl _ (λ it new. record it { delay_in_ms = new }),
  (
    messages-copies 2 refl empty_address address_rows address-again _ _ (λ into. refl),
    (
      messages-copies 3 refl empty_value value_rows value-again _ _ (λ into. refl),
      (bools-copies 10 refl _ (λ it new. record it { is_cancellation_request = new }), (texts-copies 11 refl _ _, tt)),
    ),
  ),
)
    (λ v. (refl, (refl, (refl, (refl, (refl, refl))))))

egress-again : IsAgain empty_egress_message egress_message_rows
unfolding egress_message_rows empty_egress_message
egress-again = again empty_egress_message egress_message_rows refl
    (texts-copies 1 refl _ _, (texts-copies 2 refl _ _, (messages-copies 3 refl empty_value value_rows value-again _ _ (λ into. refl), tt))) (λ v. (refl, (refl, (refl, refl))))

response-again : IsAgain empty_response response_rows
unfolding response_rows empty_response
response-again = again empty_response response_rows refl (
  lists-copies 1 refl empty_mutation mutation_rows mutation-again _ _ (record { there = λ into values. refl; last = λ into values others. refl }),
  (
    lists-copies 2 refl empty_outgoing outgoing_rows outgoing-again _ _ (record { there = λ into values. refl; last = λ into values others. refl }),
    (
      lists-copies 3 refl empty_delayed delayed_rows delayed-again _ _ (record { there = λ into values. refl; last = λ into values others. refl }),
      (lists-copies 4 refl empty_egress_message egress_message_rows egress-again _ _ (record { there = λ into values. refl; last = λ into values others. refl }), tt),
    ),
  ),
)
    (λ v. (refl, (refl, (refl, (refl, refl)))))

expiration-again : IsAgain empty_expiration expiration_rows
unfolding expiration_rows empty_expiration
expiration-again = again empty_expiration expiration_rows refl
    (enums-copies 1 refl _ (λ it new. record it { mode = new }), (longs-copies 2 refl _ (λ it new. record it { expire_after_millis = new }), tt)) (λ v. (refl, (refl, refl)))

value_spec-again : IsAgain empty_value_spec value_spec_rows
unfolding value_spec_rows empty_value_spec
value_spec-again = again empty_value_spec value_spec_rows refl
    (texts-copies 1 refl _ _, (messages-copies 2 refl empty_expiration expiration_rows expiration-again _ _ (λ into. refl), (texts-copies 3 refl _ _, tt))) (λ v. (refl, (refl, (refl, refl))))

context-again : IsAgain empty_context context_rows
unfolding context_rows empty_context
context-again = again empty_context context_rows refl
    (lists-copies 1 refl empty_value_spec value_spec_rows value_spec-again _ _ (record { there = λ into values. refl; last = λ into values others. refl }), tt) (λ v. (refl, refl))

-- ---- whole requests and answers

abbrev to-copies : AllCopies to_rows
unfolding to_rows batch_of no_request
to-copies = (members-copies 100 refl empty_batch batch_rows batch-again _ _ no_request refl, tt)

to-fills : (member : Option ToFunction) → Fills to_rows to-copies (record { member = member }) no_request
unfolding to_rows batch_of no_request to-copies
to-fills None = (refl, refl)
to-fills (Some (Invocation batch)) = (refl, refl)

to-again : IsAgain no_request to_rows
unfolding to_rows
to-again = again no_request to_rows refl to-copies (λ v. to-fills v.member)

abbrev from-copies : AllCopies from_rows
unfolding from_rows response_of context_of no_answer
from-copies = (members-copies 100 refl empty_response response_rows response-again _ _ no_answer refl, (members-copies 101 refl empty_context context_rows context-again _ _ no_answer refl, tt))

from-fills : (member : Option FromFunction) → Fills from_rows from-copies (record { member = member }) no_answer
unfolding from_rows response_of context_of no_answer from-copies
from-fills None = (refl, (refl, refl))
from-fills (Some (answers.Result response)) = (refl, (refl, refl))
from-fills (Some (answers.Incomplete context)) = (refl, (refl, refl))

from-again : IsAgain no_answer from_rows
unfolding from_rows
from-again = again no_answer from_rows refl from-copies (λ v. from-fills v.member)

-- ---- what was written is read again

pub to-written : (bytes : List ℕ) (request : ToFunction) → bytes ≡ to_spelling request → fit to_rows (record { member = Some request }) ≡ true → length bytes < 2 ^ 64 → to_value bytes ≡ Ok request
unfolding to_value to_spelling
to-written bytes request spelled fits short =
    ap (λ (r : Result ToRead WireFault). r >>= λ it. present (length bytes) it.member) (written-again no_request to_rows to-again (record { member = Some request }) bytes spelled fits short)

pub from-written : (bytes : List ℕ) (answer : FromFunction) → bytes ≡ from_spelling answer → fit from_rows (record { member = Some answer }) ≡ true → length bytes < 2 ^ 64 → from_value bytes ≡ Ok answer
unfolding from_value from_spelling
from-written bytes answer spelled fits short =
    ap (λ (r : Result FromRead WireFault). r >>= λ it. present (length bytes) it.member) (written-again no_answer from_rows from-again (record { member = Some answer }) bytes spelled fits short)

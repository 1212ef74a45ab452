-- When the answers of a record are its endpoints' own.
use Rattle.std.specs.Prelude.{◌≡◌, ℕ, nat_eq, Bool, ◌&&◌, List, [], ◌∷◌, Option, Some, IfSome, Contains}
use Rattle.std.specs.Option.{option_map, option_to_list}
use Rattle.std.specs.List.{flat_map}
use Rattle.sf_outside.specs.declared.call.Call.{Call}
use Rattle.sf_outside.specs.declared.call.Exchange.{Exchange}
use Rattle.sf_outside.specs.Splits.{Lists}
use Rattle.request_reply.specs.declared.request.ToFunction.{ToFunction}
use Rattle.request_reply.specs.Spelling.{to_spelling}
use Rattle.typed_values.specs.declared.letter.Sender.TheVariants.{Function}
use Rattle.address_routing.specs.declared.module.Module.{Module}
use Rattle.address_routing.specs.Routing.{url_of}
use Rattle.run_record.specs.declared.entry.Entry.{Entry}
use Rattle.run_record.specs.declared.entry.Step.{Step}
use Rattle.run_record.specs.declared.entry.Reply.{Reply}
use Rattle.run_record.specs.Machine.{State, reply_of, request_of_picks}
use Rattle.run_record.specs.Record.{step_after}

-- the request that an answer's picks give
abbrev pub request_to : Module → State → Reply → Option ToFunction
request_to m st reply =
    request_of_picks m (st.own (Function reply.address)).cells (λ sender. st.mail sender reply.address) reply.address reply.moment reply.picks

-- an exchange gave this answer to the request of these picks, under this call, at the URL of the address' type
pub record IsBackedReply (exchanges : List Exchange) (m : Module) (st : State) (reply : Reply) : Type 0 where
  pub request : ToFunction
  pub asked : request_to m st reply ≡ Some request
  pub url : List ℕ
  pub at_url : url_of m reply.address.kind ≡ Some url
  pub exchanged : Contains exchanges (record { call = reply.call; url = url; request = to_spelling request; answer = reply.answer })

-- the answer that a step is made of, if there is one, is backed
abbrev pub IsBackedStep : List Exchange → Module → State → Step → Type 0
IsBackedStep exchanges m st step = IfSome (reply_of step) (IsBackedReply exchanges m st)

-- each step is backed, in the state before it
abbrev pub AreBacked : List Exchange → Module → Lists → State → List Entry → Type 0
AreBacked exchanges m lists st [] = Unit {0}
AreBacked exchanges m lists st (entry ∷ entries) =
    IsBackedStep exchanges m st entry.step × IfSome (step_after m lists st entry.step) (λ next. AreBacked exchanges m lists next entries)

-- the calls of a record, in its order
abbrev pub calls_of : List Entry → List Call
calls_of entries = flat_map (λ entry. option_to_list (option_map (λ (reply : Reply). reply.call) (reply_of entry.step))) entries

abbrev pub same_call : Call → Call → Bool
same_call a b = nat_eq a.leg b.leg && nat_eq a.partition b.partition && nat_eq a.turn b.turn

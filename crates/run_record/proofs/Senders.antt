-- The letters of a step are its actor's.
use Rattle.std.proofs.Common.{◌≡◌, ◌∙◌, sym, ap, subst, refl, ℕ, nat_lt, List, [], ◌∷◌, ◌++◌, Bool, true, false, cond, map, filter, Option, Some, None, option_map}
use Rattle.std.specs.Prelude.{◌&&◌}
use Rattle.std.specs.Option.{option_map_or}
use Rattle.std.specs.List.{AllByRecursion}
use Rattle.std.proofs.lemmas.List.{map-append}
use Rattle.std.proofs.lemmas.List.Elements.{filter-append}
use Rattle.typed_values.specs.declared.name.TypeName.{TypeName}
use Rattle.typed_values.specs.declared.address.Address.{Address}
use Rattle.typed_values.specs.declared.value.TypedValue.{TypedValue}
use Rattle.typed_values.specs.declared.letter.Letter.{Letter}
use Rattle.typed_values.specs.declared.letter.Sender.{Sender}
use Rattle.typed_values.specs.declared.letter.Sender.TheVariants.{Split, Function}
use Rattle.typed_values.specs.declared.cells.Cell.{Cell}
use Rattle.typed_values.specs.Sameness.{same_sender, same_address}
use Rattle.typed_values.proofs.Sameness.{same_sender-Decides}
use Rattle.typed_values.specs.Delays.{due_at}
use Rattle.sf_outside.specs.declared.ingress.IngressRecord.{IngressRecord}
use Rattle.request_reply.specs.declared.judging.Judgement.{Judgement}
use Rattle.request_reply.specs.declared.judging.Judgement.TheVariants as judgements
use Rattle.request_reply.specs.declared.answer.OutgoingInvocation.{OutgoingInvocation}
use Rattle.request_reply.specs.Valid.{verdict}
use Rattle.address_routing.specs.declared.module.Module.{Module}
use Rattle.address_routing.specs.declared.module.IngressSpec.{IngressSpec}
use Rattle.address_routing.specs.Routing.{splits_in, ingress_of}
use Rattle.invocation.specs.declared.judging.Judged.{Judged}
use Rattle.invocation.specs.declared.judging.Judged.TheVariants.{Accept, Register as Declare, Flaw}
use Rattle.invocation.specs.Effects.{argument_of, letters_to, letters_from, effects_of}
use Rattle.invocation.specs.Judging.{setting_of, done_by, judgement}
use Rattle.run_record.specs.declared.entry.Step.{Step}
use Rattle.run_record.specs.declared.entry.Step.TheVariants.{Take, Batch, Register, Due}
use Rattle.run_record.specs.Letters.{letter_of, letters_of}
use Rattle.run_record.specs.Machine.{Own, Act, is_of_pair, arguments_of, actor_of, took, sent_later, judged, batch_act, register_act, act_of}
use Rattle.run_record.proofs.Steps.{some_from_map}

abbrev pub AllFrom : Sender → List Letter → Type 0
AllFrom sender letters = AllByRecursion (λ (letter : Letter). letter.sender ≡ sender) letters

all_from-append : (sender : Sender) (xs ys : List Letter) → AllFrom sender xs → AllFrom sender ys → AllFrom sender (xs ++ ys)
all_from-append sender [] ys h k = k
all_from-append sender (x ∷ xs) ys h k = (h.0, all_from-append sender xs ys h.1 k)

from_split : (m : Module) (split : ℕ) (found : IngressRecord) → AllFrom (Split split) (letters_of m split found)
unfolding letters_of
from_split m split found = go (ingress_of m split)
  where
    each : (value_type : List ℕ) (targets : List TypeName) → AllFrom (Split split) (map (letter_of split value_type found) targets)
    each value_type [] = tt
    each value_type (target ∷ targets) = (refl, each value_type targets)

    go : (o : Option IngressSpec) → AllFrom (Split split) (option_map_or (λ (ingress : IngressSpec). map (letter_of split ingress.value_type found) ingress.targets) o [])
    go None = tt
    go (Some ingress) = each ingress.value_type ingress.targets

from_address : (address : Address) (messages : List OutgoingInvocation) → AllFrom (Function address) (letters_from address messages)
from_address address [] = tt
from_address address (message ∷ messages) = all_from-append (Function address) (letters_to address message.target (argument_of message.argument)) (letters_from address messages) (one message.target (argument_of message.argument)) (from_address address messages)
  where
    one : (target : Option Address) (argument : TypedValue) → AllFrom (Function address) (letters_to address target argument)
    one None argument = tt
    one (Some target) argument = (refl, tt)

-- the letters of an answer, by what it is judged to be
letters_judged : Judged → List Letter
letters_judged (Accept effects) = effects.letters
letters_judged (Declare specs) = []
letters_judged (Flaw flaw) = []

from_judged : (m : Module) (cells : List Cell) (address : Address) (moment : ℕ) (answer : List ℕ) → AllFrom (Function address) (letters_judged (judgement m cells address moment answer))
unfolding judgement effects_of letters_judged
from_judged m cells address moment answer = by (verdict (setting_of m cells) answer)
  where
    by : (j : Judgement) → AllFrom (Function address) (letters_judged (done_by address moment j))
    by (judgements.Accept response) = from_address address response.outgoing_messages
    by (judgements.Register specs) = tt
    by (judgements.Flaw flaw) = tt

pub act_senders : (m : Module) (found : Option IngressRecord) (own : Own) (step : Step) (act : Act) → act_of m found own step ≡ Some act → AllFrom (actor_of step) act.letters
unfolding letters_judged
act_senders m found own (Take split) act h = by (nat_lt split (splits_in m.ingresses)) h
  where
    by : (b : Bool) → cond b (option_map (took m split own) found) None ≡ Some act → AllFrom (Split split) act.letters
    by true e = let got = some_from_map (took m split own) found act e in subst (λ (a : Act). AllFrom (Split split) a.letters) (sym got.2) (from_split m split got.0)
    by false e = absurd cc
act_senders m found own (Batch reply) act h = by (judged m own reply) (from_judged m own.cells reply.address reply.moment reply.answer) h
  where
    by : (j : Judged) → AllFrom (Function reply.address) (letters_judged j) → batch_act reply j own ≡ Some act → AllFrom (Function reply.address) act.letters
    by (Accept effects) all e = subst (AllFrom (Function reply.address)) (ap (λ (o : Option Act). option_map_or (λ (a : Act). a.letters) o []) e) all
    by (Declare specs) all e = absurd cc
    by (Flaw flaw) all e = absurd cc
act_senders m found own (Register reply) act h = by (judged m own reply) h
  where
    by : (j : Judged) → register_act reply j own ≡ Some act → AllFrom (Function reply.address) act.letters
    by (Accept effects) e = absurd cc
    by (Declare specs) e = subst (AllFrom (Function reply.address)) (ap (λ (o : Option Act). option_map_or (λ (a : Act). a.letters) o []) e) tt
    by (Flaw flaw) e = absurd cc
act_senders m found own (Due address moment) act h =
    let got = some_from_map (sent_later address moment own) (due_at moment own.delays) act h in subst (λ (a : Act). AllFrom (Function address) a.letters) (sym got.2) (refl, tt)

-- ---- the arguments of one pair

pub arguments_of-append : (sender : Sender) (target : Address) (letters others : List Letter) → arguments_of sender target (letters ++ others) ≡ arguments_of sender target letters ++ arguments_of sender target others
unfolding arguments_of
arguments_of-append sender target letters others =
    ap (map (λ (l : Letter). l.argument)) (filter-append (is_of_pair sender target) letters others)
    ∙ map-append (λ (l : Letter). l.argument) (filter (is_of_pair sender target) letters) (filter (is_of_pair sender target) others)

pub none_from : (sender other : Sender) (target : Address) (letters : List Letter) → AllFrom sender letters → same_sender sender other ≡ false → arguments_of other target letters ≡ []
unfolding arguments_of
none_from sender other target [] all apart = refl
none_from sender other target (letter ∷ letters) all apart =
    ap (λ b. map (λ (l : Letter). l.argument) (cond (b && same_address letter.target target) (letter ∷ filter (is_of_pair other target) letters) (filter (is_of_pair other target) letters))) (ap (λ s. same_sender s other) all.0 ∙ apart)
    ∙ none_from sender other target letters all.1 apart

-- what a sender's letters leave for a pair
pub of_sender : (sender other : Sender) (target : Address) (letters : List Letter) → AllFrom sender letters → arguments_of other target letters ≡ cond (same_sender sender other) (arguments_of sender target letters) []
of_sender sender other target letters all = by (same_sender sender other) refl
  where
    by : (b : Bool) → same_sender sender other ≡ b → arguments_of other target letters ≡ cond b (arguments_of sender target letters) []
    by true t = ap (λ s. arguments_of s target letters) (sym ((same_sender-Decides sender other).0 t))
    by false t = none_from sender other target letters all t

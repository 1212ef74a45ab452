-- A step of a partition is that step of the sequential machine.
use mathlib.Core.Path.{fun_ext}
use Rattle.std.proofs.Common.{◌≡◌, ◌∙◌, sym, ap, subst, refl, ℕ, nat_eq, nat_lt, List, [], ◌∷◌, ◌++◌, Bool, true, false, cond, map, filter, take, drop, count_by, Option, Some, None, option_map, eqb-true, eq-eqb}
use Rattle.std.specs.List.{AllByRecursion, flat_map}
use Rattle.std.proofs.lemmas.Bool.{false_from_ne_true}
use Rattle.std.proofs.lemmas.Bool.Decides.{same_from_decides}
use Rattle.std.proofs.lemmas.List.{map-append}
use Rattle.std.proofs.lemmas.List.Elements.{filter-append}
use Rattle.typed_values.specs.declared.name.TypeName.{TypeName}
use Rattle.typed_values.specs.declared.address.Address.{Address}
use Rattle.typed_values.specs.declared.value.TypedValue.{TypedValue}
use Rattle.typed_values.specs.declared.letter.Sender.{Sender}
use Rattle.typed_values.specs.declared.letter.Sender.TheVariants.{Split, Function}
use Rattle.typed_values.specs.declared.cells.Cell.{Cell}
use Rattle.typed_values.specs.declared.record.Delay.{Delay}
use Rattle.typed_values.specs.declared.record.EgressRecord.{EgressRecord}
use Rattle.typed_values.specs.Sameness.{same_sender, same_address}
use Rattle.typed_values.proofs.Sameness.{same_sender-Decides, same_address-Decides}
use Rattle.typed_values.specs.Delays.{due_at}
use Rattle.sf_outside.specs.declared.ingress.IngressRecord.{IngressRecord}
use Rattle.request_reply.specs.declared.judging.Judgement.{Judgement}
use Rattle.request_reply.specs.declared.judging.Judgement.TheVariants as judgements
use Rattle.request_reply.specs.declared.answer.DelayedInvocation.{DelayedInvocation}
use Rattle.request_reply.specs.Valid.{verdict}
use Rattle.state_cells.specs.Lifetimes.{after_all as cells_after}
use Rattle.delayed_messages.specs.Laws.{Asks, left_by, after_all as delays_after}
use Rattle.batch_queue.specs.Post.{Post}
use Rattle.address_routing.specs.declared.module.Module.{Module}
use Rattle.address_routing.specs.Routing.{splits_in}
use Rattle.invocation.specs.declared.effects.DelayChange.{DelayChange}
use Rattle.invocation.specs.declared.effects.DelayChange.TheVariants.{Cancel}
use Rattle.invocation.specs.declared.judging.Judged.{Judged}
use Rattle.invocation.specs.declared.judging.Judged.TheVariants.{Accept, Register as Declare, Flaw}
use Rattle.invocation.specs.Effects.{delays_to, delays_of, effects_of}
use Rattle.invocation.specs.Judging.{setting_of, done_by, judgement}
use Rattle.run_record.specs.declared.entry.Step.{Step}
use Rattle.run_record.specs.declared.entry.Step.TheVariants.{Take, Batch, Register, Due}
use Rattle.run_record.specs.declared.entry.Reply.{Reply}
use Rattle.run_record.specs.Machine.{Own, Act, nothing, actor_of, leaving, is_between, arguments_of, arguments_at, posted, unpicked, left, acted, took, served, batch_act, register_act, judged, declared, sent_later, made}
use Rattle.run_record.proofs.Steps.{some_from_map, some_from_if, made-some}
use Rattle.run_record.proofs.LawsOfOwn.{same_functions}
use Rattle.partition_core.specs.Batches.{sender_of}
use Rattle.partition_core.specs.Work.{Work, is_from, own_in, mail_in, state_of, settled, put_all, set_for, done, counted}
use Rattle.partition_core.specs.Laws.{IsOwned, IsInTurn, IsTheMachine, sender_of_due}
use Rattle.partition_core.proofs.Posting.{AreTo, are_to-drop, put_all_mail, put_all_owned, left_behind}
use Rattle.partition_core.proofs.Delaying.{IsChangeOf, own_changes, other_changes, due_of_own, due_of_other}

-- ---- letters that are settled

stays : (sender : Sender) (b : Bool) (xs : List TypedValue) → cond b (drop (count_by (same_sender sender) []) xs) xs ≡ xs
stays sender true xs = refl
stays sender false xs = refl

settled_mail : (work : Work) (step : Step) → IsOwned work → IsInTurn work step → (sender : Sender) (target : Address) → unpicked (actor_of step) (leaving step) (mail_in work) sender target ≡ arguments_of sender target ((settled step work.post).letters target)
settled_mail work (Take split) owned turn sender target = stays sender (same_sender (Split split) (Function target)) (arguments_of sender target (work.post.letters target))
settled_mail work (Due address moment) owned turn sender target = stays sender (same_sender (Function address) (Function target)) (arguments_of sender target (work.post.letters target))
settled_mail work (Register reply) owned turn sender target =
    stays sender (same_sender (Function reply.address) (Function target)) (arguments_of sender target (work.post.letters target)) ∙ by (same_address reply.address target) refl
  where
    by : (t : Bool) → same_address reply.address target ≡ t → arguments_of sender target (work.post.letters target) ≡ arguments_of sender target (cond t (work.post.letters reply.address) (work.post.letters target))
    by true e = ap (λ a. arguments_of sender target (work.post.letters a)) (sym ((same_address-Decides reply.address target).0 e))
    by false e = refl
settled_mail work (Batch reply) owned turn sender target =
    ap (λ b. cond b (drop (count_by (same_sender sender) reply.picks) mine) mine) (same_functions reply.address target)
    ∙ ap (λ picks. cond (same_address reply.address target) (drop (count_by (same_sender sender) picks) mine) mine) turn
    ∙ by (same_address reply.address target) refl
  where
    mine : List TypedValue
    mine = arguments_of sender target (work.post.letters target)

    flying : ℕ
    flying = work.post.in_flight reply.address

    leaves : List Sender
    leaves = map sender_of (take flying (work.post.letters reply.address))

    by : (t : Bool) → same_address reply.address target ≡ t → cond t (drop (count_by (same_sender sender) leaves) mine) mine ≡ arguments_of sender target (cond t (drop flying (work.post.letters reply.address)) (work.post.letters target))
    by true e =
        subst (λ a. drop (count_by (same_sender sender) leaves) (arguments_of sender a (work.post.letters a)) ≡ arguments_of sender a (drop flying (work.post.letters reply.address))) ((same_address-Decides reply.address target).0 e)
        (sym (left_behind sender reply.address flying (work.post.letters reply.address) (owned reply.address)))
    by false e = refl

settled_owned : (work : Work) (step : Step) → IsOwned work → (address : Address) → AreTo address ((settled step work.post).letters address)
settled_owned work (Take split) owned address = owned address
settled_owned work (Due other moment) owned address = owned address
settled_owned work (Register reply) owned address = by (same_address reply.address address) refl
  where
    by : (t : Bool) → same_address reply.address address ≡ t → AreTo address (cond t (work.post.letters reply.address) (work.post.letters address))
    by true e = subst (λ a. AreTo address (work.post.letters a)) (sym ((same_address-Decides reply.address address).0 e)) (owned address)
    by false e = owned address
settled_owned work (Batch reply) owned address = by (same_address reply.address address) refl
  where
    by : (t : Bool) → same_address reply.address address ≡ t → AreTo address (cond t (drop (work.post.in_flight reply.address) (work.post.letters reply.address)) (work.post.letters address))
    by true e =
        are_to-drop address (work.post.in_flight reply.address) (work.post.letters reply.address)
        (subst (λ a. AreTo address (work.post.letters a)) (sym ((same_address-Decides reply.address address).0 e)) (owned address))
    by false e = owned address

-- ---- what a function has of its own

record OfAddress (address : Address) (act : Act) (delays : List Delay) : Type 0 where
  taken : act.taken ≡ 0
  mine : filter (is_from address) (delays_after act.on_delays delays) ≡ delays_after act.on_delays (filter (is_from address) delays)
  others : (other : Address) → same_address address other ≡ false → filter (is_from other) (delays_after act.on_delays delays) ≡ filter (is_from other) delays

not_split : (address : Address) (split : ℕ) → Function address ≡ Split split → ⊥
not_split address split e = absurd cc

function_split : (address : Address) (split : ℕ) → same_sender (Function address) (Split split) ≡ false
function_split address split = false_from_ne_true (same_sender (Function address) (Split split)) (λ e. not_split address split ((same_sender-Decides (Function address) (Split split)).0 e))

split_function : (split : ℕ) (address : Address) → same_sender (Split split) (Function address) ≡ false
split_function split address = false_from_ne_true (same_sender (Split split) (Function address)) (λ e. not_split address split (sym ((same_sender-Decides (Split split) (Function address)).0 e)))

number_of : Sender → ℕ
number_of (Split split) = split
number_of (Function address) = 0

same_number : (a b : ℕ) → same_sender (Split a) (Split b) ≡ true → a ≡ b
unfolding number_of
same_number a b e = ap number_of ((same_sender-Decides (Split a) (Split b)).0 e)

same_splits : (a b : ℕ) → same_sender (Split a) (Split b) ≡ nat_eq a b
same_splits a b = same_from_decides (same_sender (Split a) (Split b)) (nat_eq a b) ((λ e. same_number a b e), (λ e. (same_sender-Decides (Split a) (Split b)).1 (ap Split e))) ((λ e. eqb-true a b e), (λ e. eq-eqb a b e))

-- the work that a function's step leaves
abbrev function_after : Address → Act → Work → Post → Work
function_after address act work post = record {
  post = post;
  cells = set_for (Function address) (cells_after act.on_cells (work.cells address)) work.cells;
  seen = set_for (Function address) act.seen work.seen;
  delays = delays_after act.on_delays work.delays;
}

function_own : (counts : ℕ → ℕ) (work : Work) (post : Post) (address : Address) (act : Act) → OfAddress address act work.delays → (actor : Sender) → cond (same_sender (Function address) actor) (left act (own_in counts work actor)) (own_in counts work actor) ≡ own_in counts (function_after address act work post) actor
function_own counts work post address act of (Split split) = ap (λ b. cond b (left act (own_in counts work (Split split))) (own_in counts work (Split split))) (function_split address split)
function_own counts work post address act of (Function other) =
    ap (λ b. cond b (left act (own_in counts work (Function other))) (own_in counts work (Function other))) (same_functions address other) ∙ by (same_address address other) refl
  where
    by : (t : Bool) → same_address address other ≡ t → cond t (left act (own_in counts work (Function other))) (own_in counts work (Function other)) ≡ own_in counts (function_after address act work post) (Function other)
    by true e =
        let same = (same_address-Decides address other).0 e in
        let cells : cells_after act.on_cells (work.cells other) ≡ cond (same_address address other) (cells_after act.on_cells (work.cells address)) (work.cells other) = ap (λ x. cells_after act.on_cells (work.cells x)) (sym same) ∙ ap (λ b. cond b (cells_after act.on_cells (work.cells address)) (work.cells other)) (sym e) in
        let seen : act.seen ≡ cond (same_address address other) act.seen (work.seen other) = ap (λ b. cond b act.seen (work.seen other)) (sym e) in
        let delays : delays_after act.on_delays (filter (is_from other) work.delays) ≡ filter (is_from other) (delays_after act.on_delays work.delays) = subst (λ x. delays_after act.on_delays (filter (is_from x) work.delays) ≡ filter (is_from x) (delays_after act.on_delays work.delays)) same (sym of.mine) in
        λ i. record { taken = of.taken i; cells = cells i; seen = seen i; delays = delays i }
    by false e =
        let cells : work.cells other ≡ cond (same_address address other) (cells_after act.on_cells (work.cells address)) (work.cells other) = ap (λ b. cond b (cells_after act.on_cells (work.cells address)) (work.cells other)) (sym e) in
        let seen : work.seen other ≡ cond (same_address address other) act.seen (work.seen other) = ap (λ b. cond b act.seen (work.seen other)) (sym e) in
        λ i. record { taken = 0; cells = cells i; seen = seen i; delays = sym (of.others other e) i }

-- ---- what a split has of its own

record OfSplit (act : Act) : Type 0 where
  on_cells : act.on_cells ≡ []
  seen : act.seen ≡ 0
  on_delays : act.on_delays ≡ []

split_own : (counts : ℕ → ℕ) (work : Work) (post : Post) (split : ℕ) (act : Act) → OfSplit act → (actor : Sender) → cond (same_sender (Split split) actor) (left act (own_in counts work actor)) (own_in counts work actor) ≡ own_in (counted (Take split) act counts) (record { post = post; cells = work.cells; seen = work.seen; delays = delays_after act.on_delays work.delays }) actor
split_own counts work post split act of (Split other) =
    ap (λ b. cond b (left act (own_in counts work (Split other))) (own_in counts work (Split other))) (same_splits split other) ∙ by (nat_eq split other)
  where
    by : (t : Bool) → cond t (left act (record nothing { taken = counts other })) (record nothing { taken = counts other }) ≡ record nothing { taken = cond t act.taken (counts other) }
    by true = λ i. record { taken = act.taken; cells = cells_after (of.on_cells i) []; seen = of.seen i; delays = delays_after (of.on_delays i) [] }
    by false = refl
split_own counts work post split act of (Function address) =
    ap (λ b. cond b (left act (own_in counts work (Function address))) (own_in counts work (Function address))) (split_function split address)
    ∙ (λ i. record { taken = 0; cells = work.cells address; seen = work.seen address; delays = filter (is_from address) (delays_after (sym of.on_delays i) work.delays) })

-- ---- states

arguments_at-append : (address : Address) (name : TypeName) (records others : List EgressRecord) → arguments_at address name (records ++ others) ≡ arguments_at address name records ++ arguments_at address name others
unfolding arguments_at
arguments_at-append address name records others =
    ap (map (λ (r : EgressRecord). r.argument)) (filter-append (is_between address name) records others)
    ∙ map-append (λ (r : EgressRecord). r.argument) (filter (is_between address name) records) (filter (is_between address name) others)

state_is : (counts : ℕ → ℕ) (given : List EgressRecord) (work : Work) (step : Step) (act : Act) → ((actor : Sender) → cond (same_sender (actor_of step) actor) (left act (own_in counts work actor)) (own_in counts work actor) ≡ own_in (counted step act counts) (done step act work) actor) → IsOwned work → IsInTurn work step → acted step act (state_of counts given work) ≡ state_of (counted step act counts) (given ++ act.egress) (done step act work)
unfolding state_of done
state_is counts given work step act own owned turn =
    let mail : posted (unpicked (actor_of step) (leaving step) (mail_in work)) act.letters ≡ mail_in (done step act work) =
    fun_ext (λ sender. fun_ext (λ target.
    ap (λ xs. xs ++ arguments_of sender target act.letters) (settled_mail work step owned turn sender target)
    ∙ sym (put_all_mail act.letters (settled step work.post) sender target)))
    in
    λ i. record {
      own = fun_ext own i;
      mail = mail i;
      egress = λ address name. sym (arguments_at-append address name given act.egress) i;
    }

-- ---- each step

all_changes-append : (address : Address) (xs ys : List DelayChange) → AllByRecursion (IsChangeOf address) xs → AllByRecursion (IsChangeOf address) ys → AllByRecursion (IsChangeOf address) (xs ++ ys)
all_changes-append address [] ys h k = k
all_changes-append address (x ∷ xs) ys h k = (h.0, all_changes-append address xs ys h.1 k)

changes_of : (address : Address) (moment : ℕ) (delayed : List DelayedInvocation) → AllByRecursion (IsChangeOf address) (flat_map (delays_of address moment) delayed)
changes_of address moment [] = tt
changes_of address moment (one ∷ more) = all_changes-append address (delays_of address moment one) (flat_map (delays_of address moment) more) (by one.is_cancellation_request) (changes_of address moment more)
  where
    to : (target : Option Address) → AllByRecursion (IsChangeOf address) (delays_to address moment one target)
    to None = tt
    to (Some target) = (refl, tt)

    by : (t : Bool) → AllByRecursion (IsChangeOf address) (cond t (Cancel one.cancellation_token ∷ []) (delays_to address moment one one.target))
    by true = (tt, tt)
    by false = to one.target

changes_judged : Judged → List DelayChange
changes_judged (Accept effects) = effects.delays
changes_judged (Declare specs) = []
changes_judged (Flaw flaw) = []

judged_changes : (m : Module) (cells : List Cell) (address : Address) (moment : ℕ) (answer : List ℕ) → AllByRecursion (IsChangeOf address) (changes_judged (judgement m cells address moment answer))
unfolding judgement effects_of changes_judged
judged_changes m cells address moment answer = by (verdict (setting_of m cells) answer)
  where
    by : (j : Judgement) → AllByRecursion (IsChangeOf address) (changes_judged (done_by address moment j))
    by (judgements.Accept response) = changes_of address moment response.delayed_invocations
    by (judgements.Register specs) = tt
    by (judgements.Flaw flaw) = tt

some_same : {X : Type 0} (x y : X) → Some x ≡ Some y → x ≡ y
some_same x y e = cc

batch_of : (reply : Reply) (own : Own) (act : Act) (delays : List Delay) (j : Judged) → own.taken ≡ 0 → AllByRecursion (IsChangeOf reply.address) (changes_judged j) → batch_act reply j own ≡ Some act → OfAddress reply.address act delays
unfolding changes_judged
batch_of reply own act delays (Accept effects) none all e =
    subst (λ (a : Act). OfAddress reply.address a delays) (some_same (served reply effects own) act e)
    (record {
      taken = none;
      mine = own_changes reply.address effects.delays all delays;
      others = λ other apart. other_changes reply.address other apart effects.delays all delays;
    })
batch_of reply own act delays (Declare specs) none all e = absurd cc
batch_of reply own act delays (Flaw flaw) none all e = absurd cc

quiet : (address : Address) (act : Act) (delays : List Delay) → act.taken ≡ 0 → act.on_delays ≡ [] → OfAddress address act delays
quiet address act delays none is = record {
  taken = none;
  mine = (λ i. filter (is_from address) (delays_after (is i) delays)) ∙ (λ i. delays_after (sym is i) (filter (is_from address) delays));
  others = λ other apart. (λ i. filter (is_from other) (delays_after (is i) delays));
}

register_of : (reply : Reply) (own : Own) (act : Act) (delays : List Delay) (j : Judged) → own.taken ≡ 0 → register_act reply j own ≡ Some act → OfAddress reply.address act delays
register_of reply own act delays (Accept effects) none e = absurd cc
register_of reply own act delays (Declare specs) none e =
    let is = some_same (declared reply specs own) act e in quiet reply.address act delays (ap (λ (a : Act). a.taken) (sym is) ∙ none) (ap (λ (a : Act). a.on_delays) (sym is))
register_of reply own act delays (Flaw flaw) none e = absurd cc

due_of : (address : Address) (moment : ℕ) (act : Act) (delays : List Delay) → act.taken ≡ 0 → act.on_delays ≡ Asks moment ∷ [] → option_map sender_of_due (due_at moment delays) ≡ Some address → OfAddress address act delays
due_of address moment act delays none is turn =
    let got = some_from_map sender_of_due (due_at moment delays) address turn in
    let due = got.0 in
    let asked : (ds : List Delay) → delays_after act.on_delays ds ≡ left_by ds (due_at moment ds) = λ ds. (λ i. delays_after (is i) ds) in
    record {
      taken = none;
      mine = ap (filter (is_from address)) (asked delays ∙ ap (left_by delays) got.1)
          ∙ sym (asked (filter (is_from address) delays) ∙ ap (left_by (filter (is_from address) delays)) (due_of_own address moment delays due got.1 (sym got.2)));
      others = λ other apart. ap (filter (is_from other)) (asked delays ∙ ap (left_by delays) got.1)
          ∙ due_of_other other moment delays due got.1 (ap (λ a. same_address a other) (sym got.2) ∙ apart);
    }

own_is : (m : Module) (found : Option IngressRecord) (counts : ℕ → ℕ) (given : List EgressRecord) (work : Work) (step : Step) (act : Act) → made m found (state_of counts given work) step ≡ Some act → IsInTurn work step → (actor : Sender) → cond (same_sender (actor_of step) actor) (left act (own_in counts work actor)) (own_in counts work actor) ≡ own_in (counted step act counts) (done step act work) actor
unfolding state_of done
own_is m found counts given work (Take split) act h turn =
    let is = made-some m found (state_of counts given work) (Take split) act h in
    let got = some_from_map (took m split (own_in counts work (Split split))) found act (some_from_if (nat_lt split (splits_in m.ingresses)) (option_map (took m split (own_in counts work (Split split))) found) act is.does).1 in
    split_own counts work (put_all act.letters work.post) split act (record { on_cells = ap (λ (a : Act). a.on_cells) got.2; seen = ap (λ (a : Act). a.seen) got.2; on_delays = ap (λ (a : Act). a.on_delays) got.2 })
own_is m found counts given work (Batch reply) act h turn =
    let is = made-some m found (state_of counts given work) (Batch reply) act h in
    let own = own_in counts work (Function reply.address) in
    function_own counts work (put_all act.letters (settled (Batch reply) work.post)) reply.address act
    (batch_of reply own act work.delays (judged m own reply) refl (judged_changes m own.cells reply.address reply.moment reply.answer) is.does)
own_is m found counts given work (Register reply) act h turn =
    let is = made-some m found (state_of counts given work) (Register reply) act h in
    let own = own_in counts work (Function reply.address) in
    function_own counts work (put_all act.letters (settled (Register reply) work.post)) reply.address act
    (register_of reply own act work.delays (judged m own reply) refl is.does)
own_is m found counts given work (Due address moment) act h turn =
    let is = made-some m found (state_of counts given work) (Due address moment) act h in
    let own = own_in counts work (Function address) in
    let got = some_from_map (sent_later address moment own) (due_at moment own.delays) act is.does in
    function_own counts work (put_all act.letters work.post) address act
    (due_of address moment act work.delays (ap (λ (a : Act). a.taken) got.2) (ap (λ (a : Act). a.on_delays) got.2) turn)

pub is_the_machine : IsTheMachine
unfolding done
is_the_machine m found counts given work step act h owned turn =
    (state_is counts given work step act (own_is m found counts given work step act h turn) owned turn, put_all_owned act.letters (settled step work.post) (settled_owned work step owned))

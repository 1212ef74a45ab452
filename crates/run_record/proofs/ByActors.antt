-- A replay is a run of actors.
use Rattle.std.proofs.Common.{◌≡◌, ◌∙◌, sym, ap, ap₂, subst, refl, ℕ, ◌+◌, ◌<◌, ◌≤◌, zero, suc, nat_le, List, [], ◌∷◌, ◌++◌, length, take, drop, slice_get, Bool, true, false, cond, count_by, Option, Some, None, is_some, option_and_then, option_map, arith, append_assoc}
use Rattle.std.specs.Prelude.{◌&&◌, IsSome}
use Rattle.std.specs.Option.{option_map_or}
use Rattle.std.specs.List.{AllByRecursion}
use Rattle.std.proofs.lemmas.Bool.{and_parts}
use Rattle.std.proofs.lemmas.Bool.Decides.{nat_tests}
use Rattle.std.proofs.lemmas.Option.{same_Some}
use Rattle.std.proofs.lemmas.List.Sums.{sum_by-append, sum_by-cons}
use mathlib.Core.Path.{fun_ext}
use Rattle.typed_values.specs.declared.address.Address.{Address}
use Rattle.typed_values.specs.declared.value.TypedValue.{TypedValue}
use Rattle.typed_values.specs.declared.letter.Sender.{Sender}
use Rattle.typed_values.specs.declared.letter.Sender.TheVariants.{Function}
use Rattle.typed_values.specs.declared.letter.Letter.{Letter}
use Rattle.typed_values.specs.declared.cells.Cell.{Cell}
use Rattle.typed_values.specs.Sameness.{same_sender}
use Rattle.typed_values.proofs.Sameness.{same_sender-Decides}
use Rattle.sf_outside.specs.Splits.{Lists}
use Rattle.request_reply.specs.declared.request.ToFunction.{ToFunction}
use Rattle.address_routing.specs.declared.module.Module.{Module}
use Rattle.address_routing.specs.declared.module.Endpoint.{Endpoint}
use Rattle.address_routing.specs.Routing.{endpoint_of}
use Rattle.invocation.specs.Requests.{request_of}
use Rattle.actor_rules.specs.Rules.{Rules, World, AreSound, IsAllowed, seen, after, IsRun}
use Rattle.actor_rules.specs.Keys.{IsKeyOrder}
use Rattle.run_record.specs.declared.entry.Entry.{Entry}
use Rattle.run_record.specs.declared.entry.Step.{Step}
use Rattle.run_record.specs.declared.entry.Step.TheVariants.{Take, Batch, Register, Due}
use Rattle.run_record.specs.declared.entry.Reply.{Reply}
use Rattle.run_record.specs.Machine.{Own, Mail, State, Act, arguments_of, actor_of, leaving, letter_of, picked_behind, picked, is_within, request_of_picks, is_asked, may_act, left, acted, unpicked}
use Rattle.run_record.specs.Record.{next_record, step_after, replayed, key_before}
use Rattle.run_record.specs.Actors.{act_by, looked_at, actors, world_in, ReplaysTo}
use Rattle.run_record.proofs.Steps.{some_from_and_then, made-some, made-is, step_with-some}
use Rattle.run_record.proofs.Picks.{same_function, same_itself}
use Rattle.run_record.proofs.Kept.{picks_are_there}
use Rattle.run_record.proofs.Senders.{act_senders, of_sender}

-- ---- keys

one_way : (e f : Entry) → key_before e f ≡ true → key_before f e ≡ false
one_way e f h = grind (arith, nat_tests)

passes_on : (e f g : Entry) → key_before e f ≡ true → key_before g f ≡ false → key_before e g ≡ true
passes_on e f g h k = grind (arith, nat_tests)

pub keys_order : IsKeyOrder key_before
keys_order = record { one_way = one_way; passes_on = passes_on }

-- ---- picks stand for the same letters of those that a step looks at

abbrev count : Sender → List Sender → ℕ
count sender picks = count_by (same_sender sender) picks

slice_get_front : {A : Type 0} (n k : ℕ) (xs : List A) → k < n → slice_get (take n xs) k ≡ slice_get xs k
slice_get_front zero k xs h = absurd (omega arith)
slice_get_front (suc n) k [] h = refl
slice_get_front (suc n) zero (x ∷ xs) h = refl
slice_get_front (suc n) (suc k) (x ∷ xs) h = slice_get_front n k xs (omega arith)

counted : (sender : Sender) (before : List Sender) (pick : Sender) (picks : List Sender) → count sender ((before ++ pick ∷ []) ++ picks) ≡ count sender (before ++ pick ∷ picks)
counted sender before pick picks = ap (count sender) (append_assoc before (pick ∷ []) picks)

inside : (pick : Sender) (before picks : List Sender) → count pick before < count pick (before ++ pick ∷ picks)
inside pick before picks =
    let e : count pick (before ++ pick ∷ picks) ≡ count pick before + count pick (pick ∷ picks) = sum_by-append (λ x. cond (same_sender pick x) 1 0) before (pick ∷ picks) in
    let f : count pick (pick ∷ picks) ≡ cond (same_sender pick pick) 1 0 + count pick picks = sum_by-cons (λ x. cond (same_sender pick x) 1 0) pick picks in
    let one : ◌≡◌ {A = ℕ} (cond (same_sender pick pick) 1 0) 1 = ap (λ b. cond b 1 0) (same_itself pick) in
    omega (arith, e, f, one)

picked_same : (target : Address) (f g : Sender → List TypedValue) (before picks : List Sender) → ((x : Sender) (k : ℕ) → k < count x (before ++ picks) → slice_get (f x) k ≡ slice_get (g x) k) → picked_behind target before f picks ≡ picked_behind target before g picks
picked_same target f g before [] same = refl
picked_same target f g before (pick ∷ picks) same =
    let rest = picked_same target f g (before ++ pick ∷ []) picks (λ x k h. same x k (subst (λ n. k < n) (counted x before pick picks) h)) in
    ap₂ (λ o p. option_and_then (λ argument. option_and_then (λ others. Some (letter_of pick target argument ∷ others)) p) o) (same pick (count pick before) (inside pick before picks)) rest

picked_front_same : (target : Address) (mail : Sender → List TypedValue) (picks : List Sender) → picked target (λ sender. take (count sender picks) (mail sender)) picks ≡ picked target mail picks
unfolding picked
picked_front_same target mail picks = picked_same target (λ sender. take (count sender picks) (mail sender)) mail [] picks (λ x k h. slice_get_front (count x picks) k (mail x) h)

abbrev given : Address → List Cell → ℕ → Endpoint → List Letter → Option ToFunction
given address cells moment endpoint letters = cond (is_within endpoint letters (request_of address cells moment letters)) (Some (request_of address cells moment letters)) None

request_by : (m : Module) (cells : List Cell) (mail other : Sender → List TypedValue) (address : Address) (moment : ℕ) (picks : List Sender) → picked address mail picks ≡ picked address other picks → request_of_picks m cells mail address moment picks ≡ request_of_picks m cells other address moment picks
unfolding request_of_picks
request_by m cells mail other address moment picks e = ap (λ o. option_and_then (λ endpoint. option_and_then (λ letters. given address cells moment endpoint letters) o) (endpoint_of m address.kind)) e

-- what is asked for has its letters
asked_picked : (m : Module) (own : Own) (mail : Mail) (reply : Reply) → is_asked m own mail reply ≡ true → IsSome (picked reply.address (λ sender. mail sender reply.address) reply.picks)
unfolding request_of_picks
asked_picked m own mail reply h = go (endpoint_of m reply.address.kind) (picked reply.address (λ sender. mail sender reply.address) reply.picks) (and_parts (nat_le own.seen reply.moment) _ h).1
  where
    go : (e : Option Endpoint) (o : Option (List Letter)) → is_some (option_and_then (λ endpoint. option_and_then (λ letters. given reply.address own.cells reply.moment endpoint letters) o) e) ≡ true → IsSome o
    go None o f = absurd cc
    go (Some endpoint) None f = absurd cc
    go (Some endpoint) (Some letters) f = refl

module _ (m : Module) (lists : Lists) where
  abbrev r : Rules Sender Address Own TypedValue Entry
  r = actors m lists

  abbrev W : Type 0
  W = World Sender Address Own TypedValue

  pub sound : AreSound r
  sound = record {
    decides = λ x y. ((λ h. sym ((same_sender-Decides y x).0 h)), (λ e. (same_sender-Decides y x).1 (sym e)));
    takes_seen = λ e x. fewer e.step x;
  }
    where
      fewer : (step : Step) (x : Sender) → count x (leaving step) ≤ count x (looked_at step)
      fewer (Take split) x = omega arith
      fewer (Batch reply) x = omega arith
      fewer (Register reply) x = omega arith
      fewer (Due address moment) x = omega arith

  -- ---- one step

  -- what a step with an answer looks at, in its own mail
  seen_here : (address : Address) (picks : List Sender) (mail : Mail) (sender : Sender) → cond (same_sender (Function address) (Function address)) (take (count sender picks) (drop 0 (mail sender address))) [] ≡ take (count sender picks) (mail sender address)
  seen_here address picks mail sender = ap (λ b. cond b (take (count sender picks) (mail sender address)) []) (same_itself (Function address))

  asked_same : (own : Own) (mail : Mail) (reply : Reply) → is_asked m own (λ sender target. cond (same_sender (Function reply.address) (Function target)) (take (count sender reply.picks) (drop 0 (mail sender target))) []) reply ≡ is_asked m own mail reply
  asked_same own mail reply =
      ap (λ o. nat_le own.seen reply.moment && is_some o)
      (request_by m own.cells _ (λ sender. mail sender reply.address) reply.address reply.moment reply.picks
      (ap (λ f. picked reply.address f reply.picks) (fun_ext (seen_here reply.address reply.picks mail)) ∙ picked_front_same reply.address (λ sender. mail sender reply.address) reply.picks))

  may_same : (own : Own) (mail : Mail) (step : Step) → may_act m own (λ sender target. cond (same_sender (actor_of step) (Function target)) (take (count sender (looked_at step)) (drop 0 (mail sender target))) []) step ≡ may_act m own mail step
  may_same own mail (Take split) = refl
  may_same own mail (Batch reply) = asked_same own mail reply
  may_same own mail (Register reply) = asked_same own mail reply
  may_same own mail (Due address moment) = refl

  letters_there : (own : Own) (mail : Mail) (step : Step) → may_act m own mail step ≡ true → (sender : Sender) (target : Address) → same_sender (actor_of step) (Function target) ≡ true → count sender (looked_at step) ≤ length (mail sender target)
  letters_there own mail (Take split) may sender target t = omega arith
  letters_there own mail (Batch reply) may sender target t =
      let here = same_function reply.address target t in
      subst (λ a. count sender reply.picks ≤ length (mail sender a)) here (picks_are_there reply.address (λ s. mail s reply.address) reply.picks (asked_picked m own mail reply may) sender)
  letters_there own mail (Register reply) may sender target t =
      let here = same_function reply.address target t in
      subst (λ a. count sender reply.picks ≤ length (mail sender a)) here (picks_are_there reply.address (λ s. mail s reply.address) reply.picks (asked_picked m own mail reply may) sender)
  letters_there own mail (Due address moment) may sender target t = omega arith

  same_world : (s t : W) → ((x : Sender) → s.own x ≡ t.own x) → ((x : Sender) (a : Address) → s.mail x a ≡ t.mail x a) → s ≡ t
  same_world s t own mail i = record { own = λ x. own x i; mail = λ x a. mail x a i }

  abbrev act_in : State → Step → Option Act
  act_in st step = act_by m lists step (st.own (actor_of step))

  -- the world behind a step
  world_acted : (st : State) (e : Entry) (act : Act) → act_in st e.step ≡ Some act → world_in (acted e.step act st) ≡ after r (world_in st) e
  world_acted st e act does = same_world _ _ (λ x. own x (same_sender (actor_of e.step) x) refl) (λ x a. ap (λ vs. unpicked (actor_of e.step) (leaving e.step) st.mail x a ++ vs) (of_sender (actor_of e.step) x a act.letters senders ∙ mail x a (same_sender (actor_of e.step) x) refl))
    where
      senders : AllByRecursion (λ (letter : Letter). letter.sender ≡ actor_of e.step) act.letters
      senders = act_senders m (next_record lists (actor_of e.step) (st.own (actor_of e.step))) (st.own (actor_of e.step)) e.step act does

      at_actor : (x : Sender) → same_sender (actor_of e.step) x ≡ true → act_by m lists e.step (st.own x) ≡ Some act
      at_actor x t = ap (λ y. act_by m lists e.step (st.own y)) (sym ((same_sender-Decides (actor_of e.step) x).0 t)) ∙ does

      own : (x : Sender) (b : Bool) → same_sender (actor_of e.step) x ≡ b → cond b (left act (st.own x)) (st.own x) ≡ cond b (option_map_or (λ act. left act (st.own x)) (act_by m lists e.step (st.own x)) (st.own x)) (st.own x)
      own x true t = sym (ap (λ o. option_map_or (λ act. left act (st.own x)) o (st.own x)) (at_actor x t))
      own x false t = refl

      mail : (x : Sender) (a : Address) (b : Bool) → same_sender (actor_of e.step) x ≡ b → cond b (arguments_of (actor_of e.step) a act.letters) [] ≡ cond b (option_map_or (λ (act : Act). arguments_of (actor_of e.step) a act.letters) (act_by m lists e.step (st.own x)) []) []
      mail x a true t = sym (ap (λ o. option_map_or (λ (act : Act). arguments_of (actor_of e.step) a act.letters) o []) (at_actor x t))
      mail x a false t = refl

  some_act : (o : Option Act) → is_some o ≡ true → (act : Act) × (o ≡ Some act)
  some_act None h = absurd cc
  some_act (Some act) h = (act, refl)

  -- a step that its actor may make is the machine's
  pub record IsStep (st : State) (e : Entry) : Type 0 where
    pub next : State
    pub steps : step_after m lists st e.step ≡ Some next
    pub leaves : world_in next ≡ after r (world_in st) e

  allowed_step : (st : State) (e : Entry) → IsAllowed r (world_in st) e → IsStep st e
  allowed_step st e allowed =
      let own = st.own (actor_of e.step) in
      let found = next_record lists (actor_of e.step) own in
      let tests = and_parts (may_act m own (seen r (actor_of e.step) (λ x. 0) e st.mail) e.step) (is_some (act_by m lists e.step own)) allowed.passes in
      let act = some_act (act_by m lists e.step own) tests.1 in
      record {
        next = acted e.step act.0 st;
        steps = ap (option_map (λ a. acted e.step a st)) (made-is m found st e.step act.0 (record { may = sym (may_same own st.mail e.step) ∙ tests.0; does = act.1 }));
        leaves = world_acted st e act.0 act.1;
      }

  both : (a b : Bool) → a ≡ true → b ≡ true → (a && b) ≡ true
  both true b e f = f
  both false b e f = absurd cc

  pub step_allowed : (st next : State) (e : Entry) → step_after m lists st e.step ≡ Some next → IsAllowed r (world_in st) e × (world_in next ≡ after r (world_in st) e)
  step_allowed st next e steps =
      let own = st.own (actor_of e.step) in
      let found = next_record lists (actor_of e.step) own in
      let got = step_with-some m found st next e.step steps in
      let is = made-some m found st e.step got.0 got.1 in (
        record {
          there = letters_there own st.mail e.step is.may;
          passes = both (may_act m own (seen r (actor_of e.step) (λ x. 0) e st.mail) e.step) (is_some (act_by m lists e.step own)) (may_same own st.mail e.step ∙ is.may) (ap is_some is.does);
        },
        ap world_in got.2 ∙ world_acted st e got.0 is.does,
      )

  -- ---- a record

  pub run_replays : (st : State) (entries : List Entry) (w : W) → IsRun r (world_in st) entries w → ReplaysTo m lists st entries w
  run_replays st [] w run = (st, refl, sym run)
  run_replays st (e ∷ entries) w run =
      let is = allowed_step st e run.0 in
      let rest = run_replays is.next entries w (subst (λ z. IsRun r z entries w) (sym is.leaves) run.1) in
      (rest.0, ap (option_and_then (λ next. replayed m lists next entries)) is.steps ∙ rest.1, rest.2)

  pub replay_runs : (st last : State) (entries : List Entry) → replayed m lists st entries ≡ Some last → IsRun r (world_in st) entries (world_in last)
  replay_runs st last [] h = ap world_in (sym (same_Some st last h))
  replay_runs st last (e ∷ entries) h =
      let got = some_from_and_then (λ next. replayed m lists next entries) (step_after m lists st e.step) last h in
      let is = step_allowed st got.0 e got.1 in
      (is.0, subst (λ z. IsRun r z entries (world_in last)) is.1 (replay_runs got.0 last entries got.2))

-- What a record does to what an actor has of its own.
use Rattle.std.proofs.Common.{◌≡◌, ◌∙◌, sym, ap, subst, refl, ℕ, ◌+◌, ◌-◌, ◌<◌, ◌≤◌, ◌⊎◌, inl, inr, zero, suc, nat_eq, nat_lt, nat_le, List, [], ◌∷◌, ◌++◌, Bool, true, false, cond, map, count_by, Option, Some, None, option_map, arith, ne_eqb, eqb-true, leb-true}
use Rattle.std.specs.Prelude.{◌&&◌, not}
use Rattle.std.specs.Option.{option_map_or}
use Rattle.std.proofs.lemmas.Bool.{and_parts}
use Rattle.std.proofs.lemmas.Bool.Decides.{same_from_decides}
use Rattle.std.proofs.lemmas.Option.{same_Some}
use Rattle.std.proofs.lemmas.List.Sums.{sum_by-cons, sum_by-append}
use Rattle.typed_values.specs.declared.address.Address.{Address}
use Rattle.typed_values.specs.declared.letter.Sender.{Sender}
use Rattle.typed_values.specs.declared.letter.Sender.TheVariants.{Split, Function}
use Rattle.typed_values.specs.declared.cells.Cell.{Cell}
use Rattle.typed_values.specs.declared.record.Delay.{Delay}
use Rattle.typed_values.specs.Sameness.{same_sender, same_address}
use Rattle.typed_values.proofs.Sameness.{same_sender-Decides, same_address-Decides}
use Rattle.typed_values.specs.Delays.{is_meant, cancelled, due_at}
use Rattle.sf_outside.specs.declared.ingress.IngressRecord.{IngressRecord}
use Rattle.sf_outside.specs.Splits.{Lists}
use Rattle.state_cells.specs.Lifetimes.{Call as CellCall, after as cell_after, after_all as cells_after}
use Rattle.delayed_messages.specs.Laws.{Call as DelayCall, Puts, Cancels, Asks, after as delay_after, after_all as delays_after, put_by, sent_by, came, left_by, delay_in, LeastIsDue}
use Rattle.address_routing.specs.declared.module.Module.{Module}
use Rattle.address_routing.specs.Routing.{splits_in}
use Rattle.invocation.specs.declared.judging.Judged.{Judged}
use Rattle.invocation.specs.declared.judging.Judged.TheVariants.{Accept, Register as Declare, Flaw}
use Rattle.run_record.specs.declared.entry.Entry.{Entry}
use Rattle.run_record.specs.declared.entry.Step.{Step}
use Rattle.run_record.specs.declared.entry.Step.TheVariants.{Take, Batch, Register, Due}
use Rattle.run_record.specs.declared.entry.Reply.{Reply}
use Rattle.run_record.specs.Machine.{Own, State, Act, actor_of, reply_of, act_of, took, sent_later, judged, batch_act, register_act, may_act, left, acted}
use Rattle.run_record.specs.Record.{next_record, step_after, replayed}
use Rattle.run_record.specs.Deliveries.{made_over, over_acts, of_actor, counting, passed, numbers_taken}
use Rattle.run_record.specs.Histories.{RisesTo, moments_in, moments_of}
use Rattle.run_record.proofs.Picks.{same_function}
use Rattle.run_record.proofs.Steps.{made-some, step_with-some, some_from_and_then, some_from_map}

-- ---- the first step of a record

pub record First (m : Module) (lists : Lists) (st last : State) (entry : Entry) (entries : List Entry) : Type 0 where
  pub act : Act
  pub does : made_over m lists st entry.step ≡ Some act
  pub more : replayed m lists (acted entry.step act st) entries ≡ Some last

pub first_of : (m : Module) (lists : Lists) (st last : State) (entry : Entry) (entries : List Entry) → replayed m lists st (entry ∷ entries) ≡ Some last → First m lists st last entry entries
first_of m lists st last entry entries h =
    let got = some_from_and_then (λ next. replayed m lists next entries) (step_after m lists st entry.step) last h in
    let is = step_with-some m (next_record lists (actor_of entry.step) (st.own (actor_of entry.step))) st got.0 entry.step got.1 in
    record { act = is.0; does = is.1; more = ap (λ x. replayed m lists x entries) (sym is.2) ∙ got.2 }

-- ---- the cells and delays of an actor

cells_after-append : (calls others : List CellCall) (cells : List Cell) → cells_after (calls ++ others) cells ≡ cells_after others (cells_after calls cells)
cells_after-append [] others cells = refl
cells_after-append (call ∷ calls) others cells = cells_after-append calls others (cell_after call cells)

pub delays_after-append : (calls others : List DelayCall) (delays : List Delay) → delays_after (calls ++ others) delays ≡ delays_after others (delays_after calls delays)
delays_after-append [] others delays = refl
delays_after-append (call ∷ calls) others delays = delays_after-append calls others (delay_after call delays)

module _ (m : Module) (lists : Lists) (actor : Sender) where
  abbrev pub cell_calls_from : State → List Entry → List CellCall
  cell_calls_from st entries = over_acts (of_actor actor (λ before act. act.on_cells)) m lists st entries

  abbrev pub delay_calls_from : State → List Entry → List DelayCall
  delay_calls_from st entries = over_acts (of_actor actor (λ before act. act.on_delays)) m lists st entries

  pub cells_made : (st last : State) (entries : List Entry) → replayed m lists st entries ≡ Some last → (last.own actor).cells ≡ cells_after (cell_calls_from st entries) (st.own actor).cells
  cells_made st last [] h = ap (λ (x : State). (x.own actor).cells) (sym (same_Some st last h))
  cells_made st last (entry ∷ entries) h =
      let first = first_of m lists st last entry entries h in
      let next = acted entry.step first.act st in
      cells_made next last entries first.more
      ∙ by (same_sender (actor_of entry.step) actor) first.act (cell_calls_from next entries)
      ∙ sym (ap (λ o. cells_after (option_map_or (λ act. of_actor actor (λ (before : State) (act : Act). act.on_cells) st entry.step act ++ cell_calls_from (acted entry.step act st) entries) o []) (st.own actor).cells) first.does)
    where
      by : (b : Bool) (act : Act) (calls : List CellCall) → cells_after calls (cond b (left act (st.own actor)) (st.own actor)).cells ≡ cells_after (cond b act.on_cells [] ++ calls) (st.own actor).cells
      by true act calls = sym (cells_after-append act.on_cells calls (st.own actor).cells)
      by false act calls = refl

  pub delays_made : (st last : State) (entries : List Entry) → replayed m lists st entries ≡ Some last → (last.own actor).delays ≡ delays_after (delay_calls_from st entries) (st.own actor).delays
  delays_made st last [] h = ap (λ (x : State). (x.own actor).delays) (sym (same_Some st last h))
  delays_made st last (entry ∷ entries) h =
      let first = first_of m lists st last entry entries h in
      let next = acted entry.step first.act st in
      delays_made next last entries first.more
      ∙ by (same_sender (actor_of entry.step) actor) first.act (delay_calls_from next entries)
      ∙ sym (ap (λ o. delays_after (option_map_or (λ act. of_actor actor (λ (before : State) (act : Act). act.on_delays) st entry.step act ++ delay_calls_from (acted entry.step act st) entries) o []) (st.own actor).delays) first.does)
    where
      by : (b : Bool) (act : Act) (calls : List DelayCall) → delays_after calls (cond b (left act (st.own actor)) (st.own actor)).delays ≡ delays_after (cond b act.on_delays [] ++ calls) (st.own actor).delays
      by true act calls = sym (delays_after-append act.on_delays calls (st.own actor).delays)
      by false act calls = refl

-- ---- delays that are sent

abbrev one : (Delay → Bool) → Delay → ℕ
one looked delay = cond (looked delay) 1 0

count-cons : (looked : Delay → Bool) (delay : Delay) (delays : List Delay) → count_by looked (delay ∷ delays) ≡ cond (looked delay) 1 0 + count_by looked delays
count-cons looked delay delays = sum_by-cons (one looked) delay delays

count-join : (looked : Delay → Bool) (delays others : List Delay) → count_by looked (delays ++ others) ≡ count_by looked delays + count_by looked others
count-join looked delays others = sum_by-append (one looked) delays others

fewer : (looked : Delay → Bool) (address : Address) (token : List ℕ) (delays : List Delay) → count_by looked (cancelled address token delays) ≤ count_by looked delays
fewer looked address token [] = omega arith
fewer looked address token (delay ∷ delays) = by (is_meant address token delay) (fewer looked address token delays)
  where
    by : (gone : Bool) → count_by looked (cancelled address token delays) ≤ count_by looked delays → count_by looked (cond (not gone) (delay ∷ cancelled address token delays) (cancelled address token delays)) ≤ count_by looked (delay ∷ delays)
    by true more = omega (arith, count-cons looked delay delays, more)
    by false more = omega (arith, count-cons looked delay delays, count-cons looked delay (cancelled address token delays), more)

-- where only what a cancellation is for is looked for, none is left behind it
pub none_counted : (looked : Delay → Bool) (address : Address) (token : List ℕ) → ((delay : Delay) → is_meant address token delay ≡ false → looked delay ≡ false) → (delays : List Delay) → count_by looked (cancelled address token delays) ≡ 0
none_counted looked address token misses [] = refl
none_counted looked address token misses (delay ∷ delays) = by (is_meant address token delay) refl (none_counted looked address token misses delays)
  where
    by : (gone : Bool) → is_meant address token delay ≡ gone → count_by looked (cancelled address token delays) ≡ 0 → count_by looked (cond (not gone) (delay ∷ cancelled address token delays) (cancelled address token delays)) ≡ 0
    by true e more = more
    by false e more =
        let out : ◌≡◌ {A = ℕ} (cond (looked delay) 1 0) 0 = ap (λ b. cond b 1 0) (misses delay e) in
        omega (arith, count-cons looked delay (cancelled address token delays), out, more)

module _ (least : LeastIsDue) (looked : Delay → Bool) where
  taken_out : (moment : ℕ) (delays : List Delay) (due : Option (Delay × List Delay)) (more : List (ℕ × Delay)) → due_at moment delays ≡ due
      → count_by looked (map delay_in (came moment due more)) + count_by looked (left_by delays due) ≤ count_by looked delays + count_by looked (map delay_in more)
  taken_out moment delays None more is = omega arith
  taken_out moment delays (Some due) more is =
      let out = least moment delays due.1 due.0 is in
      let old = ap (count_by looked) out.2 ∙ count-join looked out.0 (due.0 ∷ out.1) in
      let new = ap (count_by looked) out.3 ∙ count-join looked out.0 out.1 in
      omega (arith, old, new, count-cons looked due.0 out.1, count-cons looked due.0 (map delay_in more))

  -- what is sent and what still waits is no more than what waited and what was put
  pub sent_once : (calls : List DelayCall) (delays : List Delay) → count_by looked (map delay_in (sent_by calls delays)) + count_by looked (delays_after calls delays) ≤ count_by looked delays + count_by looked (put_by calls)
  sent_once [] delays = omega arith
  sent_once (Puts delay ∷ calls) delays =
      let more = sent_once calls (delays ++ delay ∷ []) in
      omega (arith, more, count-join looked delays (delay ∷ []), count-cons looked delay [], count-cons looked delay (put_by calls))
  sent_once (Cancels address token ∷ calls) delays =
      let more = sent_once calls (cancelled address token delays) in
      omega (arith, more, fewer looked address token delays)
  sent_once (Asks moment ∷ calls) delays =
      let due = due_at moment delays in
      let more = sent_once calls (left_by delays due) in
      omega (arith, more, taken_out moment delays due (sent_by calls (left_by delays due)) refl)

-- behind a cancellation only what was put behind it is sent
pub not_cancelled : LeastIsDue → (looked : Delay → Bool) (address : Address) (token : List ℕ) → ((delay : Delay) → is_meant address token delay ≡ false → looked delay ≡ false) → (front behind : List DelayCall)
    → count_by looked (map delay_in (sent_by behind (delays_after (front ++ Cancels address token ∷ []) []))) ≤ count_by looked (put_by behind)
not_cancelled least looked address token misses front behind =
    let gone : count_by looked (delays_after (front ++ Cancels address token ∷ []) []) ≡ 0 = ap (count_by looked) (delays_after-append front (Cancels address token ∷ []) []) ∙ none_counted looked address token misses (delays_after front []) in
    omega (arith, sent_once least looked behind (delays_after (front ++ Cancels address token ∷ []) []), gone)

-- ---- moments

seen_in : (b : Bool) (reply : Reply) (own : Own) → nat_le own.seen reply.moment && b ≡ true → own.seen ≤ reply.moment
seen_in b reply own e = leb-true own.seen reply.moment (and_parts (nat_le own.seen reply.moment) b e).0

-- the moment that a step leaves: its answer's, or the one that was there
act_seen : (m : Module) (found : Option IngressRecord) (own : Own) (step : Step) (act : Act) → act_of m found own step ≡ Some act → act.seen ≡ option_map_or (λ (reply : Reply). reply.moment) (reply_of step) own.seen
act_seen m found own (Take split) act h = by (nat_lt split (splits_in m.ingresses)) h
  where
    by : (b : Bool) → cond b (option_map (took m split own) found) None ≡ Some act → act.seen ≡ own.seen
    by true e = ap (λ (a : Act). a.seen) (some_from_map (took m split own) found act e).2
    by false e = absurd cc
act_seen m found own (Batch reply) act h = by (judged m own reply) h
  where
    by : (j : Judged) → batch_act reply j own ≡ Some act → act.seen ≡ reply.moment
    by (Accept effects) e = sym (ap (λ (o : Option Act). option_map_or (λ (a : Act). a.seen) o 0) e)
    by (Declare specs) e = absurd cc
    by (Flaw flaw) e = absurd cc
act_seen m found own (Register reply) act h = by (judged m own reply) h
  where
    by : (j : Judged) → register_act reply j own ≡ Some act → act.seen ≡ reply.moment
    by (Accept effects) e = absurd cc
    by (Declare specs) e = sym (ap (λ (o : Option Act). option_map_or (λ (a : Act). a.seen) o 0) e)
    by (Flaw flaw) e = absurd cc
act_seen m found own (Due address moment) act h = ap (λ (a : Act). a.seen) (some_from_map (sent_later address moment own) (due_at moment own.delays) act h).2

-- a step without an answer leaves all moments
silent : (st : State) (step : Step) (act : Act) (address : Address) → act.seen ≡ (st.own (actor_of step)).seen → ((acted step act st).own (Function address)).seen ≡ (st.own (Function address)).seen
silent st step act address e = by (same_sender (actor_of step) (Function address)) refl
  where
    by : (b : Bool) → same_sender (actor_of step) (Function address) ≡ b → (cond b (left act (st.own (Function address))) (st.own (Function address))).seen ≡ (st.own (Function address)).seen
    by true t = e ∙ ap (λ x. (st.own x).seen) ((same_sender-Decides (actor_of step) (Function address)).0 t)
    by false t = refl

pub same_functions : (a b : Address) → same_sender (Function a) (Function b) ≡ same_address a b
same_functions a b = same_from_decides (same_sender (Function a) (Function b)) (same_address a b) ((λ e. same_function a b e), (λ e. (same_sender-Decides (Function a) (Function b)).1 (ap Function e))) (same_address-Decides a b)

-- an answer's moment is its address' next
replied : (st : State) (reply : Reply) (act : Act) (address : Address) (last : ℕ) (moments : List ℕ) → act.seen ≡ reply.moment → (st.own (Function reply.address)).seen ≤ reply.moment
    → RisesTo last (cond (same_sender (Function reply.address) (Function address)) (left act (st.own (Function address))) (st.own (Function address))).seen moments
    → RisesTo last (st.own (Function address)).seen (moments_in address (Some reply) ++ moments)
replied st reply act address last moments e later rest =
    by (same_address reply.address address) refl (subst (λ b. RisesTo last (cond b (left act (st.own (Function address))) (st.own (Function address))).seen moments) (same_functions reply.address address) rest)
  where
    by : (b : Bool) → same_address reply.address address ≡ b → RisesTo last (cond b (left act (st.own (Function address))) (st.own (Function address))).seen moments → RisesTo last (st.own (Function address)).seen (cond b (reply.moment ∷ []) [] ++ moments)
    by true t more =
        let here : (st.own (Function reply.address)).seen ≡ (st.own (Function address)).seen = ap (λ a. (st.own (Function a)).seen) ((same_address-Decides reply.address address).0 t) in
        (omega (arith, here, later), subst (λ n. RisesTo last n moments) e more)
    by false t more = more

pub moments_rise : (m : Module) (lists : Lists) (st last : State) (entries : List Entry) → replayed m lists st entries ≡ Some last → (address : Address) → RisesTo (last.own (Function address)).seen (st.own (Function address)).seen (moments_of address entries)
moments_rise m lists st last [] h address = ap (λ (x : State). (x.own (Function address)).seen) (sym (same_Some st last h))
moments_rise m lists st last (entry ∷ entries) h address =
    let first = first_of m lists st last entry entries h in
    let found = next_record lists (actor_of entry.step) (st.own (actor_of entry.step)) in
    let is = made-some m found st entry.step first.act first.does in
    let seen = act_seen m found (st.own (actor_of entry.step)) entry.step first.act is.does in
    by entry.step first.act seen is.may (moments_rise m lists (acted entry.step first.act st) last entries first.more address)
  where
    by : (step : Step) (act : Act) → act.seen ≡ option_map_or (λ (reply : Reply). reply.moment) (reply_of step) (st.own (actor_of step)).seen → may_act m (st.own (actor_of step)) st.mail step ≡ true
        → RisesTo (last.own (Function address)).seen ((acted step act st).own (Function address)).seen (moments_of address entries)
        → RisesTo (last.own (Function address)).seen (st.own (Function address)).seen (moments_in address (reply_of step) ++ moments_of address entries)
    by (Take split) act seen may rest = subst (λ n. RisesTo (last.own (Function address)).seen n (moments_of address entries)) (silent st (Take split) act address seen) rest
    by (Batch reply) act seen may rest = replied st reply act address (last.own (Function address)).seen (moments_of address entries) seen (seen_in _ reply (st.own (Function reply.address)) may) rest
    by (Register reply) act seen may rest = replied st reply act address (last.own (Function address)).seen (moments_of address entries) seen (seen_in _ reply (st.own (Function reply.address)) may) rest
    by (Due other moment) act seen may rest = subst (λ n. RisesTo (last.own (Function address)).seen n (moments_of address entries)) (silent st (Due other moment) act address seen) rest

-- ---- records of a split

counting-from : (from : ℕ) (n : ℕ) (k : ℕ) → k < from → count_by (nat_eq k) (counting from n) ≡ 0
counting-from from zero k lt = refl
counting-from from (suc n) k lt =
    sum_by-cons (λ x. cond (nat_eq k x) 1 0) from (counting (from + 1) n)
    ∙ rw (ne_eqb k from (λ e. absurd (omega arith)), counting-from (from + 1) n k (omega arith)) refl

-- each number stands there once at most
pub counting-once : (from : ℕ) (n : ℕ) (k : ℕ) → count_by (nat_eq k) (counting from n) ≤ 1
counting-once from zero k = omega arith
counting-once from (suc n) k = rw (sum_by-cons (λ x. cond (nat_eq k x) 1 0) from (counting (from + 1) n)) (by_test (nat_eq k from) refl (counting-once (from + 1) n k))
  where
    by_test : (b : Bool) → nat_eq k from ≡ b → count_by (nat_eq k) (counting (from + 1) n) ≤ 1 → cond b 1 0 + count_by (nat_eq k) (counting (from + 1) n) ≤ 1
    by_test false e h = omega arith
    by_test true e h = let at = eqb-true k from e in let none = counting-from (from + 1) n k (omega arith) in omega arith

-- a step counts one record more, or none
act_taken : (m : Module) (found : Option IngressRecord) (st : State) (step : Step) (act : Act) → act_of m found (st.own (actor_of step)) step ≡ Some act → (act.taken ≡ (st.own (actor_of step)).taken + 1) ⊎ (act.taken ≡ (st.own (actor_of step)).taken)
act_taken m found st (Take split) act h = by (nat_lt split (splits_in m.ingresses)) h
  where
    by : (b : Bool) → cond b (option_map (took m split (st.own (Split split))) found) None ≡ Some act → (act.taken ≡ (st.own (Split split)).taken + 1) ⊎ (act.taken ≡ (st.own (Split split)).taken)
    by true e = inl (ap (λ (a : Act). a.taken) (some_from_map (took m split (st.own (Split split))) found act e).2)
    by false e = absurd cc
act_taken m found st (Batch reply) act h = by (judged m (st.own (Function reply.address)) reply) h
  where
    by : (j : Judged) → batch_act reply j (st.own (Function reply.address)) ≡ Some act → (act.taken ≡ (st.own (Function reply.address)).taken + 1) ⊎ (act.taken ≡ (st.own (Function reply.address)).taken)
    by (Accept effects) e = inr (sym (ap (λ (o : Option Act). option_map_or (λ (a : Act). a.taken) o 0) e))
    by (Declare specs) e = absurd cc
    by (Flaw flaw) e = absurd cc
act_taken m found st (Register reply) act h = by (judged m (st.own (Function reply.address)) reply) h
  where
    by : (j : Judged) → register_act reply j (st.own (Function reply.address)) ≡ Some act → (act.taken ≡ (st.own (Function reply.address)).taken + 1) ⊎ (act.taken ≡ (st.own (Function reply.address)).taken)
    by (Accept effects) e = absurd cc
    by (Declare specs) e = inr (sym (ap (λ (o : Option Act). option_map_or (λ (a : Act). a.taken) o 0) e))
    by (Flaw flaw) e = absurd cc
act_taken m found st (Due address moment) act h = inr (ap (λ (a : Act). a.taken) (some_from_map (sent_later address moment (st.own (Function address))) (due_at moment (st.own (Function address)).delays) act h).2)

one_passed : (own : Own) (act : Act) → act.taken ≡ own.taken + 1 → passed own act ≡ own.taken ∷ []
one_passed own act e = let one : act.taken - own.taken ≡ suc zero = omega (arith, e) in ap (counting own.taken) one

none_passed : (own : Own) (act : Act) → act.taken ≡ own.taken → passed own act ≡ []
none_passed own act e = let none : act.taken - own.taken ≡ zero = omega (arith, e) in ap (counting own.taken) none

-- The records that a record takes of a split are those from the first that was not taken on, one after the other, up to the
-- number that its end says.
pub numbers_taken-are : (m : Module) (lists : Lists) (st last : State) (entries : List Entry) → replayed m lists st entries ≡ Some last → (split : ℕ) → (n : ℕ) × (numbers_taken m lists st entries split ≡ counting (st.own (Split split)).taken n) × ((last.own (Split split)).taken ≡ (st.own (Split split)).taken + n)
unfolding numbers_taken
numbers_taken-are m lists st last [] h split = (0, refl, ap (λ (x : State). (x.own (Split split)).taken) (sym (same_Some st last h)) ∙ omega arith)
numbers_taken-are m lists st last (entry ∷ entries) h split =
    let first = first_of m lists st last entry entries h in
    let next = acted entry.step first.act st in
    let rest = numbers_taken-are m lists next last entries first.more split in
    let is = made-some m (next_record lists (actor_of entry.step) (st.own (actor_of entry.step))) st entry.step first.act first.does in
    rw first.does (by (same_sender (actor_of entry.step) (Split split)) refl first.act (act_taken m (next_record lists (actor_of entry.step) (st.own (actor_of entry.step))) st entry.step first.act is.does) (numbers_taken m lists next entries split) rest)
  where
    by : (b : Bool) → same_sender (actor_of entry.step) (Split split) ≡ b → (act : Act) → ((act.taken ≡ (st.own (actor_of entry.step)).taken + 1) ⊎ (act.taken ≡ (st.own (actor_of entry.step)).taken)) → (others : List ℕ) → ((n : ℕ) × (others ≡ counting (cond b (left act (st.own (Split split))) (st.own (Split split))).taken n) × ((last.own (Split split)).taken ≡ (cond b (left act (st.own (Split split))) (st.own (Split split))).taken + n)) → (n : ℕ) × (cond b (passed (st.own (Split split)) act) [] ++ others ≡ counting (st.own (Split split)).taken n) × ((last.own (Split split)).taken ≡ (st.own (Split split)).taken + n)
    by false t act taken others rest = rest
    by true t act (inl e) others (n, f, g) =
        let mine = ap (λ actor. (st.own actor).taken) ((same_sender-Decides (actor_of entry.step) (Split split)).0 t) in
        let up : act.taken ≡ (st.own (Split split)).taken + 1 = omega (arith, e, mine) in
        (suc n, ap (λ xs. xs ++ others) (one_passed (st.own (Split split)) act up) ∙ ap (λ xs. (st.own (Split split)).taken ∷ xs) (f ∙ ap (λ from. counting from n) up), omega (arith, g, up))
    by true t act (inr e) others (n, f, g) =
        let mine = ap (λ actor. (st.own actor).taken) ((same_sender-Decides (actor_of entry.step) (Split split)).0 t) in
        let same : act.taken ≡ (st.own (Split split)).taken = omega (arith, e, mine) in
        (n, ap (λ xs. xs ++ others) (none_passed (st.own (Split split)) act same) ∙ f ∙ ap (λ from. counting from n) same, omega (arith, g, same))

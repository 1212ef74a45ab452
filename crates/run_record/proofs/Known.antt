-- What is known on the way of a replay: lists over which the entries so far replay to the machine's state.
use Rattle.std.proofs.Common.{◌≡◌, ◌∙◌, sym, ap, subst, refl, ℕ, ◌+◌, ◌<◌, zero, suc, List, [], ◌∷◌, ◌++◌, Bool, true, false, cond, take, length, get_or, slice_get, Option, Some, None, arith, append_assoc, append-nil, length-append, eq-eqb, ne_eqb, ⊎_elim}
use Rattle.std.specs.Prelude.{is_some, unwrap_or, nat_lt}
use Rattle.std.proofs.lemmas.Bool.{cases_eq}
use Rattle.std.proofs.lemmas.Option.{slice_get_past, slice_get_read}
use Rattle.std.proofs.lemmas.List.{take_more}
use Rattle.sf_outside.specs.declared.ingress.IngressRecord.{IngressRecord}
use Rattle.sf_outside.specs.Splits.{Lists, record_at, split_of, GrowTo, Grows}
use Rattle.address_routing.specs.declared.module.Module.{Module}
use Rattle.run_record.specs.declared.entry.Entry.{Entry}
use Rattle.run_record.specs.declared.entry.Step.{Step}
use Rattle.run_record.specs.declared.entry.Step.TheVariants.{Take, Batch, Register, Due}
use Rattle.run_record.specs.declared.replaying.Replayed.TheVariants.{NotAllowed}
use Rattle.address_routing.specs.Routing.{splits_in}
use Rattle.typed_values.specs.declared.address.Address.{Address}
use Rattle.typed_values.specs.declared.letter.Sender.TheVariants.{Split, Function}
use Rattle.typed_values.specs.Sameness.{same_sender}
use Rattle.run_record.specs.Machine.{State, first_state, actor_of, acted, left, took, made, step_with}
use Rattle.run_record.specs.Record.{step_after, replayed}
use Rattle.run_record.proofs.Steps.{take-nothing, step_with-some, replayed-grown, replayed_push_on}
use Rattle.run_record.specs.Replays.{AreListsOf, ReadsNext, Replays, StepsOver}
use Rattle.std.specs.Option.{option_map}

-- the ingress' lists, where it tells them, or else the records that were taken
abbrev pub Follow : Option Lists → Lists → State → Type 0
Follow None lists st = (split : ℕ) → length (split_of lists split) ≡ (st.own (Split split)).taken
Follow (Some told) lists st = lists ≡ told

pub record Known (told : Option Lists) (m : Module) (entries : List Entry) (st : State) : Type 0 where
  pub lists : Lists
  pub follow : Follow told lists st
  pub replays : replayed m lists first_state entries ≡ Some st

-- ---- one record more

added : Lists → ℕ → IngressRecord → Lists
added [] zero r = (r ∷ []) ∷ []
added [] (suc n) r = [] ∷ added [] n r
added (xs ∷ lists) zero r = (xs ++ r ∷ []) ∷ lists
added (xs ∷ lists) (suc n) r = xs ∷ added lists n r

added-here : (lists : Lists) (split : ℕ) (r : IngressRecord) → split_of (added lists split r) split ≡ split_of lists split ++ r ∷ []
unfolding added
added-here [] zero r = refl
added-here [] (suc n) r = added-here [] n r
added-here (xs ∷ lists) zero r = refl
added-here (xs ∷ lists) (suc n) r = added-here lists n r

added-beside : (lists : Lists) (split : ℕ) (r : IngressRecord) (other : ℕ) → (split ≡ other → ⊥) → split_of (added lists split r) other ≡ split_of lists other
unfolding added
added-beside [] zero r zero apart = absurd (apart refl)
added-beside [] zero r (suc other) apart = refl
added-beside [] (suc n) r zero apart = refl
added-beside [] (suc n) r (suc other) apart = added-beside [] n r other (λ e. apart (ap suc e))
added-beside (xs ∷ lists) zero r zero apart = absurd (apart refl)
added-beside (xs ∷ lists) zero r (suc other) apart = refl
added-beside (xs ∷ lists) (suc n) r zero apart = refl
added-beside (xs ∷ lists) (suc n) r (suc other) apart = added-beside lists n r other (λ e. apart (ap suc e))

added-grows : (lists : Lists) (split : ℕ) (r : IngressRecord) → GrowTo lists (added lists split r)
added-grows lists split r other =
    ⊎_elim (λ (e : split ≡ other). (r ∷ [], subst (λ s. split_of (added lists split r) s ≡ split_of lists s ++ r ∷ []) e (added-here lists split r)))
    (λ (apart : split ≡ other → ⊥). ([], added-beside lists split r other apart ∙ sym (append-nil (split_of lists other))))
    (cases_eq split other)

at_end : {A : Type 0} (xs : List A) (x : A) (n : ℕ) → length xs ≡ n → slice_get (xs ++ x ∷ []) n ≡ Some x
at_end [] x n e = subst (λ k. slice_get (x ∷ []) k ≡ Some x) e refl
at_end (y ∷ xs) x n e = subst (λ k. slice_get (y ∷ (xs ++ x ∷ [])) k ≡ Some x) e (at_end xs x (length xs) refl)

-- ---- what a step gives

given : (o : Option State) (st next : State) → true ≡ is_some o → next ≡ unwrap_or o st → o ≡ Some next
given None st next a e = absurd cc
given (Some x) st next a e = ap Some (sym e)

withheld : (o : Option State) → false ≡ is_some o → o ≡ None
withheld None a = refl
withheld (Some x) a = absurd cc

-- over lists that have the record there, the step is the one that was made
over_told : (m : Module) (told : Lists) (st : State) (step : Step) (found : Option IngressRecord) → ReadsNext (Some told) st (actor_of step) found → step_after m told st step ≡ step_with m found st step
unfolding made
over_told m told st (Take split) found reads = ap (λ f. step_with m f st (Take split)) (sym reads)
over_told m told st (Batch reply) found reads = refl
over_told m told st (Register reply) found reads = refl
over_told m told st (Due address moment) found reads = refl

-- what a take left is what it does
took_is : (m : Module) (st next : State) (split : ℕ) (r : IngressRecord) → step_with m (Some r) st (Take split) ≡ Some next → next ≡ acted (Take split) (took m split (st.own (Split split)) r) st
unfolding made
took_is m st next split r e = by (nat_lt split (splits_in m.ingresses)) e
  where
    by : (b : Bool) → option_map (λ act. acted (Take split) act st) (cond b (Some (took m split (st.own (Split split)) r)) None) ≡ Some next → next ≡ acted (Take split) (took m split (st.own (Split split)) r) st
    by true h = let g : acted (Take split) (took m split (st.own (Split split)) r) st ≡ next = cc in sym g
    by false h = absurd cc

pub known_start : (told : Option Lists) (m : Module) (st : State) → st ≡ first_state → Known told m [] st
known_start None m st e = record { lists = []; follow = λ split. ap (λ (x : State). (x.own (Split split)).taken) (sym e); replays = ap Some (sym e) }
known_start (Some told) m st e = record { lists = told; follow = refl; replays = ap Some (sym e) }

one_more : (m : Module) (old new : Lists) (st next : State) (entries : List Entry) (entry : Entry) → GrowTo old new → replayed m old first_state entries ≡ Some st → step_after m new st entry.step ≡ Some next → replayed m new first_state (entries ++ entry ∷ []) ≡ Some next
one_more m old new st next entries entry grown so_far e =
    replayed_push_on m new first_state st entries entry (replayed-grown m old new first_state st entries grown so_far) ∙ e

-- no record of a split was taken
untaken : (m : Module) (lists : Lists) (st next : State) (entries : List Entry) (entry : Entry) → ((other : ℕ) → length (split_of lists other) ≡ (st.own (Split other)).taken) → ((other : ℕ) → (next.own (Split other)).taken ≡ (st.own (Split other)).taken)
    → replayed m lists first_state entries ≡ Some st → step_after m lists st entry.step ≡ Some next → Known None m (entries ++ entry ∷ []) next
untaken m lists st next entries entry counts same so_far step = record {
  lists = lists;
  follow = λ other. counts other ∙ sym (same other);
  replays = one_more m lists lists st next entries entry (λ split. ([], sym (append-nil (split_of lists split)))) so_far step;
}

-- a step of a function leaves the counts of splits
counts_stay : (m : Module) (found : Option IngressRecord) (st next : State) (step : Step) (address : Address) → actor_of step ≡ Function address → step_with m found st step ≡ Some next → (other : ℕ) → (next.own (Split other)).taken ≡ (st.own (Split other)).taken
unfolding same_sender
counts_stay m found st next step address by e other =
    let is = step_with-some m found st next step e in
    ap (λ (x : State). (x.own (Split other)).taken) is.2
    ∙ ap (λ actor. (cond (same_sender actor (Split other)) (left is.0 (st.own (Split other))) (st.own (Split other))).taken) by

-- the counts of the lists, where one record more of a split was taken
counts_more : (m : Module) (lists : Lists) (split : ℕ) (r : IngressRecord) (st next : State) → ((other : ℕ) → length (split_of lists other) ≡ (st.own (Split other)).taken) → next ≡ acted (Take split) (took m split (st.own (Split split)) r) st → (other : ℕ) → length (split_of (added lists split r) other) ≡ (next.own (Split other)).taken
unfolding same_sender
counts_more m lists split r st next counts e other =
    ⊎_elim
    (λ (same : split ≡ other). subst (λ s. length (split_of (added lists split r) s) ≡ (next.own (Split s)).taken) same
    (ap length (added-here lists split r) ∙ length-append (split_of lists split) (r ∷ []) ∙ ap (λ n. n + 1) (counts split)
    ∙ sym (ap (λ (x : State). (x.own (Split split)).taken) e ∙ ap (λ b. (cond b (left (took m split (st.own (Split split)) r) (st.own (Split split))) (st.own (Split split))).taken) (eq-eqb split split refl))))
    (λ (apart : split ≡ other → ⊥). ap length (added-beside lists split r other apart) ∙ counts other
    ∙ sym (ap (λ (x : State). (x.own (Split other)).taken) e ∙ ap (λ b. (cond b (left (took m split (st.own (Split split)) r) (st.own (Split other))) (st.own (Split other))).taken) (ne_eqb split other apart)))
    (cases_eq split other)

untold_take : (m : Module) (lists : Lists) (st next : State) (entries : List Entry) (entry : Entry) (split : ℕ) (found : Option IngressRecord) → entry.step ≡ Take split → ((other : ℕ) → length (split_of lists other) ≡ (st.own (Split other)).taken) → replayed m lists first_state entries ≡ Some st → step_with m found st (Take split) ≡ Some next → Known None m (entries ++ entry ∷ []) next
untold_take m lists st next entries entry split None which counts so_far e = absurd (let n = take-nothing m st split in cc)
untold_take m lists st next entries entry split (Some r) which counts so_far e =
    let there : record_at (added lists split r) split (st.own (Split split)).taken ≡ Some r = ap (λ list. slice_get list (st.own (Split split)).taken) (added-here lists split r) ∙ at_end (split_of lists split) r (st.own (Split split)).taken (counts split) in
    let now : step_after m (added lists split r) st (Take split) ≡ Some next = over_told m (added lists split r) st (Take split) (Some r) (sym there) ∙ e in
    record {
      lists = added lists split r;
      follow = counts_more m lists split r st next counts (took_is m st next split r e);
      replays = one_more m lists (added lists split r) st next entries entry (added-grows lists split r) so_far (ap (step_after m (added lists split r) st) which ∙ now);
    }

untold_more : (m : Module) (st next : State) (entries : List Entry) (entry : Entry) (step : Step) → entry.step ≡ step → Known None m entries st → StepsOver None m st step true next → Known None m (entries ++ entry ∷ []) next
untold_more m st next entries entry (Take split) which known over =
    untold_take m known.lists st next entries entry split over.found which known.follow known.replays (given (step_with m over.found st (Take split)) st next over.is_allowed over.leaves)
untold_more m st next entries entry (Batch reply) which known over =
    let e = given (step_with m over.found st (Batch reply)) st next over.is_allowed over.leaves in
    untaken m known.lists st next entries entry known.follow (counts_stay m over.found st next (Batch reply) reply.address refl e) known.replays
    (ap (step_after m known.lists st) which ∙ over_told m known.lists st (Batch reply) over.found tt ∙ e)
untold_more m st next entries entry (Register reply) which known over =
    let e = given (step_with m over.found st (Register reply)) st next over.is_allowed over.leaves in
    untaken m known.lists st next entries entry known.follow (counts_stay m over.found st next (Register reply) reply.address refl e) known.replays
    (ap (step_after m known.lists st) which ∙ over_told m known.lists st (Register reply) over.found tt ∙ e)
untold_more m st next entries entry (Due address moment) which known over =
    let e = given (step_with m over.found st (Due address moment)) st next over.is_allowed over.leaves in
    untaken m known.lists st next entries entry known.follow (counts_stay m over.found st next (Due address moment) address refl e) known.replays
    (ap (step_after m known.lists st) which ∙ over_told m known.lists st (Due address moment) over.found tt ∙ e)

-- one more entry, whose step was allowed
pub known_more : (before told : Option Lists) (m : Module) (st next : State) (entries : List Entry) (entry : Entry) → Grows before told → Known before m entries st → StepsOver told m st entry.step true next → Known told m (entries ++ entry ∷ []) next
known_more None None m st next entries entry grown known over = untold_more m st next entries entry entry.step refl known over
known_more (Some old) (Some new) m st next entries entry grown known over =
    record {
      lists = new;
      follow = refl;
      replays = one_more m old new st next entries entry grown (ap (λ l. replayed m l first_state entries) (sym known.follow) ∙ known.replays)
          (over_told m new st entry.step over.found over.reads ∙ given (step_with m over.found st entry.step) st next over.is_allowed over.leaves);
    }
known_more None (Some new) m st next entries entry grown known over = absurd grown
known_more (Some old) None m st next entries entry grown known over = absurd grown

-- ---- a step that was not allowed

pub record Stuck (told : Option Lists) (m : Module) (entries : List Entry) (st : State) (step : Step) : Type 0 where
  pub lists : Lists
  pub are : AreListsOf told lists
  pub replays : replayed m lists first_state entries ≡ Some st
  pub refused : step_after m lists st step ≡ None

not_over : (told : Lists) (m : Module) (st next : State) (step : Step) → StepsOver (Some told) m st step false next → step_after m told st step ≡ None
not_over told m st next step over = over_told m told st step over.found over.reads ∙ withheld (step_with m over.found st step) over.is_allowed

not_untold : (lists : Lists) (m : Module) (st next : State) (step : Step) → ((split : ℕ) → length (split_of lists split) ≡ (st.own (Split split)).taken) → StepsOver None m st step false next → step_after m lists st step ≡ None
not_untold lists m st next (Take split) counts over =
    over_told m lists st (Take split) None (sym (slice_get_past (split_of lists split) (st.own (Split split)).taken (omega (arith, counts split)))) ∙ take-nothing m st split
not_untold lists m st next (Batch reply) counts over = over_told m lists st (Batch reply) over.found tt ∙ withheld (step_with m over.found st (Batch reply)) over.is_allowed
not_untold lists m st next (Register reply) counts over = over_told m lists st (Register reply) over.found tt ∙ withheld (step_with m over.found st (Register reply)) over.is_allowed
not_untold lists m st next (Due address moment) counts over = over_told m lists st (Due address moment) over.found tt ∙ withheld (step_with m over.found st (Due address moment)) over.is_allowed

pub known_stuck : (before told : Option Lists) (m : Module) (st next : State) (entries : List Entry) (step : Step) → Grows before told → Known before m entries st → StepsOver told m st step false next → Stuck told m entries st step
known_stuck None None m st next entries step grown known over =
    record { lists = known.lists; are = tt; replays = known.replays; refused = not_untold known.lists m st next step known.follow over }
known_stuck (Some old) (Some new) m st next entries step grown known over =
    record { lists = new; are = refl; replays = replayed-grown m old new first_state st entries grown (ap (λ l. replayed m l first_state entries) (sym known.follow) ∙ known.replays); refused = not_over new m st next step over }
known_stuck None (Some new) m st next entries step grown known over = absurd grown
known_stuck (Some old) None m st next entries step grown known over = absurd grown

-- ---- the answers

pub stuck_at : (told : Option Lists) (m : Module) (entries : List Entry) (st : State) (place : ℕ) (entry : Entry) → place < length entries → entry ≡ get_or entries place entry → Stuck told m (take place entries) st entry.step → Replays told m entries (NotAllowed place)
stuck_at told m entries st place entry inside at stuck =
    record { lists = stuck.lists; are = stuck.are; is = record { before = st; replays = stuck.replays; entry = entry; stands = slice_get_read entries (length entries) place entry refl inside at; refused = stuck.refused } }

pub known_on : (told : Option Lists) (m : Module) (entries : List Entry) (place : ℕ) (entry : Entry) (st : State) → place < length entries → entry ≡ get_or entries place entry → Known told m (take place entries ++ entry ∷ []) st → Known told m (take (place + 1) entries) st
known_on told m entries place entry st inside at known =
    subst (λ es. Known told m es st) (sym (take_more entries place entry inside ∙ ap (λ x. take place entries ++ x ∷ []) (sym at))) known

-- ---- growth

pub Grows-itself : (told : Option Lists) → Grows told told
Grows-itself None = tt
Grows-itself (Some lists) = λ split. ([], sym (append-nil (split_of lists split)))

pub Grows-on : (a b c : Option Lists) → Grows a b → Grows b c → Grows a c
Grows-on None None None g h = tt
Grows-on None None (Some z) g h = h
Grows-on None (Some y) c g h = absurd g
Grows-on (Some x) None c g h = absurd g
Grows-on (Some x) (Some y) None g h = h
Grows-on (Some x) (Some y) (Some z) g h = λ split.
    let p = g split in let q = h split in
    (p.0 ++ q.0, q.1 ∙ ap (λ xs. xs ++ q.0) p.1 ∙ append_assoc (split_of x split) p.0 q.0)

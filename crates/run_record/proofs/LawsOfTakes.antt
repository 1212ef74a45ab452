-- The letters of a split are those of its first records.
use Rattle.std.proofs.Common.{◌≡◌, ◌∙◌, sym, ap, subst, refl, ℕ, ◌+◌, nat_lt, List, [], ◌∷◌, ◌++◌, Bool, true, false, cond, take, drop, Some, None, option_map, arith}
use Rattle.std.specs.Option.{option_map_or}
use Rattle.std.specs.List.{flat_map}
use Rattle.std.proofs.lemmas.Option.{same_Some}
use Rattle.std.proofs.lemmas.List.Concat.{flat_map-cons}
use Rattle.typed_values.specs.declared.address.Address.{Address}
use Rattle.typed_values.specs.declared.value.TypedValue.{TypedValue}
use Rattle.typed_values.specs.declared.letter.Sender.{Sender}
use Rattle.typed_values.specs.declared.letter.Sender.TheVariants.{Split, Function}
use Rattle.typed_values.specs.Sameness.{same_sender}
use Rattle.typed_values.proofs.Sameness.{same_sender-Decides}
use Rattle.sf_outside.specs.declared.ingress.IngressRecord.{IngressRecord}
use Rattle.sf_outside.specs.Splits.{Lists, split_of, record_at}
use Rattle.address_routing.specs.declared.module.Module.{Module}
use Rattle.address_routing.specs.Routing.{splits_in}
use Rattle.run_record.specs.declared.entry.Entry.{Entry}
use Rattle.run_record.specs.declared.entry.Step.{Step}
use Rattle.run_record.specs.declared.entry.Step.TheVariants.{Take, Batch, Register, Due}
use Rattle.run_record.specs.Letters.{letters_of}
use Rattle.run_record.specs.Machine.{Own, State, Act, actor_of, arguments_of, took, act_of, left, acted}
use Rattle.run_record.specs.Record.{next_record, replayed}
use Rattle.run_record.specs.Deliveries.{put_in}
use Rattle.run_record.proofs.Steps.{made-some, some_from_map}
use Rattle.run_record.proofs.LawsOfOwn.{first_of}
use Rattle.run_record.proofs.LawsOfMail.{at_place}
use Rattle.run_record.proofs.Senders.{act_senders, arguments_of-append, none_from}

split_in : ℕ → Sender → ℕ
split_in other (Split split) = split
split_in other (Function address) = other

same_split : (a b : ℕ) → same_sender (Split a) (Split b) ≡ true → a ≡ b
unfolding split_in
same_split a b e = ap (split_in a) ((same_sender-Decides (Split a) (Split b)).0 e)

not_of_split : (address : Address) (split : ℕ) → same_sender (Function address) (Split split) ≡ false
unfolding same_sender
not_of_split address split = refl

module _ (m : Module) (lists : Lists) (split : ℕ) (target : Address) where
  -- the arguments for the target of so many records from a place on
  abbrev pub arguments_from : ℕ → ℕ → List TypedValue
  arguments_from from n = arguments_of (Split split) target (flat_map (letters_of m split) (take n (drop from (split_of lists split))))

  none_yet : [] ≡ arguments_from 0 0
  unfolding arguments_of
  none_yet = refl

  none_more : (from : ℕ) → [] ≡ arguments_from from 0
  unfolding arguments_of
  none_more from = refl

  one_more : (from n : ℕ) (next : IngressRecord) → record_at lists split from ≡ Some next → arguments_of (Split split) target (letters_of m split next) ++ arguments_from (from + 1) n ≡ arguments_from from (1 + n)
  one_more from n next there =
      sym (ap (λ records. arguments_of (Split split) target (flat_map (letters_of m split) records)) (at_place (split_of lists split) from n next there)
      ∙ ap (arguments_of (Split split) target) (flat_map-cons (letters_of m split) next (take n (drop (from + 1) (split_of lists split))))
      ∙ arguments_of-append (Split split) target (letters_of m split next) (flat_map (letters_of m split) (take n (drop (from + 1) (split_of lists split)))))

  -- how far a split came, and what it put for the target on the way
  pub record IsTaken (from last : ℕ) (put : List TypedValue) : Type 0 where
    pub more : ℕ
    pub count : last ≡ from + more
    pub is : put ≡ arguments_from from more

  -- a step of another actor
  beside : (st : State) (step : Step) (act : Act) (last : ℕ) (rest : List TypedValue) → same_sender (actor_of step) (Split split) ≡ false → act_of m (next_record lists (actor_of step) (st.own (actor_of step))) (st.own (actor_of step)) step ≡ Some act
      → IsTaken ((acted step act st).own (Split split)).taken last rest → IsTaken (st.own (Split split)).taken last (arguments_of (Split split) target act.letters ++ rest)
  beside st step act last rest apart does taken =
      let same : ((acted step act st).own (Split split)).taken ≡ (st.own (Split split)).taken = ap (λ b. (cond b (left act (st.own (Split split))) (st.own (Split split))).taken) apart in
      let none = none_from (actor_of step) (Split split) target act.letters (act_senders m (next_record lists (actor_of step) (st.own (actor_of step))) (st.own (actor_of step)) step act does) apart in
      subst (λ from. IsTaken from last (arguments_of (Split split) target act.letters ++ rest)) same (subst (IsTaken ((acted step act st).own (Split split)).taken last) (sym (ap (λ xs. xs ++ rest) none)) taken)

  -- a take of the split itself
  here : (st : State) (act : Act) (last : ℕ) (rest : List TypedValue) → act_of m (record_at lists split (st.own (Split split)).taken) (st.own (Split split)) (Take split) ≡ Some act
      → IsTaken ((acted (Take split) act st).own (Split split)).taken last rest → IsTaken (st.own (Split split)).taken last (arguments_of (Split split) target act.letters ++ rest)
  here st act last rest does taken = by (nat_lt split (splits_in m.ingresses)) does
    where
      own : Own
      own = st.own (Split split)

      self : same_sender (Split split) (Split split) ≡ true
      self = (same_sender-Decides (Split split) (Split split)).1 refl

      by : (b : Bool) → cond b (option_map (took m split own) (record_at lists split own.taken)) None ≡ Some act → IsTaken own.taken last (arguments_of (Split split) target act.letters ++ rest)
      by false e = absurd cc
      by true e =
          let got = some_from_map (took m split own) (record_at lists split own.taken) act e in
          let on : IsTaken (own.taken + 1) last rest = subst (λ from. IsTaken from last rest) (ap (λ b. (cond b (left act own) own).taken) self ∙ ap (λ (a : Act). a.taken) got.2) taken in
          record {
            more = 1 + on.more;
            count = omega (arith, on.count);
            is =
                ap (λ (a : Act). arguments_of (Split split) target a.letters ++ rest) got.2
                ∙ ap (λ xs. arguments_of (Split split) target (letters_of m split got.0) ++ xs) on.is
                ∙ one_more own.taken on.more got.0 got.1;
          }

  -- what a take of a split does to the split that is looked at
  abbrev Goes : State → Act → ℕ → List TypedValue → ℕ → Type 0
  Goes st act last rest k = act_of m (record_at lists k (st.own (Split k)).taken) (st.own (Split k)) (Take k) ≡ Some act → IsTaken ((acted (Take k) act st).own (Split split)).taken last rest → IsTaken (st.own (Split split)).taken last (arguments_of (Split split) target act.letters ++ rest)

  by_step : (st : State) (step : Step) (act : Act) (last : ℕ) (rest : List TypedValue) → act_of m (next_record lists (actor_of step) (st.own (actor_of step))) (st.own (actor_of step)) step ≡ Some act
      → IsTaken ((acted step act st).own (Split split)).taken last rest → IsTaken (st.own (Split split)).taken last (arguments_of (Split split) target act.letters ++ rest)
  by_step st (Batch reply) act last rest does taken = beside st (Batch reply) act last rest (not_of_split reply.address split) does taken
  by_step st (Register reply) act last rest does taken = beside st (Register reply) act last rest (not_of_split reply.address split) does taken
  by_step st (Due address moment) act last rest does taken = beside st (Due address moment) act last rest (not_of_split address split) does taken
  by_step st (Take other) act last rest does taken = by (same_sender (Split other) (Split split)) refl
    where
      by : (b : Bool) → same_sender (Split other) (Split split) ≡ b → IsTaken (st.own (Split split)).taken last (arguments_of (Split split) target act.letters ++ rest)
      by true t = subst (Goes st act last rest) (sym (same_split other split t)) (λ e f. here st act last rest e f) does taken
      by false t = beside st (Take other) act last rest t does taken

  pub taken_is : (st last : State) (entries : List Entry) → replayed m lists st entries ≡ Some last → IsTaken (st.own (Split split)).taken (last.own (Split split)).taken (put_in m lists st entries (Split split) target)
  unfolding put_in
  taken_is st last [] h = record { more = 0; count = ap (λ (x : State). (x.own (Split split)).taken) (sym (same_Some st last h)) ∙ omega arith; is = none_more (st.own (Split split)).taken }
  taken_is st last (entry ∷ entries) h =
      let first = first_of m lists st last entry entries h in
      let found = next_record lists (actor_of entry.step) (st.own (actor_of entry.step)) in
      let is = made-some m found st entry.step first.act first.does in
      let Put : List TypedValue → Type 0 = λ put. IsTaken (st.own (Split split)).taken (last.own (Split split)).taken put in
      subst Put (ap (λ o. option_map_or (λ act. arguments_of (Split split) target act.letters ++ put_in m lists (acted entry.step act st) entries (Split split) target) o []) (sym first.does))
      (by_step st entry.step first.act (last.own (Split split)).taken (put_in m lists (acted entry.step first.act st) entries (Split split) target) is.does (taken_is (acted entry.step first.act st) last entries first.more))

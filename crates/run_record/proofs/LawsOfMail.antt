-- Letters of a pair are delivered at most once, in order.
use Rattle.std.proofs.Common.{◌≡◌, ◌∙◌, sym, ap, subst, refl, ℕ, ◌+◌, suc, List, [], ◌∷◌, ◌++◌, Bool, true, false, cond, map, filter, take, drop, count_by, slice_get, Option, Some, None, unwrap_or, option_and_then, arith, append_assoc, append-nil, zero-add, one-add}
use Rattle.std.specs.Prelude.{◌&&◌, IsSome}
use Rattle.std.specs.Bool.{Decides}
use Rattle.std.specs.Option.{option_map_or}
use Rattle.std.proofs.lemmas.Bool.{false_from_ne_true}
use Rattle.std.proofs.lemmas.Bool.Decides.{same_from_decides}
use Rattle.std.proofs.lemmas.List.{take-append-drop, drop_more}
use Rattle.std.proofs.lemmas.List.Sums.{sum_by-append, sum_by-cons}
use Rattle.std.proofs.lemmas.Option.{same_Some, slice_get_within, get_or_from_slice_get}
use Rattle.typed_values.specs.declared.address.Address.{Address}
use Rattle.typed_values.specs.declared.value.TypedValue.{TypedValue}
use Rattle.typed_values.specs.declared.letter.Sender.{Sender}
use Rattle.typed_values.specs.declared.letter.Sender.TheVariants.{Split, Function}
use Rattle.typed_values.specs.declared.letter.Letter.{Letter}
use Rattle.typed_values.specs.Sameness.{same_address, same_sender}
use Rattle.typed_values.proofs.Sameness.{same_sender-Decides, same_address-Decides}
use Rattle.sf_outside.specs.declared.ingress.IngressRecord.{IngressRecord}
use Rattle.sf_outside.specs.Splits.{Lists}
use Rattle.address_routing.specs.declared.module.Module.{Module}
use Rattle.run_record.specs.declared.entry.Entry.{Entry}
use Rattle.run_record.specs.declared.entry.Step.{Step}
use Rattle.run_record.specs.declared.entry.Step.TheVariants.{Take, Batch, Register, Due}
use Rattle.run_record.specs.Machine.{State, Mail, Act, actor_of, leaving, letter_of, is_of_pair, arguments_of, picked_behind, picked, unpicked, acted, made}
use Rattle.run_record.specs.Record.{next_record, replayed}
use Rattle.run_record.specs.Deliveries.{made_over, put_in, delivered_to, delivered}
use Rattle.run_record.proofs.Steps.{some_from_and_then}
use Rattle.run_record.proofs.Picks.{same_function}
use Rattle.run_record.proofs.Kept.{unpicked_none}
use Rattle.run_record.proofs.Judged.{picks_there}
use Rattle.run_record.proofs.LawsOfOwn.{first_of}

-- ---- what is picked

flipped : (s t : Sender) → Decides (same_sender s t) (t ≡ s)
flipped s t = (λ e. sym ((same_sender-Decides s t).0 e), λ e. (same_sender-Decides s t).1 (sym e))

flip : (s t : Sender) → same_sender s t ≡ same_sender t s
flip s t = same_from_decides (same_sender s t) (same_sender t s) (flipped s t) (same_sender-Decides t s)

pub at_place : {A : Type 0} (xs : List A) (k n : ℕ) (x : A) → slice_get xs k ≡ Some x → take (1 + n) (drop k xs) ≡ x ∷ take n (drop (k + 1) xs)
at_place xs k n x h =
    rw (one-add n) (ap (take (suc n)) (drop_more xs k x (slice_get_within xs k x h)) ∙ ap (λ y. y ∷ take n (drop (k + 1) xs)) (get_or_from_slice_get xs k x x h))

one_picked : (xs : List TypedValue) (argument : TypedValue) (b : Bool) (k n : ℕ) (rest : List TypedValue) → (b ≡ true → slice_get xs k ≡ Some argument) → rest ≡ take n (drop (k + cond b 1 0) xs) → cond b (argument ∷ rest) rest ≡ take (cond b 1 0 + n) (drop k xs)
one_picked xs argument true k n rest here e = ap (λ ys. argument ∷ ys) e ∙ sym (at_place xs k n argument (here refl))
one_picked xs argument false k n rest here e = rw (zero-add n) (e ∙ ap (λ j. take n (drop j xs)) (omega arith))

-- of one letter in front
arguments-cons : (sender : Sender) (target : Address) (letter : Letter) (letters : List Letter) → arguments_of sender target (letter ∷ letters) ≡ cond (is_of_pair sender target letter) (letter.argument ∷ arguments_of sender target letters) (arguments_of sender target letters)
unfolding arguments_of
arguments-cons sender target letter letters = by (is_of_pair sender target letter)
  where
    by : (b : Bool) → map (λ (l : Letter). l.argument) (cond b (letter ∷ filter (is_of_pair sender target) letters) (filter (is_of_pair sender target) letters)) ≡ cond b (letter.argument ∷ map (λ (l : Letter). l.argument) (filter (is_of_pair sender target) letters)) (map (λ (l : Letter). l.argument) (filter (is_of_pair sender target) letters))
    by true = refl
    by false = refl

none_of : (sender : Sender) (target : Address) → arguments_of sender target [] ≡ []
unfolding arguments_of
none_of sender target = refl

and_true : (a b : Bool) → b ≡ true → (a && b) ≡ a
and_true true b e = e
and_true false b e = refl

and_false : (a b : Bool) → b ≡ false → (a && b) ≡ false
and_false true b e = e
and_false false b e = refl

-- the picked letters of a sender are the first of its mail, as many as its picks
picked_behind_is : (target : Address) (sender : Sender) (mail : Sender → List TypedValue) (before picks : List Sender) (letters : List Letter) → picked_behind target before mail picks ≡ Some letters → arguments_of sender target letters ≡ take (count_by (same_sender sender) picks) (drop (count_by (same_sender sender) before) (mail sender))
picked_behind_is target sender mail before [] letters h = ap (arguments_of sender target) (same_Some letters [] (sym h)) ∙ none_of sender target
picked_behind_is target sender mail before (pick ∷ picks) letters h =
    let got = some_from_and_then (λ argument. option_and_then (λ others. Some (letter_of pick target argument ∷ others)) (picked_behind target (before ++ pick ∷ []) mail picks)) (slice_get (mail pick) (count_by (same_sender pick) before)) letters h in
    let gave = some_from_and_then (λ others. Some (letter_of pick target got.0 ∷ others)) (picked_behind target (before ++ pick ∷ []) mail picks) letters got.2 in
    let e : letters ≡ letter_of pick target got.0 ∷ gave.0 = same_Some letters (letter_of pick target got.0 ∷ gave.0) (sym gave.2) in
    let counted : count_by (same_sender sender) (before ++ pick ∷ []) ≡ count_by (same_sender sender) before + cond (same_sender sender pick) 1 0 = sum_by-append (λ x. cond (same_sender sender x) 1 0) before (pick ∷ []) ∙ ap (λ n. count_by (same_sender sender) before + n) (zero-add (cond (same_sender sender pick) 1 0)) in
    let rest = picked_behind_is target sender mail (before ++ pick ∷ []) picks gave.0 gave.1 in
    let from : same_sender sender pick ≡ true → slice_get (mail sender) (count_by (same_sender sender) before) ≡ Some got.0 = λ t. subst (λ s. slice_get (mail s) (count_by (same_sender s) before) ≡ Some got.0) (sym ((same_sender-Decides sender pick).0 t)) got.1 in
    let mine : is_of_pair sender target (letter_of pick target got.0) ≡ same_sender sender pick = and_true (same_sender pick sender) (same_address target target) ((same_address-Decides target target).1 refl) ∙ flip pick sender in
    ap (arguments_of sender target) e ∙ arguments-cons sender target (letter_of pick target got.0) gave.0
    ∙ ap (λ b. cond b (got.0 ∷ arguments_of sender target gave.0) (arguments_of sender target gave.0)) mine
    ∙ one_picked (mail sender) got.0 (same_sender sender pick) (count_by (same_sender sender) before) (count_by (same_sender sender) picks) (arguments_of sender target gave.0) from (rest ∙ ap (λ n. take (count_by (same_sender sender) picks) (drop n (mail sender))) counted)
    ∙ ap (λ n. take n (drop (count_by (same_sender sender) before) (mail sender))) (sym (sum_by-cons (λ x. cond (same_sender sender x) 1 0) pick picks))

-- and none is for another target
picked_beside : (target other : Address) (sender : Sender) (mail : Sender → List TypedValue) (before picks : List Sender) (letters : List Letter) → same_address target other ≡ false → picked_behind target before mail picks ≡ Some letters → arguments_of sender other letters ≡ []
picked_beside target other sender mail before [] letters apart h = ap (arguments_of sender other) (same_Some letters [] (sym h)) ∙ none_of sender other
picked_beside target other sender mail before (pick ∷ picks) letters apart h =
    let got = some_from_and_then (λ argument. option_and_then (λ others. Some (letter_of pick target argument ∷ others)) (picked_behind target (before ++ pick ∷ []) mail picks)) (slice_get (mail pick) (count_by (same_sender pick) before)) letters h in
    let gave = some_from_and_then (λ others. Some (letter_of pick target got.0 ∷ others)) (picked_behind target (before ++ pick ∷ []) mail picks) letters got.2 in
    let e : letters ≡ letter_of pick target got.0 ∷ gave.0 = same_Some letters (letter_of pick target got.0 ∷ gave.0) (sym gave.2) in
    ap (arguments_of sender other) e ∙ arguments-cons sender other (letter_of pick target got.0) gave.0
    ∙ ap (λ b. cond b (got.0 ∷ arguments_of sender other gave.0) (arguments_of sender other gave.0)) (and_false (same_sender pick sender) (same_address target other) apart)
    ∙ picked_beside target other sender mail (before ++ pick ∷ []) picks gave.0 apart gave.1

-- what is delivered of a pair and what is left of it are what waited there
picked_front : (address : Address) (picks : List Sender) (mail : Mail) (sender : Sender) (target : Address) (letters : List Letter) → picked address (λ s. mail s address) picks ≡ Some letters → mail sender target ≡ arguments_of sender target letters ++ unpicked (Function address) picks mail sender target
unfolding picked
picked_front address picks mail sender target letters h = by (same_sender (Function address) (Function target)) refl
  where
    by : (b : Bool) → same_sender (Function address) (Function target) ≡ b → mail sender target ≡ arguments_of sender target letters ++ cond b (drop (count_by (same_sender sender) picks) (mail sender target)) (mail sender target)
    by true t =
        let here : address ≡ target = same_function address target t in
        sym (ap (λ xs. xs ++ drop (count_by (same_sender sender) picks) (mail sender target)) (ap (λ a. arguments_of sender a letters) (sym here) ∙ picked_behind_is address sender (λ s. mail s address) [] picks letters h ∙ ap (λ a. take (count_by (same_sender sender) picks) (mail sender a)) here)
        ∙ take-append-drop (count_by (same_sender sender) picks) (mail sender target))
    by false t =
        let apart : same_address address target ≡ false = false_from_ne_true (same_address address target) (λ e. absurd (cannot t ((same_sender-Decides (Function address) (Function target)).1 (ap Function ((same_address-Decides address target).0 e))))) in
        sym (ap (λ xs. xs ++ mail sender target) (picked_beside address target sender (λ s. mail s address) [] picks letters apart h))
      where
        cannot : same_sender (Function address) (Function target) ≡ false → same_sender (Function address) (Function target) ≡ true → ⊥
        cannot f e = let g = sym f ∙ e in absurd cc

-- a step's letters are there
there : (m : Module) (found : Option IngressRecord) (st : State) (step : Step) (act : Act) → made m found st step ≡ Some act → (sender : Sender) (target : Address) → st.mail sender target ≡ arguments_of sender target (delivered_to (actor_of step) (leaving step) st) ++ unpicked (actor_of step) (leaving step) st.mail sender target
unfolding picked
there m found st (Take split) act e sender target = sym (ap (λ xs. xs ++ unpicked (Split split) [] st.mail sender target) (none_of sender target) ∙ unpicked_none (Split split) st.mail sender target)
there m found st (Register reply) act e sender target = sym (ap (λ xs. xs ++ unpicked (Function reply.address) [] st.mail sender target) (none_of sender target) ∙ unpicked_none (Function reply.address) st.mail sender target)
there m found st (Due address moment) act e sender target = sym (ap (λ xs. xs ++ unpicked (Function address) [] st.mail sender target) (none_of sender target) ∙ unpicked_none (Function address) st.mail sender target)
there m found st (Batch reply) act e sender target =
    let got = letters_of_batch (picked reply.address (λ s. st.mail s reply.address) reply.picks) refl (picks_there m found st reply act e) in
    picked_front reply.address reply.picks st.mail sender target got.0 got.1
    ∙ ap (λ o. arguments_of sender target (unwrap_or o []) ++ unpicked (Function reply.address) reply.picks st.mail sender target) (sym got.1)
  where
    letters_of_batch : (o : Option (List Letter)) → picked reply.address (λ s. st.mail s reply.address) reply.picks ≡ o → IsSome o → (letters : List Letter) × (picked reply.address (λ s. st.mail s reply.address) reply.picks ≡ Some letters)
    letters_of_batch None f is = absurd cc
    letters_of_batch (Some letters) f is = (letters, f)

step_mail : (m : Module) (lists : Lists) (st : State) (step : Step) (act : Act) → made_over m lists st step ≡ Some act → (sender : Sender) (target : Address) → st.mail sender target ++ arguments_of sender target act.letters ≡ arguments_of sender target (delivered_to (actor_of step) (leaving step) st) ++ (acted step act st).mail sender target
step_mail m lists st step act e sender target =
    ap (λ xs. xs ++ arguments_of sender target act.letters) (there m (next_record lists (actor_of step) (st.own (actor_of step))) st step act e sender target)
    ∙ append_assoc (arguments_of sender target (delivered_to (actor_of step) (leaving step) st)) (unpicked (actor_of step) (leaving step) st.mail sender target) (arguments_of sender target act.letters)

joined : {A : Type 0} (waits put puts went goes next left : List A) → waits ++ put ≡ went ++ next → next ++ puts ≡ goes ++ left → waits ++ (put ++ puts) ≡ (went ++ goes) ++ left
joined waits put puts went goes next left e f =
    sym (append_assoc waits put puts) ∙ ap (λ xs. xs ++ puts) e ∙ append_assoc went next puts ∙ ap (λ xs. went ++ xs) f ∙ sym (append_assoc went goes left)

-- What waited in a pair and what a record puts there are what it delivers of the pair and then what waits there at its
-- end: nothing is delivered twice, out of order, or without having been put.
pub delivered-is : (m : Module) (lists : Lists) (st last : State) (entries : List Entry) → replayed m lists st entries ≡ Some last → (sender : Sender) (target : Address) → st.mail sender target ++ put_in m lists st entries sender target ≡ delivered m lists st entries sender target ++ last.mail sender target
unfolding put_in delivered
delivered-is m lists st last [] h sender target = append-nil (st.mail sender target) ∙ ap (λ (x : State). x.mail sender target) (same_Some st last h)
delivered-is m lists st last (entry ∷ entries) h sender target =
    let first = first_of m lists st last entry entries h in
    let next = acted entry.step first.act st in
    let here = step_mail m lists st entry.step first.act first.does sender target in
    let rest = delivered-is m lists next last entries first.more sender target in
    let gone = arguments_of sender target (delivered_to (actor_of entry.step) (leaving entry.step) st) in
    ap (λ o. st.mail sender target ++ option_map_or (λ act. arguments_of sender target act.letters ++ put_in m lists (acted entry.step act st) entries sender target) o []) first.does
    ∙ joined (st.mail sender target) (arguments_of sender target first.act.letters) (put_in m lists next entries sender target) gone (delivered m lists next entries sender target) (next.mail sender target) (last.mail sender target) here rest
    ∙ ap (λ o. option_map_or (λ act. gone ++ delivered m lists (acted entry.step act st) entries sender target) o [] ++ last.mail sender target) (sym first.does)

-- What steps leave in the queues and the parts, in the words of the state.
use Rattle.std.proofs.Common.{◌≡◌, ◌∙◌, sym, ap, subst, refl, ℕ, ◌+◌, ◌<◌, ◌≤◌, true≢false, List, [], ◌∷◌, ◌++◌, Bool, true, false, cond, map, filter, drop, get_or, length, count_by, slice_get, Option, Some, None, option_and_then, arith, map-id, append-nil, eqb-true, eq-eqb}
use Rattle.std.specs.Prelude.{◌&&◌, IsSome, nat_eq}
use Rattle.std.specs.Ordering.{is_eq}
use Rattle.std.specs.Cmp.{IsTotalOrder, eq_by_cmp_equiv}
use Rattle.std.proofs.lemmas.Cmp.{then_total, on_total, nat_list_cmp_total, nat_cmp_total}
use Rattle.std.proofs.lemmas.Map.Views.{tells_apart}
use Rattle.std.proofs.lemmas.Bool.Decides.{same_from_decides}
use Rattle.std.proofs.lemmas.List.{drop-append-le}
use Rattle.std.proofs.lemmas.List.Sums.{sum_by-cons}
use Rattle.std.proofs.lemmas.Option.{slice_get_within}
use Rattle.typed_values.specs.declared.name.TypeName.{TypeName}
use Rattle.typed_values.specs.declared.address.Address.{Address}
use Rattle.typed_values.specs.declared.value.TypedValue.{TypedValue}
use Rattle.typed_values.specs.declared.letter.Sender.{Sender}
use Rattle.typed_values.specs.declared.letter.Sender.TheVariants.{Split, Function}
use Rattle.typed_values.specs.declared.letter.Letter.{Letter}
use Rattle.typed_values.specs.declared.record.EgressRecord.{EgressRecord}
use Rattle.typed_values.specs.Sameness.{same_name, same_address, same_sender}
use Rattle.typed_values.proofs.Sameness.{same_name-Decides, same_address-Decides, same_sender-Decides}
use Rattle.typed_values.proofs.Orders.{exact_names, exact_addresses, exact_senders}
use Rattle.keyed_queues.specs.declared.shelves.Placed.{Placed}
use Rattle.keyed_queues.specs.Keys.{name_order, address_order, sender_order}
use Rattle.keyed_queues.specs.Queues.{values_at, HasBehind, is_placed, SetsAt}
use Rattle.run_record.specs.declared.entry.Step.{Step}
use Rattle.run_record.specs.declared.machine.Machine.{Machine}
use Rattle.run_record.specs.declared.parts.Parts.{Parts}
use Rattle.run_record.specs.Machine.{Own, Mail, Act, actor_of, leaving, letter_of, is_of_pair, is_between, arguments_of, arguments_at, posted, given, picked_behind, picked, unpicked, left, acted}
use Rattle.run_record.specs.StateOf.{mail_of, egress_in, own_in, own_by, state_of, placed_letter, placed_record, CountsOne}
use Rattle.run_record.proofs.Steps.{some_from_and_then}
use Rattle.run_record.proofs.Picks.{count-push, same_function}

-- ---- the orders test sameness

pub names_total : IsTotalOrder name_order
names_total = then_total (on_total (λ (n : TypeName). n.namespace) nat_list_cmp_total) (on_total (λ (n : TypeName). n.name) nat_list_cmp_total)

pub addresses_total : IsTotalOrder address_order
addresses_total = then_total (on_total (λ (a : Address). a.kind) names_total) (on_total (λ (a : Address). a.id) nat_list_cmp_total)

sender_itself : (x : Sender) → is_eq (sender_order x x) ≡ true
sender_itself (Split s) = (eq_by_cmp_equiv nat_cmp_total).refl s
sender_itself (Function a) = (eq_by_cmp_equiv addresses_total).refl a

name_test : (x y : TypeName) → is_eq (name_order x y) ≡ same_name x y
name_test x y = same_from_decides (is_eq (name_order x y)) (same_name x y) (tells_apart exact_names x y, λ e. subst (λ z. is_eq (name_order x z) ≡ true) e ((eq_by_cmp_equiv names_total).refl x)) (same_name-Decides x y)

pub address_test : (x y : Address) → is_eq (address_order x y) ≡ same_address x y
address_test x y = same_from_decides (is_eq (address_order x y)) (same_address x y) (tells_apart exact_addresses x y, λ e. subst (λ z. is_eq (address_order x z) ≡ true) e ((eq_by_cmp_equiv addresses_total).refl x)) (same_address-Decides x y)

sender_test : (x y : Sender) → is_eq (sender_order x y) ≡ same_sender x y
sender_test x y = same_from_decides (is_eq (sender_order x y)) (same_sender x y) (tells_apart exact_senders x y, λ e. subst (λ z. is_eq (sender_order x z) ≡ true) e (sender_itself x)) (same_sender-Decides x y)

swapped : (a b c d : Bool) → a ≡ d → b ≡ c → (a && b) ≡ (c && d)
swapped true true c d e f = λ i. f i && e i
swapped true false c d e f = λ i. f i && e i
swapped false true c d e f = λ i. f i && e i
swapped false false c d e f = λ i. f i && e i

-- ---- what is placed

same_values : {M P R X : Type 0} (p : P → Bool) (q : R → Bool) (f : M → P) (g : M → R) (v : P → X) (w : R → X) (ms : List M) → ((m : M) → p (f m) ≡ q (g m)) → ((m : M) → v (f m) ≡ w (g m)) → map v (filter p (map f ms)) ≡ map w (filter q (map g ms))
same_values p q f g v w [] tests values = refl
same_values p q f g v w (m ∷ ms) tests values = at (p (f m)) (q (g m)) (tests m) (same_values p q f g v w ms tests values)
  where
    at : (a b : Bool) → a ≡ b → map v (filter p (map f ms)) ≡ map w (filter q (map g ms)) → map v (cond a (f m ∷ filter p (map f ms)) (filter p (map f ms))) ≡ map w (cond b (g m ∷ filter q (map g ms)) (filter q (map g ms)))
    at true true e h = λ i. values m i ∷ h i
    at false false e h = h
    at true false e h = absurd cc
    at false true e h = absurd cc

letters_at : (letters : List Letter) (sender : Sender) (target : Address) → values_at address_order sender_order (map placed_letter letters) target sender ≡ arguments_of sender target letters
unfolding arguments_of
letters_at letters sender target =
    same_values (is_placed address_order sender_order target sender) (is_of_pair sender target) placed_letter (λ (letter : Letter). letter) (λ (item : Placed Address Sender TypedValue). item.value) (λ (letter : Letter). letter.argument) letters
    (λ letter. swapped (is_eq (address_order letter.target target)) (is_eq (sender_order letter.sender sender)) (same_sender letter.sender sender) (same_address letter.target target) (address_test letter.target target) (sender_test letter.sender sender))
    (λ letter. refl)
    ∙ ap (λ xs. map (λ (letter : Letter). letter.argument) (filter (is_of_pair sender target) xs)) (map-id letters)

records_at : (records : List EgressRecord) (address : Address) (egress : TypeName) → values_at address_order name_order (map placed_record records) address egress ≡ arguments_at address egress records
unfolding arguments_at
records_at records address egress =
    same_values (is_placed address_order name_order address egress) (is_between address egress) placed_record (λ (r : EgressRecord). r) (λ (item : Placed Address TypeName TypedValue). item.value) (λ (r : EgressRecord). r.argument) records
    (λ r i. address_test r.sender address i && name_test r.egress egress i)
    (λ r. refl)
    ∙ ap (λ xs. map (λ (r : EgressRecord). r.argument) (filter (is_between address egress) xs)) (map-id records)

-- ---- mail and egress

pub mail_posted : (before after : Mail) (letters : List Letter) → HasBehind address_order sender_order (λ target sender. before sender target) (map placed_letter letters) (λ target sender. after sender target) → (sender : Sender) (target : Address) → after sender target ≡ posted before letters sender target
mail_posted before after letters has sender target = has target sender ∙ ap (λ xs. before sender target ++ xs) (letters_at letters sender target)

pub egress_given : (before after : Address → TypeName → List TypedValue) (records : List EgressRecord) → HasBehind address_order name_order before (map placed_record records) after → (address : Address) (name : TypeName) → after address name ≡ given before records address name
egress_given before after records has address name = has address name ∙ ap (λ xs. before address name ++ xs) (records_at records address name)

-- ---- picked letters are there

enough : (target : Address) (mail : Sender → List TypedValue) (before picks : List Sender) (letters : List Letter) → ((sender : Sender) → count_by (same_sender sender) before ≤ length (mail sender)) → picked_behind target before mail picks ≡ Some letters → (sender : Sender) → count_by (same_sender sender) before + count_by (same_sender sender) picks ≤ length (mail sender)
enough target mail before [] letters there h sender = omega (arith, there sender)
enough target mail before (pick ∷ picks) letters there h sender =
    let got = some_from_and_then (λ argument. option_and_then (λ others. Some (letter_of pick target argument ∷ others)) (picked_behind target (before ++ pick ∷ []) mail picks)) (slice_get (mail pick) (count_by (same_sender pick) before)) letters h in
    let gave = some_from_and_then (λ others. Some (letter_of pick target got.0 ∷ others)) (picked_behind target (before ++ pick ∷ []) mail picks) letters got.2 in
    let inside = slice_get_within (mail pick) (count_by (same_sender pick) before) got.0 got.1 in
    let rest = enough target mail (before ++ pick ∷ []) picks gave.0 (λ other. one_more other (same_sender other pick) refl inside) gave.1 sender in
    let here = count-push sender pick before in
    let cons = sum_by-cons (λ x. cond (same_sender sender x) 1 0) pick picks in
    omega arith
  where
    one_more : (other : Sender) (b : Bool) → same_sender other pick ≡ b → count_by (same_sender pick) before < length (mail pick) → count_by (same_sender other) (before ++ pick ∷ []) ≤ length (mail other)
    one_more other true e inside =
        let same = (same_sender-Decides other pick).0 e in
        let here : count_by (same_sender other) before < length (mail other) = subst (λ s. count_by (same_sender s) before < length (mail s)) (sym same) inside in
        let push = count-push other pick before ∙ ap (λ b. count_by (same_sender other) before + cond b 1 0) e in
        omega arith
    one_more other false e inside =
        let push = count-push other pick before ∙ ap (λ b. count_by (same_sender other) before + cond b 1 0) e in
        omega (arith, there other)

pub picks_are_there : (target : Address) (mail : Sender → List TypedValue) (picks : List Sender) → IsSome (picked target mail picks) → (sender : Sender) → count_by (same_sender sender) picks ≤ length (mail sender)
unfolding picked
picks_are_there target mail picks is sender = go (picked_behind target [] mail picks) refl is
  where
    go : (o : Option (List Letter)) → picked_behind target [] mail picks ≡ o → IsSome o → count_by (same_sender sender) picks ≤ length (mail sender)
    go None e is = absurd cc
    go (Some letters) e is = omega (arith, enough target mail [] picks letters (λ other. omega arith) e sender)

-- letters that are posted before picked ones leave stand as if they had been posted behind
pub posted_before : (address : Address) (picks : List Sender) (letters : List Letter) (before after left : Mail) → IsSome (picked address (λ sender. before sender address) picks) → ((sender : Sender) (target : Address) → after sender target ≡ posted before letters sender target) → ((sender : Sender) (target : Address) → left sender target ≡ unpicked (Function address) picks after sender target) → (sender : Sender) (target : Address) → left sender target ≡ posted (unpicked (Function address) picks before) letters sender target
posted_before address picks letters before after left there was is sender target = is sender target ∙ go (same_sender (Function address) (Function target)) refl
  where
    go : (b : Bool) → same_sender (Function address) (Function target) ≡ b → cond b (drop (count_by (same_sender sender) picks) (after sender target)) (after sender target) ≡ cond b (drop (count_by (same_sender sender) picks) (before sender target)) (before sender target) ++ arguments_of sender target letters
    go false e = was sender target
    go true e =
        let same = same_function address target e in
        let long : count_by (same_sender sender) picks ≤ length (before sender target) = subst (λ a. count_by (same_sender sender) picks ≤ length (before sender a)) same (picks_are_there address (λ s. before s address) picks there sender) in
        ap (drop (count_by (same_sender sender) picks)) (was sender target) ∙ drop-append-le (count_by (same_sender sender) picks) (before sender target) (arguments_of sender target letters) long

-- no pick leaves nothing behind
pub unpicked_none : (actor : Sender) (mail : Mail) (sender : Sender) (target : Address) → unpicked actor [] mail sender target ≡ mail sender target
unpicked_none actor mail sender target = by (same_sender actor (Function target))
  where
    by : (b : Bool) → cond b (drop 0 (mail sender target)) (mail sender target) ≡ mail sender target
    by true = refl
    by false = refl

pub posted_none : (mail : Mail) (sender : Sender) (target : Address) → posted mail [] sender target ≡ mail sender target
unfolding arguments_of
posted_none mail sender target = append-nil (mail sender target)

pub given_none : (egress : Address → TypeName → List TypedValue) (address : Address) (name : TypeName) → given egress [] address name ≡ egress address name
unfolding arguments_at
given_none egress address name = append-nil (egress address name)

-- ---- what actors have

pub own_taken : (split : ℕ) (taken taken' : List ℕ) (parts : Parts) (act : Act) → CountsOne split (λ (n : ℕ). get_or taken n 0) (λ (n : ℕ). get_or taken' n 0) → left act (own_by taken parts (Split split)) ≡ record { taken = get_or taken split 0 + 1; cells = []; seen = 0; delays = [] } → (actor : Sender) → own_by taken' parts actor ≡ cond (same_sender (Split split) actor) (left act (own_by taken parts actor)) (own_by taken parts actor)
unfolding same_sender
own_taken split taken taken' parts act counts is (Function address) = refl
own_taken split taken taken' parts act counts is (Split n) = go (nat_eq split n) refl
  where
    as_split : ℕ → Own
    as_split k = record { taken = k; cells = []; seen = 0; delays = [] }

    go : (b : Bool) → nat_eq split n ≡ b → as_split (get_or taken' n 0) ≡ cond b (left act (own_by taken parts (Split n))) (own_by taken parts (Split n))
    go true e =
        let same : split ≡ n = eqb-true split n e in
        subst (λ k. as_split (get_or taken' k 0) ≡ left act (own_by taken parts (Split k))) same (ap as_split counts.here ∙ sym is)
    go false e = ap as_split (counts.others n (λ same. true≢false (sym (eq-eqb split n (sym same)) ∙ e)))

-- counts that another vector keeps, and one more
pub counted_from : (split : ℕ) (taken room taken' : List ℕ) → ((n : ℕ) → get_or room n 0 ≡ get_or taken n 0) → CountsOne split (λ (n : ℕ). get_or room n 0) (λ (n : ℕ). get_or taken' n 0) → CountsOne split (λ (n : ℕ). get_or taken n 0) (λ (n : ℕ). get_or taken' n 0)
counted_from split taken room taken' same counts = record { here = counts.here ∙ ap (λ n. n + 1) (same split); others = λ other apart. counts.others other apart ∙ same other }

pub not_split : (address : Address) (n : ℕ) → same_sender (Function address) (Split n) ≡ false
unfolding same_sender
not_split address n = refl

pub own_changed : (address : Address) (taken : List ℕ) (parts parts' : Parts) (act : Act) → SetsAt (own_in parts) (own_in parts') address (left act (own_in parts address)) → (actor : Sender) → own_by taken parts' actor ≡ cond (same_sender (Function address) actor) (left act (own_by taken parts actor)) (own_by taken parts actor)
own_changed address taken parts parts' act sets (Split n) = sym (ap (λ t. cond t (left act (own_by taken parts (Split n))) (own_by taken parts (Split n))) (not_split address n))
own_changed address taken parts parts' act sets (Function b) = go (same_sender (Function address) (Function b)) refl
  where
    go : (t : Bool) → same_sender (Function address) (Function b) ≡ t → own_in parts' b ≡ cond t (left act (own_in parts b)) (own_in parts b)
    go true e = subst (λ a. own_in parts' a ≡ left act (own_in parts a)) (same_function address b e) sets.here
    go false e = sets.others b (λ same. true≢false (sym ((same_sender-Decides (Function address) (Function b)).1 (ap Function (sym same))) ∙ e))

-- parts that keep what they have may stand in for others
pub sets_between : (address : Address) (before first second after : Parts) (change : Own → Own) → ((other : Address) → own_in first other ≡ own_in before other) → SetsAt (own_in first) (own_in second) address (change (own_in first address)) → ((other : Address) → own_in after other ≡ own_in second other) → SetsAt (own_in before) (own_in after) address (change (own_in before address))
sets_between address before first second after change same sets again = record {
  here = again address ∙ sets.here ∙ ap change (same address);
  others = λ other apart. again other ∙ sets.others other apart ∙ same other;
}

-- ---- states

-- states are one where their parts are
pub same_state : (a b : Machine) → ((actor : Sender) → own_by a.taken.items a.parts actor ≡ own_by b.taken.items b.parts actor) → ((sender : Sender) (target : Address) → mail_of a.mail sender target ≡ mail_of b.mail sender target) → ((address : Address) (name : TypeName) → egress_in a.egress address name ≡ egress_in b.egress address name) → state_of a ≡ state_of b
unfolding state_of
same_state a b own mail egress = λ i. record { own = λ actor. own actor i; mail = λ sender target. mail sender target i; egress = λ address name. egress address name i }

pub state_acted : (step : Step) (act : Act) (a b : Machine) → ((actor : Sender) → own_by b.taken.items b.parts actor ≡ cond (same_sender (actor_of step) actor) (left act (own_by a.taken.items a.parts actor)) (own_by a.taken.items a.parts actor))
    → ((sender : Sender) (target : Address) → mail_of b.mail sender target ≡ posted (unpicked (actor_of step) (leaving step) (mail_of a.mail)) act.letters sender target)
    → ((address : Address) (name : TypeName) → egress_in b.egress address name ≡ given (egress_in a.egress) act.egress address name) → state_of b ≡ acted step act (state_of a)
unfolding state_of
state_acted step act a b own mail egress = λ i. record { own = λ actor. own actor i; mail = λ sender target. mail sender target i; egress = λ address name. egress address name i }

-- the same parts and counts
pub own_kept : (taken taken' : List ℕ) (parts parts' : Parts) → ((n : ℕ) → get_or taken' n 0 ≡ get_or taken n 0) → ((address : Address) → own_in parts' address ≡ own_in parts address) → (actor : Sender) → own_by taken' parts' actor ≡ own_by taken parts actor
own_kept taken taken' parts parts' counts same (Split n) = ap (λ (k : ℕ). record { taken = k; cells = []; seen = 0; delays = [] }) (counts n)
own_kept taken taken' parts parts' counts same (Function address) = same address

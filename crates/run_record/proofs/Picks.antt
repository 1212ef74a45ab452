-- Picks, one by one.
use Rattle.std.proofs.Common.{◌≡◌, ◌∙◌, sym, ap, subst, refl, ℕ, ◌+◌, ◌<◌, ◌≤◌, ◌⊎◌, inl, inr, List, [], ◌∷◌, ◌++◌, Bool, true, false, true≢false, cond, take, drop, get_or, length, count_by, slice_get, Option, Some, None, option_and_then, option_map, arith, zero-add, drop-drop}
use Rattle.std.proofs.lemmas.List.{take_more, drop_more, drop_all}
use Rattle.std.proofs.lemmas.List.Sums.{sum_by-append, sum_by-cons}
use Rattle.std.proofs.lemmas.Bool.{false_from_ne_true}
use Rattle.proto_wire.specs.Message.{capped}
use Rattle.typed_values.specs.declared.address.Address.{Address}
use Rattle.typed_values.specs.declared.value.TypedValue.{TypedValue}
use Rattle.typed_values.specs.declared.letter.Sender.{Sender}
use Rattle.typed_values.specs.declared.letter.Sender.TheVariants.{Split, Function}
use Rattle.typed_values.specs.declared.letter.Letter.{Letter}
use Rattle.typed_values.specs.Sameness.{same_sender}
use Rattle.typed_values.proofs.Sameness.{same_sender-Decides}
use Rattle.request_reply.specs.Letters.{letter_record}
use Rattle.batch_queue.specs.Batches.{records_size}
use Rattle.keyed_queues.specs.Queues.{ChangesIn, SetsAt}
use Rattle.run_record.specs.Machine.{Mail, letter_of, picked_behind, picked, unpicked}

-- how often a sender is picked, one pick further on
together : (size letter others more : ℕ) → more ≡ capped (size + letter) → (all : ℕ) → all ≡ letter + others → capped (size + all) ≡ capped (more + others)
together size letter others more is all e = omega (arith, is, e)

pub count-push : (sender pick : Sender) (picks : List Sender) → count_by (same_sender sender) (picks ++ pick ∷ []) ≡ count_by (same_sender sender) picks + cond (same_sender sender pick) 1 0
count-push sender pick picks = sum_by-append (λ x. cond (same_sender sender x) 1 0) picks (pick ∷ []) ∙ ap (λ n. count_by (same_sender sender) picks + n) (zero-add (cond (same_sender sender pick) 1 0))

pub same_itself : (sender : Sender) → same_sender sender sender ≡ true
same_itself sender = (same_sender-Decides sender sender).1 refl

pub same_other : (sender pick : Sender) → (sender ≡ pick → ⊥) → same_sender sender pick ≡ false
same_other sender pick apart = false_from_ne_true (same_sender sender pick) (λ e. apart ((same_sender-Decides sender pick).0 e))

-- the picked sender has one pick more
pub count-here : (picks : List Sender) (i : ℕ) (pick : Sender) → i < length picks → pick ≡ get_or picks i pick → count_by (same_sender pick) (take (i + 1) picks) ≡ count_by (same_sender pick) (take i picks) + 1
count-here picks i pick inside at =
    ap (count_by (same_sender pick)) (take_more picks i pick inside ∙ ap (λ x. take i picks ++ x ∷ []) (sym at))
    ∙ count-push pick pick (take i picks) ∙ ap (λ b. count_by (same_sender pick) (take i picks) + cond b 1 0) (same_itself pick)

-- and each other as many as before
pub count-beside : (picks : List Sender) (i : ℕ) (pick other : Sender) → i < length picks → pick ≡ get_or picks i pick → (other ≡ pick → ⊥) → count_by (same_sender other) (take (i + 1) picks) ≡ count_by (same_sender other) (take i picks)
count-beside picks i pick other inside at apart =
    ap (count_by (same_sender other)) (take_more picks i pick inside ∙ ap (λ x. take i picks ++ x ∷ []) (sym at))
    ∙ count-push other pick (take i picks) ∙ ap (λ b. count_by (same_sender other) (take i picks) + cond b 1 0) (same_other other pick apart) ∙ omega arith

-- the size of a request with so many bytes and the letters of the picks from this one on
abbrev pub sized_on : Address → (Sender → List TypedValue) → List Sender → ℕ → ℕ → Option ℕ
sized_on target mail picks i size = option_map (λ (rest : List Letter). capped (size + records_size rest)) (picked_behind target (take i picks) mail (drop i picks))

one_pick : (target : Address) (mail : Sender → List TypedValue) (picks : List Sender) (i : ℕ) (pick : Sender) → i < length picks → pick ≡ get_or picks i pick → picked_behind target (take i picks) mail (drop i picks) ≡ option_and_then (λ argument. option_and_then (λ others. Some (letter_of pick target argument ∷ others)) (picked_behind target (take i picks ++ pick ∷ []) mail (drop (i + 1) picks))) (slice_get (mail pick) (count_by (same_sender pick) (take i picks)))
one_pick target mail picks i pick inside at =
    ap (picked_behind target (take i picks) mail) (drop_more picks i pick inside ∙ ap (λ x. x ∷ drop (i + 1) picks) (sym at))

-- a pick whose letter a look-up gave
pub pick_sized : (target : Address) (mail : Sender → List TypedValue) (picks : List Sender) (i : ℕ) (pick : Sender) (size more count : ℕ) (argument : TypedValue) → i < length picks → pick ≡ get_or picks i pick → count ≡ count_by (same_sender pick) (take i picks) → Some argument ≡ slice_get (mail pick) count → more ≡ capped (size + length (letter_record (letter_of pick target argument))) → sized_on target mail picks i size ≡ sized_on target mail picks (i + 1) more
pick_sized target mail picks i pick size more count argument inside at counted found is =
    ap (option_map (λ (rest : List Letter). capped (size + records_size rest))) (one_pick target mail picks i pick inside at
    ∙ ap (option_and_then (λ argument. option_and_then (λ others. Some (letter_of pick target argument ∷ others)) (picked_behind target (take i picks ++ pick ∷ []) mail (drop (i + 1) picks)))) (ap (slice_get (mail pick)) (sym counted) ∙ sym found))
    ∙ sized (picked_behind target (take i picks ++ pick ∷ []) mail (drop (i + 1) picks))
    ∙ ap (λ xs. option_map (λ (rest : List Letter). capped (more + records_size rest)) (picked_behind target xs mail (drop (i + 1) picks))) (sym (take_more picks i pick inside ∙ ap (λ x. take i picks ++ x ∷ []) (sym at)))
  where
    sized : (o : Option (List Letter)) → option_map (λ (rest : List Letter). capped (size + records_size rest)) (option_and_then (λ others. Some (letter_of pick target argument ∷ others)) o) ≡ option_map (λ (rest : List Letter). capped (more + records_size rest)) o
    sized None = refl
    sized (Some others) = ap Some (together size (length (letter_record (letter_of pick target argument))) (records_size others) more is (records_size (letter_of pick target argument ∷ others)) (sum_by-cons (λ (letter : Letter). length (letter_record letter)) (letter_of pick target argument) others))

-- a pick whose letter is not there
pub pick_missing : (target : Address) (mail : Sender → List TypedValue) (picks : List Sender) (i : ℕ) (pick : Sender) (size count : ℕ) → i < length picks → pick ≡ get_or picks i pick → count ≡ count_by (same_sender pick) (take i picks) → None ≡ slice_get (mail pick) count → sized_on target mail picks i size ≡ None
pick_missing target mail picks i pick size count inside at counted none =
    ap (option_map (λ (rest : List Letter). capped (size + records_size rest))) (one_pick target mail picks i pick inside at
    ∙ ap (option_and_then (λ argument. option_and_then (λ others. Some (letter_of pick target argument ∷ others)) (picked_behind target (take i picks ++ pick ∷ []) mail (drop (i + 1) picks)))) (ap (slice_get (mail pick)) (sym counted) ∙ sym none))

-- ---- picked letters leave

address_in : Address → Sender → Address
address_in other (Split split) = other
address_in other (Function address) = address

pub same_function : (a b : Address) → same_sender (Function a) (Function b) ≡ true → a ≡ b
unfolding address_in
same_function a b e = ap (address_in a) ((same_sender-Decides (Function a) (Function b)).0 e)

by_address : (address target : Address) → ((same_sender (Function address) (Function target) ≡ true) × (target ≡ address)) ⊎ ((same_sender (Function address) (Function target) ≡ false) × (target ≡ address → ⊥))
by_address address target = go (same_sender (Function address) (Function target)) refl
  where
    go : (b : Bool) → same_sender (Function address) (Function target) ≡ b → ((b ≡ true) × (target ≡ address)) ⊎ ((b ≡ false) × (target ≡ address → ⊥))
    go true e = inl (refl, sym (same_function address target e))
    go false e = inr (refl, λ same. true≢false (sym ((same_sender-Decides (Function address) (Function target)).1 (ap Function (sym same))) ∙ e))

by_sender : (sender pick : Sender) → ((same_sender sender pick ≡ true) × (sender ≡ pick)) ⊎ ((same_sender sender pick ≡ false) × (sender ≡ pick → ⊥))
by_sender sender pick = go (same_sender sender pick) refl
  where
    go : (b : Bool) → same_sender sender pick ≡ b → ((b ≡ true) × (sender ≡ pick)) ⊎ ((b ≡ false) × (sender ≡ pick → ⊥))
    go true e = inl (refl, (same_sender-Decides sender pick).0 e)
    go false e = inr (refl, λ same. true≢false (sym ((same_sender-Decides sender pick).1 same) ∙ e))

-- one pick more has left
pub unpicked-more : (address : Address) (picks : List Sender) (i : ℕ) (pick : Sender) (mail before after : Mail) → i < length picks → pick ≡ get_or picks i pick → ((sender : Sender) (target : Address) → before sender target ≡ unpicked (Function address) (take i picks) mail sender target) → ChangesIn (λ target sender. before sender target) (λ target sender. after sender target) address pick (drop 1 (before pick address)) → (sender : Sender) (target : Address) → after sender target ≡ unpicked (Function address) (take (i + 1) picks) mail sender target
unpicked-more address picks i pick mail before after inside at was changes sender target = go (by_address address target) (by_sender sender pick)
  where
    counted : count_by (same_sender sender) (take (i + 1) picks) ≡ count_by (same_sender sender) (take i picks) + cond (same_sender sender pick) 1 0
    counted = ap (count_by (same_sender sender)) (take_more picks i pick inside ∙ ap (λ x. take i picks ++ x ∷ []) (sym at)) ∙ count-push sender pick (take i picks)

    was_at : (b : Bool) → same_sender (Function address) (Function target) ≡ b → before sender target ≡ cond b (drop (count_by (same_sender sender) (take i picks)) (mail sender target)) (mail sender target)
    was_at b e = was sender target ∙ ap (λ b. cond b (drop (count_by (same_sender sender) (take i picks)) (mail sender target)) (mail sender target)) e

    ends_at : (b : Bool) (n : ℕ) → same_sender (Function address) (Function target) ≡ b → count_by (same_sender sender) (take (i + 1) picks) ≡ n → cond b (drop n (mail sender target)) (mail sender target) ≡ unpicked (Function address) (take (i + 1) picks) mail sender target
    ends_at b n e f = ap (λ b. cond b (drop n (mail sender target)) (mail sender target)) (sym e) ∙ ap (λ n. cond (same_sender (Function address) (Function target)) (drop n (mail sender target)) (mail sender target)) (sym f)

    go : (((same_sender (Function address) (Function target) ≡ true) × (target ≡ address)) ⊎ ((same_sender (Function address) (Function target) ≡ false) × (target ≡ address → ⊥))) → (((same_sender sender pick ≡ true) × (sender ≡ pick)) ⊎ ((same_sender sender pick ≡ false) × (sender ≡ pick → ⊥))) → after sender target ≡ unpicked (Function address) (take (i + 1) picks) mail sender target
    go (inr (e, apart)) s = changes.others target apart sender ∙ was_at false e ∙ ends_at false (count_by (same_sender sender) (take (i + 1) picks)) e refl
    go (inl (e, here)) (inr (f, apart)) =
        (λ j. after sender (here j)) ∙ changes.beside sender apart ∙ (λ j. before sender (sym here j)) ∙ was_at true e
        ∙ ends_at true (count_by (same_sender sender) (take i picks)) e (counted ∙ ap (λ b. count_by (same_sender sender) (take i picks) + cond b 1 0) f ∙ omega arith)
    go (inl (e, here)) (inl (f, pick_is)) =
        (λ j. after (pick_is j) (here j)) ∙ changes.here ∙ (λ j. drop 1 (before (sym pick_is j) (sym here j))) ∙ ap (drop 1) (was_at true e)
        ∙ drop-drop 1 (count_by (same_sender sender) (take i picks)) (mail sender target)
        ∙ ends_at true (count_by (same_sender sender) (take i picks) + 1) e (counted ∙ ap (λ b. count_by (same_sender sender) (take i picks) + cond b 1 0) f)

-- how often each sender was picked, one pick further on
pub counted-more : (picks : List Sender) (i : ℕ) (pick : Sender) (before after : Sender → ℕ) (count : ℕ) → i < length picks → pick ≡ get_or picks i pick → ((sender : Sender) → before sender ≡ count_by (same_sender sender) (take i picks)) → count ≡ before pick → SetsAt before after pick (count + 1) → (sender : Sender) → after sender ≡ count_by (same_sender sender) (take (i + 1) picks)
counted-more picks i pick before after count inside at was counted sets sender = go (by_sender sender pick)
  where
    go : (((same_sender sender pick ≡ true) × (sender ≡ pick)) ⊎ ((same_sender sender pick ≡ false) × (sender ≡ pick → ⊥))) → after sender ≡ count_by (same_sender sender) (take (i + 1) picks)
    go (inl (f, here)) = subst (λ s. after s ≡ count_by (same_sender s) (take (i + 1) picks)) (sym here) (sets.here ∙ ap (λ n. n + 1) (counted ∙ was pick) ∙ sym (count-here picks i pick inside at))
    go (inr (f, apart)) = sets.others sender apart ∙ was sender ∙ sym (count-beside picks i pick sender inside at apart)

-- ---- sizes

pub capped_again : (size bytes : ℕ) → size ≡ capped bytes → size ≡ capped size
capped_again size bytes is = omega (arith, is)

-- before the first pick
pub sized_none : (target : Address) (mail : Sender → List TypedValue) (picks : List Sender) (records size : ℕ) → size ≡ capped records → option_map (λ (letters : List Letter). capped (records + records_size letters)) (picked target mail picks) ≡ sized_on target mail picks 0 size
unfolding picked
sized_none target mail picks records size is = same (picked_behind target [] mail picks)
  where
    same : (o : Option (List Letter)) → option_map (λ (letters : List Letter). capped (records + records_size letters)) o ≡ option_map (λ (rest : List Letter). capped (size + records_size rest)) o
    same None = refl
    same (Some rest) = ap Some (together records 0 (records_size rest) size (is ∙ ap capped (omega arith)) (records_size rest) (omega arith))

-- behind the last
pub sized_end : (target : Address) (mail : Sender → List TypedValue) (picks : List Sender) (i size : ℕ) → length picks ≤ i → size ≡ capped size → sized_on target mail picks i size ≡ Some size
sized_end target mail picks i size all is =
    ap (λ xs. option_map (λ (rest : List Letter). capped (size + records_size rest)) (picked_behind target (take i picks) mail xs)) (drop_all i picks all)
    ∙ ap Some (ap capped (omega arith) ∙ sym is)

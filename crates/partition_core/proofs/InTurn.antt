-- The machine makes the steps that a partition makes in its turn.
use Rattle.std.proofs.Common.{◌≡◌, ◌∙◌, sym, ap, subst, refl, ℕ, ◌+◌, List, [], ◌∷◌, ◌++◌, Bool, true, false, cond, map, take, drop, length, count_by, slice_get, Some, None, option_and_then, option_map, is_some, length-append, arith}
use Rattle.std.specs.Prelude.{◌&&◌, nat_le}
use Rattle.std.proofs.lemmas.Bool.{le-leb}
use Rattle.std.proofs.lemmas.List.{append_assoc, take-append-drop, map-append}
use Rattle.std.proofs.lemmas.Option.{slice_get_read}
use Rattle.std.proofs.Math.Seq.{get_or-append_seam}
use Rattle.typed_values.specs.declared.address.Address.{Address}
use Rattle.typed_values.specs.declared.value.TypedValue.{TypedValue}
use Rattle.typed_values.specs.declared.letter.Letter.{Letter}
use Rattle.typed_values.specs.declared.letter.Sender.{Sender}
use Rattle.typed_values.specs.Sameness.{same_sender}
use Rattle.address_routing.specs.declared.module.Endpoint.{Endpoint}
use Rattle.invocation.specs.Requests.{request_of}
use Rattle.run_record.specs.Machine.{arguments_of, letter_of, picked_behind, picked, is_within, request_of_picks, sent_later}
use Rattle.run_record.proofs.Senders.{arguments_of-append}
use Rattle.run_record.proofs.Picks.{same_itself}
use Rattle.partition_core.specs.Batches.{sender_of}
use Rattle.partition_core.specs.Work.{own_of, mail_in}
use Rattle.partition_core.specs.Laws.{flying, AnswersAreAsked, DueIsMade}
use Rattle.partition_core.proofs.Posting.{AreTo, count-cons, first_letter}
use Rattle.partition_core.proofs.Delaying.{due_of_own}

-- ---- picks stand for the letters in flight

arguments_none : (sender : Sender) (address : Address) → length (arguments_of sender address []) ≡ 0
unfolding arguments_of
arguments_none sender address = refl

-- so many letters of a sender stand in front
arguments_count : (sender : Sender) (address : Address) (letters : List Letter) → AreTo address letters → length (arguments_of sender address letters) ≡ count_by (same_sender sender) (map sender_of letters)
arguments_count sender address [] all = arguments_none sender address
arguments_count sender address (letter ∷ letters) all =
    ap length (first_letter sender address letter letters all.0 (same_sender sender letter.sender) refl)
    ∙ by (same_sender sender letter.sender) (arguments_count sender address letters all.1)
    ∙ sym (count-cons sender letter.sender (map sender_of letters))
  where
    by : (t : Bool) → length (arguments_of sender address letters) ≡ count_by (same_sender sender) (map sender_of letters)
        → length (cond t (letter.argument ∷ arguments_of sender address letters) (arguments_of sender address letters)) ≡ cond t 1 0 + count_by (same_sender sender) (map sender_of letters)
    by true more = omega (arith, more)
    by false more = omega (arith, more)

read_seam : (xs : List TypedValue) (y : TypedValue) (ys : List TypedValue) → slice_get (xs ++ y ∷ ys) (length xs) ≡ Some y
read_seam xs y ys = slice_get_read (xs ++ y ∷ ys) (length (xs ++ y ∷ ys)) (length xs) y refl (let n = length-append xs (y ∷ ys) in omega (arith, n)) (sym (get_or-append_seam xs y ys y))

are_to-left : (address : Address) (xs ys : List Letter) → AreTo address (xs ++ ys) → AreTo address xs
are_to-left address [] ys all = tt
are_to-left address (x ∷ xs) ys all = (all.0, are_to-left address xs ys all.1)

are_to-right : (address : Address) (xs ys : List Letter) → AreTo address (xs ++ ys) → AreTo address ys
are_to-right address [] ys all = all
are_to-right address (x ∷ xs) ys all = are_to-right address xs ys all.1

pick_one : (address : Address) (front rest : List Letter) (letter : Letter) → AreTo address (front ++ letter ∷ rest) → slice_get (arguments_of letter.sender address (front ++ letter ∷ rest)) (count_by (same_sender letter.sender) (map sender_of front)) ≡ Some letter.argument
pick_one address front rest letter all =
    (λ i. slice_get
    ((arguments_of-append letter.sender address front (letter ∷ rest) ∙ ap (λ xs. arguments_of letter.sender address front ++ xs) (first_letter letter.sender address letter rest (are_to-right address front (letter ∷ rest) all).0 true (same_itself letter.sender))) i)
    (sym (arguments_count letter.sender address front (are_to-left address front (letter ∷ rest) all)) i))
    ∙ read_seam (arguments_of letter.sender address front) letter.argument (arguments_of letter.sender address rest)

picked_on : (address : Address) (front batch behind : List Letter) → AreTo address (front ++ (batch ++ behind)) → picked_behind address (map sender_of front) (λ sender. arguments_of sender address (front ++ (batch ++ behind))) (map sender_of batch) ≡ Some batch
picked_on address front [] behind all = refl
picked_on address front (letter ∷ batch) behind all =
    ap (option_and_then (λ argument. option_and_then (λ others. Some (letter_of letter.sender address argument ∷ others)) (picked_behind address (map sender_of front ++ letter.sender ∷ []) mail (map sender_of batch))))
    (pick_one address front (batch ++ behind) letter all)
    ∙ ap (option_and_then (λ others. Some (letter_of letter.sender address letter.argument ∷ others))) (moved ∙ picked_on address (front ++ letter ∷ []) batch behind (subst (AreTo address) (sym whole) all))
    ∙ ap (λ (a : Address). Some (letter_of letter.sender a letter.argument ∷ batch)) (sym (are_to-right address front (letter ∷ (batch ++ behind)) all).0)
  where
    mail : Sender → List TypedValue
    mail sender = arguments_of sender address (front ++ (letter ∷ (batch ++ behind)))

    whole : (front ++ letter ∷ []) ++ (batch ++ behind) ≡ front ++ (letter ∷ (batch ++ behind))
    whole = append_assoc front (letter ∷ []) (batch ++ behind)

    moved : picked_behind address (map sender_of front ++ letter.sender ∷ []) mail (map sender_of batch)
        ≡ picked_behind address (map sender_of (front ++ letter ∷ [])) (λ sender. arguments_of sender address ((front ++ letter ∷ []) ++ (batch ++ behind))) (map sender_of batch)
    moved = λ i. picked_behind address (sym (map-append sender_of front (letter ∷ [])) i) (λ sender. arguments_of sender address (sym whole i)) (map sender_of batch)

picked_front : (address : Address) (n : ℕ) (letters : List Letter) → AreTo address letters → picked address (λ sender. arguments_of sender address letters) (map sender_of (take n letters)) ≡ Some (take n letters)
unfolding picked
picked_front address n letters all =
    let parts = take-append-drop n letters in
    (λ i. picked_behind address [] (λ sender. arguments_of sender address (sym parts i)) (map sender_of (take n letters)))
    ∙ picked_on address [] (take n letters) (drop n letters) (subst (AreTo address) (sym parts) all)

both_true : (a b : Bool) → a ≡ true → b ≡ true → (a && b) ≡ true
both_true a b e f = λ i. e i && f i

pub answers_are_asked : AnswersAreAsked
unfolding request_of_picks
answers_are_asked m work reply endpoint owned picks moment route within =
    let letters = flying reply.address work in
    let request = request_of reply.address (work.cells reply.address) reply.moment letters in
    let found : picked reply.address (λ sender. mail_in work sender reply.address) reply.picks ≡ Some letters =
    ap (picked reply.address (λ sender. mail_in work sender reply.address)) picks
    ∙ picked_front reply.address (work.post.in_flight reply.address) (work.post.letters reply.address) (owned reply.address) in
    let asked : request_of_picks m (work.cells reply.address) (λ sender. mail_in work sender reply.address) reply.address reply.moment reply.picks ≡ Some request =
    (λ i. option_and_then (λ (e : Endpoint). option_and_then (λ (ls : List Letter). cond (is_within e ls (request_of reply.address (work.cells reply.address) reply.moment ls)) (Some (request_of reply.address (work.cells reply.address) reply.moment ls)) None) (found i)) (route i))
    ∙ ap (λ b. cond b (Some request) None) within in (
      both_true (nat_le (work.seen reply.address) reply.moment)
          (is_some (request_of_picks m (work.cells reply.address) (λ sender. mail_in work sender reply.address) reply.address reply.moment reply.picks))
          (le-leb (work.seen reply.address) reply.moment moment) (ap is_some asked),
      asked,
    )

pub due_is_made : DueIsMade
due_is_made m found work moment due e =
    ap (option_map (sent_later due.0.sender moment (own_of work due.0.sender))) (due_of_own due.0.sender moment work.delays due e refl)

-- Letters by arrival, as the mail of pairs.
use Rattle.std.proofs.Common.{◌≡◌, ◌∙◌, sym, ap, subst, refl, ℕ, zero, suc, ◌+◌, List, [], ◌∷◌, ◌++◌, Bool, true, false, cond, map, filter, take, drop, count_by, append-nil, arith}
use Rattle.std.specs.Prelude.{◌&&◌}
use Rattle.std.specs.List.{AllByRecursion}
use Rattle.std.proofs.lemmas.List.{append_assoc}
use Rattle.std.proofs.lemmas.List.Sums.{sum_by-cons}
use Rattle.std.proofs.lemmas.Bool.Decides.{same_from_decides}
use Rattle.typed_values.specs.declared.address.Address.{Address}
use Rattle.typed_values.specs.declared.value.TypedValue.{TypedValue}
use Rattle.typed_values.specs.declared.letter.Sender.{Sender}
use Rattle.typed_values.specs.declared.letter.Letter.{Letter}
use Rattle.typed_values.specs.Sameness.{same_sender, same_address}
use Rattle.typed_values.proofs.Sameness.{same_sender-Decides, same_address-Decides}
use Rattle.batch_queue.specs.Post.{Post, put}
use Rattle.run_record.specs.Machine.{is_of_pair, arguments_of}
use Rattle.run_record.proofs.Senders.{arguments_of-append}
use Rattle.partition_core.specs.Batches.{sender_of}
use Rattle.partition_core.specs.Work.{put_all}

abbrev pub AreTo : Address → List Letter → Type 0
AreTo address letters = AllByRecursion (λ (letter : Letter). letter.target ≡ address) letters

-- a letter to another address is in no mail of this one
pub none_to : (sender : Sender) (target : Address) (letter : Letter) → same_address letter.target target ≡ false → arguments_of sender target (letter ∷ []) ≡ []
unfolding arguments_of
none_to sender target letter apart =
    ap (λ b. map (λ (l : Letter). l.argument) (cond (same_sender letter.sender sender && b) (letter ∷ []) [])) apart ∙ by (same_sender letter.sender sender)
  where
    by : (b : Bool) → map (λ (l : Letter). l.argument) (cond (b && false) (letter ∷ []) []) ≡ []
    by true = refl
    by false = refl

-- a letter that arrives stands last in the mail of its pair
put_mail : (letter : Letter) (post : Post) (sender : Sender) (target : Address) → arguments_of sender target ((put letter post).letters target) ≡ arguments_of sender target (post.letters target) ++ arguments_of sender target (letter ∷ [])
put_mail letter post sender target = by (same_address letter.target target) refl
  where
    by : (t : Bool) → same_address letter.target target ≡ t → arguments_of sender target (cond t (post.letters letter.target ++ letter ∷ []) (post.letters target)) ≡ arguments_of sender target (post.letters target) ++ arguments_of sender target (letter ∷ [])
    by true e =
        ap (λ a. arguments_of sender target (post.letters a ++ letter ∷ [])) ((same_address-Decides letter.target target).0 e)
        ∙ arguments_of-append sender target (post.letters target) (letter ∷ [])
    by false e = sym (ap (λ xs. arguments_of sender target (post.letters target) ++ xs) (none_to sender target letter e) ∙ append-nil (arguments_of sender target (post.letters target)))

none_more : (sender : Sender) (target : Address) (xs : List TypedValue) → xs ++ arguments_of sender target [] ≡ xs
unfolding arguments_of
none_more sender target xs = append-nil xs

pub put_all_mail : (letters : List Letter) (post : Post) (sender : Sender) (target : Address) → arguments_of sender target ((put_all letters post).letters target) ≡ arguments_of sender target (post.letters target) ++ arguments_of sender target letters
put_all_mail [] post sender target = sym (none_more sender target (arguments_of sender target (post.letters target)))
put_all_mail (letter ∷ letters) post sender target =
    put_all_mail letters (put letter post) sender target
    ∙ ap (λ xs. xs ++ arguments_of sender target letters) (put_mail letter post sender target)
    ∙ append_assoc (arguments_of sender target (post.letters target)) (arguments_of sender target (letter ∷ [])) (arguments_of sender target letters)
    ∙ ap (λ xs. arguments_of sender target (post.letters target) ++ xs) (sym (arguments_of-append sender target (letter ∷ []) letters))

-- letters stay with their targets
are_to-append : (address : Address) (xs ys : List Letter) → AreTo address xs → AreTo address ys → AreTo address (xs ++ ys)
are_to-append address [] ys h k = k
are_to-append address (x ∷ xs) ys h k = (h.0, are_to-append address xs ys h.1 k)

pub are_to-drop : (address : Address) (n : ℕ) (xs : List Letter) → AreTo address xs → AreTo address (drop n xs)
are_to-drop address zero xs h = h
are_to-drop address (suc n) [] h = tt
are_to-drop address (suc n) (x ∷ xs) h = are_to-drop address n xs h.1

pub put_all_owned : (letters : List Letter) (post : Post) → ((address : Address) → AreTo address (post.letters address)) → (address : Address) → AreTo address ((put_all letters post).letters address)
put_all_owned [] post owned address = owned address
put_all_owned (letter ∷ letters) post owned address = put_all_owned letters (put letter post) one address
  where
    one : (a : Address) → AreTo a ((put letter post).letters a)
    one a = by (same_address letter.target a) refl
      where
        by : (t : Bool) → same_address letter.target a ≡ t → AreTo a (cond t (post.letters letter.target ++ letter ∷ []) (post.letters a))
        by true e =
            let same = (same_address-Decides letter.target a).0 e in
            are_to-append a (post.letters letter.target) (letter ∷ []) (subst (λ b. AreTo a (post.letters b)) (sym same) (owned a)) (same, tt)
        by false e = owned a

-- ---- the first letters leave

senders_alike : (a b : Sender) → same_sender a b ≡ same_sender b a
senders_alike a b = same_from_decides (same_sender a b) (same_sender b a) ((λ e. (same_sender-Decides a b).0 e), (λ e. (same_sender-Decides a b).1 e)) ((λ e. sym ((same_sender-Decides b a).0 e)), (λ e. (same_sender-Decides b a).1 (sym e)))

pub count-cons : (sender pick : Sender) (picks : List Sender) → count_by (same_sender sender) (pick ∷ picks) ≡ cond (same_sender sender pick) 1 0 + count_by (same_sender sender) picks
count-cons sender pick picks = sum_by-cons (λ x. cond (same_sender sender x) 1 0) pick picks

none_left : (sender : Sender) (address : Address) → drop (count_by (same_sender sender) []) (arguments_of sender address []) ≡ arguments_of sender address []
unfolding arguments_of
none_left sender address = refl

one_more : (n : ℕ) → suc n ≡ 1 + n
one_more n = omega arith

drop_first : (n : ℕ) (x : TypedValue) (xs : List TypedValue) → drop n xs ≡ drop (1 + n) (x ∷ xs)
drop_first n x xs = ap (λ k. drop k (x ∷ xs)) (one_more n)

none_more_of : (n : ℕ) → n ≡ 0 + n
none_more_of n = omega arith

-- the first letter's argument, where it is of the sender
pub first_letter : (sender : Sender) (address : Address) (letter : Letter) (letters : List Letter) → letter.target ≡ address → (t : Bool) → same_sender sender letter.sender ≡ t
    → arguments_of sender address (letter ∷ letters) ≡ cond t (letter.argument ∷ arguments_of sender address letters) (arguments_of sender address letters)
unfolding arguments_of
first_letter sender address letter letters to t e =
    (λ i. map (λ (l : Letter). l.argument) (cond ((senders_alike letter.sender sender ∙ e) i && (same_address-Decides letter.target address).1 to i) (letter ∷ filter (is_of_pair sender address) letters) (filter (is_of_pair sender address) letters)))
    ∙ end t
  where
    end : (t : Bool) → map (λ (l : Letter). l.argument) (cond (t && true) (letter ∷ filter (is_of_pair sender address) letters) (filter (is_of_pair sender address) letters)) ≡ cond t (letter.argument ∷ map (λ (l : Letter). l.argument) (filter (is_of_pair sender address) letters)) (map (λ (l : Letter). l.argument) (filter (is_of_pair sender address) letters))
    end true = refl
    end false = refl

-- from each pair as many go as its sender stands in the first letters
pub left_behind : (sender : Sender) (address : Address) (n : ℕ) (letters : List Letter) → AreTo address letters → arguments_of sender address (drop n letters) ≡ drop (count_by (same_sender sender) (map sender_of (take n letters))) (arguments_of sender address letters)
left_behind sender address zero letters all = refl
left_behind sender address (suc n) [] all = sym (none_left sender address)
left_behind sender address (suc n) (letter ∷ letters) all =
    left_behind sender address n letters all.1
    ∙ by (same_sender sender letter.sender) refl
    ∙ ap (λ k. drop k (arguments_of sender address (letter ∷ letters))) (sym (count-cons sender letter.sender (map sender_of (take n letters))))
  where
    rest : ℕ
    rest = count_by (same_sender sender) (map sender_of (take n letters))

    by : (t : Bool) → same_sender sender letter.sender ≡ t → drop rest (arguments_of sender address letters) ≡ drop (cond (same_sender sender letter.sender) 1 0 + rest) (arguments_of sender address (letter ∷ letters))
    by true e =
        drop_first rest letter.argument (arguments_of sender address letters)
        ∙ (λ i. drop (cond (sym e i) 1 0 + rest) (sym (first_letter sender address letter letters all.0 true e) i))
    by false e =
        ap (λ k. drop k (arguments_of sender address letters)) (none_more_of rest)
        ∙ (λ i. drop (cond (sym e i) 1 0 + rest) (sym (first_letter sender address letter letters all.0 false e) i))

-- Letters of one address leave in the order in which they came.
use Rattle.std.proofs.Common.{◌≡◌, ◌∙◌, sym, ap, refl, Bool, true, false, cond, List, [], ◌∷◌, ◌++◌, take, drop, append_assoc, append-nil}
use Rattle.std.proofs.lemmas.List.{take-append-drop}
use Rattle.typed_values.specs.declared.address.Address.{Address}
use Rattle.typed_values.specs.declared.letter.Letter.{Letter}
use Rattle.typed_values.specs.Sameness.{same_address}
use Rattle.typed_values.proofs.Sameness.{same_address-Decides}
use Rattle.batch_queue.specs.Post.{Post}
use Rattle.batch_queue.specs.Laws.{Call, Put, Open, Take, Return, after_call, after_calls, left_by, left_in, put_by, put_in}

-- an address has what another one had, where they are the same
stayed : (post : Post) (a b : Address) (t : Bool) → same_address b a ≡ t → cond t (post.letters b) (post.letters a) ≡ post.letters a ++ []
stayed post a b true e = ap post.letters ((same_address-Decides b a).0 e) ∙ sym (append-nil (post.letters a))
stayed post a b false e = sym (append-nil (post.letters a))

added : (post : Post) (a : Address) (letter : Letter) (t : Bool) → same_address letter.target a ≡ t → cond t (post.letters letter.target ++ letter ∷ []) (post.letters a) ≡ post.letters a ++ cond t (letter ∷ []) []
added post a letter true e = ap (λ x. post.letters x ++ letter ∷ []) ((same_address-Decides letter.target a).0 e)
added post a letter false e = sym (append-nil (post.letters a))

gone : (post : Post) (a b : Address) (t : Bool) → same_address b a ≡ t → cond t (take (post.in_flight b) (post.letters b)) [] ++ cond t (drop (post.in_flight b) (post.letters b)) (post.letters a) ≡ post.letters a ++ []
gone post a b true e = take-append-drop (post.in_flight b) (post.letters b) ∙ ap post.letters ((same_address-Decides b a).0 e) ∙ sym (append-nil (post.letters a))
gone post a b false e = sym (append-nil (post.letters a))

by_call : (call : Call) (post : Post) (a : Address) → left_by a post call ++ (after_call call post).letters a ≡ post.letters a ++ put_by a call
by_call (Put letter) post a = added post a letter (same_address letter.target a) refl
by_call (Open b count) post a = stayed post a b (same_address b a) refl
by_call (Take b) post a = gone post a b (same_address b a) refl
by_call (Return b) post a = stayed post a b (same_address b a) refl

pub in_order : (calls : List Call) (post : Post) (a : Address) → left_in a post calls ++ (after_calls calls post).letters a ≡ post.letters a ++ put_in a calls
in_order [] post a = sym (append-nil (post.letters a))
in_order (call ∷ calls) post a =
    append_assoc (left_by a post call) (left_in a (after_call call post) calls) ((after_calls calls (after_call call post)).letters a)
    ∙ ap (λ ls. left_by a post call ++ ls) (in_order calls (after_call call post) a)
    ∙ sym (append_assoc (left_by a post call) ((after_call call post).letters a) (put_in a calls))
    ∙ ap (λ ls. ls ++ put_in a calls) (by_call call post a)
    ∙ append_assoc (post.letters a) (put_by a call) (put_in a calls)

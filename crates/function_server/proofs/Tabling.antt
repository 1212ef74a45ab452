-- Which function of a table is found.
use Rattle.std.proofs.Common.{◌≡◌, ℕ, zero, suc, ◌+◌, ◌<◌, ◌≤◌, List, [], ◌∷◌, length, drop, get_or, map, Bool, cond, true, false, Some, None, Ok, Err, refl, sym, ◌∙◌, ap, arith, add-one, drop-cons}
use Rattle.std.specs.Prelude.{find, option_map}
use Rattle.typed_values.specs.declared.name.TypeName.{TypeName}
use Rattle.typed_values.specs.Sameness.{same_name}
use Rattle.request_reply.specs.declared.request.InvocationBatchRequest.{InvocationBatchRequest}
use Rattle.request_reply.specs.declared.answer.FromFunction.{FromFunction}
use Rattle.function_server.specs.Tables.{Service, service_of}
use Rattle.function_server.specs.Answering.{not_served, answer_of, answer_by, Gives}

-- ---- the first of a list that passes a test

at_front : {A : Type 0} (test : A → Bool) (xs : List A) (i : ℕ) (x : A) → i < length xs → x ≡ get_or xs i x → find test (drop i xs) ≡ cond (test x) (Some x) (find test (drop (i + 1) xs))
at_front test xs i x within is = rw (drop-cons xs i x, ← is, add-one) refl

pub passed : {A : Type 0} (test : A → Bool) (xs : List A) (i : ℕ) (x : A) → i < length xs → x ≡ get_or xs i x → test x ≡ false → find test (drop i xs) ≡ find test xs → find test (drop (i + 1) xs) ≡ find test xs
passed test xs i x within is fails left = sym (at_front test xs i x within is ∙ ap (λ b. cond b (Some x) (find test (drop (i + 1) xs))) fails) ∙ left

pub met : {A : Type 0} (test : A → Bool) (xs : List A) (i : ℕ) (x : A) → i < length xs → x ≡ get_or xs i x → test x ≡ true → find test (drop i xs) ≡ find test xs → find test xs ≡ Some x
met test xs i x within is passes left = sym left ∙ at_front test xs i x within is ∙ ap (λ b. cond b (Some x) (find test (drop (i + 1) xs))) passes

pub none_left : {A : Type 0} (test : A → Bool) (xs : List A) (i : ℕ) → length xs ≤ i → find test (drop i xs) ≡ None
none_left test [] zero h = refl
none_left test [] (suc i) h = refl
none_left test (x ∷ xs) zero h = absurd (omega arith)
none_left test (x ∷ xs) (suc i) h = none_left test xs i (omega arith)

-- ---- the service of the first entry of a name is the first service of that name

pub found_as : {A : Type 0} (S : A → Service) (kind : TypeName) (xs : List A) → service_of (map S xs) kind ≡ option_map S (find (λ x. same_name (S x).name kind) xs)
found_as S kind [] = refl
found_as S kind (x ∷ xs) = elim (same_name (S x).name kind) as (λ b. cond b (Some (S x)) (service_of (map S xs) kind) ≡ option_map S (cond b (Some x) (find (λ y. same_name (S y).name kind) xs))) [ true ↦ refl | false ↦ found_as S kind xs ]

pub answered_by : {A : Type 0} (S : A → Service) (kind : TypeName) (xs : List A) (x : A) (batch : InvocationBatchRequest) (answer : FromFunction)
    → find (λ y. same_name (S y).name kind) xs ≡ Some x → answer ≡ answer_of (S x).declares ((S x).answers batch) batch
    → answer_by (service_of (map S xs) kind) batch ≡ Ok answer
answered_by S kind xs x batch answer found is = ap (λ s. answer_by s batch) (found_as S kind xs ∙ ap (option_map S) found) ∙ ap Ok (sym is)

pub answered_by_none : {A : Type 0} (S : A → Service) (kind : TypeName) (xs : List A) (batch : InvocationBatchRequest)
    → find (λ y. same_name (S y).name kind) xs ≡ None → answer_by (service_of (map S xs) kind) batch ≡ Err not_served
answered_by_none S kind xs batch found = ap (λ s. answer_by s batch) (found_as S kind xs ∙ ap (option_map S) found)

pub same_entries : {A : Type 0} (S : A → Service) (kind : TypeName) (xs ys : List A) (batch : InvocationBatchRequest) (answer : _)
    → xs ≡ ys → Gives answer (answer_by (service_of (map S xs) kind) batch) → Gives answer (answer_by (service_of (map S ys) kind) batch)
same_entries S kind xs ys batch answer e given = rw (← e) given

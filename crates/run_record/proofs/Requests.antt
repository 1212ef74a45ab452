-- Whether picks give a request.
use Rattle.std.proofs.Common.{◌≡◌, ◌∙◌, sym, ap, refl, ℕ, suc, ◌+◌, ◌++◌, count_by, slice_get, nat_lt, nat_le, List, [], ◌∷◌, length, Bool, true, false, cond, Option, Some, None, is_some, option_and_then, option_map}
use Rattle.std.specs.Prelude.{◌&&◌}
use Rattle.proto_wire.specs.Message.{capped}
use Rattle.typed_values.specs.declared.address.Address.{Address}
use Rattle.typed_values.specs.declared.value.TypedValue.{TypedValue}
use Rattle.typed_values.specs.declared.letter.Sender.{Sender}
use Rattle.typed_values.specs.declared.letter.Letter.{Letter}
use Rattle.typed_values.specs.declared.cells.Cell.{Cell}
use Rattle.typed_values.specs.Sameness.{same_sender}
use Rattle.request_reply.specs.declared.request.ToFunction.{ToFunction}
use Rattle.request_reply.specs.Spelling.{to_spelling}
use Rattle.batch_queue.specs.Batches.{enclosed, records_size}
use Rattle.address_routing.specs.declared.module.Module.{Module}
use Rattle.address_routing.specs.declared.module.Endpoint.{Endpoint}
use Rattle.address_routing.specs.Routing.{endpoint_of}
use Rattle.invocation.specs.Requests.{request_of, head_size}
use Rattle.invocation.specs.Laws.{SizeIsOfParts}
use Rattle.run_record.specs.Machine.{picked, picked_behind, letter_of, is_within, request_of_picks}
use Rattle.run_record.proofs.Steps.{some_from_and_then}

-- as many letters as picks
many : (target : Address) (mail : Sender → List TypedValue) (before picks : List Sender) (letters : List Letter) → picked_behind target before mail picks ≡ Some letters → length letters ≡ length picks
many target mail before [] letters h = let e : [] ≡ letters = cc in ap length (sym e)
many target mail before (pick ∷ picks) letters h =
    let got = some_from_and_then (λ argument. option_and_then (λ others. Some (letter_of pick target argument ∷ others)) (picked_behind target (before ++ pick ∷ []) mail picks)) (slice_get (mail pick) (count_by (same_sender pick) before)) letters h in
    let gave = some_from_and_then (λ others. Some (letter_of pick target got.0 ∷ others)) (picked_behind target (before ++ pick ∷ []) mail picks) letters got.2 in
    let e : letter_of pick target got.0 ∷ gave.0 ≡ letters = cc in
    ap length (sym e) ∙ ap suc (many target mail (before ++ pick ∷ []) picks gave.0 gave.1)

module _ (m : Module) (cells : List Cell) (mail : Sender → List TypedValue) (address : Address) (moment : ℕ) (picks : List Sender) where
  abbrev pub within : Endpoint → List Letter → Option ToFunction
  within endpoint letters = cond (is_within endpoint letters (request_of address cells moment letters)) (Some (request_of address cells moment letters)) None

  pub no_endpoint : None ≡ endpoint_of m address.kind → false ≡ is_some (request_of_picks m cells mail address moment picks)
  unfolding request_of_picks
  no_endpoint none = λ i. is_some (option_and_then (λ endpoint. option_and_then (λ letters. within endpoint letters) (picked address mail picks)) (none i))

  with_endpoint : (endpoint : Endpoint) → Some endpoint ≡ endpoint_of m address.kind → option_and_then (within endpoint) (picked address mail picks) ≡ request_of_picks m cells mail address moment picks
  unfolding request_of_picks
  with_endpoint endpoint there = λ i. option_and_then (λ endpoint. option_and_then (λ letters. within endpoint letters) (picked address mail picks)) (there i)

  by_letters : (o : Option (List Letter)) (b : Bool) (endpoint : Endpoint) → ((letters : List Letter) → o ≡ Some letters → b ≡ is_within endpoint letters (request_of address cells moment letters)) → (o ≡ None → b ≡ false) → b ≡ is_some (option_and_then (within endpoint) o)
  by_letters None b endpoint some none = none refl
  by_letters (Some letters) b endpoint some none = some letters refl ∙ go (is_within endpoint letters (request_of address cells moment letters))
    where
      go : (t : Bool) → t ≡ is_some (cond t (Some (request_of address cells moment letters)) None)
      go true = refl
      go false = refl

  -- too few or too many letters
  pub wrong_count : (endpoint : Endpoint) → Some endpoint ≡ endpoint_of m address.kind → (nat_lt 0 (length picks) && nat_le (length picks) endpoint.max_letters) ≡ false → false ≡ is_some (request_of_picks m cells mail address moment picks)
  unfolding picked
  wrong_count endpoint there wrong =
      by_letters (picked address mail picks) false endpoint
      (λ letters e. sym (ap (λ n. (nat_lt 0 n && nat_le n endpoint.max_letters) && nat_le (length (to_spelling (request_of address cells moment letters))) endpoint.max_bytes) (many address mail [] picks letters e) ∙ ap (λ b. b && nat_le (length (to_spelling (request_of address cells moment letters))) endpoint.max_bytes) wrong))
      (λ e. refl)
      ∙ ap is_some (with_endpoint endpoint there)

  -- a letter is not there
  pub letter_missing : (endpoint : Endpoint) → Some endpoint ≡ endpoint_of m address.kind → None ≡ option_map (λ (letters : List Letter). capped (head_size address cells moment + records_size letters)) (picked address mail picks) → false ≡ is_some (request_of_picks m cells mail address moment picks)
  letter_missing endpoint there none = none_is (picked address mail picks) none ∙ ap is_some (with_endpoint endpoint there)
    where
      none_is : (o : Option (List Letter)) → None ≡ option_map (λ (letters : List Letter). capped (head_size address cells moment + records_size letters)) o → false ≡ is_some (option_and_then (within endpoint) o)
      none_is None e = refl
      none_is (Some letters) e = absurd cc

  -- the size decides
  pub by_size : (endpoint : Endpoint) (size : ℕ) (fits : Bool) → SizeIsOfParts → Some endpoint ≡ endpoint_of m address.kind → (nat_lt 0 (length picks) && nat_le (length picks) endpoint.max_letters) ≡ true
      → Some size ≡ option_map (λ (letters : List Letter). capped (head_size address cells moment + records_size letters)) (picked address mail picks)
      → ((records : ℕ) → size ≡ capped records → fits ≡ nat_le (enclosed records) endpoint.max_bytes)
      → fits ≡ is_some (request_of_picks m cells mail address moment picks)
  unfolding picked
  by_size endpoint size fits parts there count sized fit =
      by_letters (picked address mail picks) fits endpoint
      (λ letters e.
      fit (head_size address cells moment + records_size letters) (of_some size (capped (head_size address cells moment + records_size letters)) (sized ∙ ap (option_map (λ (letters : List Letter). capped (head_size address cells moment + records_size letters))) e))
      ∙ ap (λ n. nat_le n endpoint.max_bytes) (sym (parts address cells moment letters))
      ∙ sym (ap (λ n. (nat_lt 0 n && nat_le n endpoint.max_letters) && nat_le (length (to_spelling (request_of address cells moment letters))) endpoint.max_bytes) (many address mail [] picks letters e) ∙ ap (λ b. b && nat_le (length (to_spelling (request_of address cells moment letters))) endpoint.max_bytes) count))
      (λ e. absurd (not_none (sized ∙ ap (option_map (λ (letters : List Letter). capped (head_size address cells moment + records_size letters))) e)))
      ∙ ap is_some (with_endpoint endpoint there)
    where
      of_some : (a b : ℕ) → Some a ≡ Some b → a ≡ b
      of_some a b e = cc

      not_none : Some size ≡ None → ⊥
      not_none e = cc

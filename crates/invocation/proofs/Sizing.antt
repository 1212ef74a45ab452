-- How long the head of a request is, cell by cell.
use Rattle.std.proofs.Common.{◌≡◌, ◌∙◌, sym, ap, refl, ℕ, ◌+◌, ◌-◌, ◌^◌, ◌<◌, ◌≤◌, List, [], ◌∷◌, ◌++◌, length, map, min, take, slice_get, Some, arith, length-append, append-nil}
use Rattle.std.proofs.lemmas.Option.{slice_get_within, get_or_from_slice_get}
use Rattle.std.proofs.lemmas.List.{take_more, map_push}
use Rattle.proto_wire.specs.Record.{bytes_record}
use Rattle.proto_wire.specs.Message.{capped, spelling, spelled_message, spelled_messages}
use Rattle.typed_values.specs.Tables.{address_rows}
use Rattle.typed_values.specs.declared.address.Address.{Address}
use Rattle.typed_values.specs.declared.letter.Letter.{Letter}
use Rattle.typed_values.specs.declared.cells.Cell.{Cell}
use Rattle.request_reply.specs.declared.request.PersistedValue.{PersistedValue}
use Rattle.request_reply.specs.RequestTables.{persisted_value_rows}
use Rattle.request_reply.specs.Spelling.{to_spelling}
use Rattle.batch_queue.specs.declared.limits.Limits.{Limits}
use Rattle.batch_queue.specs.Batches.{request_size, IsBatch}
use Rattle.batch_queue.specs.Laws.{head_of}
use Rattle.batch_queue.proofs.Requests.{request_length, kept_limit}
use Rattle.invocation.specs.Requests.{shipped, batch_of, request_of, head_size}

joined : (a b c : ℕ) → a + (b + c) ≡ a + b + c
joined a b c = omega arith

values-length : (xs : List PersistedValue) (x : PersistedValue)
    → length (spelled_messages (spelling persisted_value_rows) 2 (xs ++ x ∷ [])) ≡ length (spelled_messages (spelling persisted_value_rows) 2 xs) + length (bytes_record 2 (spelling persisted_value_rows x))
unfolding spelled_messages
values-length [] x = let e : length (bytes_record 2 (spelling persisted_value_rows x) ++ []) ≡ length (bytes_record 2 (spelling persisted_value_rows x)) = ap length (append-nil (bytes_record 2 (spelling persisted_value_rows x))) in omega (arith, e)
values-length (y ∷ ys) x =
    let own = bytes_record 2 (spelling persisted_value_rows y) in
    let rest = spelled_messages (spelling persisted_value_rows) 2 ys in
    length-append own (spelled_messages (spelling persisted_value_rows) 2 (ys ++ x ∷ [])) ∙ ap (λ n. length own + n) (values-length ys x)
    ∙ joined (length own) (length rest) (length (bytes_record 2 (spelling persisted_value_rows x)))
    ∙ ap (λ n. n + length (bytes_record 2 (spelling persisted_value_rows x))) (sym (length-append own rest))

-- without cells
pub head-none : (address : Address) (moment : ℕ) → head_size address [] moment ≡ length (bytes_record 1 (spelling address_rows address))
unfolding head_size spelled_message spelled_messages
head-none address moment = ap length (append-nil (bytes_record 1 (spelling address_rows address)))

-- with one cell more
pub head-more : (address : Address) (cells : List Cell) (cell : Cell) (moment : ℕ)
    → head_size address (cells ++ cell ∷ []) moment ≡ head_size address cells moment + length (bytes_record 2 (spelling persisted_value_rows (shipped moment cell)))
unfolding head_size
head-more address cells cell moment =
    let front = spelled_message (spelling address_rows) 1 (batch_of address cells moment []).target in
    length-append front (spelled_messages (spelling persisted_value_rows) 2 (map (shipped moment) (cells ++ cell ∷ [])))
    ∙ ap (λ n. length front + n) (ap (λ xs. length (spelled_messages (spelling persisted_value_rows) 2 xs)) (one-behind cells) ∙ values-length (map (shipped moment) cells) (shipped moment cell))
    ∙ joined (length front) (length (spelled_messages (spelling persisted_value_rows) 2 (map (shipped moment) cells))) (length (bytes_record 2 (spelling persisted_value_rows (shipped moment cell))))
    ∙ ap (λ n. n + length (bytes_record 2 (spelling persisted_value_rows (shipped moment cell)))) (sym (length-append front (spelled_messages (spelling persisted_value_rows) 2 (map (shipped moment) cells))))
  where
    one-behind : (cells : List Cell) → map (shipped moment) (cells ++ cell ∷ []) ≡ map (shipped moment) cells ++ shipped moment cell ∷ []
    one-behind [] = refl
    one-behind (x ∷ xs) = ap (λ others. shipped moment x ∷ others) (one-behind xs)

-- the letters do not count for the head
pub request-parts : (address : Address) (cells : List Cell) (moment : ℕ) (letters : List Letter)
    → length (to_spelling (request_of address cells moment letters)) ≡ request_size (head_size address cells moment) letters
unfolding request_of head_size
request-parts address cells moment letters = request_length (batch_of address cells moment letters) letters refl

pub request-kept : (address : Address) (cells : List Cell) (moment : ℕ) (limits : Limits) (waiting letters : List Letter) → limits.max_bytes < 2 ^ 64
    → limits.head_bytes ≡ capped (head_size address cells moment) → IsBatch limits waiting letters → length (to_spelling (request_of address cells moment letters)) ≤ limits.max_bytes
unfolding request_of head_size
request-kept address cells moment limits waiting letters small head batch = kept_limit limits waiting letters (batch_of address cells moment letters) small head batch refl

-- the element at a place stands behind those before it
pub taken-more : {A : Type 0} (xs : List A) (place : ℕ) (x : A) → slice_get xs place ≡ Some x → take (place + 1) xs ≡ take place xs ++ x ∷ []
taken-more xs place x e = take_more xs place x (slice_get_within xs place x e) ∙ ap (λ y. take place xs ++ y ∷ []) (get_or_from_slice_get xs place x x e)

pub state-more : (moment : ℕ) (cells : List Cell) (place : ℕ) (cell : Cell) → slice_get cells place ≡ Some cell
    → map (shipped moment) (take (place + 1) cells) ≡ map (shipped moment) (take place cells) ++ shipped moment cell ∷ []
state-more moment cells place cell e = ap (map (shipped moment)) (taken-more cells place cell e) ∙ map_push (shipped moment) (take place cells) cell

pub size-more : (address : Address) (cells : List Cell) (moment place : ℕ) (cell : Cell) (size : ℕ) → slice_get cells place ≡ Some cell
    → size ≡ capped (head_size address (take place cells) moment)
    → min (size + capped (length (bytes_record 2 (spelling persisted_value_rows (shipped moment cell))))) (2 ^ 64 - 1) ≡ capped (head_size address (take (place + 1) cells) moment)
size-more address cells moment place cell size e is =
    let more : head_size address (take (place + 1) cells) moment ≡ head_size address (take place cells) moment + length (bytes_record 2 (spelling persisted_value_rows (shipped moment cell))) =
    ap (λ xs. head_size address xs moment) (taken-more cells place cell e) ∙ head-more address (take place cells) cell moment in
    omega (arith, more, is)

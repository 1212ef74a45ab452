-- An answer has no more elements than bytes.
use Rattle.std.proofs.Common.{◌≡◌, ℕ, zero, suc, ◌+◌, ◌-◌, ◌%◌, ◌≤◌, ◌<◌, ◌^◌, Bool, true, false, cond, ltb, eqb, List, [], ◌∷◌, ◌++◌, length, take, drop, Option, Some, None, Result, Ok, Err, arith, length-append, refl, sym, ap, subst, ◌∙◌}
use Rattle.std.specs.Int.{Width, w32, w64, byte_len}
use Rattle.proto_wire.specs.declared.fault.WireFault.{WireFault}
use Rattle.proto_wire.specs.Varint.{ItemFault, ◌>>=◌, varint_in, fault}
use Rattle.proto_wire.specs.declared.fault.WireKind.TheVariants.{Truncated}
use Rattle.proto_wire.specs.Record.{Item, item, tag_in, fixed_in, delimited_in, number_in, payload_in, record_in}
use Rattle.proto_wire.specs.Places.{located, present}
use Rattle.proto_wire.specs.Message.{Row, accepted, before, belongs, value_in, joined, appended}
use Rattle.proto_wire.proofs.Scans.{Leaves, fronts-length, varint_in-leaves, tag_in-leaves, value_in-end, value_in-step, value_in-broken}
use Rattle.request_reply.specs.declared.answer.InvocationResponse.{InvocationResponse}
use Rattle.request_reply.specs.declared.answer.IncompleteInvocationContext.{IncompleteInvocationContext}
use Rattle.request_reply.specs.declared.answer.FromFunction.{FromFunction}
use Rattle.request_reply.specs.declared.answer.FromFunction.TheVariants as answers
use Rattle.request_reply.specs.declared.whole.FromRead.{FromRead}
use Rattle.request_reply.specs.AnswerTables.{response_rows, empty_response, context_rows, empty_context}
use Rattle.request_reply.specs.Oneofs.{from_rows, no_answer, response_of, context_of}
use Rattle.request_reply.specs.Spelling.{from_value}

-- ---- a record's payload is a part of its bytes

-- what was read holds no more than the bytes before what is left
abbrev Holds : List ℕ → Result (Item × List ℕ) ItemFault → Type 0
Holds bytes (Ok read) = length read.0.payload + length read.1 ≤ length bytes
Holds bytes (Err e) = Unit {0}

Holds-cond : (bytes : List ℕ) (b : Bool) (r s : Result (Item × List ℕ) ItemFault) → Holds bytes r → Holds bytes s → Holds bytes (cond b r s)
Holds-cond bytes true r s h k = h
Holds-cond bytes false r s h k = k

split-at : (n : ℕ) (bytes : List ℕ) → length (take n bytes) + length (drop n bytes) ≤ length bytes
split-at zero bytes = omega arith
split-at (suc n) [] = omega arith
split-at (suc n) (b ∷ bytes) = let h : length (take n bytes) + length (drop n bytes) ≤ length bytes = split-at n bytes in omega arith

fixed-holds : (w : Width) (tag : ℕ) (bytes : List ℕ) → Holds bytes (fixed_in w tag bytes)
unfolding fixed_in
fixed-holds w tag bytes = Holds-cond bytes (ltb (length bytes) (byte_len w)) _ _ tt (split-at (byte_len w) bytes)

taken-short : (n : ℕ) (bytes : List ℕ) → length (take n bytes) ≤ n
taken-short zero bytes = omega arith
taken-short (suc n) [] = omega arith
taken-short (suc n) (b ∷ bytes) = let h : length (take n bytes) ≤ n = taken-short n bytes in omega arith

number-holds : (tag : ℕ) (bytes : List ℕ) → Holds bytes (number_in tag bytes)
unfolding number_in
number-holds tag bytes = read (varint_in bytes) (varint_in-leaves bytes)
  where
    read : (r : Result (ℕ × List ℕ) ItemFault) → Leaves 1 bytes r → Holds bytes (r >>= λ number. Ok (item tag number.0 (length bytes - length number.1) bytes number.1))
    read (Ok number) h = let len = fronts-length h in let some = h.some in let few : length (take (length bytes - length number.1) bytes) ≤ length bytes - length number.1 = taken-short (length bytes - length number.1) bytes in omega arith
    read (Err e) h = tt

delimited-holds : (tag : ℕ) (bytes : List ℕ) → Holds bytes (delimited_in tag bytes)
unfolding delimited_in
delimited-holds tag bytes = read (varint_in bytes) (varint_in-leaves bytes)
  where
    inside : (len : ℕ × List ℕ) → length len.1 < length bytes → length (take len.0 len.1) + length (drop len.0 len.1) ≤ length bytes
    inside len h = let parts : length (take len.0 len.1) + length (drop len.0 len.1) ≤ length len.1 = split-at len.0 len.1 in omega arith

    read : (r : Result (ℕ × List ℕ) ItemFault) → Leaves 1 bytes r
        → Holds bytes (r >>= λ len. cond (ltb (length len.1) len.0) (fault Truncated bytes) (Ok (item tag len.0 len.0 len.1 (drop len.0 len.1))))
    read (Ok len) h = let is = fronts-length h in let some = h.some in Holds-cond bytes (ltb (length len.1) len.0) _ _ tt (inside len (omega arith))
    read (Err e) h = tt

payload-holds : (tag : ℕ) (bytes : List ℕ) → Holds bytes (payload_in tag bytes)
unfolding payload_in
payload-holds tag bytes =
    Holds-cond bytes (eqb (tag % 8) 0) _ _ (number-holds tag bytes)
    (Holds-cond bytes (eqb (tag % 8) 1) _ _ (fixed-holds w64 tag bytes)
    (Holds-cond bytes (eqb (tag % 8) 2) _ _ (delimited-holds tag bytes) (fixed-holds w32 tag bytes)))

-- the tag takes a byte at least
record-holds : (bytes : List ℕ) (read : Item × List ℕ) → record_in bytes ≡ Ok read → length read.0.payload + length read.1 + 1 ≤ length bytes
unfolding record_in
record-holds bytes read e = by_tag (tag_in bytes) (tag_in-leaves bytes) e
  where
    by_payload : (rest : List ℕ) (r : Result (Item × List ℕ) ItemFault) → length rest < length bytes → Holds rest r → r ≡ Ok read → length read.0.payload + length read.1 + 1 ≤ length bytes
    by_payload rest (Ok own) shorter h e = let P = λ (r : Result (Item × List ℕ) ItemFault). Holds rest r in let k : length read.0.payload + length read.1 ≤ length rest = subst P e h in omega arith
    by_payload rest (Err f) shorter h e = absurd cc

    by_tag : (r : Result (ℕ × List ℕ) ItemFault) → Leaves 1 bytes r → (r >>= λ tag. payload_in tag.0 tag.1) ≡ Ok read → length read.0.payload + length read.1 + 1 ≤ length bytes
    by_tag (Ok tag) leaves e = let is = fronts-length leaves in let some = leaves.some in by_payload tag.1 (payload_in tag.0 tag.1) (omega arith) (payload-holds tag.0 tag.1) e
    by_tag (Err f) shorter e = absurd cc

-- ---- a count that a record raises by no more than its payload and one

ended : {M : Type 0} (count : M → ℕ) (value last : M) (r : Result M ItemFault) → r ≡ Ok value → r ≡ Ok last → count last ≤ count value + 0
ended count value last r h e = let same : value ≡ last = cc in rw (← same) (omega arith)

counted : {M : Type 0} (rows : List (Row M)) (count : M → ℕ)
    → ((value next : M) (item : Item) → accepted rows value item ≡ Ok next → count next ≤ count value + length item.payload + 1)
    → (most : ℕ) (bytes : List ℕ) (value last : M) → length bytes ≤ most → value_in rows value bytes ≡ Ok last → count last ≤ count value + length bytes
counted rows count raises most [] value last short e = ended count value last (value_in rows value []) (value_in-end rows value [] refl) e
counted rows count raises zero (b ∷ bytes) value last short e = absurd (omega arith)
counted {M} rows count raises (suc most) (b ∷ bytes) value last short e = by_record (record_in (b ∷ bytes)) refl (λ rest next small e. counted rows count raises most rest next last small e)
  where
    by_next : (read : Item × List ℕ) (r : Result M ItemFault) → length read.0.payload + length read.1 + 1 ≤ length (b ∷ bytes)
        → ((rest : List ℕ) (next : M) → length rest ≤ most → value_in rows next rest ≡ Ok last → count last ≤ count next + length rest)
        → accepted rows value read.0 ≡ r → (before (length read.1) r >>= λ next. value_in rows next read.1) ≡ Ok last → count last ≤ count value + length (b ∷ bytes)
    by_next read (Ok next) holds later is e =
        let one : count next ≤ count value + length read.0.payload + 1 = raises value next read.0 is in
        let more : count last ≤ count next + length read.1 = later read.1 next (omega arith) e in
        omega arith
    by_next read (Err f) holds later is e = absurd cc

    by_record : (r : Result (Item × List ℕ) ItemFault) → record_in (b ∷ bytes) ≡ r
        → ((rest : List ℕ) (next : M) → length rest ≤ most → value_in rows next rest ≡ Ok last → count last ≤ count next + length rest) → count last ≤ count value + length (b ∷ bytes)
    by_record (Ok read) is later = by_next read (accepted rows value read.0) (record-holds (b ∷ bytes) read is) later refl (sym (value_in-step rows value (b ∷ bytes) read (omega arith) is) ∙ e)
    by_record (Err f) is later = let broken : value_in rows value (b ∷ bytes) ≡ Err f = value_in-broken rows value (b ∷ bytes) f (omega arith) is in absurd cc

-- one of two, whichever the condition takes
either : {M : Type 0} (P : Type 0) (b : Bool) (r s : Result M ItemFault) (next : M) → (r ≡ Ok next → P) → (s ≡ Ok next → P) → cond b r s ≡ Ok next → P
either P true r s next h k e = h e
either P false r s next h k e = k e

-- ---- the elements of a message with lists

-- a record that enters a list adds one element to it
one-more : {M N : Type 0} (count : M → ℕ) (blank : N) (rows : List (Row N)) (values : List N) (item : Item) (put : List N → M) (value next : M)
    → ((x : N) → count (put (values ++ x ∷ [])) ≤ count value + 1)
    → (appended blank rows values item >>= λ xs. Ok (put xs)) ≡ Ok next → count next ≤ count value + length item.payload + 1
unfolding appended
one-more {M} {N} count blank rows values item put value next few e = entered (value_in rows blank item.payload) e
  where
    entered : (r : Result N ItemFault) → ((r >>= λ x. Ok (values ++ x ∷ [])) >>= λ xs. Ok (put xs)) ≡ Ok next → count next ≤ count value + length item.payload + 1
    entered (Ok x) e = let same : put (values ++ x ∷ []) ≡ next = cc in let k : count (put (values ++ x ∷ [])) ≤ count value + 1 = few x in rw (← same) (omega arith)
    entered (Err f) e = absurd cc

abbrev pub result-count : InvocationResponse → ℕ
result-count response =
    length response.state_mutations + length response.outgoing_messages + length response.delayed_invocations + length response.outgoing_egresses

result-raises : (value next : InvocationResponse) (item : Item) → accepted response_rows value item ≡ Ok next → result-count next ≤ result-count value + length item.payload + 1
unfolding response_rows
result-raises value next item e =
    either Few (belongs 1 2 item) _ _ next (λ e. one-more result-count _ _ value.state_mutations item (λ xs. record value { state_mutations = xs }) value next (λ x. simp length-append (omega arith)) e)
    (λ e. either Few (belongs 2 2 item) _ _ next (λ e. one-more result-count _ _ value.outgoing_messages item (λ xs. record value { outgoing_messages = xs }) value next (λ x. simp length-append (omega arith)) e)
    (λ e. either Few (belongs 3 2 item) _ _ next (λ e. one-more result-count _ _ value.delayed_invocations item (λ xs. record value { delayed_invocations = xs }) value next (λ x. simp length-append (omega arith)) e)
    (λ e. either Few (belongs 4 2 item) _ _ next (λ e. one-more result-count _ _ value.outgoing_egresses item (λ xs. record value { outgoing_egresses = xs }) value next (λ x. simp length-append (omega arith)) e)
    (λ e. let same : value ≡ next = cc in rw (← same) (omega arith)) e) e) e) e
  where
    Few : Type 0
    Few = result-count next ≤ result-count value + length item.payload + 1

abbrev pub context-count : IncompleteInvocationContext → ℕ
context-count context = length context.missing_values

context-raises : (value next : IncompleteInvocationContext) (item : Item) → accepted context_rows value item ≡ Ok next → context-count next ≤ context-count value + length item.payload + 1
unfolding context_rows
context-raises value next item e =
    either Few (belongs 1 2 item) _ _ next (λ e. one-more context-count _ _ value.missing_values item (λ xs. record value { missing_values = xs }) value next (λ x. simp length-append (omega arith)) e)
    (λ e. let same : value ≡ next = cc in rw (← same) (omega arith)) e
  where
    Few : Type 0
    Few = context-count next ≤ context-count value + length item.payload + 1

-- ---- those of an answer

abbrev answer-count : Option FromFunction → ℕ
answer-count None = 0
answer-count (Some (answers.Result response)) = result-count response
answer-count (Some (answers.Incomplete context)) = context-count context

-- a message goes on from one that counts no more than the member, with the payload in it
goes-on : {N : Type 0} (count : N → ℕ) (rows : List (Row N)) (wrap : N → FromFunction)
    → ((value next : N) (item : Item) → accepted rows value item ≡ Ok next → count next ≤ count value + length item.payload + 1)
    → ((x : N) → answer-count (Some (wrap x)) ≡ count x)
    → (value : N) (member : Option FromFunction) → count value ≤ answer-count member
    → (next : FromRead) (item : Item) → (value_in rows value item.payload >>= λ x. Ok (record { member = Some (wrap x) })) ≡ Ok next
    → answer-count next.member ≤ answer-count member + length item.payload + 1
goes-on {N} count rows wrap raises counts value member below next item e = by_read (value_in rows value item.payload) refl e
  where
    by_read : (r : Result N ItemFault) → value_in rows value item.payload ≡ r → (r >>= λ x. Ok (record { member = Some (wrap x) })) ≡ Ok next
        → answer-count next.member ≤ answer-count member + length item.payload + 1
    by_read (Ok x) is e =
        let same : record { member = Some (wrap x) } ≡ next = cc in
        let k : count x ≤ count value + length item.payload = counted rows count raises (length item.payload) item.payload value x (omega arith) is in
        let own : answer-count (Some (wrap x)) ≡ count x = counts x in
        rw (← same) (omega arith)
    by_read (Err f) is e = absurd cc

answer-raises : (value next : FromRead) (item : Item) → accepted from_rows value item ≡ Ok next → answer-count next.member ≤ answer-count value.member + length item.payload + 1
unfolding from_rows empty_response empty_context response_of context_of joined
answer-raises value next item e =
    either Few (belongs 100 2 item) _ _ next (λ e. as_result value.member e)
    (λ e. either Few (belongs 101 2 item) _ _ next (λ e. as_context value.member e)
    (λ e. let same : value ≡ next = cc in rw (← same) (omega arith)) e) e
  where
    Few : Type 0
    Few = answer-count next.member ≤ answer-count value.member + length item.payload + 1

    result-on : (value : InvocationResponse) (member : Option FromFunction) → result-count value ≤ answer-count member
        → (value_in response_rows value item.payload >>= λ x. Ok (record { member = Some (answers.Result x) })) ≡ Ok next → answer-count next.member ≤ answer-count member + length item.payload + 1
    result-on value member below e = goes-on result-count response_rows answers.Result result-raises (λ x. refl) value member below next item e

    context-on : (value : IncompleteInvocationContext) (member : Option FromFunction) → context-count value ≤ answer-count member
        → (value_in context_rows value item.payload >>= λ x. Ok (record { member = Some (answers.Incomplete x) })) ≡ Ok next → answer-count next.member ≤ answer-count member + length item.payload + 1
    context-on value member below e = goes-on context-count context_rows answers.Incomplete context-raises (λ x. refl) value member below next item e

    as_result : (member : Option FromFunction) → (joined empty_response response_rows (response_of member) item >>= λ x. Ok (record { member = Some (answers.Result x) })) ≡ Ok next
        → answer-count next.member ≤ answer-count member + length item.payload + 1
    as_result None e = result-on empty_response None (omega arith) e
    as_result (Some (answers.Result response)) e = result-on response (Some (answers.Result response)) (omega arith) e
    as_result (Some (answers.Incomplete context)) e = result-on empty_response (Some (answers.Incomplete context)) (omega arith) e

    as_context : (member : Option FromFunction) → (joined empty_context context_rows (context_of member) item >>= λ x. Ok (record { member = Some (answers.Incomplete x) })) ≡ Ok next
        → answer-count next.member ≤ answer-count member + length item.payload + 1
    as_context None e = context-on empty_context None (omega arith) e
    as_context (Some (answers.Result response)) e = context-on empty_context (Some (answers.Result response)) (omega arith) e
    as_context (Some (answers.Incomplete context)) e = context-on context (Some (answers.Incomplete context)) (omega arith) e

-- so a short answer has few of them
elements-few : (bytes : List ℕ) (answer : FromFunction) → from_value bytes ≡ Ok answer → length bytes ≤ 4194304 → answer-count (Some answer) ≤ 4194304
unfolding from_value no_answer
elements-few bytes answer e short = by_read (value_in from_rows no_answer bytes) refl e
  where
    by_read : (r : Result FromRead ItemFault) → value_in from_rows no_answer bytes ≡ r → (located (length bytes) r >>= λ read. present (length bytes) read.member) ≡ Ok answer → answer-count (Some answer) ≤ 4194304
    by_read (Ok read) is e = by_member read.member refl e
      where
        by_member : (member : Option FromFunction) → read.member ≡ member → present (length bytes) member ≡ Ok answer → answer-count (Some answer) ≤ 4194304
        by_member None m e = absurd cc
        by_member (Some own) m e =
            let same : own ≡ answer = cc in
            let few : answer-count read.member ≤ answer-count no_answer.member + length bytes = counted from_rows (λ read. answer-count read.member) answer-raises (length bytes) bytes no_answer read (omega arith) is in
            let is_own : answer-count read.member ≡ answer-count (Some answer) = ap answer-count (m ∙ ap Some same) in
            omega arith
    by_read (Err f) is e = absurd cc

pub result-few : (bytes : List ℕ) (response : InvocationResponse) → from_value bytes ≡ Ok (answers.Result response) → length bytes ≤ 4194304 → result-count response ≤ 4194304
result-few bytes response e short = elements-few bytes (answers.Result response) e short

pub context-few : (bytes : List ℕ) (context : IncompleteInvocationContext) → from_value bytes ≡ Ok (answers.Incomplete context) → length bytes ≤ 4194304 → context-count context ≤ 4194304
context-few bytes context e short = elements-few bytes (answers.Incomplete context) e short

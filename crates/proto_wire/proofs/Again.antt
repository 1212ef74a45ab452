-- What was written is read again.
use Rattle.std.proofs.Common.{◌≡◌, ℕ, zero, suc, ◌+◌, ◌-◌, ◌*◌, ◌/◌, ◌%◌, ◌^◌, ◌<◌, ◌≤◌, true, false, ltb, eqb, List, [], ◌∷◌, ◌++◌, length, take, drop, Ok, refl, ap, ◌∙◌, arith, append_assoc, length-append, inl, inr}
use Rattle.std.proofs.lemmas.Bool.Decides.{nat_tests}
use Rattle.std.proofs.lemmas.Bool.{cases_lt}
use Rattle.std.proofs.Math.Seq.{take-append_seam, drop-append_seam}
use Rattle.std.proofs.Math.Nat.{pow-suc}
use Rattle.std.specs.Int.{w32, w64, to_le_bytes, from_le_bytes}
use Rattle.std.proofs.lemmas.Nat.{from_le_bytes-to_le_bytes_4, from_le_bytes-to_le_bytes_8}
use Rattle.proto_wire.specs.Record.{Item, item, is_wire, tag_in, number_in, fixed_in, delimited_in, payload_in, record_in, number_record, bytes_record, four_record, eight_record}
use Rattle.proto_wire.specs.Varint.{groups, varint_in, groups_of, varint}

pub below : (n limit : ℕ) → n < limit → ltb n limit ≡ true
below n limit h = grind (arith, nat_tests)

pub not_below : (n limit : ℕ) → limit ≤ n → ltb n limit ≡ false
not_below n limit h = grind (arith, nat_tests)

pub same : (n m : ℕ) → n ≡ m → eqb n m ≡ true
same n m h = grind (arith, nat_tests)

pub not_same : (n m : ℕ) → (n ≡ m → ⊥) → eqb n m ≡ false
not_same n m h = grind (arith, nat_tests)

-- ---- varints

groups_of-last : (more number : ℕ) → number < 128 → groups_of more number ≡ number ∷ []
unfolding groups_of
groups_of-last zero number h = ap (λ (n : ℕ). n ∷ []) (omega arith)
groups_of-last (suc more) number h = rw (below number 128 h) refl

groups_of-more : (more number : ℕ) → 128 ≤ number → groups_of (suc more) number ≡ (number % 128 + 128) ∷ groups_of more (number / 128)
unfolding groups_of
groups_of-more more number h = rw (not_below number 128 h) refl

groups-last : (at more b : ℕ) (bytes : List ℕ) → b < 128 → groups at (suc more) (b ∷ bytes) ≡ Ok (b, bytes)
unfolding groups
groups-last at more b bytes h = rw (below b 128 h) refl

groups-more : (at more b : ℕ) (bytes : List ℕ) (high : ℕ × List ℕ) → 128 ≤ b → groups at more bytes ≡ Ok high → groups at (suc more) (b ∷ bytes) ≡ Ok ((b - 128 + 128 * high.0) % 2 ^ 64, high.1)
unfolding groups
groups-more at more b bytes high h k = rw (not_below b 128 h, k) refl

joined_again : (number : ℕ) → number < 2 ^ 64 → ((number % 128 + 128) - 128 + 128 * (number / 128)) % 2 ^ 64 ≡ number
joined_again number h = omega arith

groups-again : (at more number : ℕ) (rest : List ℕ) → number < 128 ^ suc more → number < 2 ^ 64 → groups at (suc more) (groups_of more number ++ rest) ≡ Ok (number, rest)
groups-again at zero number rest h k = let small : number < 128 = omega arith in ap (λ (s : List ℕ). groups at 1 (s ++ rest)) (groups_of-last 0 number small) ∙ groups-last at 0 number rest small
groups-again at (suc more) number rest h k =
    elim (cases_lt number 128) [
      | inl small ↦ ap (λ (s : List ℕ). groups at (suc (suc more)) (s ++ rest)) (groups_of-last (suc more) number small) ∙ groups-last at (suc more) number rest small
      | inr large ↦
          let power : 128 ^ suc (suc more) ≡ 128 ^ suc more * 128 = pow-suc 128 (suc more) in
          let high : number / 128 < 128 ^ suc more = omega arith in
          let deeper = groups-again at more (number / 128) rest high (omega arith) in
          ap (λ (s : List ℕ). groups at (suc (suc more)) (s ++ rest)) (groups_of-more more number large)
          ∙ groups-more at (suc more) (number % 128 + 128) (groups_of more (number / 128) ++ rest) (number / 128, rest) (omega arith) deeper
          ∙ ap (λ (n : ℕ). Ok (n, rest)) (joined_again number k)
    ]

pub varint-again : (number : ℕ) (rest : List ℕ) → number < 2 ^ 64 → varint_in (varint number ++ rest) ≡ Ok (number, rest)
unfolding varint_in varint
varint-again number rest h = groups-again (length (groups_of 9 number ++ rest)) 9 number rest (omega arith) h

-- ---- records

-- a field number and a wire type
abbrev pub IsTag : ℕ → ℕ → Type 0
IsTag field wire = (1 ≤ field) × (field < 2 ^ 29) × (is_wire wire ≡ true) × (wire < 8)

tag-checked : (bytes : List ℕ) (tag : ℕ × List ℕ) → tag.0 < 2 ^ 32 → 8 ≤ tag.0 → is_wire (tag.0 % 8) ≡ true → varint_in bytes ≡ Ok tag → tag_in bytes ≡ Ok tag
unfolding tag_in
tag-checked bytes tag low high known read = rw (read, below tag.0 (2 ^ 32) low, not_below tag.0 8 high, known) refl

tag-again : (field wire : ℕ) (rest : List ℕ) → IsTag field wire → tag_in (varint (8 * field + wire) ++ rest) ≡ Ok (8 * field + wire, rest)
tag-again field wire rest h =
    let kept : (8 * field + wire) % 8 ≡ wire = omega arith in
    tag-checked (varint (8 * field + wire) ++ rest) (8 * field + wire, rest) (omega arith) (omega arith) (rw kept h.2) (varint-again (8 * field + wire) rest (omega arith))

record-by : (bytes : List ℕ) (tag : ℕ × List ℕ) (read : Item × List ℕ) → tag_in bytes ≡ Ok tag → payload_in tag.0 tag.1 ≡ Ok read → record_in bytes ≡ Ok read
unfolding record_in
record-by bytes tag read h k = rw (h, k) refl

-- the record that a number's spelling is
abbrev pub number_item : ℕ → ℕ → Item
number_item field number = record { field = field; wire = 0; number = number; payload = varint number }

-- the record that the spelling of bytes is
abbrev pub bytes_item : ℕ → List ℕ → Item
bytes_item field payload = record { field = field; wire = 2; number = length payload; payload = payload }

number-by : (tag number : ℕ) (bytes rest : List ℕ) → tag % 8 ≡ 0 → varint_in bytes ≡ Ok (number, rest) → payload_in tag bytes ≡ Ok (item tag number (length bytes - length rest) bytes rest)
unfolding payload_in number_in
number-by tag number bytes rest h k = rw (same (tag % 8) 0 h, k) refl

delimited-by : (tag len : ℕ) (bytes rest : List ℕ) → tag % 8 ≡ 2 → varint_in bytes ≡ Ok (len, rest) → len ≤ length rest → payload_in tag bytes ≡ Ok (item tag len len rest (drop len rest))
unfolding payload_in delimited_in
delimited-by tag len bytes rest h k le =
    rw (not_same (tag % 8) 0 (λ e. omega arith), not_same (tag % 8) 1 (λ e. omega arith), same (tag % 8) 2 h, k, not_below (length rest) len le) refl

abbrev pub pair : Item → List ℕ → Item × List ℕ
pair it rest = (it, rest)

item_is : (a b c : ℕ) (field wire number : ℕ) (p q : List ℕ) (rest : List ℕ) → a ≡ field → b ≡ wire → c ≡ number → p ≡ q
    → pair (record { field = a; wire = b; number = c; payload = p }) rest ≡ pair (record { field = field; wire = wire; number = number; payload = q }) rest
item_is a b c field wire number p q rest h k l m = rw (h, k, l, m) refl

pub number_record-again : (field number : ℕ) (rest : List ℕ) → IsTag field 0 → number < 2 ^ 64 → record_in (number_record field number ++ rest) ≡ Ok (number_item field number, rest)
number_record-again field number rest h k =
    let tag : ℕ = 8 * field + 0 in
    let behind : List ℕ = varint number ++ rest in
    let front : number_record field number ++ rest ≡ varint tag ++ behind = ap (λ (t : ℕ). (varint t ++ varint number) ++ rest) (omega arith) ∙ append_assoc (varint tag) (varint number) rest in
    let payload = number-by tag number behind rest (omega arith) (varint-again number rest k) in
    let len : length behind - length rest ≡ length (varint number) = omega (arith, length-append (varint number) rest) in
    let taken : take (length behind - length rest) behind ≡ varint number = ap (λ (n : ℕ). take n behind) len ∙ take-append_seam (varint number) rest in
    ap record_in front
    ∙ record-by (varint tag ++ behind) (tag, behind) _ (tag-again field 0 behind h) payload
    ∙ ap Ok (item_is (tag / 8) (tag % 8) number field 0 number (take (length behind - length rest) behind) (varint number) rest (omega arith) (omega arith) refl taken)

pub bytes_record-again : (field : ℕ) (payload rest : List ℕ) → IsTag field 2 → length payload < 2 ^ 64 → record_in (bytes_record field payload ++ rest) ≡ Ok (bytes_item field payload, rest)
bytes_record-again field payload rest h k =
    let tag : ℕ = 8 * field + 2 in
    let len : ℕ = length payload in
    let behind : List ℕ = varint len ++ (payload ++ rest) in
    let front : bytes_record field payload ++ rest ≡ varint tag ++ behind = simp append_assoc in
    let enough : len ≤ length (payload ++ rest) = omega (arith, length-append payload rest) in
    let read = delimited-by tag len behind (payload ++ rest) (omega arith) (varint-again len (payload ++ rest) k) enough in
    let left : drop len (payload ++ rest) ≡ rest = drop-append_seam payload rest in
    let taken : take len (payload ++ rest) ≡ payload = take-append_seam payload rest in
    ap record_in front
    ∙ record-by (varint tag ++ behind) (tag, behind) _ (tag-again field 2 behind h) read
    ∙ ap (λ (r : List ℕ). Ok (item tag len len (payload ++ rest) r)) left
    ∙ ap Ok (item_is (tag / 8) (tag % 8) len field 2 len (take len (payload ++ rest)) payload rest (omega arith) (omega arith) refl taken)

-- ---- numbers of four and eight bytes

abbrev pub four_item : ℕ → ℕ → Item
four_item field number = record { field = field; wire = 5; number = number; payload = to_le_bytes w32 number }

abbrev pub eight_item : ℕ → ℕ → Item
eight_item field number = record { field = field; wire = 1; number = number; payload = to_le_bytes w64 number }

four-by : (tag number : ℕ) (rest : List ℕ) → tag % 8 ≡ 5 → payload_in tag (to_le_bytes w32 number ++ rest) ≡ Ok (item tag (from_le_bytes w32 (to_le_bytes w32 number)) 4 (to_le_bytes w32 number ++ rest) rest)
unfolding payload_in fixed_in
four-by tag number rest h =
    rw (not_same (tag % 8) 0 (λ e. omega arith), not_same (tag % 8) 1 (λ e. omega arith), not_same (tag % 8) 2 (λ e. omega arith), not_below (length (to_le_bytes w32 number ++ rest)) 4 (omega arith)) refl

eight-by : (tag number : ℕ) (rest : List ℕ) → tag % 8 ≡ 1 → payload_in tag (to_le_bytes w64 number ++ rest) ≡ Ok (item tag (from_le_bytes w64 (to_le_bytes w64 number)) 8 (to_le_bytes w64 number ++ rest) rest)
unfolding payload_in fixed_in
eight-by tag number rest h =
    rw (not_same (tag % 8) 0 (λ e. omega arith), same (tag % 8) 1 h, not_below (length (to_le_bytes w64 number ++ rest)) 8 (omega arith)) refl

pub four_record-again : (field number : ℕ) (rest : List ℕ) → IsTag field 5 → number < 2 ^ 32 → record_in (four_record field number ++ rest) ≡ Ok (four_item field number, rest)
four_record-again field number rest h k =
    let tag : ℕ = 8 * field + 5 in
    let behind : List ℕ = to_le_bytes w32 number ++ rest in
    ap record_in (append_assoc (varint tag) (to_le_bytes w32 number) rest)
    ∙ record-by (varint tag ++ behind) (tag, behind) _ (tag-again field 5 behind h) (four-by tag number rest (omega arith))
    ∙ ap Ok (item_is (tag / 8) (tag % 8) (from_le_bytes w32 (to_le_bytes w32 number)) field 5 number (to_le_bytes w32 number) (to_le_bytes w32 number) rest (omega arith) (omega arith) (from_le_bytes-to_le_bytes_4 number k) refl)

pub eight_record-again : (field number : ℕ) (rest : List ℕ) → IsTag field 1 → number < 2 ^ 64 → record_in (eight_record field number ++ rest) ≡ Ok (eight_item field number, rest)
eight_record-again field number rest h k =
    let tag : ℕ = 8 * field + 1 in
    let behind : List ℕ = to_le_bytes w64 number ++ rest in
    ap record_in (append_assoc (varint tag) (to_le_bytes w64 number) rest)
    ∙ record-by (varint tag ++ behind) (tag, behind) _ (tag-again field 1 behind h) (eight-by tag number rest (omega arith))
    ∙ ap Ok (item_is (tag / 8) (tag % 8) (from_le_bytes w64 (to_le_bytes w64 number)) field 1 number (to_le_bytes w64 number) (to_le_bytes w64 number) rest (omega arith) (omega arith) (from_le_bytes-to_le_bytes_8 number k) refl)

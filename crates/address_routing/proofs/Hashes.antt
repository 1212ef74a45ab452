-- Hashes of joined bytes, and of an address part by part.
use Rattle.std.proofs.Common.{◌≡◌, ◌∙◌, ap, sym, refl, ℕ, List, [], ◌∷◌, ◌++◌, ◌*◌, ◌%◌, ◌^◌, ◌+◌, length, append-nil}
use Rattle.std.specs.Prelude.{bit_xor}
use Rattle.proto_wire.specs.Varint.{varint}
use Rattle.proto_wire.specs.Message.{spelled_bytes}
use Rattle.typed_values.specs.declared.address.Address.{Address}
use Rattle.typed_values.specs.Tables.{address_rows}
use Rattle.typed_values.specs.Spelling.{address_spelling}
use Rattle.address_routing.specs.Partitions.{fnv_1a, prime}

pub fnv_1a-append : (hash : ℕ) (front back : List ℕ) → fnv_1a hash (front ++ back) ≡ fnv_1a (fnv_1a hash front) back
fnv_1a-append hash [] back = refl
fnv_1a-append hash (byte ∷ front) back = fnv_1a-append (bit_xor hash byte * prime % 2 ^ 64) front back

-- a hash goes on through three parts
pub in_three : (hash : ℕ) (one two three : List ℕ) → fnv_1a hash (one ++ (two ++ three)) ≡ fnv_1a (fnv_1a (fnv_1a hash one) two) three
in_three hash one two three = fnv_1a-append hash one (two ++ three) ∙ fnv_1a-append (fnv_1a hash one) two three

pub spelled : (a : Address) → address_spelling a ≡ spelled_bytes 1 a.kind.namespace ++ (spelled_bytes 2 a.kind.name ++ spelled_bytes 3 a.id)
unfolding address_spelling address_rows
spelled a = ap (λ t. spelled_bytes 1 a.kind.namespace ++ (spelled_bytes 2 a.kind.name ++ t)) (append-nil (spelled_bytes 3 a.id))

-- a field that is not empty: its tag, its length, its bytes
pub field : (hash number : ℕ) (text : List ℕ) → (text ≡ [] → ⊥) → fnv_1a (fnv_1a (fnv_1a hash (varint (8 * number + 2))) (varint (length text))) text ≡ fnv_1a hash (spelled_bytes number text)
unfolding spelled_bytes
field hash number [] some = absurd (some refl)
field hash number (byte ∷ text) some =
    sym (fnv_1a-append hash (varint (8 * number + 2) ++ varint (length (byte ∷ text))) (byte ∷ text) ∙ ap (λ h. fnv_1a h (byte ∷ text)) (fnv_1a-append hash (varint (8 * number + 2)) (varint (length (byte ∷ text)))))

pub whole : (hash : ℕ) (a : Address) → fnv_1a (fnv_1a (fnv_1a hash (spelled_bytes 1 a.kind.namespace)) (spelled_bytes 2 a.kind.name)) (spelled_bytes 3 a.id) ≡ fnv_1a hash (address_spelling a)
whole hash a = sym (in_three hash (spelled_bytes 1 a.kind.namespace) (spelled_bytes 2 a.kind.name) (spelled_bytes 3 a.id)) ∙ sym (ap (fnv_1a hash) (spelled a))

-- Which partition an address belongs to.
use Rattle.std.specs.Prelude.{ℕ, ◌*◌, ◌/◌, ◌%◌, ◌^◌, List, [], ◌∷◌}
use Rattle.std.specs.Prelude.{bit_xor}
use Rattle.typed_values.specs.declared.address.Address.{Address}
use Rattle.typed_values.specs.Spelling.{address_spelling}

abbrev pub offset_basis : ℕ
offset_basis = 14695981039346656037

abbrev pub prime : ℕ
prime = 1099511628211

-- FNV-1a with 64 bits goes on from a hash: for each byte, xor, and then multiply (draft-eastlake-fnv, section 2)
abbrev pub fnv_1a : ℕ → List ℕ → ℕ
fnv_1a hash [] = hash
fnv_1a hash (byte ∷ bytes) = fnv_1a (bit_xor hash byte * prime % 2 ^ 64) bytes

-- one of 128 groups, by the hash of the canonical spelling
unfoldable pub key_group : Address → ℕ
key_group address = fnv_1a offset_basis (address_spelling address) % 128

-- partitions have neighbouring groups, as evenly as may be
abbrev pub partition_of : Address → ℕ → ℕ
partition_of address partitions = key_group address * partitions / 128

-- Records (Protocol Buffers encoding guide, "Message Structure"): a tag, which is a field and a wire type, and a payload.
use Rattle.std.specs.Prelude.{◌≤◌, ℕ, zero, suc, ◌+◌, ◌-◌, ◌*◌, ◌/◌, ◌%◌, ◌^◌, Bool, List, [], ◌∷◌, ◌++◌, length, take, drop}
use Rattle.std.specs.Prelude.{Result, Ok, Err, nat_lt, ◌==◌, ◌||◌, if◌then◌else◌}
use Rattle.std.specs.Int.{Width, w32, w64, byte_len, from_le_bytes, to_le_bytes}
use Rattle.proto_wire.specs.declared.fault.WireKind.TheVariants.{Truncated, TagTooLarge, FieldZero, WireType}
use Rattle.proto_wire.specs.Varint.{ItemFault, ◌>>=◌, fault, varint_in, varint}

-- one record: its field, its wire type, its number (a varint, a fixed number or a length) and the bytes of its payload
pub record Item : Type 0 where
  pub field : ℕ
  pub wire : ℕ
  pub number : ℕ
  pub payload : List ℕ

-- the numbers of fields
abbrev pub IsField : ℕ → Type 0
IsField field = (1 ≤ field) × (field ≤ 536870911)

-- a varint, 8 bytes, a length and that many bytes, 4 bytes
abbrev pub is_wire : ℕ → Bool
is_wire wire = (wire == 0) || (wire == 1) || (wire == 2) || (wire == 5)

-- the number of a tag: the field times 8, and the wire type
unfoldable pub tag_in : List ℕ → Result (ℕ × List ℕ) ItemFault
tag_in bytes = varint_in bytes >>= λ tag.
    if nat_lt tag.0 (2 ^ 32)
    then (if nat_lt tag.0 8 then fault FieldZero bytes else (if is_wire (tag.0 % 8) then Ok tag else fault WireType bytes))
    else fault TagTooLarge bytes

-- the record of a tag, with the first bytes as its payload, and the bytes that are left
abbrev pub item : ℕ → ℕ → ℕ → List ℕ → List ℕ → Item × List ℕ
item tag number len bytes rest = (record { field = tag / 8; wire = tag % 8; number = number; payload = take len bytes }, rest)

unfoldable pub number_in : ℕ → List ℕ → Result (Item × List ℕ) ItemFault
number_in tag bytes = varint_in bytes >>= λ number. Ok (item tag number.0 (length bytes - length number.1) bytes number.1)

unfoldable pub fixed_in : Width → ℕ → List ℕ → Result (Item × List ℕ) ItemFault
fixed_in w tag bytes =
    if nat_lt (length bytes) (byte_len w) then fault Truncated bytes
    else Ok (item tag (from_le_bytes w (take (byte_len w) bytes)) (byte_len w) bytes (drop (byte_len w) bytes))

unfoldable pub delimited_in : ℕ → List ℕ → Result (Item × List ℕ) ItemFault
delimited_in tag bytes = varint_in bytes >>= λ len.
    if nat_lt (length len.1) len.0 then fault Truncated bytes
    else Ok (item tag len.0 len.0 len.1 (drop len.0 len.1))

-- the payload of a tag
unfoldable pub payload_in : ℕ → List ℕ → Result (Item × List ℕ) ItemFault
payload_in tag bytes =
    if tag % 8 == 0 then number_in tag bytes
    else (if tag % 8 == 1 then fixed_in w64 tag bytes
    else (if tag % 8 == 2 then delimited_in tag bytes
    else fixed_in w32 tag bytes))

-- the record at the front, and what follows it
unfoldable pub record_in : List ℕ → Result (Item × List ℕ) ItemFault
record_in bytes = tag_in bytes >>= λ tag. payload_in tag.0 tag.1

-- the records of bytes, to their end or to the first fault; each with the number of bytes that are left behind it
pub data Scan : Type 0 where
  Whole : Scan
  Broken : ItemFault → Scan
  Then : Item → ℕ → Scan → Scan

abbrev pub then_scan : Result (Item × List ℕ) ItemFault → (List ℕ → Scan) → Scan
then_scan (Ok read) more = Then read.0 (length read.1) (more read.1)
then_scan (Err e) more = Broken e

-- the records of bytes whose first ones, so many, belong to a record that was read
unfoldable pub records_behind : ℕ → List ℕ → Scan
records_behind skip [] = Whole
records_behind zero (b ∷ bytes) = then_scan (record_in (b ∷ bytes)) (λ rest. records_behind (length bytes - length rest) bytes)
records_behind (suc skip) (b ∷ bytes) = records_behind skip bytes

unfoldable pub records_in : List ℕ → Scan
records_in bytes = records_behind 0 bytes

-- ---- the spellings of a record with a varint, with bytes, and with a number of four or of eight bytes

abbrev pub number_record : ℕ → ℕ → List ℕ
number_record field number = varint (8 * field) ++ varint number

abbrev pub bytes_record : ℕ → List ℕ → List ℕ
bytes_record field payload = varint (8 * field + 2) ++ varint (length payload) ++ payload

abbrev pub four_record : ℕ → ℕ → List ℕ
four_record field number = varint (8 * field + 5) ++ to_le_bytes w32 number

abbrev pub eight_record : ℕ → ℕ → List ℕ
eight_record field number = varint (8 * field + 1) ++ to_le_bytes w64 number

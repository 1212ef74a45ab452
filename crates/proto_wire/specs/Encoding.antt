-- The wire format over whole byte lists (Protocol Buffers encoding guide), told without a reader.
use Rattle.std.specs.Prelude.{◌≡◌, ◌≤◌, ◌<◌, ◌⊎◌, ℕ, suc, ◌+◌, ◌*◌, ◌/◌, ◌%◌, ◌^◌, Bool, true, false, List, [], ◌∷◌, ◌++◌, length, take, map}
use Rattle.std.specs.Prelude.{Option, Some, None, option_map, Result, Ok, Err, All, if◌then◌else◌}
use Rattle.std.specs.List.{concat, list_any}
use Rattle.std.specs.Int.{w32, w64, from_le_bytes}
use Rattle.proto_wire.specs.declared.fault.WireKind.{WireKind}
use Rattle.proto_wire.specs.declared.fault.WireKind.TheVariants.{Truncated, LongVarint, TagTooLarge, FieldZero, WireType, NotUtf8, NoMember, OverLimit}
use Rattle.proto_wire.specs.Varint.{ItemFault, ◌>>=◌}
use Rattle.proto_wire.specs.Record.{Item, is_wire, Scan, Whole, Broken, Then, tag_in, payload_in, record_in}
use Rattle.proto_wire.specs.Message.{Row, belongs, accepted, value_in, entered}

abbrev pub AreBytes : List ℕ → Type 0
AreBytes bytes = All (λ b. b < 256) bytes

-- ---- varints ("Base 128 Varints")

-- the sum of the low seven bits of each byte times 128 to the power of its place; the first byte has this place
abbrev pub sum_by_place : ℕ → List ℕ → ℕ
sum_by_place place [] = 0
sum_by_place place (b ∷ bytes) = (b % 128) * 128 ^ place + sum_by_place (suc place) bytes

-- a byte with the high bit
abbrev pub IsContinued : ℕ → Type 0
IsContinued b = (128 ≤ b) × (b < 256)

-- one to ten bytes; the high bit says that a further one follows
pub record IsVarint (spelling : List ℕ) (number : ℕ) : Type 0 where
  pub front : List ℕ
  pub last : ℕ
  pub is : spelling ≡ front ++ last ∷ []
  pub continued : All IsContinued front
  pub ended : last < 128
  pub short : length spelling ≤ 10
  pub sum : number ≡ sum_by_place 0 spelling % 2 ^ 64

-- the bytes are a varint of this number, and then the rest
pub record Begins (bytes : List ℕ) (number : ℕ) (rest : List ℕ) : Type 0 where
  pub spelling : List ℕ
  pub is : bytes ≡ spelling ++ rest
  pub spells : IsVarint spelling number

-- ---- records ("Message Structure")

-- a tag: a varint below 2 ^ 32 that holds a field from 1 on and a wire type
pub record IsTagOf (field wire : ℕ) (spelling : List ℕ) : Type 0 where
  pub spells : IsVarint spelling (8 * field + wire)
  pub fits : 8 * field + wire < 2 ^ 32
  pub has_field : 1 ≤ field
  pub has_wire : is_wire wire ≡ true

-- a payload by its wire type: a varint, eight bytes, a length and that many bytes ("Length-Delimited Records"), four bytes; lowest byte first
pub data IsPayload (item : Item) (spelling : List ℕ) : Type 0 where
  a_varint : item.wire ≡ 0 → IsVarint spelling item.number → item.payload ≡ spelling → IsPayload item spelling
  eight_bytes : item.wire ≡ 1 → length spelling ≡ 8 → item.number ≡ from_le_bytes w64 spelling → item.payload ≡ spelling → IsPayload item spelling
  delimited : item.wire ≡ 2 → (len : List ℕ) → IsVarint len item.number → length item.payload ≡ item.number → spelling ≡ len ++ item.payload
      → IsPayload item spelling
  four_bytes : item.wire ≡ 5 → length spelling ≡ 4 → item.number ≡ from_le_bytes w32 spelling → item.payload ≡ spelling → IsPayload item spelling

pub record IsRecord (spelling : List ℕ) (item : Item) : Type 0 where
  pub tag : List ℕ
  pub payload : List ℕ
  pub is : spelling ≡ tag ++ payload
  pub tag_is : IsTagOf item.field item.wire tag
  pub payload_is : IsPayload item payload

-- the bytes are these records, one behind the other, and nothing else
pub data HaveRecords : List ℕ → List Item → Type 0 where
  no_more : HaveRecords [] []
  next : (bytes spelling rest : List ℕ) (item : Item) (items : List Item)
      → bytes ≡ spelling ++ rest → IsRecord spelling item → HaveRecords rest items → HaveRecords bytes (item ∷ items)

-- the records that are read, where they are whole
abbrev pub items_of : Scan → Option (List Item)
items_of Whole = Some []
items_of (Broken e) = None
items_of (Then item left more) = option_map (λ items. item ∷ items) (items_of more)

-- ---- fields of a table

-- no row takes the record ("Unknown Fields")
abbrev pub IsUnknown : {M : Type 0} → List (Row M) → Item → Type 0
IsUnknown rows item = list_any (λ row. belongs row.field row.wire item) rows ≡ false

-- what a field is, by one record: each of this number and wire type says what it is then, and no other changes it
pub record IsScalar {M A : Type 0} (rows : List (Row M)) (field wire : ℕ) (reads : Item → Result A ItemFault) (get : M → A) : Type 0 where
  pub taken : (old new : M) (item : Item) → accepted rows old item ≡ Ok new → belongs field wire item ≡ true → reads item ≡ Ok (get new)
  pub kept : (old new : M) (item : Item) → accepted rows old item ≡ Ok new → belongs field wire item ≡ false → get new ≡ get old

-- what the last record of a field says, or what stood where there is none ("Last One Wins")
abbrev pub last_says : {A : Type 0} → (Item → Result A ItemFault) → A → Option Item → Result A ItemFault
last_says reads held None = Ok held
last_says reads held (Some item) = reads item

-- the records behind the last one that passes the test; all, where none passes
abbrev pub behind_last : (Item → Bool) → List Item → List Item
behind_last other [] = []
behind_last other (item ∷ items) = if list_any other items then behind_last other items else (if other item then items else item ∷ items)

abbrev pub joined_payloads : List Item → List ℕ
joined_payloads items = concat (map (λ item. item.payload) items)

-- what the joined payloads of records make of the blank message, where there is a record
abbrev pub joined_value : {N : Type 0} → N → List (Row N) → List Item → Result (Option N) ItemFault
joined_value blank inner [] = Ok None
joined_value blank inner (item ∷ items) = value_in inner blank (joined_payloads (item ∷ items)) >>= λ value. Ok (Some value)

-- what a singular message is, by one record: each of this number and wire type goes on from it, and no other changes it
pub record IsSingular {M N : Type 0} (rows : List (Row M)) (inner : List (Row N)) (blank : N) (field wire : ℕ) (get : M → Option N) : Type 0 where
  pub taken : (old new : M) (item : Item) → accepted rows old item ≡ Ok new → belongs field wire item ≡ true → entered blank inner (get old) item ≡ Ok (get new)
  pub kept : (old new : M) (item : Item) → accepted rows old item ≡ Ok new → belongs field wire item ≡ false → get new ≡ get old

-- what a member of a oneof is, by one record: each of its own goes on from it, each of another member drops it, and no other changes it
pub record IsMember {M N : Type 0} (rows : List (Row M)) (inner : List (Row N)) (blank : N)
    (field wire : ℕ) (other : Item → Bool) (get : M → Option N) : Type 0 where
  pub taken : (old new : M) (item : Item) → accepted rows old item ≡ Ok new → belongs field wire item ≡ true → entered blank inner (get old) item ≡ Ok (get new)
  pub dropped : (old new : M) (item : Item) → accepted rows old item ≡ Ok new → other item ≡ true → get new ≡ None
  pub kept : (old new : M) (item : Item) → accepted rows old item ≡ Ok new → belongs field wire item ≡ false → other item ≡ false → get new ≡ get old

-- ---- the first fault of bytes

-- the record at the front is whole, and its entering into the value has a fault; what is left behind it counts to the fault's place
pub record IsRefused {M : Type 0} (rows : List (Row M)) (value : M) (bytes : List ℕ) (fault : ItemFault) : Type 0 where
  pub item : Item
  pub rest : List ℕ
  pub read : record_in bytes ≡ Ok (item, rest)
  pub inner : ItemFault
  pub refused : accepted rows value item ≡ Err inner
  pub is : fault ≡ record { kind = inner.kind; left = inner.left + length rest }

-- records that make a value, and then one that has the fault, or that the value refuses with it
pub record StopsAt {M : Type 0} (rows : List (Row M)) (old : M) (bytes : List ℕ) (fault : ItemFault) : Type 0 where
  pub read : List ℕ
  pub left : List ℕ
  pub is : bytes ≡ read ++ left
  pub value : M
  pub so_far : value_in rows old read ≡ Ok value
  pub more : 0 < length left
  pub stops : (record_in left ≡ Err fault) ⊎ IsRefused rows value left fault

-- fewer than ten bytes, each with the high bit
pub record EndsInside (bytes : List ℕ) : Type 0 where
  pub short : length bytes < 10
  pub continued : All (λ b. 128 ≤ b) bytes

-- ten bytes, each with the high bit
pub record IsOverlong (bytes : List ℕ) : Type 0 where
  pub long : 10 ≤ length bytes
  pub continued : All (λ b. 128 ≤ b) (take 10 bytes)

-- the bytes begin with a varint of such a number
pub record BeginsWith (bytes : List ℕ) (Holds : ℕ → Type 0) : Type 0 where
  pub number : ℕ
  pub rest : List ℕ
  pub begins : Begins bytes number rest
  pub holds : Holds number

-- what is wrong with a tag
abbrev pub TagHas : List ℕ → WireKind → Type 0
TagHas bytes Truncated = EndsInside bytes
TagHas bytes LongVarint = IsOverlong bytes
TagHas bytes TagTooLarge = BeginsWith bytes (λ tag. 2 ^ 32 ≤ tag)
TagHas bytes FieldZero = BeginsWith bytes (λ tag. tag / 8 ≡ 0)
TagHas bytes WireType = BeginsWith bytes (λ tag. (tag % 8 ≡ 3) ⊎ ((tag % 8 ≡ 4) ⊎ ((tag % 8 ≡ 6) ⊎ (tag % 8 ≡ 7))))
TagHas bytes kind = ⊥

-- the bytes end inside a payload of this wire type, or what it says is its length passes their end
pub data EndsInPayload (wire : ℕ) (bytes : List ℕ) : Type 0 where
  in_varint : wire ≡ 0 → EndsInside bytes → EndsInPayload wire bytes
  in_eight_bytes : wire ≡ 1 → length bytes < 8 → EndsInPayload wire bytes
  in_length : wire ≡ 2 → EndsInside bytes → EndsInPayload wire bytes
  behind_length : wire ≡ 2 → (len : ℕ) (rest : List ℕ) → Begins bytes len rest → length rest < len → EndsInPayload wire bytes
  in_four_bytes : wire ≡ 5 → length bytes < 4 → EndsInPayload wire bytes

-- what is wrong with a payload of this wire type
abbrev pub PayloadHas : ℕ → List ℕ → WireKind → Type 0
PayloadHas wire bytes Truncated = EndsInPayload wire bytes
PayloadHas wire bytes LongVarint = ((wire ≡ 0) ⊎ (wire ≡ 2)) × IsOverlong bytes
PayloadHas wire bytes kind = ⊥

-- of several kinds the first counts
abbrev pub rank : WireKind → ℕ
rank Truncated = 1
rank LongVarint = 2
rank TagTooLarge = 3
rank FieldZero = 4
rank WireType = 5
rank NotUtf8 = 6
rank NoMember = 7
rank OverLimit = 8

-- the fault is at the first byte, and of the first kind that the bytes have
pub record IsFirstFault (bytes : List ℕ) (Has : WireKind → Type 0) (fault : ItemFault) : Type 0 where
  pub at : fault.left ≡ length bytes
  pub has : Has fault.kind
  pub first : (kind : WireKind) → Has kind → rank fault.kind ≤ rank kind

-- the fault of a record: its tag's, else its payload's
pub data RecordHas (bytes : List ℕ) (fault : ItemFault) : Type 0 where
  in_tag : tag_in bytes ≡ Err fault → RecordHas bytes fault
  in_payload : (tag : ℕ) (rest : List ℕ) → tag_in bytes ≡ Ok (tag, rest) → payload_in tag rest ≡ Err fault → RecordHas bytes fault

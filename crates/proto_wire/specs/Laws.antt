-- Laws of the wire format (Protocol Buffers encoding guide).
use Rattle.std.specs.Prelude.{◌≡◌, ◌↔◌, ℕ, Bool, true, List, [], ◌∷◌, ◌++◌, ◌%◌, Result, Ok, Err, Option, Some, None, filter}
use Rattle.proto_wire.specs.Varint.{ItemFault, ◌>>=◌, varint_in}
use Rattle.proto_wire.specs.Record.{Item, is_wire, tag_in, payload_in, record_in, records_in}
use Rattle.proto_wire.specs.Message.{Row, belongs, value_in, last_record}
use Rattle.proto_wire.specs.Encoding.{AreBytes, Begins, HaveRecords, items_of, IsUnknown, IsScalar, last_says, IsSingular, IsMember, behind_last}
use Rattle.proto_wire.specs.Encoding.{joined_value, StopsAt, TagHas, PayloadHas, IsFirstFault, RecordHas}

-- a varint is read exactly where the bytes begin with one ("Base 128 Varints")
abbrev pub VarintsAreRead : Type 0
VarintsAreRead = (bytes rest : List ℕ) (number : ℕ) → AreBytes bytes → (varint_in bytes ≡ Ok (number, rest)) ↔ Begins bytes number rest

-- records are read exactly where the bytes are made of them ("Message Structure")
abbrev pub RecordsAreRead : Type 0
RecordsAreRead = (bytes : List ℕ) (items : List Item) → AreBytes bytes → (items_of (records_in bytes) ≡ Some items) ↔ HaveRecords bytes items

-- bytes are made of one list of records at most
abbrev pub RecordsAreUnique : Type 0
RecordsAreUnique = (bytes : List ℕ) (items others : List Item) → HaveRecords bytes items → HaveRecords bytes others → items ≡ others

-- bytes that are joined to others are read on from the value that these make ("Last One Wins")
abbrev pub JoinedBytesAreReadOn : {M : Type 0} → List (Row M) → Type 0
JoinedBytesAreReadOn {M} rows = (old new : M) (bytes more : List ℕ) → value_in rows old bytes ≡ Ok new
    → value_in rows old (bytes ++ more) ≡ value_in rows new more

-- a scalar is what the last record of it says, or what stood ("Last One Wins")
abbrev pub LastScalarCounts : {M : Type 0} (A : Type 0) → List (Row M) → Type 0
LastScalarCounts {M} A rows = (field wire : ℕ) (reads : Item → Result A ItemFault) (get : M → A)
    → IsScalar rows field wire reads get → (old new : M) (bytes : List ℕ)
    → value_in rows old bytes ≡ Ok new → (last_record field wire bytes >>= last_says reads (get old)) ≡ Ok (get new)

-- a singular message is the value of its joined payloads ("Last One Wins")
abbrev pub SingularIsJoined : {M N : Type 0} → List (Row M) → List (Row N) → N → Type 0
SingularIsJoined {M} {N} rows inner blank = (field wire : ℕ) (get : M → Option N) → IsSingular rows inner blank field wire get
    → (old new : M) (bytes : List ℕ) (items : List Item)
    → get old ≡ None → value_in rows old bytes ≡ Ok new → items_of (records_in bytes) ≡ Some items
    → joined_value blank inner (filter (belongs field wire) items) ≡ Ok (get new)

-- a member of a oneof is the value of its joined payloads behind the last record of another member ("Oneofs")
abbrev pub MemberIsJoined : {M N : Type 0} → List (Row M) → List (Row N) → N → Type 0
MemberIsJoined {M} {N} rows inner blank = (field wire : ℕ) (other : Item → Bool) (get : M → Option N) → IsMember rows inner blank field wire other get
    → (old new : M) (bytes : List ℕ) (items : List Item)
    → get old ≡ None → value_in rows old bytes ≡ Ok new → items_of (records_in bytes) ≡ Some items
    → joined_value blank inner (filter (belongs field wire) (behind_last other items)) ≡ Ok (get new)

-- a record that no row takes changes nothing, wherever it stands ("Unknown Fields")
abbrev pub UnknownChangesNothing : {M : Type 0} → List (Row M) → Type 0
UnknownChangesNothing {M} rows = (old new : M) (bytes spelling more : List ℕ) (item : Item)
    → value_in rows old bytes ≡ Ok new → HaveRecords spelling (item ∷ []) → IsUnknown rows item
    → value_in rows old (bytes ++ (spelling ++ more)) ≡ value_in rows old (bytes ++ more)

-- the first fault of bytes is that of the first record which is not whole, or which the value so far refuses
abbrev pub FirstFaultCounts : {M : Type 0} → List (Row M) → Type 0
FirstFaultCounts {M} rows = (old : M) (bytes : List ℕ) (fault : ItemFault) → (value_in rows old bytes ≡ Err fault) ↔ StopsAt rows old bytes fault

-- a tag has the first kind of what is wrong with it, at its first byte
abbrev pub TagFaultIsFirst : Type 0
TagFaultIsFirst = (bytes : List ℕ) (fault : ItemFault) → AreBytes bytes → (tag_in bytes ≡ Err fault) ↔ IsFirstFault bytes (TagHas bytes) fault

-- and so has a payload
abbrev pub PayloadFaultIsFirst : Type 0
PayloadFaultIsFirst = (tag : ℕ) (bytes : List ℕ) (fault : ItemFault) → AreBytes bytes → is_wire (tag % 8) ≡ true
    → (payload_in tag bytes ≡ Err fault) ↔ IsFirstFault bytes (PayloadHas (tag % 8) bytes) fault

-- a record has its tag's fault, else its payload's
abbrev pub RecordFaultIsFirst : Type 0
RecordFaultIsFirst = (bytes : List ℕ) (fault : ItemFault) → (record_in bytes ≡ Err fault) ↔ RecordHas bytes fault

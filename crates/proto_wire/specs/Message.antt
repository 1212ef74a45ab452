-- Messages as tables of fields (Protocol Buffers encoding guide).
use Rattle.std.specs.Prelude.{ℕ, ◌+◌, ◌*◌, ◌%◌, ◌^◌, ◌-◌, min, ℤ, pos, negsuc, Bool, true, false, not, List, [], ◌∷◌, ◌++◌, length}
use Rattle.std.specs.Prelude.{Option, Some, None, Result, Ok, Err, nat_lt, ◌==◌, ◌&&◌, if◌then◌else◌}
use Rattle.std.specs.Int.{w32, w64, cast_signed, cast_unsigned}
use Rattle.std.specs.Str.{is_utf8}
use Rattle.proto_wire.specs.declared.fault.WireKind.TheVariants.{NotUtf8, OverLimit}
use Rattle.proto_wire.specs.declared.fault.WireFault.{WireFault}
use Rattle.proto_wire.specs.Varint.{ItemFault, ◌>>=◌, fault}
use Rattle.proto_wire.specs.Places.{located}
use Rattle.proto_wire.specs.Record.{Item, Scan, Whole, Broken, Then, records_in, number_record, bytes_record, four_record, eight_record}

-- One field of a message: its number, its wire type, how a record of it enters the value, how it is spelled, and whether what it holds has a
-- spelling. A fault of a record counts what is left to the end of the record.
pub record Row (M : Type 0) : Type 0 where
  pub field : ℕ
  pub wire : ℕ
  pub enters : M → Item → Result M ItemFault
  pub spells : M → List ℕ
  pub fits : M → Bool

-- the record is of this field
unfoldable pub belongs : ℕ → ℕ → Item → Bool
belongs field wire item = (item.field == field) && (item.wire == wire)

-- a record enters by its row, and is passed over where it has none
abbrev pub accepted : {M : Type 0} → List (Row M) → M → Item → Result M ItemFault
accepted [] value item = Ok value
accepted (row ∷ rows) value item = if belongs row.field row.wire item then row.enters value item else accepted rows value item

-- what is read of a record behind which so many bytes are left
abbrev pub before : {A : Type 0} → ℕ → Result A ItemFault → Result A ItemFault
before left (Ok x) = Ok x
before left (Err e) = Err (record { kind = e.kind; left = e.left + left })

-- the value that records make of the value that stands; the first fault from left to right
abbrev pub merged : {M : Type 0} → List (Row M) → M → Scan → Result M ItemFault
merged rows value Whole = Ok value
merged rows value (Broken e) = Err e
merged rows value (Then item left more) = before left (accepted rows value item) >>= λ next. merged rows next more

-- the value that bytes make of the value that stands
unfoldable pub value_in : {M : Type 0} → List (Row M) → M → List ℕ → Result M ItemFault
value_in rows value bytes = merged rows value (records_in bytes)

-- the value that a whole input spells, or its first fault at its place
abbrev pub value_of : {M : Type 0} → List (Row M) → M → List ℕ → Result M WireFault
value_of rows blank bytes = located (length bytes) (value_in rows blank bytes)

-- the canonical spelling: the fields in the order of the table
abbrev pub spelling : {M : Type 0} → List (Row M) → M → List ℕ
spelling [] value = []
spelling (row ∷ rows) value = row.spells value ++ spelling rows value

-- each field holds what has a spelling
abbrev pub fit : {M : Type 0} → List (Row M) → M → Bool
fit [] value = true
fit (row ∷ rows) value = row.fits value && fit rows value

-- ---- how a record enters

unfoldable pub text_of : Item → Result (List ℕ) ItemFault
text_of item = if is_utf8 item.payload then Ok item.payload else fault NotUtf8 item.payload

-- an enum, and a signed number of four bytes: the low 32 bits, signed
unfoldable pub int_of : Item → ℤ
int_of item = cast_signed w32 (item.number % 2 ^ 32)

unfoldable pub long_of : Item → ℤ
long_of item = cast_signed w64 item.number

unfoldable pub bool_of : Item → Bool
bool_of item = not (item.number == 0)

-- a number of 32 bits
unfoldable pub short_of : Item → Result ℕ ItemFault
short_of item = if nat_lt item.number (2 ^ 32) then Ok item.number else fault OverLimit item.payload

-- the value that the payload makes of the one that stands, or of the blank one
unfoldable pub joined : {M : Type 0} → M → List (Row M) → Option M → Item → Result M ItemFault
joined blank rows None item = value_in rows blank item.payload
joined blank rows (Some value) item = value_in rows value item.payload

-- the one that stands, or none, with the payload in it
unfoldable pub entered : {M : Type 0} → M → List (Row M) → Option M → Item → Result (Option M) ItemFault
entered blank rows value item = joined blank rows value item >>= λ next. Ok (Some next)

-- the list, and the message of the payload behind it
unfoldable pub appended : {M : Type 0} → M → List (Row M) → List M → Item → Result (List M) ItemFault
appended blank rows values item = value_in rows blank item.payload >>= λ next. Ok (values ++ next ∷ [])

-- ---- how a field is spelled

-- bytes, where there are any
unfoldable pub spelled_bytes : ℕ → List ℕ → List ℕ
spelled_bytes field [] = []
spelled_bytes field (b ∷ bytes) = bytes_record field (b ∷ bytes)

unfoldable pub spelled_number : ℕ → ℕ → List ℕ
spelled_number field number = if number == 0 then [] else number_record field number

unfoldable pub spelled_bool : ℕ → Bool → List ℕ
spelled_bool field false = []
spelled_bool field true = number_record field 1

-- a number below 0 is spelled as its 64 bits
unfoldable pub spelled_signed : ℕ → ℤ → List ℕ
spelled_signed field number = spelled_number field (cast_unsigned w64 number)

-- a signed number in four or in eight bytes
unfoldable pub spelled_four : ℕ → ℤ → List ℕ
spelled_four field number = if cast_unsigned w32 number == 0 then [] else four_record field (cast_unsigned w32 number)

unfoldable pub spelled_eight : ℕ → ℤ → List ℕ
spelled_eight field number = if cast_unsigned w64 number == 0 then [] else eight_record field (cast_unsigned w64 number)

-- a member that is a number is spelled also where it is 0
unfoldable pub spelled_choice : ℕ → Option ℕ → List ℕ
spelled_choice field None = []
spelled_choice field (Some number) = number_record field number

-- messages, each by its own spelling
unfoldable pub spelled_message : {M : Type 0} → (M → List ℕ) → ℕ → Option M → List ℕ
spelled_message spells field None = []
spelled_message spells field (Some value) = bytes_record field (spells value)

unfoldable pub spelled_messages : {M : Type 0} → (M → List ℕ) → ℕ → List M → List ℕ
spelled_messages spells field [] = []
spelled_messages spells field (value ∷ values) = bytes_record field (spells value) ++ spelled_messages spells field values

-- ---- what has a spelling: texts in UTF-8, numbers of their types, and messages of such fields

-- the number is one of the signed type that has so many bits beside the sign
unfoldable pub fits_signed : ℕ → ℤ → Bool
fits_signed bits (pos n) = nat_lt n (2 ^ bits)
fits_signed bits (negsuc n) = nat_lt n (2 ^ bits)

unfoldable pub fit_choice : Option ℕ → Bool
fit_choice None = true
fit_choice (Some number) = nat_lt number (2 ^ 32)

unfoldable pub fit_message : {M : Type 0} → (M → Bool) → Option M → Bool
fit_message fits None = true
fit_message fits (Some value) = fits value

unfoldable pub fit_messages : {M : Type 0} → (M → Bool) → List M → Bool
fit_messages fits [] = true
fit_messages fits (value ∷ values) = fits value && fit_messages fits values

-- ---- the kinds of fields: `put value x` is the value with x in the field

-- a field that has one value at most: what a record of it says takes the place of what stood
abbrev pub scalars : {M A : Type 0} → ℕ → ℕ → (Item → Result A ItemFault) → (ℕ → A → List ℕ) → (A → Bool) → (M → A) → (M → A → M) → Row M
scalars field wire reads spells fits get put = record {
  field = field;
  wire = wire;
  enters = λ value item. reads item >>= λ new. Ok (put value new);
  spells = λ value. spells field (get value);
  fits = λ value. fits (get value);
}

abbrev pub texts : {M : Type 0} → ℕ → (M → List ℕ) → (M → List ℕ → M) → Row M
texts field get put = scalars field 2 text_of spelled_bytes is_utf8 get put

abbrev pub bytes : {M : Type 0} → ℕ → (M → List ℕ) → (M → List ℕ → M) → Row M
bytes field get put = scalars field 2 (λ item. Ok item.payload) spelled_bytes (λ payload. true) get put

abbrev pub bools : {M : Type 0} → ℕ → (M → Bool) → (M → Bool → M) → Row M
bools field get put = scalars field 0 (λ item. Ok (bool_of item)) spelled_bool (λ flag. true) get put

abbrev pub enums : {M : Type 0} → ℕ → (M → ℤ) → (M → ℤ → M) → Row M
enums field get put = scalars field 0 (λ item. Ok (int_of item)) spelled_signed (fits_signed 31) get put

abbrev pub longs : {M : Type 0} → ℕ → (M → ℤ) → (M → ℤ → M) → Row M
longs field get put = scalars field 0 (λ item. Ok (long_of item)) spelled_signed (fits_signed 63) get put

abbrev pub numbers : {M : Type 0} → ℕ → (M → ℕ) → (M → ℕ → M) → Row M
numbers field get put = scalars field 0 (λ item. Ok item.number) spelled_number (λ number. nat_lt number (2 ^ 64)) get put

abbrev pub fours : {M : Type 0} → ℕ → (M → ℤ) → (M → ℤ → M) → Row M
fours field get put = scalars field 5 (λ item. Ok (int_of item)) spelled_four (fits_signed 31) get put

abbrev pub eights : {M : Type 0} → ℕ → (M → ℤ) → (M → ℤ → M) → Row M
eights field get put = scalars field 1 (λ item. Ok (long_of item)) spelled_eight (fits_signed 63) get put

-- a message is there once: a further record goes on from the value that stands
abbrev pub messages : {M N : Type 0} → N → List (Row N) → ℕ → (M → Option N) → (M → Option N → M) → Row M
messages blank rows field get put = record {
  field = field;
  wire = 2;
  enters = λ value item. entered blank rows (get value) item >>= λ next. Ok (put value next);
  spells = λ value. spelled_message (spelling rows) field (get value);
  fits = λ value. fit_message (fit rows) (get value);
}

-- each record is one more message of the list
abbrev pub lists : {M N : Type 0} → N → List (Row N) → ℕ → (M → List N) → (M → List N → M) → Row M
lists blank rows field get put = record {
  field = field;
  wire = 2;
  enters = λ value item. appended blank rows (get value) item >>= λ next. Ok (put value next);
  spells = λ value. spelled_messages (spelling rows) field (get value);
  fits = λ value. fit_messages (fit rows) (get value);
}

-- a member of a oneof: it goes on from itself where it stands, and takes the place of another one
abbrev pub members : {M N : Type 0} → N → List (Row N) → ℕ → (M → Option N) → (M → N → M) → Row M
members blank rows field get put = record {
  field = field;
  wire = 2;
  enters = λ value item. joined blank rows (get value) item >>= λ next. Ok (put value next);
  spells = λ value. spelled_message (spelling rows) field (get value);
  fits = λ value. fit_message (fit rows) (get value);
}

-- a member of a oneof that is a number of 32 bits
abbrev pub choices : {M : Type 0} → ℕ → (M → Option ℕ) → (M → ℕ → M) → Row M
choices field get put = record {
  field = field;
  wire = 0;
  enters = λ value item. short_of item >>= λ number. Ok (put value number);
  spells = λ value. spelled_choice field (get value);
  fits = λ value. fit_choice (get value);
}

-- ---- one field of a message

-- the last record of a field among those of a scan, or the one that was held before
abbrev pub last_of : ℕ → ℕ → Option Item → Scan → Result (Option Item) ItemFault
last_of field wire held Whole = Ok held
last_of field wire held (Broken e) = Err e
last_of field wire held (Then item left more) = last_of field wire (if belongs field wire item then Some item else held) more

unfoldable pub last_record : ℕ → ℕ → List ℕ → Result (Option Item) ItemFault
last_record field wire bytes = last_of field wire None (records_in bytes)

-- a length, or 2 ^ 64 - 1 where it is greater
abbrev pub capped : ℕ → ℕ
capped len = min len (2 ^ 64 - 1)

-- The spelling of a message is read as that message: once for each kind of field, and once over tables.
use Rattle.std.proofs.Common.{◌≡◌, ℕ, ◌+◌, ◌*◌, ◌%◌, ◌^◌, ◌<◌, ◌≤◌, ◌⊎◌, inl, inr, Bool, true, false, cond, ltb, eqb, ℤ, pos, negsuc, List, [], ◌∷◌, ◌++◌, length, Option, Some, None, Result, Ok, Err, refl, sym, ap, subst, ◌∙◌, arith, append_assoc, length-append, ◌&&◌}
use Rattle.std.specs.Prelude.{FitsSigned, nat_lt}
use Rattle.std.specs.Int.{Width, w32, w64, cast_signed, cast_unsigned}
use Rattle.std.specs.Str.{is_utf8}
use mir.Val.{hbits}
use Rattle.std.proofs.lemmas.Int.{to_z-of_z}
use Rattle.std.proofs.lemmas.List.{append-nil}
use Rattle.std.proofs.lemmas.Bool.{eqb-true, ltb-true}
use Rattle.std.proofs.lemmas.Bool.Decides.{nat_tests}
use Rattle.proto_wire.specs.Varint.{ItemFault, ◌>>=◌}
use Rattle.proto_wire.specs.Record.{Item, is_wire, record_in, number_record, bytes_record, four_record, eight_record}
use Rattle.proto_wire.specs.Places.{located}
use Rattle.proto_wire.specs.Message.{Row, belongs, accepted, value_in, spelling, fit, text_of, int_of, long_of, bool_of, short_of, joined, entered, appended, spelled_bytes, spelled_number, spelled_bool, spelled_signed, spelled_four, spelled_eight, spelled_choice, spelled_message, spelled_messages, fits_signed, fit_choice, fit_message, fit_messages, scalars, texts, bytes, bools, enums, longs, numbers, fours, eights, messages, lists, members, choices}
use Rattle.proto_wire.proofs.Scans.{value_in-end, value_in-accepted, record_in-fronts, fronts-length}
use Rattle.proto_wire.proofs.Again.{IsTag, number_item, bytes_item, four_item, eight_item, number_record-again, bytes_record-again, four_record-again, eight_record-again, same}

-- reading these bytes at the front makes `after` of `before`
pub record Steps {M : Type 0} (rows : List (Row M)) (before after : M) (spelled : List ℕ) : Type 0 where
  pub goes_on : (rest : List ℕ) → value_in rows before (spelled ++ rest) ≡ value_in rows after rest

steps-nil : {M : Type 0} (rows : List (Row M)) (before after : M) (spelled : List ℕ) → after ≡ before → spelled ≡ [] → Steps rows before after spelled
steps-nil {M} rows before after spelled e f = record { goes_on = λ rest. ap (λ (s : List ℕ). value_in rows before (s ++ rest)) f ∙ ap (λ (m : M). value_in rows m rest) (sym e) }

steps-then : {M : Type 0} (rows : List (Row M)) (a b c : M) (s t : List ℕ) → Steps rows a b s → Steps rows b c t → Steps rows a c (s ++ t)
steps-then rows a b c s t h k = record { goes_on = λ rest. ap (value_in rows a) (append_assoc s t rest) ∙ h.goes_on (t ++ rest) ∙ k.goes_on rest }

-- a spelling that makes the value of the blank one is read as that value
steps-whole : {M : Type 0} (rows : List (Row M)) (blank value : M) (spelled : List ℕ) → Steps rows blank value spelled → value_in rows blank spelled ≡ Ok value
steps-whole rows blank value spelled h = ap (value_in rows blank) (sym (append-nil spelled)) ∙ h.goes_on [] ∙ value_in-end rows value [] refl

steps-record : {M : Type 0} (rows : List (Row M)) (before after : M) (spelled : List ℕ) (item : Item)
    → ((rest : List ℕ) → record_in (spelled ++ rest) ≡ Ok (item, rest)) → accepted rows before item ≡ Ok after → Steps rows before after spelled
steps-record rows before after spelled item read takes = record {
  goes_on = λ rest.
      let f = record_in-fronts (spelled ++ rest) (item, rest) (read rest) in
      let len = fronts-length f in
      let some = f.some in
      value_in-accepted rows before after (spelled ++ rest) (item, rest) (omega arith) (read rest) takes;
}

both : (a b : Bool) → (a && b) ≡ true → (a ≡ true) × (b ≡ true)
both true b h = (refl, h)
both false b h = absurd cc

-- ---- the rows of a table

-- each record of the row's field and wire type enters by this row
abbrev pub EntersBy : {M : Type 0} → List (Row M) → Row M → Type 0
EntersBy {M} rows row = (value : M) (item : Item) → belongs row.field row.wire item ≡ true → accepted rows value item ≡ row.enters value item

abbrev pub EnterBy : {M : Type 0} → List (Row M) → List (Row M) → Type 0
EnterBy all [] = Unit {0}
EnterBy all (row ∷ rows) = EntersBy all row × EnterBy all rows

-- the numbers of fields rise from row to row
abbrev pub ascends : {M : Type 0} → ℕ → List (Row M) → Bool
ascends least [] = true
ascends least (row ∷ rows) = nat_lt least row.field && ascends row.field rows

belongs-field : (field wire : ℕ) (item : Item) → belongs field wire item ≡ true → item.field ≡ field
unfolding belongs
belongs-field field wire item h = eqb-true item.field field ((both (eqb item.field field) (eqb item.wire wire) h).0)

belongs-not : (field wire : ℕ) (item : Item) → field < item.field → belongs field wire item ≡ false
unfolding belongs
belongs-not field wire item h = step (eqb item.field field) refl
  where
    step : (b : Bool) → eqb item.field field ≡ b → (b && eqb item.wire wire) ≡ false
    step true e = let is : item.field ≡ field = eqb-true item.field field e in absurd (omega arith)
    step false e = refl

-- rows of greater fields enter by themselves also behind a row of a lesser one
enter-behind : {M : Type 0} (least : ℕ) (row : Row M) (all rows : List (Row M)) → row.field ≤ least → ascends least rows ≡ true → EnterBy all rows → EnterBy (row ∷ all) rows
enter-behind least row all [] le up h = tt
enter-behind {M} least row all (next ∷ rows) le up h =
    let ups = both (nat_lt least next.field) (ascends next.field rows) up in
    let lt : least < next.field = ltb-true _ _ ups.0 in
    let other : EntersBy (row ∷ all) next = λ value item e.
    let is : item.field ≡ next.field = belongs-field next.field next.wire item e in
    let no : belongs row.field row.wire item ≡ false = belongs-not row.field row.wire item (omega arith) in
    ap (λ (b : Bool). cond b (row.enters value item) (accepted all value item)) no ∙ h.0 value item e in
    (other, enter-behind next.field row all rows (omega arith) ups.1 h.1)

pub enter-all : {M : Type 0} (least : ℕ) (rows : List (Row M)) → ascends least rows ≡ true → EnterBy rows rows
enter-all least [] up = tt
enter-all least (row ∷ rows) up =
    let ups = both (nat_lt least row.field) (ascends row.field rows) up in
    let first : EntersBy (row ∷ rows) row = λ value item e. ap (λ (b : Bool). cond b (row.enters value item) (accepted rows value item)) e in
    (first, enter-behind row.field row rows rows (omega arith) ups.1 (enter-all row.field rows ups.1))

-- ---- what a row's spelling does

-- The spelling of the row's field gives it to a value in which it stands at its default: `copy value into` is the second with this field of the first, and
-- `clear value into` the second with the default there, as far as that has to be there to give it the field of the first.
pub record Copies {M : Type 0} (row : Row M) : Type 0 where
  pub copy : M → M → M
  pub clear : M → M → M
  pub reads : (rows : List (Row M)) → EntersBy rows row → (value into : M) → row.fits value ≡ true → length (row.spells value) < 2 ^ 64 → clear value into ≡ into
      → Steps rows into (copy value into) (row.spells value)

abbrev pub AllCopies : {M : Type 0} → List (Row M) → Type 0
AllCopies [] = Unit {0}
AllCopies (row ∷ rows) = Copies row × AllCopies rows

-- field by field the value stands at the default before the field is copied, and with all of them it is the one that was copied
abbrev pub Fills : {M : Type 0} → (rows : List (Row M)) → AllCopies rows → M → M → Type 0
Fills [] copies value into = into ≡ value
Fills (row ∷ rows) copies value into = (copies.0.clear value into ≡ into) × Fills rows copies.1 value (copies.0.copy value into)

rows-steps : {M : Type 0} (all rows : List (Row M)) → EnterBy all rows → (copies : AllCopies rows) (value into : M) → fit rows value ≡ true → length (spelling rows value) < 2 ^ 64
    → Fills rows copies value into → Steps all into value (spelling rows value)
rows-steps all [] enter copies value into fits short fills = steps-nil all into value [] (sym fills) refl
rows-steps all (row ∷ rows) enter copies value into fits short fills =
    let f = both (row.fits value) (fit rows value) fits in
    let len = length-append (row.spells value) (spelling rows value) in
    let first = copies.0.reads all enter.0 value into f.0 (omega arith) fills.0 in
    let second = rows-steps all rows enter.1 copies.1 value (copies.0.copy value into) f.1 (omega arith) fills.1 in
    steps-then all into (copies.0.copy value into) value (row.spells value) (spelling rows value) first second

-- the spelling of each fit message is read as that message
abbrev pub IsAgain : {M : Type 0} → M → List (Row M) → Type 0
IsAgain {M} blank rows = (value : M) → fit rows value ≡ true → length (spelling rows value) < 2 ^ 64 → value_in rows blank (spelling rows value) ≡ Ok value

pub again : {M : Type 0} (blank : M) (rows : List (Row M)) → ascends 0 rows ≡ true → (copies : AllCopies rows) → ((value : M) → Fills rows copies value blank) → IsAgain blank rows
again blank rows up copies fills value fits short = steps-whole rows blank value (spelling rows value) (rows-steps rows rows (enter-all 0 rows up) copies value blank fits short (fills value))

-- what was written is read again
pub written-again : {M : Type 0} (blank : M) (rows : List (Row M)) → IsAgain blank rows → (value : M) (bytes : List ℕ) → bytes ≡ spelling rows value → fit rows value ≡ true → length bytes < 2 ^ 64
    → located (length bytes) (value_in rows blank bytes) ≡ Ok value
written-again {M} blank rows is value bytes spelled fits short =
    let P : List ℕ → Type 0 = λ s. length s < 2 ^ 64 → located (length s) (value_in rows blank s) ≡ Ok value in
    subst P (sym spelled) (λ k. ap (located (length (spelling rows value))) (is value fits k)) short

-- ---- one record

-- the bytes are one record of this field, and it says this
pub record IsOne {A : Type 0} (field wire : ℕ) (reads : Item → Result A ItemFault) (spelled : List ℕ) (value : A) : Type 0 where
  pub item : Item
  pub belongs_there : belongs field wire item ≡ true
  pub read : (rest : List ℕ) → record_in (spelled ++ rest) ≡ Ok (item, rest)
  pub says : reads item ≡ Ok value

one-steps : {M A : Type 0} (rows : List (Row M)) (field wire : ℕ) (reads : Item → Result A ItemFault) (spelled : List ℕ) (into after : M) (value : A) → (h : IsOne field wire reads spelled value)
    → accepted rows into h.item ≡ Ok after → Steps rows into after spelled
one-steps rows field wire reads spelled into after value h takes = steps-record rows into after spelled h.item h.read takes

pub tag-of : (field wire : ℕ) → (ltb 0 field && ltb field 536870912) ≡ true → is_wire wire ≡ true → wire < 8 → IsTag field wire
tag-of field wire h k l =
    let b = both (ltb 0 field) (ltb field 536870912) h in
    let least : 0 < field = ltb-true _ _ b.0 in
    let most : field < 536870912 = ltb-true _ _ b.1 in
    (omega arith, omega arith, k, l)

belongs-own : (field wire number : ℕ) (payload : List ℕ) → belongs field wire (record { field = field; wire = wire; number = number; payload = payload }) ≡ true
unfolding belongs
belongs-own field wire number payload = rw (same field field refl, same wire wire refl) refl

-- ---- scalars

-- the default is not spelled, and any other value is one record
abbrev pub IsSpelled : {A : Type 0} → ℕ → ℕ → (Item → Result A ItemFault) → A → List ℕ → A → Type 0
IsSpelled field wire reads default spelled value = ((value ≡ default) × (spelled ≡ [])) ⊎ IsOne field wire reads spelled value

abbrev pub AreSpelled : {A : Type 0} → ℕ → ℕ → (Item → Result A ItemFault) → (ℕ → A → List ℕ) → (A → Bool) → A → Type 0
AreSpelled {A} field wire reads spells fits default = (value : A) → fits value ≡ true → length (spells field value) < 2 ^ 64 → IsSpelled field wire reads default (spells field value) value

pub scalars-step : {M A : Type 0} (rows : List (Row M)) (field wire : ℕ) (reads : Item → Result A ItemFault) (spells : ℕ → A → List ℕ) (fits : A → Bool) (default : A) (get : M → A) (put : M → A → M)
    → EntersBy rows (scalars field wire reads spells fits get put) → (value : A) (into : M) (bytes : List ℕ) → put into default ≡ into → IsSpelled field wire reads default bytes value → Steps rows into (put into value) bytes
scalars-step rows field wire reads spells fits default get put enters value into bytes clear (inl none) = steps-nil rows into (put into value) bytes (ap (put into) none.0 ∙ clear) none.1
scalars-step {A = A} rows field wire reads spells fits default get put enters value into bytes clear (inr one) =
    one-steps rows field wire reads bytes into (put into value) value one (enters into one.item one.belongs_there ∙ ap (λ (r : Result A ItemFault). r >>= λ new. Ok (put into new)) one.says)

abbrev pub scalars-copies : {M A : Type 0} (field wire : ℕ) (reads : Item → Result A ItemFault) (spells : ℕ → A → List ℕ) (fits : A → Bool) (default : A) (get : M → A) (put : M → A → M)
    → AreSpelled field wire reads spells fits default → Copies (scalars field wire reads spells fits get put)
scalars-copies field wire reads spells fits default get put spelled = record {
  copy = λ value into. put into (get value);
  clear = λ value into. put into default;
  reads = λ rows enters value into fit short clear. scalars-step rows field wire reads spells fits default get put enters (get value) into (spells field (get value)) clear (spelled (get value) fit short);
}

payload-shorter : (field : ℕ) (payload : List ℕ) → length payload ≤ length (bytes_record field payload)
payload-shorter field payload = simp length-append (omega arith)

bytes-one : {A : Type 0} (field : ℕ) (reads : Item → Result A ItemFault) (payload : List ℕ) (value : A) → IsTag field 2 → length (bytes_record field payload) < 2 ^ 64
    → reads (bytes_item field payload) ≡ Ok value → IsOne field 2 reads (bytes_record field payload) value
bytes-one field reads payload value tag short says = record {
  item = bytes_item field payload;
  belongs_there = belongs-own field 2 (length payload) payload;
  read = λ rest. bytes_record-again field payload rest tag (omega (arith, payload-shorter field payload));
  says = says;
}

number-one : {A : Type 0} (field : ℕ) (reads : Item → Result A ItemFault) (number : ℕ) (value : A) → IsTag field 0 → number < 2 ^ 64
    → reads (number_item field number) ≡ Ok value → IsOne field 0 reads (number_record field number) value
number-one field reads number value tag short says = record {
  item = number_item field number;
  belongs_there = belongs-own field 0 number _;
  read = λ rest. number_record-again field number rest tag short;
  says = says;
}

IsFieldNumber : ℕ → Type 0
IsFieldNumber field = (ltb 0 field && ltb field 536870912) ≡ true

pub texts-spelled : (field : ℕ) → IsTag field 2 → AreSpelled field 2 text_of spelled_bytes is_utf8 []
unfolding spelled_bytes text_of
texts-spelled field tag [] utf8 short = inl (refl, refl)
texts-spelled field tag (b ∷ text) utf8 short = inr (bytes-one field text_of (b ∷ text) (b ∷ text) tag short (rw utf8 refl))

pub bytes-spelled : (field : ℕ) → IsTag field 2 → AreSpelled field 2 (λ item. Ok item.payload) spelled_bytes (λ payload. true) []
unfolding spelled_bytes
bytes-spelled field tag [] fits short = inl (refl, refl)
bytes-spelled field tag (b ∷ payload) fits short = inr (bytes-one field (λ item. Ok item.payload) (b ∷ payload) (b ∷ payload) tag short refl)

pub bools-spelled : (field : ℕ) → IsTag field 0 → AreSpelled field 0 (λ item. Ok (bool_of item)) spelled_bool (λ flag. true) false
unfolding spelled_bool bool_of
bools-spelled field tag false fits short = inl (refl, refl)
bools-spelled field tag true fits short = inr (number-one field (λ item. Ok (bool_of item)) 1 true tag (omega arith) refl)

-- a number that is spelled where it is not 0
number-spelled : {A : Type 0} (field : ℕ) (reads : Item → Result A ItemFault) (default value : A) (number : ℕ) → IsTag field 0 → number < 2 ^ 64 → (number ≡ 0 → value ≡ default)
    → reads (number_item field number) ≡ Ok value → IsSpelled field 0 reads default (spelled_number field number) value
unfolding spelled_number
number-spelled field reads default value number tag short none says = step (eqb number 0) refl
  where
    step : (b : Bool) → eqb number 0 ≡ b → IsSpelled field 0 reads default (cond b [] (number_record field number)) value
    step true e = inl (none (eqb-true number 0 e), refl)
    step false e = inr (number-one field reads number value tag short says)

pub numbers-spelled : (field : ℕ) → IsTag field 0 → AreSpelled field 0 (λ item. Ok item.number) spelled_number (λ number. nat_lt number (2 ^ 64)) 0
numbers-spelled field tag number fits short = number-spelled field (λ item. Ok item.number) 0 number number tag (ltb-true _ _ fits) (λ e. e) refl

signed-fits : (w : Width) (bits : ℕ) (z : ℤ) → bits ≡ hbits w → fits_signed bits z ≡ true → FitsSigned w z
unfolding fits_signed
signed-fits w bits (pos n) e h = record { sfits = subst (λ (b : ℕ). n < 2 ^ b) e (ltb-true _ _ h) }
signed-fits w bits (negsuc n) e h = record { sfits = subst (λ (b : ℕ). n < 2 ^ b) e (ltb-true _ _ h) }

long-below : (z : ℤ) → fits_signed 63 z ≡ true → cast_unsigned w64 z < 2 ^ 64
unfolding fits_signed
long-below (pos n) h = let lt : n < 2 ^ 63 = ltb-true _ _ h in omega arith
long-below (negsuc n) h = omega arith

long-zero : (z : ℤ) → fits_signed 63 z ≡ true → cast_unsigned w64 z ≡ 0 → z ≡ pos 0
unfolding fits_signed
long-zero (pos n) h e = ap pos e
long-zero (negsuc n) h e = let lt : n < 2 ^ 63 = ltb-true _ _ h in absurd (omega arith)

long-again : (z : ℤ) → fits_signed 63 z ≡ true → cast_signed w64 (cast_unsigned w64 z) ≡ z
long-again z h = to_z-of_z w64 z (signed-fits w64 63 z refl h)

int-below : (z : ℤ) → fits_signed 31 z ≡ true → cast_unsigned w32 z < 2 ^ 32
unfolding fits_signed
int-below (pos n) h = let lt : n < 2 ^ 31 = ltb-true _ _ h in omega arith
int-below (negsuc n) h = omega arith

int-zero : (z : ℤ) → fits_signed 31 z ≡ true → cast_unsigned w32 z ≡ 0 → z ≡ pos 0
unfolding fits_signed
int-zero (pos n) h e = ap pos e
int-zero (negsuc n) h e = let lt : n < 2 ^ 31 = ltb-true _ _ h in absurd (omega arith)

int-again : (z : ℤ) → fits_signed 31 z ≡ true → cast_signed w32 (cast_unsigned w32 z) ≡ z
int-again z h = to_z-of_z w32 z (signed-fits w32 31 z refl h)

narrower : (n : ℕ) → ltb n (2 ^ 31) ≡ true → ltb n (2 ^ 63) ≡ true
narrower n h = let lt : n < 2 ^ 31 = ltb-true _ _ h in grind (arith, nat_tests)

int-is_long : (z : ℤ) → fits_signed 31 z ≡ true → fits_signed 63 z ≡ true
unfolding fits_signed
int-is_long (pos n) h = narrower n h
int-is_long (negsuc n) h = narrower n h

low-bits : (z : ℤ) → fits_signed 31 z ≡ true → cast_unsigned w64 z % 2 ^ 32 ≡ cast_unsigned w32 z
unfolding fits_signed
low-bits (pos n) h = let lt : n < 2 ^ 31 = ltb-true _ _ h in omega arith
low-bits (negsuc n) h = let lt : n < 2 ^ 31 = ltb-true _ _ h in omega arith

pub longs-spelled : (field : ℕ) → IsTag field 0 → AreSpelled field 0 (λ item. Ok (long_of item)) spelled_signed (fits_signed 63) (pos 0)
unfolding spelled_signed long_of
longs-spelled field tag z fits short =
    number-spelled field (λ item. Ok (cast_signed w64 item.number)) (pos 0) z (cast_unsigned w64 z) tag (long-below z fits) (long-zero z fits) (ap Ok (long-again z fits))

pub enums-spelled : (field : ℕ) → IsTag field 0 → AreSpelled field 0 (λ item. Ok (int_of item)) spelled_signed (fits_signed 31) (pos 0)
unfolding spelled_signed int_of
enums-spelled field tag z fits short =
    let long = int-is_long z fits in
    number-spelled field (λ item. Ok (cast_signed w32 (item.number % 2 ^ 32))) (pos 0) z (cast_unsigned w64 z) tag (long-below z long) (long-zero z long)
    (ap (λ (n : ℕ). Ok (cast_signed w32 n)) (low-bits z fits) ∙ ap Ok (int-again z fits))

short-low : (n : ℕ) → n < 2 ^ 32 → n % 2 ^ 32 ≡ n
short-low n h = omega arith

pub fours-spelled : (field : ℕ) → IsTag field 5 → AreSpelled field 5 (λ item. Ok (int_of item)) spelled_four (fits_signed 31) (pos 0)
unfolding spelled_four int_of
fours-spelled field tag z fits short = step (eqb (cast_unsigned w32 z) 0) refl
  where
    step : (b : Bool) → eqb (cast_unsigned w32 z) 0 ≡ b → IsSpelled field 5 (λ item. Ok (cast_signed w32 (item.number % 2 ^ 32))) (pos 0) (cond b [] (four_record field (cast_unsigned w32 z))) z
    step true e = inl (int-zero z fits (eqb-true (cast_unsigned w32 z) 0 e), refl)
    step false e = inr (record {
      item = four_item field (cast_unsigned w32 z);
      belongs_there = belongs-own field 5 (cast_unsigned w32 z) _;
      read = λ rest. four_record-again field (cast_unsigned w32 z) rest tag (int-below z fits);
      says = ap (λ (n : ℕ). Ok (cast_signed w32 n)) (short-low (cast_unsigned w32 z) (int-below z fits)) ∙ ap Ok (int-again z fits);
    })

pub eights-spelled : (field : ℕ) → IsTag field 1 → AreSpelled field 1 (λ item. Ok (long_of item)) spelled_eight (fits_signed 63) (pos 0)
unfolding spelled_eight long_of
eights-spelled field tag z fits short = step (eqb (cast_unsigned w64 z) 0) refl
  where
    step : (b : Bool) → eqb (cast_unsigned w64 z) 0 ≡ b → IsSpelled field 1 (λ item. Ok (cast_signed w64 item.number)) (pos 0) (cond b [] (eight_record field (cast_unsigned w64 z))) z
    step true e = inl (long-zero z fits (eqb-true (cast_unsigned w64 z) 0 e), refl)
    step false e = inr (record {
      item = eight_item field (cast_unsigned w64 z);
      belongs_there = belongs-own field 1 (cast_unsigned w64 z) _;
      read = λ rest. eight_record-again field (cast_unsigned w64 z) rest tag (long-below z fits);
      says = ap Ok (long-again z fits);
    })

abbrev pub texts-copies : {M : Type 0} (field : ℕ) → (ltb 0 field && ltb field 536870912) ≡ true → (get : M → List ℕ) (put : M → List ℕ → M) → Copies (texts field get put)
texts-copies field h get put = scalars-copies field 2 text_of spelled_bytes is_utf8 [] get put (texts-spelled field (tag-of field 2 h refl (omega arith)))

abbrev pub bytes-copies : {M : Type 0} (field : ℕ) → (ltb 0 field && ltb field 536870912) ≡ true → (get : M → List ℕ) (put : M → List ℕ → M) → Copies (bytes field get put)
bytes-copies field h get put = scalars-copies field 2 (λ item. Ok item.payload) spelled_bytes (λ payload. true) [] get put (bytes-spelled field (tag-of field 2 h refl (omega arith)))

abbrev pub bools-copies : {M : Type 0} (field : ℕ) → (ltb 0 field && ltb field 536870912) ≡ true → (get : M → Bool) (put : M → Bool → M) → Copies (bools field get put)
bools-copies field h get put = scalars-copies field 0 (λ item. Ok (bool_of item)) spelled_bool (λ flag. true) false get put (bools-spelled field (tag-of field 0 h refl (omega arith)))

abbrev pub enums-copies : {M : Type 0} (field : ℕ) → (ltb 0 field && ltb field 536870912) ≡ true → (get : M → ℤ) (put : M → ℤ → M) → Copies (enums field get put)
enums-copies field h get put = scalars-copies field 0 (λ item. Ok (int_of item)) spelled_signed (fits_signed 31) (pos 0) get put (enums-spelled field (tag-of field 0 h refl (omega arith)))

abbrev pub longs-copies : {M : Type 0} (field : ℕ) → (ltb 0 field && ltb field 536870912) ≡ true → (get : M → ℤ) (put : M → ℤ → M) → Copies (longs field get put)
longs-copies field h get put = scalars-copies field 0 (λ item. Ok (long_of item)) spelled_signed (fits_signed 63) (pos 0) get put (longs-spelled field (tag-of field 0 h refl (omega arith)))

abbrev pub numbers-copies : {M : Type 0} (field : ℕ) → (ltb 0 field && ltb field 536870912) ≡ true → (get : M → ℕ) (put : M → ℕ → M) → Copies (numbers field get put)
numbers-copies field h get put = scalars-copies field 0 (λ item. Ok item.number) spelled_number (λ number. nat_lt number (2 ^ 64)) 0 get put (numbers-spelled field (tag-of field 0 h refl (omega arith)))

abbrev pub fours-copies : {M : Type 0} (field : ℕ) → (ltb 0 field && ltb field 536870912) ≡ true → (get : M → ℤ) (put : M → ℤ → M) → Copies (fours field get put)
fours-copies field h get put = scalars-copies field 5 (λ item. Ok (int_of item)) spelled_four (fits_signed 31) (pos 0) get put (fours-spelled field (tag-of field 5 h refl (omega arith)))

abbrev pub eights-copies : {M : Type 0} (field : ℕ) → (ltb 0 field && ltb field 536870912) ≡ true → (get : M → ℤ) (put : M → ℤ → M) → Copies (eights field get put)
eights-copies field h get put = scalars-copies field 1 (λ item. Ok (long_of item)) spelled_eight (fits_signed 63) (pos 0) get put (eights-spelled field (tag-of field 1 h refl (omega arith)))

-- ---- messages

-- the message of one record's payload, behind none
message-one : {N : Type 0} (field : ℕ) (blank : N) (inner : List (Row N)) (value : N) → IsAgain blank inner → IsTag field 2 → fit inner value ≡ true → length (bytes_record field (spelling inner value)) < 2 ^ 64
    → IsOne field 2 (λ item. value_in inner blank item.payload) (bytes_record field (spelling inner value)) value
message-one field blank inner value again tag fits short =
    bytes-one field (λ item. value_in inner blank item.payload) (spelling inner value) value tag short (again value fits (omega (arith, payload-shorter field (spelling inner value))))

pub messages-step : {M N : Type 0} (rows : List (Row M)) (field : ℕ) → IsTag field 2 → (blank : N) (inner : List (Row N)) → IsAgain blank inner → (get : M → Option N) (put : M → Option N → M)
    → ((into : M) → get (put into None) ≡ None) → EntersBy rows (messages blank inner field get put) → (value : Option N) (into : M) → fit_message (fit inner) value ≡ true
    → length (spelled_message (spelling inner) field value) < 2 ^ 64 → put into None ≡ into → Steps rows into (put into value) (spelled_message (spelling inner) field value)
unfolding spelled_message fit_message entered joined
messages-step rows field tag blank inner again get put lens enters None into fits short clear = steps-nil rows into (put into None) [] clear refl
messages-step rows field tag blank inner again get put lens enters (Some value) into fits short clear =
    let one = message-one field blank inner value again tag fits short in
    let none : get into ≡ None = ap get (sym clear) ∙ lens into in
    one-steps rows field 2 (λ item. value_in inner blank item.payload) _ into (put into (Some value)) value one
    (enters into one.item one.belongs_there ∙ rw (none, one.says) refl)

abbrev pub messages-copies : {M N : Type 0} (field : ℕ) → (ltb 0 field && ltb field 536870912) ≡ true → (blank : N) (inner : List (Row N)) → IsAgain blank inner → (get : M → Option N) (put : M → Option N → M)
    → ((into : M) → get (put into None) ≡ None) → Copies (messages blank inner field get put)
messages-copies field h blank inner again get put lens = record {
  copy = λ value into. put into (get value);
  clear = λ value into. put into None;
  reads = λ rows enters value into fits short clear. messages-step rows field (tag-of field 2 h refl (omega arith)) blank inner again get put lens enters (get value) into fits short clear;
}

-- a member that is there is put, and takes the place of another one
abbrev pub with_some : {M N : Type 0} → (M → N → M) → Option N → M → M
with_some put None into = into
with_some put (Some value) into = put into value

-- where there is such a member to be put, the first, else the second
abbrev pub if_some : {M N : Type 0} → Option N → M → M → M
if_some None none into = into
if_some (Some value) none into = none

pub members-step : {M N : Type 0} (rows : List (Row M)) (field : ℕ) → IsTag field 2 → (blank : N) (inner : List (Row N)) → IsAgain blank inner → (get : M → Option N) (put : M → N → M) (none : M)
    → get none ≡ None → EntersBy rows (members blank inner field get put) → (value : Option N) (into : M) → fit_message (fit inner) value ≡ true
    → length (spelled_message (spelling inner) field value) < 2 ^ 64 → if_some value none into ≡ into → Steps rows into (with_some put value into) (spelled_message (spelling inner) field value)
unfolding spelled_message fit_message joined
members-step rows field tag blank inner again get put none lens enters None into fits short clear = steps-nil rows into into [] refl refl
members-step rows field tag blank inner again get put none lens enters (Some value) into fits short clear =
    let one = message-one field blank inner value again tag fits short in
    let free : get into ≡ None = ap get (sym clear) ∙ lens in
    one-steps rows field 2 (λ item. value_in inner blank item.payload) _ into (put into value) value one
    (enters into one.item one.belongs_there ∙ rw (free, one.says) refl)

abbrev pub members-copies : {M N : Type 0} (field : ℕ) → (ltb 0 field && ltb field 536870912) ≡ true → (blank : N) (inner : List (Row N)) → IsAgain blank inner → (get : M → Option N) (put : M → N → M) (none : M)
    → get none ≡ None → Copies (members blank inner field get put)
members-copies field h blank inner again get put none lens = record {
  copy = λ value into. with_some put (get value) into;
  clear = λ value into. if_some (get value) none into;
  reads = λ rows enters value into fits short clear. members-step rows field (tag-of field 2 h refl (omega arith)) blank inner again get put none lens enters (get value) into fits short clear;
}

pub choices-step : {M : Type 0} (rows : List (Row M)) (field : ℕ) → IsTag field 0 → (get : M → Option ℕ) (put : M → ℕ → M) → EntersBy rows (choices field get put)
    → (value : Option ℕ) (into : M) → fit_choice value ≡ true → Steps rows into (with_some put value into) (spelled_choice field value)
unfolding spelled_choice fit_choice short_of
choices-step rows field tag get put enters None into fits = steps-nil rows into into [] refl refl
choices-step rows field tag get put enters (Some number) into fits =
    let low : number < 2 ^ 32 = ltb-true _ _ fits in
    let one = number-one field short_of number number tag (omega arith) (rw fits refl) in
    one-steps rows field 0 short_of _ into (put into number) number one
    (enters into one.item one.belongs_there ∙ ap (λ (r : Result ℕ ItemFault). r >>= λ new. Ok (put into new)) one.says)

abbrev pub choices-copies : {M : Type 0} (field : ℕ) → (ltb 0 field && ltb field 536870912) ≡ true → (get : M → Option ℕ) (put : M → ℕ → M) → Copies (choices field get put)
choices-copies field h get put = record {
  copy = λ value into. with_some put (get value) into;
  clear = λ value into. into;
  reads = λ rows enters value into fits short clear. choices-step rows field (tag-of field 0 h refl (omega arith)) get put enters (get value) into fits;
}

-- the field of a list is there again after it was put, and what is put last stands
pub record IsListField {M N : Type 0} (get : M → List N) (put : M → List N → M) : Type 0 where
  pub there : (into : M) (values : List N) → get (put into values) ≡ values
  pub last : (into : M) (values others : List N) → put (put into values) others ≡ put into others

pub lists-step : {M N : Type 0} (rows : List (Row M)) (field : ℕ) → IsTag field 2 → (blank : N) (inner : List (Row N)) → IsAgain blank inner → (get : M → List N) (put : M → List N → M)
    → IsListField get put → EntersBy rows (lists blank inner field get put) → (front values : List N) (into : M) → fit_messages (fit inner) values ≡ true
    → length (spelled_messages (spelling inner) field values) < 2 ^ 64 → Steps rows (put into front) (put into (front ++ values)) (spelled_messages (spelling inner) field values)
unfolding spelled_messages fit_messages appended
lists-step rows field tag blank inner again get put lens enters front [] into fits short = steps-nil rows (put into front) (put into (front ++ [])) [] (ap (put into) (append-nil front)) refl
lists-step {N = N} rows field tag blank inner again get put lens enters front (value ∷ values) into fits short =
    let f = both (fit inner value) (fit_messages (fit inner) values) fits in
    let len = length-append (bytes_record field (spelling inner value)) (spelled_messages (spelling inner) field values) in
    let one = message-one field blank inner value again tag f.0 (omega arith) in
    let next : List N = front ++ value ∷ [] in
    let first = one-steps rows field 2 (λ item. value_in inner blank item.payload) _ (put into front) (put into next) value one
    (enters (put into front) one.item one.belongs_there ∙ rw (lens.there into front, one.says, lens.last into front next) refl) in
    let second = lists-step rows field tag blank inner again get put lens enters next values into f.1 (omega arith) in
    let P : List N → Type 0 = λ vs. Steps rows (put into front) (put into vs) (bytes_record field (spelling inner value) ++ spelled_messages (spelling inner) field values) in
    subst P (append_assoc front (value ∷ []) values) (steps-then rows (put into front) (put into next) (put into (next ++ values)) _ _ first second)

abbrev pub lists-copies : {M N : Type 0} (field : ℕ) → (ltb 0 field && ltb field 536870912) ≡ true → (blank : N) (inner : List (Row N)) → IsAgain blank inner → (get : M → List N) (put : M → List N → M)
    → IsListField get put → Copies (lists blank inner field get put)
lists-copies {M} field h blank inner again get put lens = record {
  copy = λ value into. put into (get value);
  clear = λ value into. put into [];
  reads = λ rows enters value into fits short clear.
      let P : M → Type 0 = λ m. Steps rows m (put into (get value)) (spelled_messages (spelling inner) field (get value)) in
      subst P clear (lists-step rows field (tag-of field 2 h refl (omega arith)) blank inner again get put lens enters [] (get value) into fits short);
}

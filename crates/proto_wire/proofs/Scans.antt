-- Records one after the other, and the value that they make.
use Rattle.std.proofs.Common.{◌≡◌, ℕ, zero, suc, ◌+◌, ◌-◌, ◌*◌, ◌%◌, ◌^◌, ◌<◌, ◌≤◌, Bool, true, false, cond, ltb, eqb, List, [], ◌∷◌, ◌++◌, length, take, drop, Result, Ok, Err, refl, sym, ap, subst, ◌∙◌, arith, append_assoc, length-append, length-drop}
use Rattle.std.proofs.lemmas.List.{take-append-drop}
use Rattle.std.specs.Int.{Width, w32, w64, byte_len}
use Rattle.proto_wire.specs.declared.fault.WireFault.{WireFault}
use Rattle.proto_wire.specs.declared.fault.WireKind.TheVariants.{Truncated, TagTooLarge, FieldZero, WireType}
use Rattle.proto_wire.specs.declared.fault.DecodeFault.{DecodeFault}
use Rattle.proto_wire.specs.declared.fault.DecodeFault.TheVariants.{Wire, OutOfMemory}
use Rattle.proto_wire.specs.Varint.{ItemFault, ◌>>=◌, fault, groups, varint_in}
use Rattle.proto_wire.specs.Record.{Item, item, is_wire, tag_in, fixed_in, delimited_in, number_in, payload_in, record_in, Scan, Whole, Broken, Then, then_scan, records_behind, records_in}
use Rattle.proto_wire.specs.Reads.{fault_before, FailsAt, FailsWith}
use Rattle.std.proofs.Common.{Option, Some, None}
use Rattle.proto_wire.specs.Message.{Row, belongs, accepted, before, value_in, last_of}

-- the bytes are some, at least so many, and then what is left
pub record Fronts (least : ℕ) (bytes rest : List ℕ) : Type 0 where
  pub front : List ℕ
  pub is : bytes ≡ front ++ rest
  pub some : least ≤ length front

-- what a reader leaves is the end of what it read from
abbrev pub Leaves : {A : Type 0} → ℕ → List ℕ → Result (A × List ℕ) ItemFault → Type 0
Leaves least bytes (Ok read) = Fronts least bytes read.1
Leaves least bytes (Err e) = Unit {0}

fronts-then : (a b : ℕ) (bytes mid rest : List ℕ) → Fronts a bytes mid → Fronts b mid rest → Fronts (a + b) bytes rest
fronts-then a b bytes mid rest h k = record {
  front = h.front ++ k.front;
  is = h.is ∙ ap (λ (s : List ℕ). h.front ++ s) k.is ∙ sym (append_assoc h.front k.front rest);
  some = let p = h.some in let q = k.some in omega (arith, length-append h.front k.front);
}

fronts-cut : (n : ℕ) (bytes : List ℕ) → Fronts 0 bytes (drop n bytes)
fronts-cut n bytes = record { front = take n bytes; is = sym (take-append-drop n bytes); some = omega arith }

leaves-bind : {A B : Type 0} (a b : ℕ) (bytes : List ℕ) (r : Result (A × List ℕ) ItemFault) (f : A × List ℕ → Result (B × List ℕ) ItemFault)
    → Leaves a bytes r → ((read : A × List ℕ) → Leaves b read.1 (f read)) → Leaves (a + b) bytes (r >>= f)
leaves-bind a b bytes (Ok read) f h k = step bytes read.1 (f read) h (k read)
  where
    step : {B : Type 0} (bytes rest : List ℕ) (r : Result (B × List ℕ) ItemFault) → Fronts a bytes rest → Leaves b rest r → Leaves (a + b) bytes r
    step bytes rest (Ok read) h k = fronts-then a b bytes rest read.1 h k
    step bytes rest (Err e) h k = tt
leaves-bind a b bytes (Err e) f h k = tt

leaves-cond : {A : Type 0} (least : ℕ) (bytes : List ℕ) (b : Bool) (r s : Result (A × List ℕ) ItemFault) → Leaves least bytes r → Leaves least bytes s → Leaves least bytes (cond b r s)
leaves-cond least bytes true r s h k = h
leaves-cond least bytes false r s h k = k

fronts-one : (b : ℕ) (bytes : List ℕ) → Fronts 1 (b ∷ bytes) bytes
fronts-one b bytes = record { front = b ∷ []; is = refl; some = omega arith }

pub groups-leaves : (left most : ℕ) (bytes : List ℕ) → Leaves 1 bytes (groups left most bytes)
unfolding groups
groups-leaves left zero bytes = tt
groups-leaves left (suc more) [] = tt
groups-leaves left (suc more) (b ∷ bytes) =
    leaves-cond 1 (b ∷ bytes) (ltb b 128) _ _ (fronts-one b bytes) (longer (groups left more bytes) (groups-leaves left more bytes))
  where
    longer : (r : Result (ℕ × List ℕ) ItemFault) → Leaves 1 bytes r → Leaves 1 (b ∷ bytes) (r >>= λ high. Ok ((b - 128 + 128 * high.0) % 2 ^ 64, high.1))
    longer (Ok read) h = record { front = b ∷ h.front; is = ap (λ (s : List ℕ). b ∷ s) h.is; some = omega arith }
    longer (Err e) h = tt

pub varint_in-leaves : (bytes : List ℕ) → Leaves 1 bytes (varint_in bytes)
unfolding varint_in
varint_in-leaves bytes = groups-leaves (length bytes) 10 bytes

pub tag_in-leaves : (bytes : List ℕ) → Leaves 1 bytes (tag_in bytes)
unfolding tag_in
tag_in-leaves bytes = checked (varint_in bytes) (varint_in-leaves bytes)
  where
    checked : (r : Result (ℕ × List ℕ) ItemFault) → Leaves 1 bytes r
        → Leaves 1 bytes (r >>= λ tag. cond (ltb tag.0 (2 ^ 32)) (cond (ltb tag.0 8) (fault FieldZero bytes) (cond (is_wire (tag.0 % 8)) (Ok tag) (fault WireType bytes))) (fault TagTooLarge bytes))
    checked (Ok tag) h =
        leaves-cond 1 bytes (ltb tag.0 (2 ^ 32)) _ _ (leaves-cond 1 bytes (ltb tag.0 8) _ _ tt (leaves-cond 1 bytes (is_wire (tag.0 % 8)) _ _ h tt)) tt
    checked (Err e) h = tt

fixed_in-leaves : (w : Width) (tag : ℕ) (bytes : List ℕ) → Leaves 0 bytes (fixed_in w tag bytes)
unfolding fixed_in
fixed_in-leaves w tag bytes = leaves-cond 0 bytes (ltb (length bytes) (byte_len w)) _ _ tt (fronts-cut (byte_len w) bytes)

fewer : (bytes rest : List ℕ) → Fronts 1 bytes rest → Fronts 0 bytes rest
fewer bytes rest h = record { front = h.front; is = h.is; some = omega arith }

number_in-leaves : (tag : ℕ) (bytes : List ℕ) → Leaves 0 bytes (number_in tag bytes)
unfolding number_in
number_in-leaves tag bytes = read (varint_in bytes) (varint_in-leaves bytes)
  where
    read : (r : Result (ℕ × List ℕ) ItemFault) → Leaves 1 bytes r → Leaves 0 bytes (r >>= λ number. Ok (item tag number.0 (length bytes - length number.1) bytes number.1))
    read (Ok number) h = fewer bytes number.1 h
    read (Err e) h = tt

delimited_in-leaves : (tag : ℕ) (bytes : List ℕ) → Leaves 0 bytes (delimited_in tag bytes)
unfolding delimited_in
delimited_in-leaves tag bytes = read (varint_in bytes) (varint_in-leaves bytes)
  where
    read : (r : Result (ℕ × List ℕ) ItemFault) → Leaves 1 bytes r
        → Leaves 0 bytes (r >>= λ len. cond (ltb (length len.1) len.0) (fault Truncated bytes) (Ok (item tag len.0 len.0 len.1 (drop len.0 len.1))))
    read (Ok len) h = leaves-cond 0 bytes (ltb (length len.1) len.0) _ _ tt (fronts-then 0 0 bytes len.1 (drop len.0 len.1) (fewer bytes len.1 h) (fronts-cut len.0 len.1))
    read (Err e) h = tt

payload_in-leaves : (tag : ℕ) (bytes : List ℕ) → Leaves 0 bytes (payload_in tag bytes)
unfolding payload_in
payload_in-leaves tag bytes =
    leaves-cond 0 bytes (eqb (tag % 8) 0) _ _ (number_in-leaves tag bytes)
    (leaves-cond 0 bytes (eqb (tag % 8) 1) _ _ (fixed_in-leaves w64 tag bytes)
    (leaves-cond 0 bytes (eqb (tag % 8) 2) _ _ (delimited_in-leaves tag bytes) (fixed_in-leaves w32 tag bytes)))

-- a record takes at least one byte
pub record_in-leaves : (bytes : List ℕ) → Leaves 1 bytes (record_in bytes)
unfolding record_in
record_in-leaves bytes = leaves-bind 1 0 bytes (tag_in bytes) (λ tag. payload_in tag.0 tag.1) (tag_in-leaves bytes) (λ tag. payload_in-leaves tag.0 tag.1)

pub leaves-ok : {A : Type 0} {least : ℕ} {bytes : List ℕ} {r : Result (A × List ℕ) ItemFault} (read : A × List ℕ) → r ≡ Ok read → Leaves least bytes r → Fronts least bytes read.1
leaves-ok {A} {least} {bytes} read h k = let P : Result (A × List ℕ) ItemFault → Type 0 = Leaves least bytes in subst P h k

pub record_in-fronts : (bytes : List ℕ) (read : Item × List ℕ) → record_in bytes ≡ Ok read → Fronts 1 bytes read.1
record_in-fronts bytes read h = leaves-ok read h (record_in-leaves bytes)

pub fronts-length : {least : ℕ} {bytes rest : List ℕ} → (h : Fronts least bytes rest) → length bytes ≡ length h.front + length rest
fronts-length {rest = rest} h = ap (λ (s : List ℕ). length s) h.is ∙ length-append h.front rest

-- what belongs to a record that was read is passed over
pub records_behind-front : (front rest : List ℕ) → records_behind (length front) (front ++ rest) ≡ records_in rest
unfolding records_behind records_in
records_behind-front [] [] = refl
records_behind-front [] (b ∷ rest) = refl
records_behind-front (b ∷ front) rest = records_behind-front front rest

-- the records of bytes: the first, and then those of what follows it
pub records_in-step : (b : ℕ) (bytes : List ℕ) → records_in (b ∷ bytes) ≡ then_scan (record_in (b ∷ bytes)) records_in
unfolding records_in records_behind
records_in-step b bytes = next (record_in (b ∷ bytes)) (record_in-leaves (b ∷ bytes))
  where
    skipped : (front rest : List ℕ) → b ∷ bytes ≡ front ++ rest → 1 ≤ length front → records_behind (length bytes - length rest) bytes ≡ records_in rest
    skipped [] rest e some = absurd (omega arith)
    skipped (c ∷ front) rest e some =
        let tails : bytes ≡ front ++ rest = ap (λ (s : List ℕ). drop 1 s) e in
        let len : length bytes - length rest ≡ length front = omega (arith, ap (λ (s : List ℕ). length s) tails, length-append front rest) in
        rw (len, tails) (records_behind-front front rest)

    next : (r : Result (Item × List ℕ) ItemFault) → Leaves 1 (b ∷ bytes) r → then_scan r (λ rest. records_behind (length bytes - length rest) bytes) ≡ then_scan r records_in
    next (Ok read) h = ap (Then read.0 (length read.1)) (skipped h.front read.1 h.is h.some)
    next (Err e) h = refl

-- ---- the value, record by record

pub value_in-end : {M : Type 0} (rows : List (Row M)) (value : M) (bytes : List ℕ) → length bytes ≡ 0 → value_in rows value bytes ≡ Ok value
unfolding value_in records_in records_behind
value_in-end rows value [] h = refl
value_in-end rows value (b ∷ bytes) h = absurd (omega arith)

pub value_in-step : {M : Type 0} (rows : List (Row M)) (value : M) (bytes : List ℕ) (read : Item × List ℕ) → 0 < length bytes
    → record_in bytes ≡ Ok read → value_in rows value bytes ≡ (before (length read.1) (accepted rows value read.0) >>= λ next. value_in rows next read.1)
unfolding value_in
value_in-step rows value [] read p h = absurd (omega arith)
value_in-step rows value (b ∷ bytes) read p h = rw (records_in-step b bytes, h) refl

pub value_in-broken : {M : Type 0} (rows : List (Row M)) (value : M) (bytes : List ℕ) (e : ItemFault) → 0 < length bytes
    → record_in bytes ≡ Err e → value_in rows value bytes ≡ Err e
unfolding value_in
value_in-broken rows value [] e p h = absurd (omega arith)
value_in-broken rows value (b ∷ bytes) e p h = rw (records_in-step b bytes, h) refl

pub value_in-accepted : {M : Type 0} (rows : List (Row M)) (value next : M) (bytes : List ℕ) (read : Item × List ℕ) → 0 < length bytes
    → record_in bytes ≡ Ok read → accepted rows value read.0 ≡ Ok next → value_in rows value bytes ≡ value_in rows next read.1
value_in-accepted rows value next bytes read p h a = value_in-step rows value bytes read p h ∙ rw a refl

-- ---- places

-- a fault of a record, told by the place where the record ends
pub before-fault : {A : Type 0} (end ends left : ℕ) (e : WireFault) (r : Result A ItemFault) → ends ≡ end - left → left ≤ end → FailsAt ends e r → FailsAt end e (before left r)
before-fault {A} end ends left e r at inside h =
    let within : e.at ≤ ends = h.1 in
    let P : Result A ItemFault → Type 0 = λ s. before left s ≡ Err (fault_before end e) in
    (subst P (sym h.0) (ap (λ (n : ℕ). Err (record { kind = e.kind; left = n })) (omega arith)), omega arith)

pub value_in-refused : {M : Type 0} (rows : List (Row M)) (value : M) (end ends : ℕ) (bytes : List ℕ) (read : Item × List ℕ) (e : DecodeFault) → 0 < length bytes → length bytes ≤ end
    → ends ≡ end - length read.1 → record_in bytes ≡ Ok read → FailsWith ends e (accepted rows value read.0) → FailsWith end e (value_in rows value bytes)
value_in-refused rows value end ends bytes read OutOfMemory p inside at h a = tt
value_in-refused {M} rows value end ends bytes read (Wire e) p inside at h a =
    let f = record_in-fronts bytes read h in
    let len = fronts-length f in
    let some = f.some in
    let k = before-fault end ends (length read.1) e (accepted rows value read.0) at (omega arith) a in
    (value_in-step rows value bytes read p h ∙ rw (k.0) refl, k.1)

-- ---- the last record of a field

pub last_of-end : (field wire : ℕ) (held : Option Item) (bytes : List ℕ) → length bytes ≡ 0 → last_of field wire held (records_in bytes) ≡ Ok held
unfolding records_in records_behind
last_of-end field wire held [] h = refl
last_of-end field wire held (b ∷ bytes) h = absurd (omega arith)

pub last_of-broken : (field wire : ℕ) (held : Option Item) (bytes : List ℕ) (e : ItemFault) → 0 < length bytes → record_in bytes ≡ Err e → last_of field wire held (records_in bytes) ≡ Err e
last_of-broken field wire held [] e p h = absurd (omega arith)
last_of-broken field wire held (b ∷ bytes) e p h = rw (records_in-step b bytes, h) refl

pub last_of-step : (field wire : ℕ) (held : Option Item) (bytes : List ℕ) (read : Item × List ℕ) → 0 < length bytes → record_in bytes ≡ Ok read
    → last_of field wire held (records_in bytes) ≡ last_of field wire (cond (belongs field wire read.0) (Some read.0) held) (records_in read.1)
last_of-step field wire held [] read p h = absurd (omega arith)
last_of-step field wire held (b ∷ bytes) read p h = rw (records_in-step b bytes, h) refl

pub last_of-kept : (field wire : ℕ) (held kept : Option Item) (bytes : List ℕ) (read : Item × List ℕ) → 0 < length bytes → record_in bytes ≡ Ok read
    → cond (belongs field wire read.0) (Some read.0) held ≡ kept → last_of field wire held (records_in bytes) ≡ last_of field wire kept (records_in read.1)
last_of-kept field wire held kept bytes read p h e = last_of-step field wire held bytes read p h ∙ ap (λ (o : Option Item). last_of field wire o (records_in read.1)) e

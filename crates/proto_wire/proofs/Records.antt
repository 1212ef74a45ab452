-- Records by their spellings.
use Rattle.std.proofs.Common.{◌≡◌, ℕ, zero, suc, ◌+◌, ◌-◌, ◌*◌, ◌/◌, ◌%◌, ◌^◌, ◌<◌, ◌≤◌, ◌↔◌, Bool, true, false, cond, ltb, eqb, List, [], ◌∷◌, ◌++◌, length, take, drop, Option, Some, None, Result, Ok, Err, refl, sym, ap, subst, ◌∙◌, arith, append_assoc, length-take, ◌||◌}
use Rattle.std.specs.Prelude.{option_map}
use Rattle.std.proofs.lemmas.List.{append-nil, take-append-drop}
use Rattle.std.proofs.lemmas.List.Elements.{All-tail}
use Rattle.std.proofs.lemmas.Bool.{ltb-true, eqb-true}
use Rattle.std.proofs.lemmas.Bool.Decides.{nat_tests}
use Rattle.std.specs.Int.{Width, w32, w64, byte_len, from_le_bytes}
use Rattle.proto_wire.specs.declared.fault.WireKind.TheVariants.{Truncated}
use Rattle.proto_wire.specs.Varint.{ItemFault, ◌>>=◌, fault, varint_in}
use Rattle.proto_wire.specs.Record.{Item, item, is_wire, tag_in, number_in, fixed_in, delimited_in, payload_in, record_in, records_behind, records_in}
use Rattle.proto_wire.specs.Message.{Row, value_in}
use Rattle.proto_wire.specs.Encoding.{AreBytes, IsVarint, IsTagOf, IsPayload, a_varint, eight_bytes, delimited, four_bytes, IsRecord, HaveRecords, no_more, next, items_of, IsUnknown}
use Rattle.proto_wire.proofs.Again.{below, not_below, same, not_same}
use Rattle.proto_wire.proofs.Scans.{records_in-step}
use Rattle.proto_wire.proofs.Fronts.{same-ok, tag-read, read-tag, ok, made, number_in-made, fixed_in-made, delimited_in-made, record-read, read-record}
use Rattle.proto_wire.proofs.Joined.{first-shorter, joined-read-on, one-more, unknown-passed}
use Rattle.proto_wire.proofs.Spelled.{varint-spelled, varint-begins}

IsByte : ℕ → Type 0
IsByte b = b < 256

pub bytes-behind : (front rest : List ℕ) → AreBytes (front ++ rest) → AreBytes rest
bytes-behind [] rest all = all
bytes-behind (b ∷ front) rest all = bytes-behind front rest (All-tail (λ (n : ℕ). n < 256) b (front ++ rest) all)

pub bytes-left : (bytes front rest : List ℕ) → bytes ≡ front ++ rest → AreBytes bytes → AreBytes rest
bytes-left bytes front rest is all = let P : List ℕ → Type 0 = λ s. AreBytes s in bytes-behind front rest (subst P is all)

-- ---- tags

pub wire-small : (wire : ℕ) → is_wire wire ≡ true → wire < 8
wire-small wire h = grind (arith, nat_tests)

tag-spelled : (field wire : ℕ) (spelling rest : List ℕ) → IsTagOf field wire spelling → tag_in (spelling ++ rest) ≡ Ok (8 * field + wire, rest)
tag-spelled field wire spelling rest t =
    let small = wire-small wire t.has_wire in
    let least = t.has_field in
    let kept : (8 * field + wire) % 8 ≡ wire = omega arith in
    read-tag (spelling ++ rest) (8 * field + wire, rest) (record {
      number = varint-spelled spelling (8 * field + wire) rest t.spells;
      fits = below (8 * field + wire) (2 ^ 32) t.fits;
      has_field = not_below (8 * field + wire) 8 (omega arith);
      has_wire = ap is_wire kept ∙ t.has_wire;
    })

record TagBegins (bytes : List ℕ) (tag : ℕ) (rest : List ℕ) : Type 0 where
  spelling : List ℕ
  is : bytes ≡ spelling ++ rest
  is_tag : IsTagOf (tag / 8) (tag % 8) spelling

tag-begins : (bytes : List ℕ) (tag : ℕ) (rest : List ℕ) → AreBytes bytes → tag_in bytes ≡ Ok (tag, rest) → TagBegins bytes tag rest
tag-begins bytes tag rest all h =
    let r = tag-read bytes (tag, rest) h in
    let b = varint-begins bytes rest tag all r.number in
    let whole : tag ≡ 8 * (tag / 8) + tag % 8 = omega arith in
    let fits : tag < 2 ^ 32 = ltb-true _ _ r.fits in
    let P : ℕ → Type 0 = λ n. IsVarint b.spelling n in
    let large : 8 ≤ tag = some-field tag r.has_field in
    record { spelling = b.spelling; is = b.is; is_tag = record { spells = subst P whole b.spells; fits = omega arith; has_field = omega arith; has_wire = r.has_wire } }
  where
    some-field : (tag : ℕ) → ltb tag 8 ≡ false → 8 ≤ tag
    some-field tag h = grind (arith, nat_tests)

-- ---- payloads

pub payload-zero : (tag : ℕ) (bytes : List ℕ) → tag % 8 ≡ 0 → payload_in tag bytes ≡ number_in tag bytes
unfolding payload_in
payload-zero tag bytes h = rw (same (tag % 8) 0 h) refl

pub payload-one : (tag : ℕ) (bytes : List ℕ) → tag % 8 ≡ 1 → payload_in tag bytes ≡ fixed_in w64 tag bytes
unfolding payload_in
payload-one tag bytes h = rw (not_same (tag % 8) 0 (λ e. omega arith), same (tag % 8) 1 h) refl

pub payload-two : (tag : ℕ) (bytes : List ℕ) → tag % 8 ≡ 2 → payload_in tag bytes ≡ delimited_in tag bytes
unfolding payload_in
payload-two tag bytes h = rw (not_same (tag % 8) 0 (λ e. omega arith), not_same (tag % 8) 1 (λ e. omega arith), same (tag % 8) 2 h) refl

pub payload-five : (tag : ℕ) (bytes : List ℕ) → tag % 8 ≡ 5 → payload_in tag bytes ≡ fixed_in w32 tag bytes
unfolding payload_in
payload-five tag bytes h = rw (not_same (tag % 8) 0 (λ e. omega arith), not_same (tag % 8) 1 (λ e. omega arith), not_same (tag % 8) 2 (λ e. omega arith)) refl

made-is : (tag : ℕ) (item : Item) (number : ℕ) (payload rest : List ℕ) → tag ≡ 8 * item.field + item.wire → item.wire < 8 → number ≡ item.number → payload ≡ item.payload
    → ok {A = Item × List ℕ} (made tag number payload, rest) ≡ ok (item, rest)
made-is tag it number payload rest h small k l =
    let field : tag / 8 ≡ it.field = omega arith in
    let wire : tag % 8 ≡ it.wire = omega arith in
    rw (field, wire, k, l) refl

payload-spelled : (tag : ℕ) (item : Item) (payload rest : List ℕ) → tag ≡ 8 * item.field + item.wire → item.wire < 8 → IsPayload item payload → payload_in tag (payload ++ rest) ≡ Ok (item, rest)
payload-spelled tag item payload rest h small (a_varint w v p) =
    payload-zero tag (payload ++ rest) (omega arith) ∙ number_in-made tag payload rest item.number (varint-spelled payload item.number rest v) ∙ made-is tag item item.number payload rest h small refl (sym p)
payload-spelled tag item payload rest h small (eight_bytes w len n p) =
    payload-one tag (payload ++ rest) (omega arith) ∙ fixed_in-made w64 tag payload rest len ∙ made-is tag item (from_le_bytes w64 payload) payload rest h small (sym n) (sym p)
payload-spelled tag item payload rest h small (delimited w len v n is) =
    payload-two tag (payload ++ rest) (omega arith)
    ∙ ap (λ (s : List ℕ). delimited_in tag (s ++ rest)) is
    ∙ ap (delimited_in tag) (append_assoc len item.payload rest)
    ∙ delimited_in-made tag item.number len item.payload rest n (varint-spelled len item.number (item.payload ++ rest) v)
    ∙ made-is tag item item.number item.payload rest h small refl refl
payload-spelled tag item payload rest h small (four_bytes w len n p) =
    payload-five tag (payload ++ rest) (omega arith) ∙ fixed_in-made w32 tag payload rest len ∙ made-is tag item (from_le_bytes w32 payload) payload rest h small (sym n) (sym p)

pub record-spelled : (spelling : List ℕ) (item : Item) (rest : List ℕ) → IsRecord spelling item → record_in (spelling ++ rest) ≡ Ok (item, rest)
record-spelled spelling item rest r =
    let whole : spelling ++ rest ≡ r.tag ++ (r.payload ++ rest) = ap (λ (s : List ℕ). s ++ rest) r.is ∙ append_assoc r.tag r.payload rest in
    let tag : ℕ = 8 * item.field + item.wire in
    ap record_in whole
    ∙ read-record (r.tag ++ (r.payload ++ rest)) (tag, r.payload ++ rest) (item, rest) (tag-spelled item.field item.wire r.tag (r.payload ++ rest) r.tag_is)
    (payload-spelled tag item r.payload rest refl (wire-small item.wire r.tag_is.has_wire) r.payload_is)

-- the payload that was read of a tag
record PayloadBegins (tag : ℕ) (bytes : List ℕ) (read : Item × List ℕ) : Type 0 where
  spelling : List ℕ
  is : bytes ≡ spelling ++ read.1
  field : read.0.field ≡ tag / 8
  wire : read.0.wire ≡ tag % 8
  is_payload : IsPayload read.0 spelling

number-begins : (tag : ℕ) (bytes : List ℕ) (read : Item × List ℕ) → AreBytes bytes → tag % 8 ≡ 0 → number_in tag bytes ≡ Ok read → PayloadBegins tag bytes read
unfolding number_in
number-begins tag bytes read all w h = step (varint_in bytes) refl h
  where
    step : (r : Result (ℕ × List ℕ) ItemFault) → varint_in bytes ≡ r → (r >>= λ number. Ok (item tag number.0 (length bytes - length number.1) bytes number.1)) ≡ Ok read → PayloadBegins tag bytes read
    step (Ok number) e h =
        let b = varint-begins bytes number.1 number.0 all e in
        let P : Item × List ℕ → Type 0 = λ r. PayloadBegins tag bytes r in
        let again : varint_in (b.spelling ++ number.1) ≡ Ok number = ap varint_in (sym b.is) ∙ e in
        let begins : PayloadBegins tag bytes (made tag number.0 b.spelling, number.1) = record { spelling = b.spelling; is = b.is; field = refl; wire = refl; is_payload = a_varint w b.spells refl } in
        let direct : number_in tag bytes ≡ Ok (made tag number.0 b.spelling, number.1) = ap (number_in tag) b.is ∙ number_in-made tag b.spelling number.1 number.0 again in
        let told : number_in tag bytes ≡ Ok read = rw e h in
        subst P (same-ok (sym direct ∙ told)) begins
    step (Err f) e h = absurd cc

fixed-begins : (w : Width) (tag : ℕ) (bytes : List ℕ) (read : Item × List ℕ)
    → ((payload : List ℕ) → length payload ≡ byte_len w → IsPayload (made tag (from_le_bytes w payload) payload) payload) → fixed_in w tag bytes ≡ Ok read → PayloadBegins tag bytes read
unfolding fixed_in
fixed-begins w tag bytes read is h = step (ltb (length bytes) (byte_len w)) refl h
  where
    step : (t : Bool) → ltb (length bytes) (byte_len w) ≡ t
        → cond t (fault Truncated bytes) (Ok (item tag (from_le_bytes w (take (byte_len w) bytes)) (byte_len w) bytes (drop (byte_len w) bytes))) ≡ Ok read → PayloadBegins tag bytes read
    step true e h = absurd cc
    step false e h =
        let P : Item × List ℕ → Type 0 = λ r. PayloadBegins tag bytes r in
        let enough : byte_len w ≤ length bytes = grind (arith, nat_tests) in
        let payload : List ℕ = take (byte_len w) bytes in
        let len : length payload ≡ byte_len w = omega (arith, length-take (byte_len w) bytes) in
        let begins : PayloadBegins tag bytes (item tag (from_le_bytes w payload) (byte_len w) bytes (drop (byte_len w) bytes)) =
        record { spelling = payload; is = sym (take-append-drop (byte_len w) bytes); field = refl; wire = refl; is_payload = is payload len } in
        subst P (same-ok h) begins

delimited-begins : (tag : ℕ) (bytes : List ℕ) (read : Item × List ℕ) → AreBytes bytes → tag % 8 ≡ 2 → delimited_in tag bytes ≡ Ok read → PayloadBegins tag bytes read
unfolding delimited_in
delimited-begins tag bytes read all w h = step (varint_in bytes) refl h
  where
    inside : (t : Bool) (len : ℕ × List ℕ) → varint_in bytes ≡ Ok len → ltb (length len.1) len.0 ≡ t
        → cond t (fault Truncated bytes) (Ok (item tag len.0 len.0 len.1 (drop len.0 len.1))) ≡ Ok read → PayloadBegins tag bytes read
    inside true len e f h = absurd cc
    inside false len e f h =
        let P : Item × List ℕ → Type 0 = λ r. PayloadBegins tag bytes r in
        let b = varint-begins bytes len.1 len.0 all e in
        let enough : len.0 ≤ length len.1 = grind (arith, nat_tests) in
        let payload : List ℕ = take len.0 len.1 in
        let long : length payload ≡ len.0 = omega (arith, length-take len.0 len.1) in
        let begins : PayloadBegins tag bytes (item tag len.0 len.0 len.1 (drop len.0 len.1)) = record {
          spelling = b.spelling ++ payload;
          is = b.is ∙ ap (λ (s : List ℕ). b.spelling ++ s) (sym (take-append-drop len.0 len.1)) ∙ sym (append_assoc b.spelling payload (drop len.0 len.1));
          field = refl;
          wire = refl;
          is_payload = delimited w b.spelling b.spells long refl;
        } in
        subst P (same-ok h) begins

    step : (r : Result (ℕ × List ℕ) ItemFault) → varint_in bytes ≡ r
        → (r >>= λ len. cond (ltb (length len.1) len.0) (fault Truncated bytes) (Ok (item tag len.0 len.0 len.1 (drop len.0 len.1)))) ≡ Ok read → PayloadBegins tag bytes read
    step (Ok len) e h = inside (ltb (length len.1) len.0) len e refl h
    step (Err f) e h = absurd cc

-- the wire type of a tag that was read
pub data WireOf (wire : ℕ) : Type 0 where
  is_zero : wire ≡ 0 → WireOf wire
  is_one : wire ≡ 1 → WireOf wire
  is_two : wire ≡ 2 → WireOf wire
  is_five : wire ≡ 5 → WireOf wire

pub wire-of : (wire : ℕ) → is_wire wire ≡ true → WireOf wire
wire-of wire h = step (eqb wire 0) refl (eqb wire 1) refl (eqb wire 2) refl (eqb wire 5) refl h
  where
    step : (a : Bool) → eqb wire 0 ≡ a → (b : Bool) → eqb wire 1 ≡ b → (c : Bool) → eqb wire 2 ≡ c → (d : Bool) → eqb wire 5 ≡ d → (a || b || c || d) ≡ true → WireOf wire
    step true e b f c k d l h = is_zero (eqb-true wire 0 e)
    step false e true f c k d l h = is_one (eqb-true wire 1 f)
    step false e false f true k d l h = is_two (eqb-true wire 2 k)
    step false e false f false k true l h = is_five (eqb-true wire 5 l)
    step false e false f false k false l h = absurd cc

payload-begins : (tag : ℕ) (bytes : List ℕ) (read : Item × List ℕ) → AreBytes bytes → WireOf (tag % 8) → payload_in tag bytes ≡ Ok read → PayloadBegins tag bytes read
payload-begins tag bytes read all (is_zero w) h = number-begins tag bytes read all w (sym (payload-zero tag bytes w) ∙ h)
payload-begins tag bytes read all (is_one w) h = fixed-begins w64 tag bytes read (λ payload len. eight_bytes w len refl refl) (sym (payload-one tag bytes w) ∙ h)
payload-begins tag bytes read all (is_two w) h = delimited-begins tag bytes read all w (sym (payload-two tag bytes w) ∙ h)
payload-begins tag bytes read all (is_five w) h = fixed-begins w32 tag bytes read (λ payload len. four_bytes w len refl refl) (sym (payload-five tag bytes w) ∙ h)

-- ---- records

record RecordBegins (bytes : List ℕ) (read : Item × List ℕ) : Type 0 where
  spelling : List ℕ
  is : bytes ≡ spelling ++ read.1
  is_record : IsRecord spelling read.0

tag-is : (field wire f w : ℕ) (spelling : List ℕ) → f ≡ field → w ≡ wire → IsTagOf field wire spelling → IsTagOf f w spelling
tag-is field wire f w spelling h k t = rw (h, k) t

record-begins : (bytes : List ℕ) (read : Item × List ℕ) → AreBytes bytes → record_in bytes ≡ Ok read → RecordBegins bytes read
record-begins bytes read all h =
    let r = record-read bytes read h in
    let t = tag-begins bytes r.tag.0 r.tag.1 all r.tag_is in
    let rest : AreBytes r.tag.1 = bytes-left bytes t.spelling r.tag.1 t.is all in
    let p = payload-begins r.tag.0 r.tag.1 read rest (wire-of (r.tag.0 % 8) t.is_tag.has_wire) r.payload_is in
    record {
      spelling = t.spelling ++ p.spelling;
      is = t.is ∙ ap (λ (s : List ℕ). t.spelling ++ s) p.is ∙ sym (append_assoc t.spelling p.spelling read.1);
      is_record = record { tag = t.spelling; payload = p.spelling; is = refl; tag_is = tag-is (r.tag.0 / 8) (r.tag.0 % 8) read.0.field read.0.wire t.spelling p.field p.wire t.is_tag; payload_is = p.is_payload };
    }

items-step : (bytes : List ℕ) (read : Item × List ℕ) → 0 < length bytes → record_in bytes ≡ Ok read → items_of (records_in bytes) ≡ option_map (λ (items : List Item). read.0 ∷ items) (items_of (records_in read.1))
items-step [] read some h = absurd (omega arith)
items-step (b ∷ bytes) read some h = ap items_of (records_in-step b bytes) ∙ rw h refl

items-broken : (bytes : List ℕ) (e : ItemFault) → 0 < length bytes → record_in bytes ≡ Err e → items_of (records_in bytes) ≡ None
items-broken [] e some h = absurd (omega arith)
items-broken (b ∷ bytes) e some h = ap items_of (records_in-step b bytes) ∙ rw h refl

pub have-read : (bytes : List ℕ) (items : List Item) → HaveRecords bytes items → items_of (records_in bytes) ≡ Some items
unfolding records_in records_behind
have-read [] [] no_more = refl
have-read (b ∷ bytes) [] h = elim h [ ]
have-read bytes (it ∷ items) (next whole spelling rest first others is r more) =
    let read : record_in bytes ≡ Ok (it, rest) = ap record_in is ∙ record-spelled spelling it rest r in
    let shorter = first-shorter bytes (it, rest) read in
    items-step bytes (it, rest) (omega arith) read ∙ ap (option_map (λ (items : List Item). it ∷ items)) (have-read rest items more)

items-empty : items_of (records_in []) ≡ Some []
unfolding records_in records_behind
items-empty = refl

read-have : (fuel : ℕ) (bytes : List ℕ) (items : List Item) → length bytes ≤ fuel → AreBytes bytes → items_of (records_in bytes) ≡ Some items → HaveRecords bytes items
read-have fuel [] items le all h =
    let P : List Item → Type 0 = λ s. HaveRecords [] s in
    let start = items-empty in
    let same : [] ≡ items = cc in
    subst P same no_more
read-have zero (b ∷ bytes) items le all h = absurd (omega arith)
read-have (suc fuel) (b ∷ bytes) items le all h = step (record_in (b ∷ bytes)) refl (λ rest items le all h. read-have fuel rest items le all h)
  where
    joined : (read : Item × List ℕ) → record_in (b ∷ bytes) ≡ Ok read → (s : Option (List Item)) → items_of (records_in read.1) ≡ s → option_map (λ (items : List Item). read.0 ∷ items) s ≡ Some items
        → ((rest : List ℕ) (items : List Item) → length rest ≤ fuel → AreBytes rest → items_of (records_in rest) ≡ Some items → HaveRecords rest items) → HaveRecords (b ∷ bytes) items
    joined read e None f g k = absurd cc
    joined read e (Some more) f g k =
        let r = record-begins (b ∷ bytes) read all e in
        let shorter : length read.1 < length (b ∷ bytes) = first-shorter (b ∷ bytes) read e in
        let same : read.0 ∷ more ≡ items = cc in
        let P : List Item → Type 0 = λ s. HaveRecords (b ∷ bytes) s in
        subst P same (next (b ∷ bytes) r.spelling read.1 read.0 more r.is r.is_record (k read.1 more (omega arith) (bytes-left (b ∷ bytes) r.spelling read.1 r.is all) f))

    step : (r : Result (Item × List ℕ) ItemFault) → record_in (b ∷ bytes) ≡ r
        → ((rest : List ℕ) (items : List Item) → length rest ≤ fuel → AreBytes rest → items_of (records_in rest) ≡ Some items → HaveRecords rest items) → HaveRecords (b ∷ bytes) items
    step (Ok read) e k = joined read e (items_of (records_in read.1)) refl (sym (items-step (b ∷ bytes) read (omega arith) e) ∙ h) k
    step (Err f) e k = let none = items-broken (b ∷ bytes) f (omega arith) e in absurd cc

pub records-are-read : (bytes : List ℕ) (items : List Item) → AreBytes bytes → (items_of (records_in bytes) ≡ Some items) ↔ HaveRecords bytes items
records-are-read bytes items all = (λ h. read-have (length bytes) bytes items (omega arith) all h, λ h. have-read bytes items h)

pub records-are-unique : (bytes : List ℕ) (items others : List Item) → HaveRecords bytes items → HaveRecords bytes others → items ≡ others
records-are-unique bytes items others h k =
    let one = have-read bytes items h in
    let two = have-read bytes others k in
    cc

-- ---- a record that no row takes

only-record : (spelling : List ℕ) (item : Item) (more : List ℕ) → HaveRecords spelling (item ∷ []) → record_in (spelling ++ more) ≡ Ok (item, more)
only-record spelling item more (next whole front rest first [] is r no_more) =
    ap (λ (s : List ℕ). record_in (s ++ more)) (is ∙ append-nil front) ∙ record-spelled front item more r

pub unknown-changes-nothing : {M : Type 0} (rows : List (Row M)) (old new : M) (bytes spelling more : List ℕ) (item : Item) → value_in rows old bytes ≡ Ok new → HaveRecords spelling (item ∷ []) → IsUnknown rows item
    → value_in rows old (bytes ++ (spelling ++ more)) ≡ value_in rows old (bytes ++ more)
unknown-changes-nothing rows old new bytes spelling more item h one none =
    joined-read-on rows old new bytes (spelling ++ more) h
    ∙ one-more rows new new spelling more item (only-record spelling item more one) (unknown-passed rows new item none)
    ∙ sym (joined-read-on rows old new bytes more h)

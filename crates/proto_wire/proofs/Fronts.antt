-- What is read at the front of bytes is read there before anything else too.
use Rattle.std.proofs.Common.{◌≡◌, ℕ, zero, suc, ◌+◌, ◌-◌, ◌*◌, ◌/◌, ◌%◌, ◌^◌, ◌≤◌, Bool, true, false, cond, ltb, eqb, List, [], ◌∷◌, ◌++◌, length, take, drop, Result, Ok, Err, refl, sym, ap, subst, ◌∙◌, arith, append_assoc, length-append, length-take}
use Rattle.std.proofs.lemmas.List.{take-append-drop}
use Rattle.std.proofs.lemmas.Bool.Decides.{nat_tests}
use Rattle.std.proofs.Math.Seq.{take-append_seam, drop-append_seam}
use Rattle.std.specs.Int.{Width, w32, w64, byte_len, from_le_bytes}
use Rattle.proto_wire.specs.declared.fault.WireKind.TheVariants.{Truncated, TagTooLarge, FieldZero, WireType}
use Rattle.proto_wire.specs.Varint.{ItemFault, ◌>>=◌, fault, groups, varint_in}
use Rattle.proto_wire.specs.Record.{Item, item, is_wire, tag_in, fixed_in, delimited_in, number_in, payload_in, record_in}
use Rattle.proto_wire.proofs.Again.{not_below}

abbrev pub ok : {A : Type 0} → A → Result A ItemFault
ok x = Ok x

pub same-ok : {A : Type 0} {x y : A} → ok x ≡ ok y → x ≡ y
same-ok h = cc

-- the front of the bytes gives this, before whatever stands behind it
pub record Stands {A : Type 0} (reads : List ℕ → Result (A × List ℕ) ItemFault) (bytes : List ℕ) (read : A × List ℕ) : Type 0 where
  pub front : List ℕ
  pub is : bytes ≡ front ++ read.1
  pub again : (more : List ℕ) → reads (front ++ more) ≡ Ok (read.0, more)

-- the same of groups, wherever they began
pub record GroupsStand (most : ℕ) (bytes : List ℕ) (read : ℕ × List ℕ) : Type 0 where
  pub front : List ℕ
  pub is : bytes ≡ front ++ read.1
  pub again : (at : ℕ) (more : List ℕ) → groups at most (front ++ more) ≡ Ok (read.0, more)

groups-last : (at most b : ℕ) (bytes : List ℕ) → ltb b 128 ≡ true → groups at (suc most) (b ∷ bytes) ≡ Ok (b, bytes)
unfolding groups
groups-last at most b bytes h = rw h refl

groups-more : (at most b : ℕ) (bytes : List ℕ) (high : ℕ × List ℕ) → ltb b 128 ≡ false → groups at most bytes ≡ Ok high → groups at (suc most) (b ∷ bytes) ≡ Ok ((b - 128 + 128 * high.0) % 2 ^ 64, high.1)
unfolding groups
groups-more at most b bytes high h k = rw (h, k) refl

groups-stand : (at most : ℕ) (bytes : List ℕ) (read : ℕ × List ℕ) → groups at most bytes ≡ Ok read → GroupsStand most bytes read
unfolding groups
groups-stand at zero bytes read h = absurd cc
groups-stand at (suc most) [] read h = absurd cc
groups-stand at (suc most) (b ∷ bytes) read h = step (ltb b 128) refl (groups-stand at most bytes) h
  where
    deeper : (r : Result (ℕ × List ℕ) ItemFault) → ltb b 128 ≡ false → ((high : ℕ × List ℕ) → r ≡ Ok high → GroupsStand most bytes high)
        → (r >>= λ high. Ok ((b - 128 + 128 * high.0) % 2 ^ 64, high.1)) ≡ Ok read → GroupsStand (suc most) (b ∷ bytes) read
    deeper (Ok high) e k h =
        let g = k high refl in
        let P : ℕ × List ℕ → Type 0 = λ r. GroupsStand (suc most) (b ∷ bytes) r in
        let stands : GroupsStand (suc most) (b ∷ bytes) ((b - 128 + 128 * high.0) % 2 ^ 64, high.1) = record {
          front = b ∷ g.front;
          is = ap (λ (s : List ℕ). b ∷ s) g.is;
          again = λ at more. groups-more at most b (g.front ++ more) (high.0, more) e (g.again at more);
        } in
        subst P (same-ok h) stands
    deeper (Err e) f k h = absurd cc

    step : (t : Bool) → ltb b 128 ≡ t → ((high : ℕ × List ℕ) → groups at most bytes ≡ Ok high → GroupsStand most bytes high) → cond t (Ok (b, bytes)) (groups at most bytes >>= λ high. Ok ((b - 128 + 128 * high.0) % 2 ^ 64, high.1)) ≡ Ok read → GroupsStand (suc most) (b ∷ bytes) read
    step true e k h =
        let P : ℕ × List ℕ → Type 0 = λ r. GroupsStand (suc most) (b ∷ bytes) r in
        let stands : GroupsStand (suc most) (b ∷ bytes) (b, bytes) = record { front = b ∷ []; is = refl; again = λ at more. groups-last at most b more e } in
        subst P (same-ok h) stands
    step false e k h = deeper (groups at most bytes) e k h

pub varint_in-stands : (bytes : List ℕ) (read : ℕ × List ℕ) → varint_in bytes ≡ Ok read → Stands varint_in bytes read
unfolding varint_in
varint_in-stands bytes read h =
    let g = groups-stand (length bytes) 10 bytes read h in
    record { front = g.front; is = g.is; again = λ more. g.again (length (g.front ++ more)) more }

-- what a tag has that was read
pub record TagRead (bytes : List ℕ) (tag : ℕ × List ℕ) : Type 0 where
  pub number : varint_in bytes ≡ Ok tag
  pub fits : ltb tag.0 (2 ^ 32) ≡ true
  pub has_field : ltb tag.0 8 ≡ false
  pub has_wire : is_wire (tag.0 % 8) ≡ true

pub tag-read : (bytes : List ℕ) (tag : ℕ × List ℕ) → tag_in bytes ≡ Ok tag → TagRead bytes tag
unfolding tag_in
tag-read bytes tag h = step (varint_in bytes) refl h
  where
    last : (w : Bool) (read : ℕ × List ℕ) → varint_in bytes ≡ Ok read → ltb read.0 (2 ^ 32) ≡ true → ltb read.0 8 ≡ false → is_wire (read.0 % 8) ≡ w
        → cond w (Ok read) (fault WireType bytes) ≡ Ok tag → TagRead bytes tag
    last true read e s f w h = let P : ℕ × List ℕ → Type 0 = λ r. TagRead bytes r in subst P (same-ok h) (record { number = e; fits = s; has_field = f; has_wire = w })
    last false read e s f w h = absurd cc

    second : (t : Bool) (read : ℕ × List ℕ) → varint_in bytes ≡ Ok read → ltb read.0 (2 ^ 32) ≡ true → ltb read.0 8 ≡ t
        → cond t (fault FieldZero bytes) (cond (is_wire (read.0 % 8)) (Ok read) (fault WireType bytes)) ≡ Ok tag → TagRead bytes tag
    second true read e s f h = absurd cc
    second false read e s f h = last (is_wire (read.0 % 8)) read e s f refl h

    first : (t : Bool) (read : ℕ × List ℕ) → varint_in bytes ≡ Ok read → ltb read.0 (2 ^ 32) ≡ t
        → cond t (cond (ltb read.0 8) (fault FieldZero bytes) (cond (is_wire (read.0 % 8)) (Ok read) (fault WireType bytes))) (fault TagTooLarge bytes) ≡ Ok tag → TagRead bytes tag
    first true read e s h = second (ltb read.0 8) read e s refl h
    first false read e s h = absurd cc

    step : (r : Result (ℕ × List ℕ) ItemFault) → varint_in bytes ≡ r
        → (r >>= λ read. cond (ltb read.0 (2 ^ 32)) (cond (ltb read.0 8) (fault FieldZero bytes) (cond (is_wire (read.0 % 8)) (Ok read) (fault WireType bytes))) (fault TagTooLarge bytes)) ≡ Ok tag → TagRead bytes tag
    step (Ok read) e h = first (ltb read.0 (2 ^ 32)) read e refl h
    step (Err f) e h = absurd cc

pub read-tag : (bytes : List ℕ) (tag : ℕ × List ℕ) → TagRead bytes tag → tag_in bytes ≡ Ok tag
unfolding tag_in
read-tag bytes tag h = rw (h.number, h.fits, h.has_field, h.has_wire) refl

pub tag_in-stands : (bytes : List ℕ) (tag : ℕ × List ℕ) → tag_in bytes ≡ Ok tag → Stands tag_in bytes tag
tag_in-stands bytes tag h =
    let r = tag-read bytes tag h in
    let v = varint_in-stands bytes tag r.number in
    record { front = v.front; is = v.is; again = λ more. read-tag (v.front ++ more) (tag.0, more) (record { number = v.again more; fits = r.fits; has_field = r.has_field; has_wire = r.has_wire }) }

-- ---- payloads

-- the record of a tag with this payload
abbrev pub made : ℕ → ℕ → List ℕ → Item
made tag number payload = record { field = tag / 8; wire = tag % 8; number = number; payload = payload }

made-ok : (tag number : ℕ) (p q rest left : List ℕ) → p ≡ q → rest ≡ left → ok {A = Item × List ℕ} (made tag number p, rest) ≡ ok (made tag number q, left)
made-ok tag number p q rest left h k = rw (h, k) refl

pub number_in-made : (tag : ℕ) (front more : List ℕ) (number : ℕ) → varint_in (front ++ more) ≡ Ok (number, more) → number_in tag (front ++ more) ≡ Ok (made tag number front, more)
unfolding number_in
number_in-made tag front more number h =
    let len : length (front ++ more) - length more ≡ length front = omega (arith, length-append front more) in
    rw h (made-ok tag number (take (length (front ++ more) - length more) (front ++ more)) front more more (ap (λ (n : ℕ). take n (front ++ more)) len ∙ take-append_seam front more) refl)

pub number_in-stands : (tag : ℕ) (bytes : List ℕ) (read : Item × List ℕ) → number_in tag bytes ≡ Ok read → Stands (number_in tag) bytes read
unfolding number_in
number_in-stands tag bytes read h = step (varint_in bytes) refl h
  where
    step : (r : Result (ℕ × List ℕ) ItemFault) → varint_in bytes ≡ r → (r >>= λ number. Ok (item tag number.0 (length bytes - length number.1) bytes number.1)) ≡ Ok read → Stands (number_in tag) bytes read
    step (Ok number) e h =
        let v = varint_in-stands bytes number e in
        let P : Item × List ℕ → Type 0 = λ r. Stands (number_in tag) bytes r in
        let stands : Stands (number_in tag) bytes (made tag number.0 v.front, number.1) = record { front = v.front; is = v.is; again = λ more. number_in-made tag v.front more number.0 (v.again more) } in
        let len : length bytes - length number.1 ≡ length v.front = omega (arith, length-append v.front number.1, ap (λ (s : List ℕ). length s) v.is) in
        let payload : take (length bytes - length number.1) bytes ≡ v.front = ap (λ (n : ℕ). take n bytes) len ∙ ap (λ (s : List ℕ). take (length v.front) s) v.is ∙ take-append_seam v.front number.1 in
        subst P (same-ok (made-ok tag number.0 v.front (take (length bytes - length number.1) bytes) number.1 number.1 (sym payload) refl ∙ h)) stands
    step (Err f) e h = absurd cc

-- bytes of a length, and then more
at-least : (len : ℕ) (front more : List ℕ) → length front ≡ len → ltb (length (front ++ more)) len ≡ false
at-least len front more h = not_below (length (front ++ more)) len (omega (arith, length-append front more))

pub fixed_in-made : (w : Width) (tag : ℕ) (front more : List ℕ) → length front ≡ byte_len w → fixed_in w tag (front ++ more) ≡ Ok (made tag (from_le_bytes w front) front, more)
unfolding fixed_in
fixed_in-made w tag front more h =
    let taken : take (byte_len w) (front ++ more) ≡ front = ap (λ (n : ℕ). take n (front ++ more)) (sym h) ∙ take-append_seam front more in
    let left : drop (byte_len w) (front ++ more) ≡ more = ap (λ (n : ℕ). drop n (front ++ more)) (sym h) ∙ drop-append_seam front more in
    rw (at-least (byte_len w) front more h, taken, left) refl

pub fixed_in-stands : (w : Width) (tag : ℕ) (bytes : List ℕ) (read : Item × List ℕ) → fixed_in w tag bytes ≡ Ok read → Stands (fixed_in w tag) bytes read
unfolding fixed_in
fixed_in-stands w tag bytes read h = step (ltb (length bytes) (byte_len w)) refl h
  where
    step : (t : Bool) → ltb (length bytes) (byte_len w) ≡ t
        → cond t (fault Truncated bytes) (Ok (item tag (from_le_bytes w (take (byte_len w) bytes)) (byte_len w) bytes (drop (byte_len w) bytes))) ≡ Ok read → Stands (fixed_in w tag) bytes read
    step true e h = absurd cc
    step false e h =
        let P : Item × List ℕ → Type 0 = λ r. Stands (fixed_in w tag) bytes r in
        let enough : byte_len w ≤ length bytes = grind (arith, nat_tests) in
        let len : length (take (byte_len w) bytes) ≡ byte_len w = omega (arith, length-take (byte_len w) bytes) in
        let stands : Stands (fixed_in w tag) bytes (item tag (from_le_bytes w (take (byte_len w) bytes)) (byte_len w) bytes (drop (byte_len w) bytes)) = record {
          front = take (byte_len w) bytes;
          is = sym (take-append-drop (byte_len w) bytes);
          again = λ more. fixed_in-made w tag (take (byte_len w) bytes) more len;
        } in
        subst P (same-ok h) stands

pub delimited_in-made : (tag len : ℕ) (front payload more : List ℕ) → length payload ≡ len → varint_in (front ++ (payload ++ more)) ≡ Ok (len, payload ++ more)
    → delimited_in tag (front ++ (payload ++ more)) ≡ Ok (made tag len payload, more)
unfolding delimited_in
delimited_in-made tag len front payload more h k =
    let taken : take len (payload ++ more) ≡ payload = ap (λ (n : ℕ). take n (payload ++ more)) (sym h) ∙ take-append_seam payload more in
    let left : drop len (payload ++ more) ≡ more = ap (λ (n : ℕ). drop n (payload ++ more)) (sym h) ∙ drop-append_seam payload more in
    rw (k, at-least len payload more h, taken, left) refl

pub delimited_in-stands : (tag : ℕ) (bytes : List ℕ) (read : Item × List ℕ) → delimited_in tag bytes ≡ Ok read → Stands (delimited_in tag) bytes read
unfolding delimited_in
delimited_in-stands tag bytes read h = step (varint_in bytes) refl h
  where
    inside : (t : Bool) (len : ℕ × List ℕ) → varint_in bytes ≡ Ok len → ltb (length len.1) len.0 ≡ t
        → cond t (fault Truncated bytes) (Ok (item tag len.0 len.0 len.1 (drop len.0 len.1))) ≡ Ok read → Stands (delimited_in tag) bytes read
    inside true len e f h = absurd cc
    inside false len e f h =
        let P : Item × List ℕ → Type 0 = λ r. Stands (delimited_in tag) bytes r in
        let v = varint_in-stands bytes len e in
        let enough : len.0 ≤ length len.1 = grind (arith, nat_tests) in
        let payload : List ℕ = take len.0 len.1 in
        let long : length payload ≡ len.0 = omega (arith, length-take len.0 len.1) in
        let stands : Stands (delimited_in tag) bytes (item tag len.0 len.0 len.1 (drop len.0 len.1)) = record {
          front = v.front ++ payload;
          is = v.is ∙ ap (λ (s : List ℕ). v.front ++ s) (sym (take-append-drop len.0 len.1)) ∙ sym (append_assoc v.front payload (drop len.0 len.1));
          again = λ more. ap (delimited_in tag) (append_assoc v.front payload more) ∙ delimited_in-made tag len.0 v.front payload more long (v.again (payload ++ more));
        } in
        subst P (same-ok h) stands

    step : (r : Result (ℕ × List ℕ) ItemFault) → varint_in bytes ≡ r
        → (r >>= λ len. cond (ltb (length len.1) len.0) (fault Truncated bytes) (Ok (item tag len.0 len.0 len.1 (drop len.0 len.1)))) ≡ Ok read → Stands (delimited_in tag) bytes read
    step (Ok len) e h = inside (ltb (length len.1) len.0) len e refl h
    step (Err f) e h = absurd cc

stands-choice : {A : Type 0} (b : Bool) (f g : List ℕ → Result (A × List ℕ) ItemFault) (bytes : List ℕ) (read : A × List ℕ)
    → (f bytes ≡ Ok read → Stands f bytes read) → (g bytes ≡ Ok read → Stands g bytes read)
    → cond b (f bytes) (g bytes) ≡ Ok read → Stands (λ s. cond b (f s) (g s)) bytes read
stands-choice true f g bytes read h k e = let s = h e in record { front = s.front; is = s.is; again = s.again }
stands-choice false f g bytes read h k e = let s = k e in record { front = s.front; is = s.is; again = s.again }

pub payload_in-stands : (tag : ℕ) (bytes : List ℕ) (read : Item × List ℕ) → payload_in tag bytes ≡ Ok read → Stands (payload_in tag) bytes read
unfolding payload_in
payload_in-stands tag bytes read h =
    let four = λ (bytes : List ℕ). fixed_in w32 tag bytes in
    let two = λ (bytes : List ℕ). cond (eqb (tag % 8) 2) (delimited_in tag bytes) (fixed_in w32 tag bytes) in
    let one = λ (bytes : List ℕ). cond (eqb (tag % 8) 1) (fixed_in w64 tag bytes) (two bytes) in
    let s = stands-choice (eqb (tag % 8) 0) (number_in tag) one bytes read (number_in-stands tag bytes read)
    (stands-choice (eqb (tag % 8) 1) (fixed_in w64 tag) two bytes read (fixed_in-stands w64 tag bytes read)
    (stands-choice (eqb (tag % 8) 2) (delimited_in tag) (fixed_in w32 tag) bytes read (delimited_in-stands tag bytes read) (fixed_in-stands w32 tag bytes read))) h in
    record { front = s.front; is = s.is; again = s.again }

pub read-record : (bytes : List ℕ) (tag : ℕ × List ℕ) (read : Item × List ℕ) → tag_in bytes ≡ Ok tag → payload_in tag.0 tag.1 ≡ Ok read → record_in bytes ≡ Ok read
unfolding record_in
read-record bytes tag read h k = rw (h, k) refl

-- the tag and the payload of a record that was read
pub record RecordRead (bytes : List ℕ) (read : Item × List ℕ) : Type 0 where
  pub tag : ℕ × List ℕ
  pub tag_is : tag_in bytes ≡ Ok tag
  pub payload_is : payload_in tag.0 tag.1 ≡ Ok read

pub record-read : (bytes : List ℕ) (read : Item × List ℕ) → record_in bytes ≡ Ok read → RecordRead bytes read
unfolding record_in
record-read bytes read h = step (tag_in bytes) refl h
  where
    step : (r : Result (ℕ × List ℕ) ItemFault) → tag_in bytes ≡ r → (r >>= λ tag. payload_in tag.0 tag.1) ≡ Ok read → RecordRead bytes read
    step (Ok tag) e h = record { tag = tag; tag_is = e; payload_is = h }
    step (Err f) e h = absurd cc

pub record_in-stands : (bytes : List ℕ) (read : Item × List ℕ) → record_in bytes ≡ Ok read → Stands record_in bytes read
record_in-stands bytes read h =
    let r = record-read bytes read h in
    let t = tag_in-stands bytes r.tag r.tag_is in
    let p = payload_in-stands r.tag.0 r.tag.1 read r.payload_is in
    record {
      front = t.front ++ p.front;
      is = t.is ∙ ap (λ (s : List ℕ). t.front ++ s) p.is ∙ sym (append_assoc t.front p.front read.1);
      again = λ more. ap record_in (append_assoc t.front p.front more) ∙ read-record (t.front ++ (p.front ++ more)) (r.tag.0, p.front ++ more) (read.0, more) (t.again (p.front ++ more)) (p.again more);
    }

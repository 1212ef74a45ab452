-- What a log that goes on says at its front.
use Rattle.std.proofs.Common.{◌≡◌, ℕ, zero, suc, ◌+◌, ◌-◌, ◌*◌, ◌%◌, ◌^◌, ◌≤◌, Bool, true, false, cond, ltb, List, [], ◌∷◌, ◌++◌, length, take, drop, Option, Some, None, Result, Ok, Err, refl, sym, ◌∙◌, ap, subst, arith, append_assoc, length-append, length-drop}
use Rattle.std.proofs.lemmas.List.{append-nil, nil_from_length, take-append-le, drop-append-le}
use Rattle.std.proofs.lemmas.Bool.{ltb-false, le-ltb}
use Rattle.std.specs.Io.KnownBytes.{Keeps}
use Rattle.proto_wire.specs.declared.fault.WireFault.{WireFault}
use Rattle.proto_wire.specs.declared.fault.WireKind.{WireKind}
use Rattle.proto_wire.specs.declared.fault.WireKind.TheVariants.{Truncated, LongVarint, FieldZero, TagTooLarge, WireType, NotUtf8, NoMember, OverLimit}
use Rattle.proto_wire.specs.Varint.{ItemFault, ◌>>=◌, groups, varint_in}
use Rattle.proto_wire.specs.Message.{value_of}
use Rattle.sf_outside.specs.declared.ingress.IngressRecord.{IngressRecord}
use Rattle.sf_outside.specs.declared.front.Front.{Front}
use Rattle.sf_outside.specs.declared.front.Front.TheVariants.{Cut, Bad, Whole}
use Rattle.sf_outside.specs.Log.{empty_record, record_rows, faulty, message, framed, front_of, first_record, rest_of, behind, log_record, known, TakesFirst, FindsRecord}
use Rattle.sf_outside.specs.Unread.{AreAdded}

-- ---- a length that ends is the same whatever follows it

abbrev Read : Type 0
Read = Result (ℕ × List ℕ) ItemFault

abbrev ok : ℕ × List ℕ → Read
ok read = Ok read

read_is : (a b : ℕ × List ℕ) → ok a ≡ ok b → a ≡ b
read_is a b e = cc

abbrev wider : ℕ → ℕ × List ℕ → Read
wider b high = Ok ((b - 128 + 128 * high.0) % 2 ^ 64, high.1)

abbrev GoesOn : Read → Read → List ℕ → Type 0
GoesOn read longer more = (x : ℕ) (rest : List ℕ) → read ≡ Ok (x, rest) → longer ≡ Ok (x, rest ++ more)

group_more : (last : Bool) (b : ℕ) (bytes more : List ℕ) (read longer : Read) → GoesOn read longer more
    → GoesOn (cond last (Ok (b, bytes)) (read >>= wider b)) (cond last (Ok (b, bytes ++ more)) (longer >>= wider b)) more
group_more true b bytes more read longer on x rest e =
    let got : ℕ × List ℕ = (b, bytes) in
    let is : got ≡ (x, rest) = read_is got (x, rest) e in
    ap (λ (q : ℕ × List ℕ). ok (q.0, q.1 ++ more)) is
group_more false b bytes more (Err f) longer on x rest e = absurd cc
group_more false b bytes more (Ok high) longer on x rest e =
    let got : ℕ × List ℕ = ((b - 128 + 128 * high.0) % 2 ^ 64, high.1) in
    let is : got ≡ (x, rest) = read_is got (x, rest) e in
    rw (on high.0 high.1 refl) (ap (λ (q : ℕ × List ℕ). ok (q.0, q.1 ++ more)) is)

groups_more : (left left_now most : ℕ) (bytes more : List ℕ) → GoesOn (groups left most bytes) (groups left_now most (bytes ++ more)) more
unfolding groups
groups_more left left_now zero bytes more x rest e = absurd cc
groups_more left left_now (suc most) [] more x rest e = absurd cc
groups_more left left_now (suc most) (b ∷ bytes) more x rest e = group_more (ltb b 128) b bytes more (groups left most bytes) (groups left_now most (bytes ++ more)) (groups_more left left_now most bytes more) x rest e

len_more : (bytes more : List ℕ) → GoesOn (varint_in bytes) (varint_in (bytes ++ more)) more
unfolding varint_in
len_more bytes more x rest e = groups_more (length bytes) (length (bytes ++ more)) 10 bytes more x rest e

-- ---- so is a whole record

faulty_not_whole : (kind : WireKind) (it : IngressRecord) (n : ℕ) → faulty kind ≡ Whole it n → ⊥
faulty_not_whole Truncated it n e = cc
faulty_not_whole LongVarint it n e = cc
faulty_not_whole FieldZero it n e = cc
faulty_not_whole TagTooLarge it n e = cc
faulty_not_whole WireType it n e = cc
faulty_not_whole NotUtf8 it n e = cc
faulty_not_whole NoMember it n e = cc
faulty_not_whole OverLimit it n e = cc

abbrev Value : Type 0
Value = Result IngressRecord WireFault

value_is : (m : ℕ) (value : Value) (it : IngressRecord) (n : ℕ) → message m value ≡ Whole it n → (value ≡ Ok it) × (m ≡ n)
value_is m (Ok x) it n e = (cc, cc)
value_is m (Err f) it n e = absurd cc

whole_is : (short : Bool) (m : ℕ) (value : Value) (it : IngressRecord) (n : ℕ) → cond short Cut (message m value) ≡ Whole it n → (short ≡ false) × (value ≡ Ok it) × (m ≡ n)
whole_is true m value it n e = absurd cc
whole_is false m value it n e = let v = value_is m value it n e in (refl, v.0, v.1)

framed_more : (log more : List ℕ) (read : Read) (it : IngressRecord) (n : ℕ) → varint_in log ≡ read → framed log read ≡ Whole it n → (front_of (log ++ more) ≡ Whole it n) × (n ≤ length log)
unfolding front_of
framed_more log more (Err f) it n r e = absurd (faulty_not_whole f.kind it n e)
framed_more log more (Ok len) it n r e =
    let w = whole_is (ltb (length len.1) len.0) (length log - length (drop len.0 len.1)) (value_of record_rows empty_record (take len.0 len.1)) it n e in
    let le : len.0 ≤ length len.1 = ltb-false _ _ w.0 in
    let longer : ltb (length (len.1 ++ more)) len.0 ≡ false = le-ltb _ _ (omega (arith, length-append len.1 more)) in
    let same : length (log ++ more) - length (drop len.0 len.1 ++ more) ≡ n = omega (arith, length-append log more, length-append (drop len.0 len.1) more, w.2) in
    (rw (len_more log more len.0 len.1 r, longer, take-append-le len.0 len.1 more le, drop-append-le len.0 len.1 more le, same, w.1) refl, omega (arith, w.2))

pub front_more : (log more : List ℕ) (it : IngressRecord) (n : ℕ) → front_of log ≡ Whole it n → (front_of (log ++ more) ≡ Whole it n) × (n ≤ length log)
unfolding front_of
front_more log more it n e = framed_more log more (varint_in log) it n refl e

-- ---- reading with bytes ahead

pub taken_whole : (before left : Option (List ℕ)) (held : List ℕ) (it : IngressRecord) (n : ℕ) → Keeps before (known held left) → front_of held ≡ Whole it n → TakesFirst before (known (drop n held) left) (Some it)
taken_whole None left held it n kept e = tt
taken_whole (Some log) None held it n kept e = absurd kept
taken_whole (Some log) (Some more) held it n kept e =
    let m = front_more held more it n e in
    subst (λ (l : List ℕ). TakesFirst (Some l) (Some (drop n held ++ more)) (Some it)) kept (
      (λ bad. let whole = m.0 in cc),
      rw m.0 refl,
      rw m.0 (ap (λ (l : List ℕ). Some l) (sym (drop-append-le n held more m.1))),
    )

added_none : (held now : List ℕ) → now ≡ held ++ drop (length held) now → length now ≡ length held + 0 → drop (length held) now ≡ []
added_none held now stand count = nil_from_length _ (omega (arith, count, length-drop (length held) now))

pub taken_none : (before left left_now : Option (List ℕ)) (held now : List ℕ) → Keeps before (known held left) → AreAdded 0 held now left left_now → front_of held ≡ Cut → TakesFirst before (known now left_now) None
taken_none None left left_now held now kept added e = tt
taken_none (Some log) None left_now held now kept added e = absurd kept
taken_none (Some log) (Some more) None held now kept added e = absurd added.read
taken_none (Some log) (Some more) (Some rest) held now kept added e =
    let none = added_none held now added.stand added.count_is in
    let ended : rest ≡ [] = added.end refl in
    let all : more ≡ [] = added.read ∙ rw (none, ended) refl in
    let whole : held ≡ log = sym (append-nil held) ∙ rw (← all) kept in
    let same : now ≡ held = added.stand ∙ rw none (append-nil held) in
    subst (λ (l : List ℕ). TakesFirst (Some l) (Some (now ++ rest)) None) whole (
      (λ bad. cc),
      rw e refl,
      rw (e, same, ended) (ap (λ (l : List ℕ). Some l) (append-nil held)),
    )

pub kept_added : (before left left_now : Option (List ℕ)) (held now : List ℕ) (count : ℕ) → Keeps before (known held left) → AreAdded count held now left left_now → Keeps before (known now left_now)
kept_added None left left_now held now count kept added = tt
kept_added (Some log) None left_now held now count kept added = absurd kept
kept_added (Some log) (Some more) None held now count kept added = absurd added.read
kept_added (Some log) (Some more) (Some rest) held now count kept added =
    ap (λ (l : List ℕ). l ++ rest) added.stand ∙ append_assoc held (drop (length held) now) rest ∙ ap (λ (l : List ℕ). held ++ l) (sym added.read) ∙ kept

pub kept_left : (before left left_now : Option (List ℕ)) (held : List ℕ) → Keeps before (known held left) → Keeps left left_now → Keeps before (known held left_now)
kept_left None left left_now held kept stays = tt
kept_left (Some log) None left_now held kept stays = absurd kept
kept_left (Some log) (Some more) None held kept stays = absurd stays
kept_left (Some log) (Some more) (Some rest) held kept stays = ap (λ (l : List ℕ). held ++ l) stays ∙ kept

pub kept_first : (held : List ℕ) (left : Option (List ℕ)) → Keeps (known held left) (known held left)
kept_first held None = tt
kept_first held (Some more) = refl

-- ---- reading on

behind_is : (front : Front) (log now : List ℕ) (it : IngressRecord) (n : ℕ) → Some it ≡ first_record front → now ≡ rest_of front log → behind front log (log_record n) ≡ log_record n now
behind_is Cut log now it n first rest = absurd cc
behind_is Bad log now it n first rest = absurd cc
behind_is (Whole r len) log now it n first rest = ap (λ (l : List ℕ). log_record n l) (sym rest)

some_is : (a b : List ℕ) → Some a ≡ Some b → a ≡ b
some_is a b e = cc

pub found_behind : (before now : Option (List ℕ)) (it : IngressRecord) (n : ℕ) (found : Option IngressRecord) → TakesFirst before now (Some it) → FindsRecord now n found → FindsRecord before (suc n) found
found_behind None now it n found taken is = tt
found_behind (Some log) None it n found taken is = absurd (let e = taken.2 in cc)
found_behind (Some log) (Some rest) it n found taken is = is ∙ sym (behind_is (front_of log) log rest it n taken.1 (some_is _ _ taken.2))

pub found_first : (before now : Option (List ℕ)) (found : Option IngressRecord) → TakesFirst before now found → FindsRecord before 0 found
found_first None now found taken = tt
found_first (Some log) now found taken = taken.1

abbrev nothing : Option IngressRecord
nothing = None

nothing_behind : (front : Front) (log : List ℕ) (n : ℕ) → nothing ≡ first_record front → nothing ≡ behind front log (log_record n)
nothing_behind Cut log n first = refl
nothing_behind Bad log n first = refl
nothing_behind (Whole r len) log n first = absurd cc

pub found_none : (before now : Option (List ℕ)) (n : ℕ) → TakesFirst before now None → FindsRecord before n None
found_none None now n taken = tt
found_none (Some log) now zero taken = taken.1
found_none (Some log) now (suc n) taken = nothing_behind (front_of log) log n taken.1

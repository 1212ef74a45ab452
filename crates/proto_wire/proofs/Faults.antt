-- The first fault of a tag and of a payload.
use Rattle.std.proofs.Common.{◌≡◌, ℕ, zero, suc, ◌+◌, ◌-◌, ◌*◌, ◌/◌, ◌%◌, ◌^◌, ◌<◌, ◌≤◌, ◌↔◌, ◌⊎◌, inl, inr, Bool, true, false, cond, ltb, eqb, List, [], ◌∷◌, length, take, drop, Result, Ok, Err, refl, sym, ap, subst, ◌∙◌, arith}
use Rattle.std.specs.Prelude.{All}
use Rattle.std.proofs.lemmas.List.Elements.{All-nil, All-cons, All-head, All-tail}
use Rattle.std.proofs.lemmas.Bool.{ltb-true, eqb-true}
use Rattle.std.proofs.lemmas.Bool.Decides.{nat_tests}
use Rattle.std.specs.Int.{Width, w32, w64, byte_len, from_le_bytes}
use Rattle.proto_wire.specs.declared.fault.WireKind.{WireKind}
use Rattle.proto_wire.specs.declared.fault.WireKind.TheVariants.{Truncated, LongVarint, TagTooLarge, FieldZero, WireType, NotUtf8, NoMember, OverLimit}
use Rattle.proto_wire.specs.Varint.{ItemFault, ◌>>=◌, fault, groups, varint_in}
use Rattle.proto_wire.specs.Record.{Item, item, is_wire, tag_in, number_in, fixed_in, delimited_in, payload_in, record_in}
use Rattle.proto_wire.specs.Encoding.{AreBytes, Begins, BeginsWith, EndsInside, IsOverlong, TagHas, EndsInPayload, in_varint, in_eight_bytes, in_length, behind_length, in_four_bytes, PayloadHas, rank, IsFirstFault, RecordHas, in_tag, in_payload}
use Rattle.proto_wire.proofs.Again.{below, not_below}
use Rattle.proto_wire.proofs.Fronts.{same-ok, tag-read}
use Rattle.proto_wire.proofs.Spelled.{varint-spelled, varint-begins}
use Rattle.proto_wire.proofs.Records.{WireOf, is_zero, is_one, is_two, is_five, wire-of, payload-zero, payload-one, payload-two, payload-five}

-- ---- the first kind is one

of_rank : ℕ → WireKind
of_rank n = cond (eqb n 1) Truncated (cond (eqb n 2) LongVarint (cond (eqb n 3) TagTooLarge (cond (eqb n 4) FieldZero (cond (eqb n 5) WireType (cond (eqb n 6) NotUtf8 (cond (eqb n 7) NoMember OverLimit))))))

rank-again : (kind : WireKind) → of_rank (rank kind) ≡ kind
unfolding of_rank
rank-again Truncated = refl
rank-again LongVarint = refl
rank-again TagTooLarge = refl
rank-again FieldZero = refl
rank-again WireType = refl
rank-again NotUtf8 = refl
rank-again NoMember = refl
rank-again OverLimit = refl

same-rank : (a b : WireKind) → rank a ≡ rank b → a ≡ b
same-rank a b h = sym (rank-again a) ∙ ap of_rank h ∙ rank-again b

rank-least : (kind : WireKind) → 1 ≤ rank kind
rank-least Truncated = omega arith
rank-least LongVarint = omega arith
rank-least TagTooLarge = omega arith
rank-least FieldZero = omega arith
rank-least WireType = omega arith
rank-least NotUtf8 = omega arith
rank-least NoMember = omega arith
rank-least OverLimit = omega arith

fault-is : (f e : ItemFault) → f.kind ≡ e.kind → f.left ≡ e.left → f ≡ e
fault-is f e h k = ap (λ (kind : WireKind). record { kind = kind; left = f.left }) h ∙ ap (λ (left : ℕ). record { kind = e.kind; left = left }) k

first-is : {A : Type 0} (bytes : List ℕ) (Has : WireKind → Type 0) (r : Result A ItemFault) → ((f : ItemFault) → r ≡ Err f → IsFirstFault bytes Has f)
    → ((x : A) → r ≡ Ok x → (kind : WireKind) → Has kind → ⊥) → (e : ItemFault) → (r ≡ Err e) ↔ IsFirstFault bytes Has e
first-is {A} bytes Has r fails whole e = (λ h. fails e h, λ i. back r refl i)
  where
    back : (s : Result A ItemFault) → r ≡ s → IsFirstFault bytes Has e → r ≡ Err e
    back (Ok x) h i = absurd (whole x h e.kind i.has)
    back (Err f) h i =
        let j = fails f h in
        let here : rank e.kind ≤ rank f.kind = i.first f.kind j.has in
        let there : rank f.kind ≤ rank e.kind = j.first e.kind i.has in
        let kinds : f.kind ≡ e.kind = same-rank f.kind e.kind (omega arith) in
        h ∙ ap (λ (g : ItemFault). Err g) (fault-is f e kinds (j.at ∙ sym i.at))

-- ---- varints

abbrev pub fault_of : WireKind → ℕ → ItemFault
fault_of kind left = record { kind = kind; left = left }

data GroupsFail (at most : ℕ) (bytes : List ℕ) (e : ItemFault) : Type 0 where
  runs_out : e ≡ fault_of Truncated at → length bytes < most → All (λ b. 128 ≤ b) bytes → GroupsFail at most bytes e
  runs_over : e ≡ fault_of LongVarint at → most ≤ length bytes → All (λ b. 128 ≤ b) (take most bytes) → GroupsFail at most bytes e

abbrev err : {A : Type 0} → ItemFault → Result A ItemFault
err e = Err e

same-err : {A : Type 0} (e f : ItemFault) → err {A = A} e ≡ err f → e ≡ f
same-err e f h = cc

fail-more : (at most b : ℕ) (bytes : List ℕ) (e : ItemFault) → 128 ≤ b → GroupsFail at most bytes e → GroupsFail at (suc most) (b ∷ bytes) e
fail-more at most b bytes e h (runs_out is short all) = runs_out is (omega arith) (All-cons (λ (n : ℕ). 128 ≤ n) b bytes h all)
fail-more at most b bytes e h (runs_over is long all) = runs_over is (omega arith) (All-cons (λ (n : ℕ). 128 ≤ n) b (take most bytes) h all)

groups-fail : (at most : ℕ) (bytes : List ℕ) (e : ItemFault) → groups at most bytes ≡ Err e → GroupsFail at most bytes e
unfolding groups
groups-fail at zero bytes e h = runs_over (sym (same-err (fault_of LongVarint at) e h)) (omega arith) (All-nil (λ (n : ℕ). 128 ≤ n))
groups-fail at (suc most) [] e h = runs_out (sym (same-err (fault_of Truncated at) e h)) (omega arith) (All-nil (λ (n : ℕ). 128 ≤ n))
groups-fail at (suc most) (b ∷ bytes) e h = step (ltb b 128) refl h (λ f k. groups-fail at most bytes f k)
  where
    deeper : (r : Result (ℕ × List ℕ) ItemFault) → ltb b 128 ≡ false → ((f : ItemFault) → r ≡ Err f → GroupsFail at most bytes f)
        → (r >>= λ high. Ok ((b - 128 + 128 * high.0) % 2 ^ 64, high.1)) ≡ err {A = ℕ × List ℕ} e → GroupsFail at (suc most) (b ∷ bytes) e
    deeper (Ok high) t k h = absurd cc
    deeper (Err f) t k h =
        let large : 128 ≤ b = grind (arith, nat_tests) in
        let P : ItemFault → Type 0 = λ g. GroupsFail at (suc most) (b ∷ bytes) g in
        let same : f ≡ e = cc in
        subst P same (fail-more at most b bytes f large (k f refl))

    step : (t : Bool) → ltb b 128 ≡ t → cond t (Ok (b, bytes)) (groups at most bytes >>= λ high. Ok ((b - 128 + 128 * high.0) % 2 ^ 64, high.1)) ≡ err {A = ℕ × List ℕ} e
        → ((f : ItemFault) → groups at most bytes ≡ Err f → GroupsFail at most bytes f) → GroupsFail at (suc most) (b ∷ bytes) e
    step true t h k = absurd cc
    step false t h k = deeper (groups at most bytes) t k h

groups-end : (at most : ℕ) (bytes : List ℕ) → length bytes < most → All (λ b. 128 ≤ b) bytes → groups at most bytes ≡ Err (fault_of Truncated at)
unfolding groups
groups-end at zero bytes short all = absurd (omega arith)
groups-end at (suc most) [] short all = refl
groups-end at (suc most) (b ∷ bytes) short all =
    let deeper = groups-end at most bytes (omega arith) (All-tail (λ (n : ℕ). 128 ≤ n) b bytes all) in
    rw (not_below b 128 (All-head (λ (n : ℕ). 128 ≤ n) b bytes all), deeper) refl

groups-over : (at most : ℕ) (bytes : List ℕ) → most ≤ length bytes → All (λ b. 128 ≤ b) (take most bytes) → groups at most bytes ≡ Err (fault_of LongVarint at)
unfolding groups
groups-over at zero bytes long all = refl
groups-over at (suc most) [] long all = absurd (omega arith)
groups-over at (suc most) (b ∷ bytes) long all =
    let deeper = groups-over at most bytes (omega arith) (All-tail (λ (n : ℕ). 128 ≤ n) b (take most bytes) all) in
    rw (not_below b 128 (All-head (λ (n : ℕ). 128 ≤ n) b (take most bytes) all), deeper) refl

-- what is wrong with a varint
data VarintFails (bytes : List ℕ) (e : ItemFault) : Type 0 where
  ends_inside : e ≡ fault_of Truncated (length bytes) → EndsInside bytes → VarintFails bytes e
  is_overlong : e ≡ fault_of LongVarint (length bytes) → IsOverlong bytes → VarintFails bytes e

varint-fails : (bytes : List ℕ) (e : ItemFault) → varint_in bytes ≡ Err e → VarintFails bytes e
unfolding varint_in
varint-fails bytes e h = step (groups-fail (length bytes) 10 bytes e h)
  where
    step : GroupsFail (length bytes) 10 bytes e → VarintFails bytes e
    step (runs_out is short all) = ends_inside is (record { short = short; continued = all })
    step (runs_over is long all) = is_overlong is (record { long = long; continued = all })

ends-fails : (bytes : List ℕ) → EndsInside bytes → varint_in bytes ≡ Err (fault_of Truncated (length bytes))
unfolding varint_in
ends-fails bytes h = groups-end (length bytes) 10 bytes h.short h.continued

overlong-fails : (bytes : List ℕ) → IsOverlong bytes → varint_in bytes ≡ Err (fault_of LongVarint (length bytes))
unfolding varint_in
overlong-fails bytes h = groups-over (length bytes) 10 bytes h.long h.continued

not-both : (bytes : List ℕ) → EndsInside bytes → IsOverlong bytes → ⊥
not-both bytes h k = let a = h.short in let b = k.long in omega arith

not-ends : (bytes : List ℕ) (read : ℕ × List ℕ) → varint_in bytes ≡ Ok read → EndsInside bytes → ⊥
not-ends bytes read e h = let f = ends-fails bytes h in cc

not-overlong : (bytes : List ℕ) (read : ℕ × List ℕ) → varint_in bytes ≡ Ok read → IsOverlong bytes → ⊥
not-overlong bytes read e h = let f = overlong-fails bytes h in cc

-- the bytes begin with one varint
begins-one : (bytes rest : List ℕ) (number : ℕ) (read : ℕ × List ℕ) → varint_in bytes ≡ Ok read → Begins bytes number rest → read ≡ (number, rest)
begins-one bytes rest number read e b =
    let again : varint_in bytes ≡ Ok (number, rest) = ap varint_in b.is ∙ varint-spelled b.spelling number rest b.spells in
    same-ok (sym e ∙ again)

holds-of : (bytes : List ℕ) (Holds : ℕ → Type 0) (read : ℕ × List ℕ) → varint_in bytes ≡ Ok read → BeginsWith bytes Holds → Holds read.0
holds-of bytes Holds read e b =
    let same = begins-one bytes b.rest b.number read e b.begins in
    let numbers : b.number ≡ read.0 = ap (λ (r : ℕ × List ℕ). r.0) (sym same) in
    subst Holds numbers b.holds

-- ---- tags

abbrev IsNoWire : ℕ → Type 0
IsNoWire wire = (wire ≡ 3) ⊎ ((wire ≡ 4) ⊎ ((wire ≡ 6) ⊎ (wire ≡ 7)))

no-wire : (wire : ℕ) → wire < 8 → is_wire wire ≡ false → IsNoWire wire
no-wire wire small h = step (eqb wire 3) refl (eqb wire 4) refl (eqb wire 6) refl
  where
    last : eqb wire 3 ≡ false → eqb wire 4 ≡ false → eqb wire 6 ≡ false → wire ≡ 7
    last a b c = grind (arith, nat_tests)

    step : (a : Bool) → eqb wire 3 ≡ a → (b : Bool) → eqb wire 4 ≡ b → (c : Bool) → eqb wire 6 ≡ c → IsNoWire wire
    step true e b f c g = inl (eqb-true wire 3 e)
    step false e true f c g = inr (inl (eqb-true wire 4 f))
    step false e false f true g = inr (inr (inl (eqb-true wire 6 g)))
    step false e false f false g = inr (inr (inr (last e f g)))

wire-no : (wire : ℕ) → is_wire wire ≡ true → IsNoWire wire → ⊥
wire-no wire h (inl e) = let no : is_wire wire ≡ false = ap is_wire e in cc
wire-no wire h (inr (inl e)) = let no : is_wire wire ≡ false = ap is_wire e in cc
wire-no wire h (inr (inr (inl e))) = let no : is_wire wire ≡ false = ap is_wire e in cc
wire-no wire h (inr (inr (inr e))) = let no : is_wire wire ≡ false = ap is_wire e in cc

overlong-first : (bytes : List ℕ) → IsOverlong bytes → (kind : WireKind) → TagHas bytes kind → 2 ≤ rank kind
overlong-first bytes h Truncated k = absurd (not-both bytes k h)
overlong-first bytes h LongVarint k = omega arith
overlong-first bytes h TagTooLarge k = omega arith
overlong-first bytes h FieldZero k = omega arith
overlong-first bytes h WireType k = omega arith
overlong-first bytes h NotUtf8 k = absurd k
overlong-first bytes h NoMember k = absurd k
overlong-first bytes h OverLimit k = absurd k

large-first : (bytes : List ℕ) (read : ℕ × List ℕ) → varint_in bytes ≡ Ok read → (kind : WireKind) → TagHas bytes kind → 3 ≤ rank kind
large-first bytes read e Truncated k = absurd (not-ends bytes read e k)
large-first bytes read e LongVarint k = absurd (not-overlong bytes read e k)
large-first bytes read e TagTooLarge k = omega arith
large-first bytes read e FieldZero k = omega arith
large-first bytes read e WireType k = omega arith
large-first bytes read e NotUtf8 k = absurd k
large-first bytes read e NoMember k = absurd k
large-first bytes read e OverLimit k = absurd k

zero-first : (bytes : List ℕ) (read : ℕ × List ℕ) → varint_in bytes ≡ Ok read → read.0 < 2 ^ 32 → (kind : WireKind) → TagHas bytes kind → 4 ≤ rank kind
zero-first bytes read e fits Truncated k = absurd (not-ends bytes read e k)
zero-first bytes read e fits LongVarint k = absurd (not-overlong bytes read e k)
zero-first bytes read e fits TagTooLarge k = let large = holds-of bytes (λ (n : ℕ). 2 ^ 32 ≤ n) read e k in absurd (omega arith)
zero-first bytes read e fits FieldZero k = omega arith
zero-first bytes read e fits WireType k = omega arith
zero-first bytes read e fits NotUtf8 k = absurd k
zero-first bytes read e fits NoMember k = absurd k
zero-first bytes read e fits OverLimit k = absurd k

wire-first : (bytes : List ℕ) (read : ℕ × List ℕ) → varint_in bytes ≡ Ok read → read.0 < 2 ^ 32 → 8 ≤ read.0 → (kind : WireKind) → TagHas bytes kind → 5 ≤ rank kind
wire-first bytes read e fits some Truncated k = absurd (not-ends bytes read e k)
wire-first bytes read e fits some LongVarint k = absurd (not-overlong bytes read e k)
wire-first bytes read e fits some TagTooLarge k = let large = holds-of bytes (λ (n : ℕ). 2 ^ 32 ≤ n) read e k in absurd (omega arith)
wire-first bytes read e fits some FieldZero k = let none = holds-of bytes (λ (n : ℕ). n / 8 ≡ 0) read e k in absurd (omega arith)
wire-first bytes read e fits some WireType k = omega arith
wire-first bytes read e fits some NotUtf8 k = absurd k
wire-first bytes read e fits some NoMember k = absurd k
wire-first bytes read e fits some OverLimit k = absurd k

at-8 : (n : ℕ) → ltb n 8 ≡ false → 8 ≤ n
at-8 n h = grind (arith, nat_tests)

at-32 : (n : ℕ) → ltb n (2 ^ 32) ≡ false → 2 ^ 32 ≤ n
at-32 n h = grind (arith, nat_tests)

tag-whole : (bytes : List ℕ) (tag : ℕ × List ℕ) → tag_in bytes ≡ Ok tag → (kind : WireKind) → TagHas bytes kind → ⊥
tag-whole bytes tag h kind k =
    let r = tag-read bytes tag h in
    let fits : tag.0 < 2 ^ 32 = ltb-true _ _ r.fits in
    let some : 8 ≤ tag.0 = at-8 tag.0 r.has_field in
    step kind k (wire-first bytes tag r.number fits some kind k)
  where
    step : (kind : WireKind) → TagHas bytes kind → 5 ≤ rank kind → ⊥
    step Truncated k le = omega arith
    step LongVarint k le = omega arith
    step TagTooLarge k le = omega arith
    step FieldZero k le = omega arith
    step WireType k le = let r = tag-read bytes tag h in wire-no (tag.0 % 8) r.has_wire (holds-of bytes (λ (n : ℕ). IsNoWire (n % 8)) tag r.number k)
    step NotUtf8 k le = k
    step NoMember k le = k
    step OverLimit k le = k

tag-fault : (bytes : List ℕ) → AreBytes bytes → (e : ItemFault) → tag_in bytes ≡ Err e → IsFirstFault bytes (TagHas bytes) e
unfolding tag_in
tag-fault bytes all e h = step (varint_in bytes) refl h
  where
    begun : (read : ℕ × List ℕ) → varint_in bytes ≡ Ok read → (Holds : ℕ → Type 0) → Holds read.0 → BeginsWith bytes Holds
    begun read t Holds k = record { number = read.0; rest = read.1; begins = varint-begins bytes read.1 read.0 all t; holds = k }

    wired : (w : Bool) (read : ℕ × List ℕ) → varint_in bytes ≡ Ok read → read.0 < 2 ^ 32 → 8 ≤ read.0 → is_wire (read.0 % 8) ≡ w
        → cond w (Ok read) (fault WireType bytes) ≡ Err e → IsFirstFault bytes (TagHas bytes) e
    wired true read t s f w h = absurd cc
    wired false read t s f w h =
        let P : ItemFault → Type 0 = λ g. IsFirstFault bytes (TagHas bytes) g in
        let same : fault_of WireType (length bytes) ≡ e = cc in
        let has : BeginsWith bytes (λ tag. IsNoWire (tag % 8)) = begun read t (λ (n : ℕ). IsNoWire (n % 8)) (no-wire (read.0 % 8) (omega arith) w) in
        subst P same (record { at = refl; has = has; first = wire-first bytes read t s f })

    fielded : (z : Bool) (read : ℕ × List ℕ) → varint_in bytes ≡ Ok read → read.0 < 2 ^ 32 → ltb read.0 8 ≡ z
        → cond z (fault FieldZero bytes) (cond (is_wire (read.0 % 8)) (Ok read) (fault WireType bytes)) ≡ Err e → IsFirstFault bytes (TagHas bytes) e
    fielded true read t s z h =
        let P : ItemFault → Type 0 = λ g. IsFirstFault bytes (TagHas bytes) g in
        let same : fault_of FieldZero (length bytes) ≡ e = cc in
        let small : read.0 < 8 = ltb-true _ _ z in
        let has : BeginsWith bytes (λ tag. tag / 8 ≡ 0) = begun read t (λ (n : ℕ). n / 8 ≡ 0) (omega arith) in
        subst P same (record { at = refl; has = has; first = zero-first bytes read t s })
    fielded false read t s z h = wired (is_wire (read.0 % 8)) read t s (at-8 read.0 z) refl h

    fitted : (s : Bool) (read : ℕ × List ℕ) → varint_in bytes ≡ Ok read → ltb read.0 (2 ^ 32) ≡ s
        → cond s (cond (ltb read.0 8) (fault FieldZero bytes) (cond (is_wire (read.0 % 8)) (Ok read) (fault WireType bytes))) (fault TagTooLarge bytes) ≡ Err e → IsFirstFault bytes (TagHas bytes) e
    fitted true read t s h = fielded (ltb read.0 8) read t (ltb-true _ _ s) refl h
    fitted false read t s h =
        let P : ItemFault → Type 0 = λ g. IsFirstFault bytes (TagHas bytes) g in
        let same : fault_of TagTooLarge (length bytes) ≡ e = cc in
        let has : BeginsWith bytes (λ tag. 2 ^ 32 ≤ tag) = begun read t (λ (n : ℕ). 2 ^ 32 ≤ n) (at-32 read.0 s) in
        subst P same (record { at = refl; has = has; first = large-first bytes read t })

    failed : (f : ItemFault) → f ≡ e → VarintFails bytes f → IsFirstFault bytes (TagHas bytes) e
    failed f same (ends_inside is h) =
        let P : ItemFault → Type 0 = λ g. IsFirstFault bytes (TagHas bytes) g in
        subst P (sym is ∙ same) (record { at = refl; has = h; first = λ kind k. rank-least kind })
    failed f same (is_overlong is h) =
        let P : ItemFault → Type 0 = λ g. IsFirstFault bytes (TagHas bytes) g in
        subst P (sym is ∙ same) (record { at = refl; has = h; first = overlong-first bytes h })

    step : (r : Result (ℕ × List ℕ) ItemFault) → varint_in bytes ≡ r
        → (r >>= λ read. cond (ltb read.0 (2 ^ 32)) (cond (ltb read.0 8) (fault FieldZero bytes) (cond (is_wire (read.0 % 8)) (Ok read) (fault WireType bytes))) (fault TagTooLarge bytes)) ≡ Err e
        → IsFirstFault bytes (TagHas bytes) e
    step (Ok read) t h = fitted (ltb read.0 (2 ^ 32)) read t refl h
    step (Err f) t h = let same : f ≡ e = cc in failed f same (varint-fails bytes f t)

pub tag-fault-is-first : (bytes : List ℕ) (e : ItemFault) → AreBytes bytes → (tag_in bytes ≡ Err e) ↔ IsFirstFault bytes (TagHas bytes) e
tag-fault-is-first bytes e all = first-is bytes (TagHas bytes) (tag_in bytes) (tag-fault bytes all) (tag-whole bytes) e

-- ---- payloads

zero-first-payload : (wire : ℕ) (bytes : List ℕ) → (wire ≡ 0) ⊎ (wire ≡ 2) → IsOverlong bytes → (kind : WireKind) → PayloadHas wire bytes kind → 2 ≤ rank kind
zero-first-payload wire bytes w h Truncated (in_varint z ends) = absurd (not-both bytes ends h)
zero-first-payload wire bytes (inl w) h Truncated (in_eight_bytes z short) = absurd (omega arith)
zero-first-payload wire bytes (inr w) h Truncated (in_eight_bytes z short) = absurd (omega arith)
zero-first-payload wire bytes w h Truncated (in_length z ends) = absurd (not-both bytes ends h)
zero-first-payload wire bytes w h Truncated (behind_length z len rest b short) =
    absurd (not-overlong bytes (len, rest) (ap varint_in b.is ∙ varint-spelled b.spelling len rest b.spells) h)
zero-first-payload wire bytes (inl w) h Truncated (in_four_bytes z short) = absurd (omega arith)
zero-first-payload wire bytes (inr w) h Truncated (in_four_bytes z short) = absurd (omega arith)
zero-first-payload wire bytes w h LongVarint k = omega arith
zero-first-payload wire bytes w h TagTooLarge k = absurd k
zero-first-payload wire bytes w h FieldZero k = absurd k
zero-first-payload wire bytes w h WireType k = absurd k
zero-first-payload wire bytes w h NotUtf8 k = absurd k
zero-first-payload wire bytes w h NoMember k = absurd k
zero-first-payload wire bytes w h OverLimit k = absurd k

abbrev IsPayloadFault : ℕ → List ℕ → ItemFault → Type 0
IsPayloadFault tag bytes e = IsFirstFault bytes (PayloadHas (tag % 8) bytes) e

truncated-fault : (tag : ℕ) (bytes : List ℕ) (e : ItemFault) → fault_of Truncated (length bytes) ≡ e → EndsInPayload (tag % 8) bytes → IsPayloadFault tag bytes e
truncated-fault tag bytes e same has =
    let P : ItemFault → Type 0 = λ g. IsPayloadFault tag bytes g in
    subst P same (record { at = refl; has = has; first = λ kind k. rank-least kind })

overlong-fault : (tag : ℕ) (bytes : List ℕ) (e : ItemFault) → fault_of LongVarint (length bytes) ≡ e → (tag % 8 ≡ 0) ⊎ (tag % 8 ≡ 2) → IsOverlong bytes → IsPayloadFault tag bytes e
overlong-fault tag bytes e same w long =
    let P : ItemFault → Type 0 = λ g. IsPayloadFault tag bytes g in
    subst P same (record { at = refl; has = (w, long); first = zero-first-payload (tag % 8) bytes w long })

number-fault : (tag : ℕ) (bytes : List ℕ) (e : ItemFault) → tag % 8 ≡ 0 → number_in tag bytes ≡ Err e → IsPayloadFault tag bytes e
unfolding number_in
number-fault tag bytes e w h = step (varint_in bytes) refl h
  where
    failed : (f : ItemFault) → f ≡ e → VarintFails bytes f → IsPayloadFault tag bytes e
    failed f same (ends_inside is k) = truncated-fault tag bytes e (sym is ∙ same) (in_varint w k)
    failed f same (is_overlong is k) = overlong-fault tag bytes e (sym is ∙ same) (inl w) k

    step : (r : Result (ℕ × List ℕ) ItemFault) → varint_in bytes ≡ r → (r >>= λ number. Ok (item tag number.0 (length bytes - length number.1) bytes number.1)) ≡ Err e → IsPayloadFault tag bytes e
    step (Ok number) t h = absurd cc
    step (Err f) t h = let same : f ≡ e = cc in failed f same (varint-fails bytes f t)

fixed-fault : (w : Width) (tag : ℕ) (bytes : List ℕ) (e : ItemFault) → (length bytes < byte_len w → EndsInPayload (tag % 8) bytes) → fixed_in w tag bytes ≡ Err e → IsPayloadFault tag bytes e
unfolding fixed_in
fixed-fault w tag bytes e has h = step (ltb (length bytes) (byte_len w)) refl h
  where
    step : (t : Bool) → ltb (length bytes) (byte_len w) ≡ t
        → cond t (fault Truncated bytes) (Ok (item tag (from_le_bytes w (take (byte_len w) bytes)) (byte_len w) bytes (drop (byte_len w) bytes))) ≡ Err e → IsPayloadFault tag bytes e
    step true t h = let same : fault_of Truncated (length bytes) ≡ e = cc in truncated-fault tag bytes e same (has (ltb-true _ _ t))
    step false t h = absurd cc

delimited-fault : (tag : ℕ) (bytes : List ℕ) (e : ItemFault) → AreBytes bytes → tag % 8 ≡ 2 → delimited_in tag bytes ≡ Err e → IsPayloadFault tag bytes e
unfolding delimited_in
delimited-fault tag bytes e all w h = step (varint_in bytes) refl h
  where
    failed : (f : ItemFault) → f ≡ e → VarintFails bytes f → IsPayloadFault tag bytes e
    failed f same (ends_inside is k) = truncated-fault tag bytes e (sym is ∙ same) (in_length w k)
    failed f same (is_overlong is k) = overlong-fault tag bytes e (sym is ∙ same) (inr w) k

    inside : (t : Bool) (len : ℕ × List ℕ) → varint_in bytes ≡ Ok len → ltb (length len.1) len.0 ≡ t
        → cond t (fault Truncated bytes) (Ok (item tag len.0 len.0 len.1 (drop len.0 len.1))) ≡ Err e → IsPayloadFault tag bytes e
    inside true len k t h =
        let same : fault_of Truncated (length bytes) ≡ e = cc in
        truncated-fault tag bytes e same (behind_length w len.0 len.1 (varint-begins bytes len.1 len.0 all k) (ltb-true _ _ t))
    inside false len k t h = absurd cc

    step : (r : Result (ℕ × List ℕ) ItemFault) → varint_in bytes ≡ r
        → (r >>= λ len. cond (ltb (length len.1) len.0) (fault Truncated bytes) (Ok (item tag len.0 len.0 len.1 (drop len.0 len.1)))) ≡ Err e → IsPayloadFault tag bytes e
    step (Ok len) k h = inside (ltb (length len.1) len.0) len k refl h
    step (Err f) k h = let same : f ≡ e = cc in failed f same (varint-fails bytes f k)

payload-fault : (tag : ℕ) (bytes : List ℕ) → AreBytes bytes → WireOf (tag % 8) → (e : ItemFault) → payload_in tag bytes ≡ Err e → IsPayloadFault tag bytes e
payload-fault tag bytes all (is_zero w) e h = number-fault tag bytes e w (sym (payload-zero tag bytes w) ∙ h)
payload-fault tag bytes all (is_one w) e h = fixed-fault w64 tag bytes e (λ short. in_eight_bytes w short) (sym (payload-one tag bytes w) ∙ h)
payload-fault tag bytes all (is_two w) e h = delimited-fault tag bytes e all w (sym (payload-two tag bytes w) ∙ h)
payload-fault tag bytes all (is_five w) e h = fixed-fault w32 tag bytes e (λ short. in_four_bytes w short) (sym (payload-five tag bytes w) ∙ h)

-- what stands in bytes of which a payload was read
record HasVarint (bytes : List ℕ) : Type 0 where
  read : ℕ × List ℕ
  is : varint_in bytes ≡ Ok read
  inside : read.0 ≤ length read.1

number-whole : (tag : ℕ) (bytes : List ℕ) (read : Item × List ℕ) → number_in tag bytes ≡ Ok read → EndsInside bytes ⊎ IsOverlong bytes → ⊥
unfolding number_in
number-whole tag bytes read h k = step (varint_in bytes) refl h k
  where
    step : (r : Result (ℕ × List ℕ) ItemFault) → varint_in bytes ≡ r → (r >>= λ number. Ok (item tag number.0 (length bytes - length number.1) bytes number.1)) ≡ Ok read → EndsInside bytes ⊎ IsOverlong bytes → ⊥
    step (Ok number) t h (inl k) = not-ends bytes number t k
    step (Ok number) t h (inr k) = not-overlong bytes number t k
    step (Err f) t h k = absurd cc

fixed-whole : (w : Width) (tag : ℕ) (bytes : List ℕ) (read : Item × List ℕ) → fixed_in w tag bytes ≡ Ok read → length bytes < byte_len w → ⊥
unfolding fixed_in
fixed-whole w tag bytes read h k = let e = below (length bytes) (byte_len w) k in let f : fault Truncated bytes ≡ Ok read = rw e at h in absurd cc

delimited-whole : (tag : ℕ) (bytes : List ℕ) (read : Item × List ℕ) → delimited_in tag bytes ≡ Ok read → HasVarint bytes
unfolding delimited_in
delimited-whole tag bytes read h = step (varint_in bytes) refl h
  where
    enough : (n m : ℕ) → ltb n m ≡ false → m ≤ n
    enough n m h = grind (arith, nat_tests)

    inside : (t : Bool) (len : ℕ × List ℕ) → varint_in bytes ≡ Ok len → ltb (length len.1) len.0 ≡ t
        → cond t (fault Truncated bytes) (Ok (item tag len.0 len.0 len.1 (drop len.0 len.1))) ≡ Ok read → HasVarint bytes
    inside true len k t h = absurd cc
    inside false len k t h = record { read = len; is = k; inside = enough (length len.1) len.0 t }

    step : (r : Result (ℕ × List ℕ) ItemFault) → varint_in bytes ≡ r
        → (r >>= λ len. cond (ltb (length len.1) len.0) (fault Truncated bytes) (Ok (item tag len.0 len.0 len.1 (drop len.0 len.1)))) ≡ Ok read → HasVarint bytes
    step (Ok len) k h = inside (ltb (length len.1) len.0) len k refl h
    step (Err f) k h = absurd cc

-- one thing at least is wrong by the wire type
data PayloadWrong (wire : ℕ) (bytes : List ℕ) : Type 0 where
  wrong_end : EndsInPayload wire bytes → PayloadWrong wire bytes
  wrong_long : (wire ≡ 0) ⊎ (wire ≡ 2) → IsOverlong bytes → PayloadWrong wire bytes

payload-wrong : (wire : ℕ) (bytes : List ℕ) (kind : WireKind) → PayloadHas wire bytes kind → PayloadWrong wire bytes
payload-wrong wire bytes Truncated k = wrong_end k
payload-wrong wire bytes LongVarint k = wrong_long k.0 k.1
payload-wrong wire bytes TagTooLarge k = absurd k
payload-wrong wire bytes FieldZero k = absurd k
payload-wrong wire bytes WireType k = absurd k
payload-wrong wire bytes NotUtf8 k = absurd k
payload-wrong wire bytes NoMember k = absurd k
payload-wrong wire bytes OverLimit k = absurd k

zero-right : (tag : ℕ) (bytes : List ℕ) (read : Item × List ℕ) → payload_in tag bytes ≡ Ok read → tag % 8 ≡ 0 → EndsInside bytes ⊎ IsOverlong bytes → ⊥
zero-right tag bytes read h w k = number-whole tag bytes read (sym (payload-zero tag bytes w) ∙ h) k

two-right : (tag : ℕ) (bytes : List ℕ) (read : Item × List ℕ) → payload_in tag bytes ≡ Ok read → tag % 8 ≡ 2 → HasVarint bytes
two-right tag bytes read h w = delimited-whole tag bytes read (sym (payload-two tag bytes w) ∙ h)

behind-right : (bytes rest : List ℕ) (len : ℕ) → HasVarint bytes → Begins bytes len rest → length rest < len → ⊥
behind-right bytes rest len v b short =
    let same = begins-one bytes rest len v.read v.is b in
    let P : ℕ × List ℕ → Type 0 = λ r. r.0 ≤ length r.1 in
    let inside : len ≤ length rest = subst P same v.inside in
    omega arith

payload-right : (tag : ℕ) (bytes : List ℕ) (read : Item × List ℕ) → payload_in tag bytes ≡ Ok read → PayloadWrong (tag % 8) bytes → ⊥
payload-right tag bytes read h (wrong_long (inl w) long) = zero-right tag bytes read h w (inr long)
payload-right tag bytes read h (wrong_long (inr w) long) = let v = two-right tag bytes read h w in not-overlong bytes v.read v.is long
payload-right tag bytes read h (wrong_end (in_varint w ends)) = zero-right tag bytes read h w (inl ends)
payload-right tag bytes read h (wrong_end (in_eight_bytes w short)) = fixed-whole w64 tag bytes read (sym (payload-one tag bytes w) ∙ h) short
payload-right tag bytes read h (wrong_end (in_length w ends)) = let v = two-right tag bytes read h w in not-ends bytes v.read v.is ends
payload-right tag bytes read h (wrong_end (behind_length w len rest b short)) = behind-right bytes rest len (two-right tag bytes read h w) b short
payload-right tag bytes read h (wrong_end (in_four_bytes w short)) = fixed-whole w32 tag bytes read (sym (payload-five tag bytes w) ∙ h) short

pub payload-fault-is-first : (tag : ℕ) (bytes : List ℕ) (e : ItemFault) → AreBytes bytes → is_wire (tag % 8) ≡ true → (payload_in tag bytes ≡ Err e) ↔ IsFirstFault bytes (PayloadHas (tag % 8) bytes) e
payload-fault-is-first tag bytes e all w =
    first-is bytes (PayloadHas (tag % 8) bytes) (payload_in tag bytes) (payload-fault tag bytes all (wire-of (tag % 8) w))
    (λ read h kind k. payload-right tag bytes read h (payload-wrong (tag % 8) bytes kind k)) e

-- ---- records

pub record-fault-is-first : (bytes : List ℕ) (e : ItemFault) → (record_in bytes ≡ Err e) ↔ RecordHas bytes e
unfolding record_in
record-fault-is-first bytes e = (λ h. there (tag_in bytes) refl h, λ h. back h)
  where
    there : (r : Result (ℕ × List ℕ) ItemFault) → tag_in bytes ≡ r → (r >>= λ tag. payload_in tag.0 tag.1) ≡ Err e → RecordHas bytes e
    there (Ok tag) t h = in_payload tag.0 tag.1 t h
    there (Err f) t h = let same : f ≡ e = cc in in_tag (t ∙ ap (λ (g : ItemFault). Err g) same)

    back : RecordHas bytes e → (tag_in bytes >>= λ tag. payload_in tag.0 tag.1) ≡ Err e
    back (in_tag h) = rw h refl
    back (in_payload tag rest h k) = rw (h, k) refl

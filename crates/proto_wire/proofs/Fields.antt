-- What a field of a message is over whole bytes, from what one record does to it.
use Rattle.std.proofs.Common.{◌≡◌, ℕ, Bool, true, false, cond, List, [], ◌∷◌, ◌++◌, Option, Some, None, Result, Ok, Err, refl, sym, ap, subst, ◌∙◌, append_assoc, ◌||◌}
use Rattle.std.specs.Prelude.{filter, option_map}
use Rattle.std.specs.List.{list_any}
use Rattle.std.proofs.lemmas.List.{append-nil}
use Rattle.proto_wire.specs.Varint.{ItemFault, ◌>>=◌}
use Rattle.proto_wire.specs.Record.{Item, Scan, Whole, Broken, Then, records_in}
use Rattle.proto_wire.specs.Message.{Row, belongs, accepted, before, merged, value_in, last_of, last_record, joined, entered}
use Rattle.proto_wire.specs.Encoding.{IsScalar, last_says, items_of, joined_payloads, joined_value, behind_last, IsMember, IsSingular}
use Rattle.proto_wire.proofs.Fronts.{same-ok}
use Rattle.proto_wire.proofs.Joined.{joined-read-on}

-- ---- a scalar

scalar-scan : {M A : Type 0} (rows : List (Row M)) (field wire : ℕ) (reads : Item → Result A ItemFault) (get : M → A) → IsScalar rows field wire reads get
    → (stood : A) (held : Option Item) (old new : M) (scan : Scan) → last_says reads stood held ≡ Ok (get old) → merged rows old scan ≡ Ok new
    → (last_of field wire held scan >>= last_says reads stood) ≡ Ok (get new)
scalar-scan {M} rows field wire reads get is stood held old new Whole e h =
    let same : old ≡ new = same-ok h in e ∙ ap (λ (m : M). Ok (get m)) same
scalar-scan rows field wire reads get is stood held old new (Broken fault) e h = absurd cc
scalar-scan {M} {A} rows field wire reads get is stood held old new (Then item left more) e h =
    step (accepted rows old item) refl h (λ found next f k. scalar-scan rows field wire reads get is stood found next new more f k)
  where
    chosen : (b : Bool) (next : M) → accepted rows old item ≡ Ok next → belongs field wire item ≡ b → last_says reads stood (cond b (Some item) held) ≡ Ok (get next)
    chosen true next a b = is.taken old next item a b
    chosen false next a b = let k = is.kept old next item a b in e ∙ ap (λ (x : A). Ok x) (sym k)

    step : (r : Result M ItemFault) → accepted rows old item ≡ r → (before left r >>= λ next. merged rows next more) ≡ Ok new
        → ((found : Option Item) (next : M) → last_says reads stood found ≡ Ok (get next) → merged rows next more ≡ Ok new → (last_of field wire found more >>= last_says reads stood) ≡ Ok (get new))
        → (last_of field wire (cond (belongs field wire item) (Some item) held) more >>= last_says reads stood) ≡ Ok (get new)
    step (Ok next) a h k = k (cond (belongs field wire item) (Some item) held) next (chosen (belongs field wire item) next a refl) h
    step (Err fault) a h k = absurd cc

pub last-scalar-counts : {M A : Type 0} (rows : List (Row M)) (field wire : ℕ) (reads : Item → Result A ItemFault) (get : M → A) → IsScalar rows field wire reads get → (old new : M) (bytes : List ℕ)
    → value_in rows old bytes ≡ Ok new → (last_record field wire bytes >>= last_says reads (get old)) ≡ Ok (get new)
unfolding value_in last_record
last-scalar-counts rows field wire reads get is old new bytes h = scalar-scan rows field wire reads get is (get old) None old new (records_in bytes) refl h

-- ---- a member

joined-snoc : (items : List Item) (item : Item) → joined_payloads (items ++ item ∷ []) ≡ joined_payloads items ++ item.payload
joined-snoc [] item = append-nil item.payload
joined-snoc (first ∷ items) item = ap (λ (s : List ℕ). first.payload ++ s) (joined-snoc items item) ∙ sym (append_assoc first.payload (joined_payloads items) item.payload)

-- one more record of the member
value-snoc : {N : Type 0} (inner : List (Row N)) (blank : N) (held : List Item) (item : Item) (old new : Option N)
    → joined_value blank inner held ≡ Ok old → entered blank inner old item ≡ Ok new → joined_value blank inner (held ++ item ∷ []) ≡ Ok new
unfolding entered joined
value-snoc {N} inner blank [] item old new h e =
    let none : None ≡ old = same-ok h in
    let P : Option N → Type 0 = λ o. (joined blank inner o item >>= λ next. Ok (Some next)) ≡ Ok new in
    ap (λ (s : List ℕ). value_in inner blank s >>= λ next. Ok (Some next)) (append-nil item.payload) ∙ subst P (sym none) e
value-snoc {N} inner blank (first ∷ held) item old new h e = step (value_in inner blank (joined_payloads (first ∷ held))) refl h
  where
    step : (r : Result N ItemFault) → value_in inner blank (joined_payloads (first ∷ held)) ≡ r → (r >>= λ value. Ok (Some value)) ≡ Ok old
        → (value_in inner blank (joined_payloads (first ∷ held ++ item ∷ [])) >>= λ value. Ok (Some value)) ≡ Ok new
    step (Ok value) r h =
        let some : Some value ≡ old = same-ok h in
        let P : Option N → Type 0 = λ o. (joined blank inner o item >>= λ next. Ok (Some next)) ≡ Ok new in
        ap (λ (s : List ℕ). value_in inner blank s >>= λ next. Ok (Some next)) (joined-snoc (first ∷ held) item)
        ∙ ap (λ (s : Result N ItemFault). s >>= λ next. Ok (Some next)) (joined-read-on inner blank value (joined_payloads (first ∷ held)) item.payload r)
        ∙ subst P (sym some) e
    step (Err fault) r h = absurd cc

-- the member's records since the last one of another member, read from left to right
abbrev held-next : (own other : Item → Bool) → List Item → Item → List Item
held-next own other held item = cond (other item) [] (cond (own item) (held ++ item ∷ []) held)

run : (own other : Item → Bool) → List Item → List Item → List Item
run own other held [] = held
run own other held (item ∷ items) = run own other (held-next own other held item) items

run-is : (own other : Item → Bool) (held items : List Item) → run own other held items ≡ cond (list_any other items) (filter own (behind_last other items)) (held ++ filter own items)
unfolding run
run-is own other held [] = sym (append-nil held)
run-is own other held (item ∷ items) =
    run-is own other (held-next own other held item) items ∙ step (other item) (own item) (list_any other items)
  where
    step : (o w a : Bool) → cond a (filter own (behind_last other items)) (cond o [] (cond w (held ++ item ∷ []) held) ++ filter own items)
        ≡ cond (o || a) (filter own (cond a (behind_last other items) (cond o items (item ∷ items)))) (held ++ cond w (item ∷ filter own items) (filter own items))
    step true w true = refl
    step false w true = refl
    step true w false = refl
    step false true false = append_assoc held (item ∷ []) (filter own items)
    step false false false = refl

behind-none : (other : Item → Bool) (items : List Item) → list_any other items ≡ false → behind_last other items ≡ items
behind-none other [] h = refl
behind-none other (item ∷ items) h = step (other item) (list_any other items) h
  where
    step : (o a : Bool) → (o || a) ≡ false → cond a (behind_last other items) (cond o items (item ∷ items)) ≡ item ∷ items
    step true a h = absurd cc
    step false true h = absurd cc
    step false false h = refl

run-behind : (own other : Item → Bool) (items : List Item) → run own other [] items ≡ filter own (behind_last other items)
run-behind own other items = run-is own other [] items ∙ step (list_any other items) refl
  where
    step : (a : Bool) → list_any other items ≡ a → cond a (filter own (behind_last other items)) (filter own items) ≡ filter own (behind_last other items)
    step true h = refl
    step false h = ap (filter own) (sym (behind-none other items h))

member-scan : {M N : Type 0} (rows : List (Row M)) (inner : List (Row N)) (blank : N) (field wire : ℕ) (other : Item → Bool) (get : M → Option N) → IsMember rows inner blank field wire other get
    → (held : List Item) (old new : M) (scan : Scan) (items : List Item) → joined_value blank inner held ≡ Ok (get old) → merged rows old scan ≡ Ok new → items_of scan ≡ Some items
    → joined_value blank inner (run (belongs field wire) other held items) ≡ Ok (get new)
unfolding run
member-scan {M} {N} rows inner blank field wire other get is held old new Whole items v h e =
    let same : old ≡ new = same-ok h in
    let none : [] ≡ items = cc in
    let P : List Item → Type 0 = λ s. joined_value blank inner (run (belongs field wire) other held s) ≡ Ok (get new) in
    subst P none (v ∙ ap (λ (m : M). Ok (get m)) same)
member-scan rows inner blank field wire other get is held old new (Broken fault) items v h e = absurd cc
member-scan {M} {N} rows inner blank field wire other get is held old new (Then item left more) items v h e =
    step (accepted rows old item) refl h (items_of more) refl e (λ held next items v h e. member-scan rows inner blank field wire other get is held next new more items v h e)
  where
    next-held : (o w : Bool) (next : M) → accepted rows old item ≡ Ok next → other item ≡ o → belongs field wire item ≡ w → joined_value blank inner (cond o [] (cond w (held ++ item ∷ []) held)) ≡ Ok (get next)
    next-held true w next a o b = let none = is.dropped old next item a o in ap (λ (m : Option N). Ok m) (sym none)
    next-held false true next a o b = value-snoc inner blank held item (get old) (get next) v (is.taken old next item a b)
    next-held false false next a o b = let same = is.kept old next item a b o in v ∙ ap (λ (m : Option N). Ok m) (sym same)

    step : (r : Result M ItemFault) → accepted rows old item ≡ r → (before left r >>= λ next. merged rows next more) ≡ Ok new
        → (s : Option (List Item)) → items_of more ≡ s → option_map (λ (items : List Item). item ∷ items) s ≡ Some items
        → ((held : List Item) (next : M) (items : List Item) → joined_value blank inner held ≡ Ok (get next) → merged rows next more ≡ Ok new → items_of more ≡ Some items
        → joined_value blank inner (run (belongs field wire) other held items) ≡ Ok (get new))
        → joined_value blank inner (run (belongs field wire) other held items) ≡ Ok (get new)
    step (Err fault) a h s f e k = absurd cc
    step (Ok next) a h None f e k = absurd cc
    step (Ok next) a h (Some rest) f e k =
        let same : item ∷ rest ≡ items = cc in
        let P : List Item → Type 0 = λ s. joined_value blank inner (run (belongs field wire) other held s) ≡ Ok (get new) in
        subst P same (k (held-next (belongs field wire) other held item) next rest (next-held (other item) (belongs field wire item) next a refl refl) h f)

pub member-is-joined : {M N : Type 0} (rows : List (Row M)) (inner : List (Row N)) (blank : N) (field wire : ℕ) (other : Item → Bool) (get : M → Option N) → IsMember rows inner blank field wire other get
    → (old new : M) (bytes : List ℕ) (items : List Item) → get old ≡ None → value_in rows old bytes ≡ Ok new → items_of (records_in bytes) ≡ Some items
    → joined_value blank inner (filter (belongs field wire) (behind_last other items)) ≡ Ok (get new)
unfolding value_in
member-is-joined {N = N} rows inner blank field wire other get is old new bytes items none h e =
    let start : joined_value blank inner [] ≡ Ok (get old) = ap (λ (m : Option N). Ok m) (sym none) in
    ap (joined_value blank inner) (sym (run-behind (belongs field wire) other items))
    ∙ member-scan rows inner blank field wire other get is [] old new (records_in bytes) items start h e

never : Item → Bool
never item = false

any-never : (items : List Item) → list_any never items ≡ false
unfolding never
any-never [] = refl
any-never (item ∷ items) = any-never items

singular-member : {M N : Type 0} (rows : List (Row M)) (inner : List (Row N)) (blank : N) (field wire : ℕ) (get : M → Option N) → IsSingular rows inner blank field wire get → IsMember rows inner blank field wire never get
unfolding never
singular-member rows inner blank field wire get is = record { taken = is.taken; dropped = λ old new item a o. absurd cc; kept = λ old new item a b o. is.kept old new item a b }

pub singular-is-joined : {M N : Type 0} (rows : List (Row M)) (inner : List (Row N)) (blank : N) (field wire : ℕ) (get : M → Option N) → IsSingular rows inner blank field wire get
    → (old new : M) (bytes : List ℕ) (items : List Item) → get old ≡ None → value_in rows old bytes ≡ Ok new → items_of (records_in bytes) ≡ Some items
    → joined_value blank inner (filter (belongs field wire) items) ≡ Ok (get new)
singular-is-joined rows inner blank field wire get is old new bytes items none h e =
    ap (λ (s : List Item). joined_value blank inner (filter (belongs field wire) s)) (sym (behind-none never items (any-never items)))
    ∙ member-is-joined rows inner blank field wire never get (singular-member rows inner blank field wire get is) old new bytes items none h e

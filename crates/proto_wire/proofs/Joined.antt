-- Values of bytes that are joined.
use Rattle.std.proofs.Common.{◌≡◌, ℕ, zero, suc, ◌<◌, ◌≤◌, Bool, true, false, cond, List, [], ◌∷◌, ◌++◌, length, Result, Ok, Err, refl, sym, ap, ◌∙◌, arith, append_assoc, ◌||◌}
use Rattle.std.specs.List.{list_any}
use Rattle.proto_wire.specs.Varint.{ItemFault, ◌>>=◌}
use Rattle.proto_wire.specs.Record.{Item, record_in}
use Rattle.proto_wire.specs.Message.{Row, belongs, accepted, before, value_in}
use Rattle.proto_wire.specs.Encoding.{IsUnknown}
use Rattle.proto_wire.proofs.Scans.{record_in-fronts, fronts-length, value_in-end, value_in-step, value_in-accepted, value_in-broken}
use Rattle.proto_wire.proofs.Fronts.{same-ok, record_in-stands}

-- bytes of one record at least, that are read: the first record and what it makes of the value
pub record FirstRead {M : Type 0} (rows : List (Row M)) (old new : M) (bytes : List ℕ) : Type 0 where
  pub item : Item
  pub rest : List ℕ
  pub read : record_in bytes ≡ Ok (item, rest)
  pub next : M
  pub enters : accepted rows old item ≡ Ok next
  pub goes_on : value_in rows next rest ≡ Ok new

pub first-read : {M : Type 0} (rows : List (Row M)) (old new : M) (bytes : List ℕ) → 0 < length bytes → value_in rows old bytes ≡ Ok new → FirstRead rows old new bytes
first-read {M} rows old new bytes some h = step (record_in bytes) refl
  where
    taken : (item : Item) (rest : List ℕ) → record_in bytes ≡ Ok (item, rest) → (r : Result M ItemFault) → accepted rows old item ≡ r → (before (length rest) r >>= λ next. value_in rows next rest) ≡ Ok new → FirstRead rows old new bytes
    taken item rest e (Ok next) f k = record { item = item; rest = rest; read = e; next = next; enters = f; goes_on = k }
    taken item rest e (Err fault) f k = absurd cc

    step : (r : Result (Item × List ℕ) ItemFault) → record_in bytes ≡ r → FirstRead rows old new bytes
    step (Ok read) e = taken read.0 read.1 e (accepted rows old read.0) refl (sym (value_in-step rows old bytes read some e) ∙ h)
    step (Err fault) e = let broken = value_in-broken rows old bytes fault some e in absurd cc

-- what is left of bytes behind their first record is shorter
pub first-shorter : (bytes : List ℕ) (read : Item × List ℕ) → record_in bytes ≡ Ok read → length read.1 < length bytes
first-shorter bytes read h = let f = record_in-fronts bytes read h in let len = fronts-length f in let some = f.some in omega arith

front-some : (front rest : List ℕ) (item : Item) → record_in (front ++ rest) ≡ Ok (item, rest) → 0 < length (front ++ rest)
front-some front rest item h = let s = first-shorter (front ++ rest) (item, rest) h in omega arith

-- one record in front
pub one-more : {M : Type 0} (rows : List (Row M)) (old new : M) (front more : List ℕ) (item : Item) → record_in (front ++ more) ≡ Ok (item, more) → accepted rows old item ≡ Ok new
    → value_in rows old (front ++ more) ≡ value_in rows new more
one-more rows old new front more item h k = value_in-accepted rows old new (front ++ more) (item, more) (front-some front more item h) h k

read-on : {M : Type 0} (fuel : ℕ) (rows : List (Row M)) (old new : M) (bytes more : List ℕ) → length bytes ≤ fuel → value_in rows old bytes ≡ Ok new → value_in rows old (bytes ++ more) ≡ value_in rows new more
read-on {M} fuel rows old new [] more le h =
    let same : old ≡ new = same-ok (sym (value_in-end rows old [] refl) ∙ h) in ap (λ (m : M). value_in rows m more) same
read-on zero rows old new (b ∷ bytes) more le h = absurd (omega arith)
read-on (suc fuel) rows old new (b ∷ bytes) more le h =
    let f = first-read rows old new (b ∷ bytes) (omega arith) h in
    let shorter : length f.rest < length (b ∷ bytes) = first-shorter (b ∷ bytes) (f.item, f.rest) f.read in
    let s = record_in-stands (b ∷ bytes) (f.item, f.rest) f.read in
    ap (λ (t : List ℕ). value_in rows old (t ++ more)) s.is
    ∙ ap (value_in rows old) (append_assoc s.front f.rest more)
    ∙ one-more rows old f.next s.front (f.rest ++ more) f.item (s.again (f.rest ++ more)) f.enters
    ∙ read-on fuel rows f.next new f.rest more (omega arith) f.goes_on

pub joined-read-on : {M : Type 0} (rows : List (Row M)) (old new : M) (bytes more : List ℕ) → value_in rows old bytes ≡ Ok new → value_in rows old (bytes ++ more) ≡ value_in rows new more
joined-read-on rows old new bytes more h = read-on (length bytes) rows old new bytes more (omega arith) h

-- ---- records of no row

pub unknown-passed : {M : Type 0} (rows : List (Row M)) (value : M) (item : Item) → IsUnknown rows item → accepted rows value item ≡ Ok value
unknown-passed [] value item h = refl
unknown-passed {M} (row ∷ rows) value item h = step (belongs row.field row.wire item) h (unknown-passed rows value item)
  where
    step : (b : Bool) → (b || list_any (λ (r : Row M). belongs r.field r.wire item) rows) ≡ false → (IsUnknown rows item → accepted rows value item ≡ Ok value) → cond b (row.enters value item) (accepted rows value item) ≡ Ok value
    step true h k = absurd cc
    step false h k = k h

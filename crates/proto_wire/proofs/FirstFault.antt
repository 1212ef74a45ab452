-- Where bytes stop being read.
use Rattle.std.proofs.Common.{◌≡◌, ℕ, zero, suc, ◌<◌, ◌≤◌, ◌↔◌, ◌⊎◌, inl, inr, List, [], ◌∷◌, ◌++◌, length, Result, Ok, Err, refl, sym, ap, ◌∙◌, arith, append_assoc}
use Rattle.proto_wire.specs.Varint.{ItemFault, ◌>>=◌}
use Rattle.proto_wire.specs.Record.{Item, record_in}
use Rattle.proto_wire.specs.Message.{Row, accepted, before, value_in}
use Rattle.proto_wire.specs.Encoding.{IsRefused, StopsAt}
use Rattle.proto_wire.proofs.Scans.{value_in-end, value_in-step, value_in-broken}
use Rattle.proto_wire.proofs.Fronts.{record_in-stands}
use Rattle.proto_wire.proofs.Joined.{first-shorter, one-more, joined-read-on}

stops-fault : {M : Type 0} (rows : List (Row M)) (old : M) (bytes : List ℕ) (fault : ItemFault) → StopsAt rows old bytes fault → value_in rows old bytes ≡ Err fault
stops-fault {M} rows old bytes fault s =
    ap (value_in rows old) s.is ∙ joined-read-on rows old s.value s.read s.left s.so_far ∙ step s.stops
  where
    step : (record_in s.left ≡ Err fault) ⊎ IsRefused rows s.value s.left fault → value_in rows s.value s.left ≡ Err fault
    step (inl broken) = value_in-broken rows s.value s.left fault s.more broken
    step (inr r) = value_in-step rows s.value s.left (r.item, r.rest) s.more r.read ∙ rw (r.refused, r.is) refl

-- a whole record in front of bytes that stop
stops-behind : {M : Type 0} (rows : List (Row M)) (old next : M) (bytes : List ℕ) (read : Item × List ℕ) (fault : ItemFault) → record_in bytes ≡ Ok read → accepted rows old read.0 ≡ Ok next
    → StopsAt rows next read.1 fault → StopsAt rows old bytes fault
stops-behind rows old next bytes read fault e a s =
    let f = record_in-stands bytes read e in
    record {
      read = f.front ++ s.read;
      left = s.left;
      is = f.is ∙ ap (λ (t : List ℕ). f.front ++ t) s.is ∙ sym (append_assoc f.front s.read s.left);
      value = s.value;
      so_far = one-more rows old next f.front s.read read.0 (f.again s.read) a ∙ s.so_far;
      more = s.more;
      stops = s.stops;
    }

fault-stops : {M : Type 0} (fuel : ℕ) (rows : List (Row M)) (old : M) (bytes : List ℕ) (fault : ItemFault) → length bytes ≤ fuel → value_in rows old bytes ≡ Err fault → StopsAt rows old bytes fault
fault-stops fuel rows old [] fault le h = let whole = value_in-end rows old [] refl in absurd cc
fault-stops zero rows old (b ∷ bytes) fault le h = absurd (omega arith)
fault-stops {M} (suc fuel) rows old (b ∷ bytes) fault le h = step (record_in (b ∷ bytes)) refl (λ next rest le k. fault-stops fuel rows next rest fault le k)
  where
    here : (record_in (b ∷ bytes) ≡ Err fault) ⊎ IsRefused rows old (b ∷ bytes) fault → StopsAt rows old (b ∷ bytes) fault
    here stops = record { read = []; left = b ∷ bytes; is = refl; value = old; so_far = value_in-end rows old [] refl; more = omega arith; stops = stops }

    entering : (read : Item × List ℕ) → record_in (b ∷ bytes) ≡ Ok read → (r : Result M ItemFault) → accepted rows old read.0 ≡ r → (before (length read.1) r >>= λ next. value_in rows next read.1) ≡ Err fault
        → ((next : M) (rest : List ℕ) → length rest ≤ fuel → value_in rows next rest ≡ Err fault → StopsAt rows next rest fault) → StopsAt rows old (b ∷ bytes) fault
    entering read e (Ok next) a h k =
        let shorter : length read.1 < length (b ∷ bytes) = first-shorter (b ∷ bytes) read e in
        stops-behind rows old next (b ∷ bytes) read fault e a (k next read.1 (omega arith) h)
    entering read e (Err inner) a h k = here (inr (record { item = read.0; rest = read.1; read = e; inner = inner; refused = a; is = cc }))

    step : (r : Result (Item × List ℕ) ItemFault) → record_in (b ∷ bytes) ≡ r
        → ((next : M) (rest : List ℕ) → length rest ≤ fuel → value_in rows next rest ≡ Err fault → StopsAt rows next rest fault) → StopsAt rows old (b ∷ bytes) fault
    step (Ok read) e k = entering read e (accepted rows old read.0) refl (sym (value_in-step rows old (b ∷ bytes) read (omega arith) e) ∙ h) k
    step (Err broken) e k =
        let told = value_in-broken rows old (b ∷ bytes) broken (omega arith) e in
        let same : broken ≡ fault = cc in
        here (inl (e ∙ ap (λ (f : ItemFault). Err f) same))

pub first-fault : {M : Type 0} (rows : List (Row M)) (old : M) (bytes : List ℕ) (fault : ItemFault) → (value_in rows old bytes ≡ Err fault) ↔ StopsAt rows old bytes fault
first-fault rows old bytes fault = (λ h. fault-stops (length bytes) rows old bytes fault (omega arith) h, λ s. stops-fault rows old bytes fault s)

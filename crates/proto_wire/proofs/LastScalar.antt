-- A table of one scalar: the value is what its last record says.
use Rattle.std.proofs.Common.{◌≡◌, ℕ, Bool, true, false, cond, List, [], ◌∷◌, Option, Some, None, Result, Ok, Err, refl, sym, ap, ◌∙◌}
use Rattle.proto_wire.specs.Varint.{ItemFault, ◌>>=◌}
use Rattle.proto_wire.specs.Record.{Item, Scan, Whole, Broken, Then, records_in}
use Rattle.proto_wire.specs.Message.{Row, belongs, before, merged, value_in, last_of, last_record, scalars}

-- the table of a field that is the whole value
abbrev pub alone : {A : Type 0} → ℕ → ℕ → (Item → A) → (ℕ → A → List ℕ) → (A → Bool) → List (Row A)
alone {A} field wire of spells fits = scalars field wire (λ item. Ok (of item)) spells fits (λ (old : A). old) (λ old new. new) ∷ []

abbrev pub chosen : {A : Type 0} → A → (Item → A) → Option Item → A
chosen default of None = default
chosen default of (Some item) = of item

last-scan : {A : Type 0} (field wire : ℕ) (of : Item → A) (spells : ℕ → A → List ℕ) (fits : A → Bool) (default value : A) (held : Option Item) (scan : Scan) → chosen default of held ≡ value
    → merged (alone field wire of spells fits) value scan ≡ (last_of field wire held scan >>= λ found. Ok (chosen default of found))
last-scan field wire of spells fits default value held Whole e = ap Ok (sym e)
last-scan field wire of spells fits default value held (Broken fault) e = refl
last-scan {A} field wire of spells fits default value held (Then item left more) e =
    step (belongs field wire item) (λ next found h. last-scan field wire of spells fits default next found more h)
  where
    step : (b : Bool) → ((next : A) (found : Option Item) → chosen default of found ≡ next → merged (alone field wire of spells fits) next more ≡ (last_of field wire found more >>= λ last. Ok (chosen default of last)))
        → (before left (cond b (Ok (of item)) (Ok value)) >>= λ next. merged (alone field wire of spells fits) next more) ≡ (last_of field wire (cond b (Some item) held) more >>= λ found. Ok (chosen default of found))
    step true rest = rest (of item) (Some item) refl
    step false rest = rest value held e

last-scalar : {A : Type 0} (field wire : ℕ) (of : Item → A) (spells : ℕ → A → List ℕ) (fits : A → Bool) (default : A) (bytes : List ℕ)
    → value_in (alone field wire of spells fits) default bytes ≡ (last_record field wire bytes >>= λ found. Ok (chosen default of found))
unfolding value_in last_record
last-scalar field wire of spells fits default bytes = last-scan field wire of spells fits default default None (records_in bytes) refl

-- by what the last record is
pub last-some : {A : Type 0} (field wire : ℕ) (of : Item → A) (spells : ℕ → A → List ℕ) (fits : A → Bool) (default : A) (bytes : List ℕ) (item : Item) → last_record field wire bytes ≡ Ok (Some item)
    → value_in (alone field wire of spells fits) default bytes ≡ Ok (of item)
last-some field wire of spells fits default bytes item h = last-scalar field wire of spells fits default bytes ∙ rw h refl

pub last-none : {A : Type 0} (field wire : ℕ) (of : Item → A) (spells : ℕ → A → List ℕ) (fits : A → Bool) (default : A) (bytes : List ℕ) → last_record field wire bytes ≡ Ok None
    → value_in (alone field wire of spells fits) default bytes ≡ Ok default
last-none field wire of spells fits default bytes h = last-scalar field wire of spells fits default bytes ∙ rw h refl

pub last-broken : {A : Type 0} (field wire : ℕ) (of : Item → A) (spells : ℕ → A → List ℕ) (fits : A → Bool) (default : A) (bytes : List ℕ) (fault : ItemFault) → last_record field wire bytes ≡ Err fault
    → value_in (alone field wire of spells fits) default bytes ≡ Err fault
last-broken field wire of spells fits default bytes fault h = last-scalar field wire of spells fits default bytes ∙ rw h refl

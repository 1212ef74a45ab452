-- What one record does to the fields of a table.
use Rattle.std.proofs.Common.{◌≡◌, ℕ, Bool, true, false, cond, List, [], ◌∷◌, Option, Some, None, Result, Ok, Err, refl, sym, ap, ◌∙◌}
use Rattle.proto_wire.specs.Varint.{ItemFault, ◌>>=◌}
use Rattle.proto_wire.specs.Record.{Item}
use Rattle.proto_wire.specs.Message.{Row, belongs, accepted, joined, entered}
use Rattle.proto_wire.specs.Encoding.{IsScalar, IsSingular, IsMember}
use Rattle.proto_wire.proofs.Fronts.{same-ok}

-- what enters by a row leaves this part of the value
abbrev pub Keeps : {M B : Type 0} → (M → B) → (M → Item → Result M ItemFault) → Type 0
Keeps {M} get enters = (old new : M) (item : Item) → enters old item ≡ Ok new → get new ≡ get old

-- a row is that of the field, or of another member of its oneof, or leaves it
pub data Minds {M B : Type 0} (field wire : ℕ) (other : Item → Bool) (get : M → B) (row : Row M) : Type 0 where
  is_own : row.field ≡ field → row.wire ≡ wire → Minds field wire other get row
  is_other : ((item : Item) → belongs row.field row.wire item ≡ true → other item ≡ true) → Minds field wire other get row
  leaves : Keeps get row.enters → Minds field wire other get row

abbrev pub AllMind : {M B : Type 0} → ℕ → ℕ → (Item → Bool) → (M → B) → List (Row M) → Type 0
AllMind field wire other get [] = Unit {0}
AllMind field wire other get (row ∷ rows) = Minds field wire other get row × AllMind field wire other get rows

-- no other member
abbrev pub none : Item → Bool
none item = false

-- what takes in a part leaves each part that it does not write
pub keeps : {M A B : Type 0} (get : M → B) (reads : M → Item → Result A ItemFault) (put : M → A → M) → ((old : M) (x : A) → get (put old x) ≡ get old)
    → Keeps get (λ old item. reads old item >>= λ x. Ok (put old x))
keeps {M} {A} {B} get reads put is old new item h = step (reads old item) h
  where
    step : (r : Result A ItemFault) → (r >>= λ x. Ok (put old x)) ≡ Ok new → get new ≡ get old
    step (Ok x) h = ap (λ (m : M). get m) (sym (same-ok h)) ∙ is old x
    step (Err f) h = absurd cc

-- and writes the part that it takes in
pub writes : {M A B : Type 0} (get : M → B) (of : A → B) (r : Result A ItemFault) (put : M → A → M) (old new : M) → ((old : M) (x : A) → get (put old x) ≡ of x)
    → (r >>= λ x. Ok (put old x)) ≡ Ok new → (r >>= λ x. Ok (of x)) ≡ Ok (get new)
writes {M} {A} {B} get of (Ok x) put old new is h = ap (λ (y : B). Ok y) (sym (is old x) ∙ ap (λ (m : M). get m) (same-ok h))
writes get of (Err f) put old new is h = absurd cc

pub writes-itself : {M A : Type 0} (get : M → A) (r : Result A ItemFault) (put : M → A → M) (old new : M) → ((old : M) (x : A) → get (put old x) ≡ x)
    → (r >>= λ x. Ok (put old x)) ≡ Ok new → r ≡ Ok (get new)
writes-itself {M} {A} get (Ok x) put old new is h = ap (λ (y : A). Ok y) (sym (is old x) ∙ ap (λ (m : M). get m) (same-ok h))
writes-itself get (Err f) put old new is h = absurd cc

pub mind-kept : {M B : Type 0} (field wire : ℕ) (other : Item → Bool) (get : M → B) (rows : List (Row M)) → AllMind field wire other get rows → (old new : M) (item : Item)
    → accepted rows old item ≡ Ok new → belongs field wire item ≡ false → other item ≡ false → get new ≡ get old
mind-kept {M} field wire other get [] mind old new item h b o = ap (λ (m : M). get m) (sym (same-ok h))
mind-kept {M} {B} field wire other get (row ∷ rows) mind old new item h b o =
    step (belongs row.field row.wire item) refl h (λ h. mind-kept field wire other get rows mind.1 old new item h b o)
  where
    here : Minds field wire other get row → belongs row.field row.wire item ≡ true → row.enters old item ≡ Ok new → get new ≡ get old
    here (is_own f w) e h = let same : belongs row.field row.wire item ≡ belongs field wire item = rw (f, w) refl in absurd cc
    here (is_other k) e h = let told = k item e in absurd cc
    here (leaves k) e h = k old new item h

    step : (t : Bool) → belongs row.field row.wire item ≡ t → cond t (row.enters old item) (accepted rows old item) ≡ Ok new → (accepted rows old item ≡ Ok new → get new ≡ get old) → get new ≡ get old
    step true e h k = here mind.0 e h
    step false e h k = k h

pub scalar-field : {M A : Type 0} (rows : List (Row M)) (field wire : ℕ) (reads : Item → Result A ItemFault) (get : M → A) (put : M → A → M)
    → ((old : M) (item : Item) → belongs field wire item ≡ true → accepted rows old item ≡ (reads item >>= λ x. Ok (put old x)))
    → ((old : M) (x : A) → get (put old x) ≡ x) → AllMind field wire none get rows → IsScalar rows field wire reads get
scalar-field rows field wire reads get put enters is mind = record {
  taken = λ old new item h b. writes-itself get (reads item) put old new is (sym (enters old item b) ∙ h);
  kept = λ old new item h b. mind-kept field wire none get rows mind old new item h b refl;
}

pub singular-field : {M N : Type 0} (rows : List (Row M)) (inner : List (Row N)) (blank : N) (field wire : ℕ) (get : M → Option N) (put : M → Option N → M)
    → ((old : M) (item : Item) → belongs field wire item ≡ true → accepted rows old item ≡ (entered blank inner (get old) item >>= λ x. Ok (put old x)))
    → ((old : M) (x : Option N) → get (put old x) ≡ x) → AllMind field wire none get rows → IsSingular rows inner blank field wire get
singular-field rows inner blank field wire get put enters is mind = record {
  taken = λ old new item h b. writes-itself get (entered blank inner (get old) item) put old new is (sym (enters old item b) ∙ h);
  kept = λ old new item h b. mind-kept field wire none get rows mind old new item h b refl;
}

pub member-field : {M N : Type 0} (rows : List (Row M)) (inner : List (Row N)) (blank : N) (field wire : ℕ) (other : Item → Bool) (get : M → Option N) (put : M → N → M)
    → ((old : M) (item : Item) → belongs field wire item ≡ true → accepted rows old item ≡ (joined blank inner (get old) item >>= λ x. Ok (put old x)))
    → ((old : M) (x : N) → get (put old x) ≡ Some x)
    → ((old new : M) (item : Item) → accepted rows old item ≡ Ok new → other item ≡ true → get new ≡ None)
    → AllMind field wire other get rows → IsMember rows inner blank field wire other get
unfolding entered
member-field rows inner blank field wire other get put enters is dropped mind = record {
  taken = λ old new item h b. writes get (λ x. Some x) (joined blank inner (get old) item) put old new is (sym (enters old item b) ∙ h);
  dropped = dropped;
  kept = λ old new item h b o. mind-kept field wire other get rows mind old new item h b o;
}

-- what enters by another member drops this one
pub drops : {M A N : Type 0} (get : M → Option N) (r : Result A ItemFault) (put : M → A → M) (old new : M) → ((old : M) (x : A) → get (put old x) ≡ None) → (r >>= λ x. Ok (put old x)) ≡ Ok new → get new ≡ None
drops {M} get (Ok x) put old new is h = ap (λ (m : M). get m) (sym (same-ok h)) ∙ is old x
drops get (Err f) put old new is h = absurd cc

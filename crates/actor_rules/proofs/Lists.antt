-- Lists with more behind them, and lists in order.
use Rattle.std.proofs.Common.{◌⊎◌, ◌≡◌, ℕ, ◌+◌, ◌≤◌, Bool, true, false, List, [], ◌∷◌, ◌++◌, length, take, drop, refl, sym, ◌∙◌, ap, ap₂, inl, inr, arith, length-drop}
use Rattle.std.specs.List.{AllByRecursion, filter}
use Rattle.std.proofs.lemmas.List.{take-append-le, drop-append-le}
use Rattle.actor_rules.specs.Keys.{IsKeyOrder, Rises, placed}

pub true_or_false : (b : Bool) → (b ≡ true) ⊎ (b ≡ false)
true_or_false true = inl refl
true_or_false false = inr refl

-- some from the middle are the same with more behind
pub middle-append : {V : Type 0} (xs ys : List V) (skipped count : ℕ) → skipped + count ≤ length xs → take count (drop skipped (xs ++ ys)) ≡ take count (drop skipped xs)
middle-append xs ys skipped count h =
    ap (take count) (drop-append-le skipped xs ys (omega arith)) ∙ take-append-le count (drop skipped xs) ys (omega (arith, length-drop skipped xs))

-- what stands at a place of a list and one more stands in the list, or is the one
pub place_in_push : {E : Type 0} (es : List E) (last : E) (front : List E) (e : E) (back : List E) → es ++ last ∷ [] ≡ front ++ e ∷ back
    → ((es ≡ front) × (last ≡ e)) ⊎ ((rest : List E) × (es ≡ front ++ e ∷ rest))
place_in_push [] last [] e back h = inl (refl, cc)
place_in_push [] last (f ∷ []) e back h = absurd cc
place_in_push [] last (f ∷ g ∷ front) e back h = absurd cc
place_in_push (x ∷ es) last [] e back h = let first : x ≡ e = cc in inr (es, ap (λ y. y ∷ es) first)
place_in_push (x ∷ es) last (f ∷ front) e back h =
    let first : x ≡ f = cc in
    let later : es ++ last ∷ [] ≡ front ++ e ∷ back = cc in
    elim (place_in_push es last front e back later) [
      | inl same ↦ inl (ap₂ (λ y ys. y ∷ ys) first same.0, same.1)
      | inr rest ↦ inr (rest.0, ap₂ (λ y ys. y ∷ ys) first rest.1)
    ]

-- a front of which all pass lies within any front behind which none passes
pub front_inside : {E : Type 0} (p : E → Bool) (front back pre post : List E) → front ++ back ≡ pre ++ post
    → AllByRecursion (λ f. p f ≡ true) front → AllByRecursion (λ f. p f ≡ false) post → (more : List E) × (pre ≡ front ++ more)
front_inside p [] back pre post h pass none = (pre, refl)
front_inside p (f ∷ front) back [] [] h pass none = absurd cc
front_inside p (f ∷ front) back [] (g ∷ post) h pass none =
    let first : f ≡ g = cc in
    let both : true ≡ false = sym pass.0 ∙ ap p first ∙ none.0 in
    absurd cc
front_inside p (f ∷ front) back (g ∷ pre) post h pass none =
    let first : g ≡ f = cc in
    let later : front ++ back ≡ pre ++ post = cc in
    let more = front_inside p front back pre post later pass.1 none in
    (more.0, ap₂ (λ y ys. y ∷ ys) first more.1)

-- ---- facts of all elements

pub all-append : {X : Type 0} (P : X → Type 0) (xs ys : List X) → AllByRecursion P xs → AllByRecursion P ys → AllByRecursion P (xs ++ ys)
all-append P [] ys h k = k
all-append P (x ∷ xs) ys h k = (h.0, all-append P xs ys h.1 k)

pub all-map : {X : Type 0} (P Q : X → Type 0) (xs : List X) → ((x : X) → P x → Q x) → AllByRecursion P xs → AllByRecursion Q xs
all-map P Q [] f h = tt
all-map P Q (x ∷ xs) f h = (f x h.0, all-map P Q xs f h.1)

pub all-filter : {X : Type 0} (P : X → Type 0) (p : X → Bool) (xs : List X) → AllByRecursion P xs → AllByRecursion P (filter p xs)
all-filter P p [] h = tt
all-filter P p (x ∷ xs) h = let later = all-filter P p xs h.1 in elim (true_or_false (p x)) [
  | inl passes ↦ rw passes (h.0, later)
  | inr fails ↦ rw fails later
]

-- ---- keys

-- none is before one that stands in front of it
abbrev pub IsInOrder : {E : Type 0} → (E → E → Bool) → List E → Type 0
IsInOrder before [] = Unit {0}
IsInOrder before (e ∷ es) = AllByRecursion (λ f. before f e ≡ false) (e ∷ es) × IsInOrder before es

module _ {E : Type 0} (before : E → E → Bool) (keys : IsKeyOrder before) where
  pub not_before_itself : (e : E) → before e e ≡ false
  not_before_itself e = elim (true_or_false (before e e)) [
    | inl is ↦ (let both : true ≡ false = sym is ∙ keys.one_way e e is in absurd cc)
    | inr isnt ↦ isnt
  ]

  pub before_all : (e f : E) (fs : List E) → before e f ≡ true → AllByRecursion (λ g. before f g ≡ true) fs → AllByRecursion (λ g. before e g ≡ true) fs
  before_all e f fs first h = all-map (λ g. before f g ≡ true) (λ g. before e g ≡ true) fs (λ g later. keys.passes_on e f g first (keys.one_way f g later)) h

  -- those behind a step are not before it, nor is it before itself
  pub none_before : (e : E) (es : List E) → AllByRecursion (λ f. before e f ≡ true) es → AllByRecursion (λ f. before f e ≡ false) (e ∷ es)
  none_before e es h = (not_before_itself e, all-map (λ f. before e f ≡ true) (λ f. before f e ≡ false) es (keys.one_way e) h)

  pub in_order : (es : List E) → Rises before es → IsInOrder before es
  in_order [] rises = tt
  in_order (e ∷ es) rises = (none_before e es rises.0, in_order es rises.1)

  before_others : (e f : E) (fs : List E) → before e f ≡ true → AllByRecursion (λ g. before g f ≡ false) fs → AllByRecursion (λ g. before e g ≡ true) fs
  before_others e f fs first h = all-map (λ g. before g f ≡ false) (λ g. before e g ≡ true) fs (λ g. keys.passes_on e f g first) h

  all-placed : (P : E → Type 0) (e : E) (es : List E) → P e → AllByRecursion P es → AllByRecursion P (placed before e es)
  all-placed P e [] h k = (h, tt)
  all-placed P e (f ∷ fs) h k = elim (true_or_false (before e f)) [
    | inl is ↦ rw is (h, k)
    | inr isnt ↦ rw isnt (k.0, all-placed P e fs h k.1)
  ]

  pub rises-placed : (e : E) (es : List E) → Rises before es → AllByRecursion (λ f. before e f ≡ false → before f e ≡ true) es → Rises before (placed before e es)
  rises-placed e [] rises apart = (tt, tt)
  rises-placed e (f ∷ fs) rises apart = elim (true_or_false (before e f)) [
    | inl is ↦ rw is ((is, before_all e f fs is rises.0), rises)
    | inr isnt ↦ rw isnt (all-placed (λ g. before f g ≡ true) e fs (apart.0 isnt) rises.0, rises-placed e fs rises.1 apart.1)
  ]

  pub in_order-placed : (e : E) (es : List E) → IsInOrder before es → IsInOrder before (placed before e es)
  in_order-placed e [] ordered = ((not_before_itself e, tt), tt)
  in_order-placed e (f ∷ fs) ordered = elim (true_or_false (before e f)) [
    | inl is ↦ rw is (none_before e (f ∷ fs) (is, before_others e f fs is ordered.0.1), ordered)
    | inr isnt ↦ rw isnt ((ordered.0.0, all-placed (λ g. before g f ≡ false) e fs isnt ordered.0.1), in_order-placed e fs ordered.1)
  ]

  -- all that stand behind a step are behind one that is before it
  pub before_rest : (e f : E) (fs : List E) → before e f ≡ true → IsInOrder before (f ∷ fs) → AllByRecursion (λ g. before e g ≡ true) (f ∷ fs)
  before_rest e f fs first ordered = (first, before_others e f fs first ordered.0.1)

-- what is so of a list's front
pub all-front : {X : Type 0} (P : X → Type 0) (xs ys : List X) → AllByRecursion P (xs ++ ys) → AllByRecursion P xs
all-front P [] ys h = tt
all-front P (x ∷ xs) ys h = (h.0, all-front P xs ys h.1)

-- of two fronts of one list one lies in the other
pub two_fronts : {E : Type 0} (front back pre post : List E) → front ++ back ≡ pre ++ post → ((more : List E) × (pre ≡ front ++ more)) ⊎ ((more : List E) × (front ≡ pre ++ more))
two_fronts [] back pre post h = inl (pre, refl)
two_fronts (f ∷ front) back [] post h = inr (f ∷ front, refl)
two_fronts (f ∷ front) back (g ∷ pre) post h =
    let first : f ≡ g = cc in
    let later : front ++ back ≡ pre ++ post = cc in
    elim (two_fronts front back pre post later) [
      | inl more ↦ inl (more.0, ap₂ (λ y ys. y ∷ ys) (sym first) more.1)
      | inr more ↦ inr (more.0, ap₂ (λ y ys. y ∷ ys) first more.1)
    ]

-- What lies in a bound, by its place in the list of pieces.
use Rattle.std.proofs.Common.{◌≡◌, ℕ, ◌+◌, ◌≤◌, Bool, true, false, ◌&&◌, cond, leb, List, [], ◌∷◌, Option, Some, None, refl, sym, ap, ap₂, ◌∙◌, arith}
use Rattle.std.proofs.lemmas.Bool.Decides.{nat_tests}
use Rattle.yaml_block.specs.declared.piece.Piece.{Piece}
use Rattle.yaml_block.specs.declared.piece.Head.{Head}
use Rattle.yaml_block.specs.declared.piece.Head.TheVariants as head
use Rattle.yaml_block.specs.declared.piece.Bound.{Bound}
use Rattle.yaml_block.specs.Layout.{Forest, none, grown, is_item_head, lies_in, below, inside, outside, forest}
use Rattle.yaml_block.specs.Steps.{rest, next_in, trees_in}

-- ---- what lies below a piece in a bound lies in the bound

from_column : (l c : ℕ) (v : Bool) → l ≤ c → leb l (cond v (c + 1) c) ≡ true
from_column l c true h = grind (arith, nat_tests)
from_column l c false h = grind (arith, nat_tests)

to_column : (l c : ℕ) (v : Bool) → leb l (cond v (c + 1) c) ≡ true → l ≤ c + 1
to_column l c true h = grind (arith, nat_tests)
to_column l c false h = grind (arith, nat_tests)

same_column : (l c : ℕ) → leb l c ≡ true → l ≤ c
same_column l c h = grind (arith, nat_tests)

and-false : (v : Bool) → (v && false) ≡ false
and-false true = refl
and-false false = refl

below_no_key : (l c d : ℕ) (v w : Bool) → l ≤ c + 1 → leb (c + 1) (cond (v && false) (d + 1) d) ≡ true → leb l (cond w (d + 1) d) ≡ true
below_no_key l c d v w h k =
    let j : leb (c + 1) d ≡ true = rw (and-false v) at k in
    from_column l d w (omega (arith, same_column (c + 1) d j, h))

below_any : (l c d : ℕ) (v w : Bool) → l ≤ c → leb (c + 1) (cond v (d + 1) d) ≡ true → leb l (cond w (d + 1) d) ≡ true
below_any l c d v w h k = from_column l d w (omega (arith, to_column (c + 1) d v k, h))

deeper : (b : Bound) (line column : ℕ) (h : Head) (r : Piece) → lies_in b (record { line = line; column = column; head = h }) ≡ true → lies_in (below (record { line = line; column = column; head = h })) r ≡ true → lies_in b r ≡ true
deeper b line column head.Item r h k = below_no_key b.least column r.column (is_item_head r.head) (is_item_head r.head && b.below_key) (to_column b.least column b.below_key h) k
deeper b line column (head.Entry _ _) r h k = below_any b.least column r.column (is_item_head r.head && true) (is_item_head r.head && b.below_key) (same_column b.least column h) k
deeper b line column (head.Scalar _) r h k = below_any b.least column r.column (is_item_head r.head && false) (is_item_head r.head && b.below_key) (same_column b.least column h) k
deeper b line column (head.Refused _) r h k = below_any b.least column r.column (is_item_head r.head && false) (is_item_head r.head && b.below_key) (same_column b.least column h) k

pub through : (b : Bound) (p r : Piece) → lies_in b p ≡ true → lies_in (below p) r ≡ true → lies_in b r ≡ true
through b p r h k = deeper b p.line p.column p.head r h k

-- ---- a bound in a bound

module _ (b c : Bound) (wider : (r : Piece) → lies_in c r ≡ true → lies_in b r ≡ true) where
  pub outside_both : (f : Forest) → outside b (outside c f) ≡ outside b f
  outside_both none = refl
  outside_both (grown p under after) = elim (lies_in c p) as (λ v. lies_in c p ≡ v → outside b (cond v (outside c after) (grown p under after)) ≡ outside b (grown p under after)) [
    | true ↦ (λ e. outside_both after ∙ sym (ap (λ v. cond v (outside b after) (grown p under after)) (wider p e)))
    | false ↦ (λ e. refl)
  ] refl

  pub rest_both : (ps : List Piece) → rest b (rest c ps) ≡ rest b ps
  rest_both [] = refl
  rest_both (p ∷ ps) = elim (lies_in c p) as (λ v. lies_in c p ≡ v → rest b (cond v (rest c ps) (p ∷ ps)) ≡ rest b (p ∷ ps)) [
    | true ↦ (λ e. rest_both ps ∙ sym (ap (λ v. cond v (rest b ps) (p ∷ ps)) (wider p e)))
    | false ↦ (λ e. refl)
  ] refl

-- what lies outside is the layout of the pieces from the first one outside on
pub outside-forest : (b : Bound) (ps : List Piece) → outside b (forest ps) ≡ forest (rest b ps)
outside-forest b [] = refl
outside-forest b (p ∷ ps) = elim (lies_in b p) as (λ v. lies_in b p ≡ v → cond v (outside b (outside (below p) (forest ps))) (forest (p ∷ ps)) ≡ forest (cond v (rest b ps) (p ∷ ps))) [
  | true ↦ (λ e. outside_both b (below p) (λ r k. through b p r e k) (forest ps) ∙ outside-forest b ps)
  | false ↦ (λ e. refl)
] refl

-- ---- the next piece

split_pair : {X Y : Type 0} (x x' : X) (y y' : Y) → ◌≡◌ {A = Option (X × Y)} (Some (x, y)) (Some (x', y')) → (x ≡ x') × (y ≡ y')
split_pair {X} {Y} x x' y y' e =
    let k : ◌≡◌ {A = X × Y} (x, y) (x', y') = cc in
    (ap (λ (z : X × Y). z.0) k, ap (λ (z : X × Y). z.1) k)

pub no_next : (b : Bound) (ps : List Piece) → None ≡ next_in b ps → (trees_in b ps ≡ none) × (rest b ps ≡ ps)
unfolding trees_in
no_next b [] e = (refl, refl)
no_next b (p ∷ ps) e =
    let P : Bool → Type 0 = λ v. ◌≡◌ {A = Option (Piece × List Piece)} None (cond v (Some (p, ps)) None)
    → (◌≡◌ {A = Forest} (cond v (grown p (inside (below p) (forest ps)) (inside b (outside (below p) (forest ps)))) none) none) × (◌≡◌ {A = List Piece} (cond v (rest b ps) (p ∷ ps)) (p ∷ ps)) in
    elim (lies_in b p) as P [ true ↦ (λ e. absurd cc) | false ↦ (λ e. (refl, refl)) ] e

pub is_next : (b : Bound) (ps : List Piece) (p : Piece) (qs : List Piece) → Some (p, qs) ≡ next_in b ps → (ps ≡ p ∷ qs) × (lies_in b p ≡ true)
is_next b [] p qs e = absurd cc
is_next b (r ∷ rs) p qs e =
    let P : Bool → Type 0 = λ v. lies_in b r ≡ v → ◌≡◌ {A = Option (Piece × List Piece)} (Some (p, qs)) (cond v (Some (r, rs)) None) → (◌≡◌ {A = List Piece} (r ∷ rs) (p ∷ qs)) × (lies_in b p ≡ true) in
    elim (lies_in b r) as P [
      | true ↦ (λ t e. let k = split_pair p r qs rs e in (sym (ap₂ (λ (x : Piece) (xs : List Piece). x ∷ xs) k.0 k.1), ap (lies_in b) k.0 ∙ t))
      | false ↦ (λ t e. absurd cc)
    ] refl e

-- the layout from the next piece on
pub trees_next : (b : Bound) (ps : List Piece) (p : Piece) (qs : List Piece) → Some (p, qs) ≡ next_in b ps → trees_in b ps ≡ grown p (trees_in (below p) qs) (trees_in b (rest (below p) qs))
unfolding trees_in
trees_next b ps p qs e =
    let n = is_next b ps p qs e in
    ap (λ (xs : List Piece). inside b (forest xs)) n.0
    ∙ ap (λ v. cond v (grown p (inside (below p) (forest qs)) (inside b (outside (below p) (forest qs)))) none) n.1
    ∙ ap (λ f. grown p (inside (below p) (forest qs)) (inside b f)) (outside-forest (below p) qs)

pub rest_next : (b : Bound) (ps : List Piece) (p : Piece) (qs : List Piece) → Some (p, qs) ≡ next_in b ps → rest b ps ≡ rest b (rest (below p) qs)
rest_next b ps p qs e =
    let n = is_next b ps p qs e in
    ap (rest b) n.0 ∙ ap (λ v. cond v (rest b qs) (p ∷ qs)) n.1 ∙ sym (rest_both b (below p) (λ r k. through b p r n.1 k) qs)

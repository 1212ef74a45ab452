-- Pieces have one layout, and a text one list of trees.
use Rattle.std.proofs.Common.{◌≡◌, ℕ, zero, suc, ◌+◌, ◌≤◌, Bool, true, false, cond, List, [], ◌∷◌, ◌++◌, length, Option, Some, None, Result, Ok, Err, refl, sym, ap, ap₂, ◌∙◌, append_assoc, arith}
use Rattle.std.proofs.lemmas.Bool.Decides.{nat_tests}
use Rattle.std.specs.Prelude.{nat_lt, not}
use Rattle.proto_wire.specs.declared.module_kind.ModuleKind.TheVariants.{TooLong, NotUtf8}
use Rattle.std.specs.Str.{is_utf8}
use Rattle.std.proofs.lemmas.Str.{IsUtf8-from_is_utf8}
use Rattle.yaml_block.specs.declared.piece.Piece.{Piece}
use Rattle.yaml_block.specs.declared.piece.Bound.{Bound}
use Rattle.yaml_block.specs.declared.fault.Refusal.{Refusal}
use Rattle.yaml_block.specs.declared.node.Node.{Node}
use Rattle.yaml_block.specs.Layout.{Forest, none, grown, lies_in, below, inside, outside, forest, pieces_of, AllIn, BeginsOutside, IsLaid}
use Rattle.yaml_block.specs.Trees.{refusal, opened, block}
use Rattle.yaml_block.specs.Documents.{read, trees, documents, lines, without_mark, and_tree, Refused, bad_line}
use Rattle.yaml_block.specs.Laws.{AreTreesOf, HasTrees}
use Rattle.yaml_block.proofs.Below.{through}
use Rattle.yaml_block.proofs.Joining.{read_good}

-- ---- the layout of some pieces is laid

parted : (b : Bound) (f : Forest) → pieces_of (inside b f) ++ pieces_of (outside b f) ≡ pieces_of f
parted b none = refl
parted b (grown p u a) =
    let P : Bool → Type 0 = λ v. pieces_of (cond v (grown p u (inside b a)) none) ++ pieces_of (cond v (outside b a) (grown p u a)) ≡ pieces_of (grown p u a) in
    let e : (pieces_of u ++ pieces_of (inside b a)) ++ pieces_of (outside b a) ≡ pieces_of u ++ pieces_of a = simp append_assoc (ap (λ (r : List Piece). pieces_of u ++ r) (parted b a)) in
    elim (lies_in b p) as P [ true ↦ ap (λ (r : List Piece). p ∷ r) e | false ↦ refl ]

pub pieces_of-forest : (ps : List Piece) → pieces_of (forest ps) ≡ ps
pieces_of-forest [] = refl
pieces_of-forest (p ∷ ps) = ap (λ (r : List Piece). p ∷ r) (parted (below p) (forest ps) ∙ pieces_of-forest ps)

module _ (b : Bound) where
  inside_in : (f : Forest) → AllIn b (inside b f)
  inside_in none = tt
  inside_in (grown p u a) =
      let P : Bool → Type 0 = λ v. lies_in b p ≡ v → AllIn b (cond v (grown p u (inside b a)) none) in
      elim (lies_in b p) as P [ true ↦ (λ e. (e, inside_in a)) | false ↦ (λ e. tt) ] refl

  outside_begins : (f : Forest) → BeginsOutside b (outside b f)
  outside_begins none = tt
  outside_begins (grown p u a) =
      let P : Bool → Type 0 = λ v. lies_in b p ≡ v → BeginsOutside b (cond v (outside b a) (grown p u a)) in
      elim (lies_in b p) as P [ true ↦ (λ e. outside_begins a) | false ↦ (λ e. e) ] refl

  inside_begins : (c : Bound) (f : Forest) → BeginsOutside c f → BeginsOutside c (inside b f)
  inside_begins c none h = tt
  inside_begins c (grown p u a) h =
      let P : Bool → Type 0 = λ v. BeginsOutside c (cond v (grown p u (inside b a)) none) in
      elim (lies_in b p) as P [ true ↦ h | false ↦ tt ]

  inside_laid : (f : Forest) → IsLaid f → IsLaid (inside b f)
  inside_laid none h = tt
  inside_laid (grown p u a) h =
      let P : Bool → Type 0 = λ v. IsLaid (cond v (grown p u (inside b a)) none) in
      elim (lies_in b p) as P [ true ↦ (h.0, inside_begins (below p) a h.1, h.2, inside_laid a h.3) | false ↦ tt ]

  outside_laid : (f : Forest) → IsLaid f → IsLaid (outside b f)
  outside_laid none h = tt
  outside_laid (grown p u a) h =
      let P : Bool → Type 0 = λ v. IsLaid (cond v (outside b a) (grown p u a)) in
      elim (lies_in b p) as P [ true ↦ outside_laid a h.3 | false ↦ h ]

pub forest_laid : (ps : List Piece) → IsLaid (forest ps)
forest_laid [] = tt
forest_laid (p ∷ ps) =
    let h = forest_laid ps in
    (inside_in (below p) (forest ps), outside_begins (below p) (forest ps), inside_laid (below p) (forest ps) h, outside_laid (below p) (forest ps) h)

-- ---- and no other one is

abbrev chained : Forest → Forest → Forest
chained none g = g
chained (grown p u a) g = grown p u (chained a g)

pieces_of-chained : (f g : Forest) → pieces_of (chained f g) ≡ pieces_of f ++ pieces_of g
pieces_of-chained none g = refl
pieces_of-chained (grown p u a) g = ap (λ (r : List Piece). p ∷ (pieces_of u ++ r)) (pieces_of-chained a g) ∙ sym (ap (λ (r : List Piece). p ∷ r) (simp append_assoc))

parts_of-chained : (b : Bound) (f g : Forest) → AllIn b f → BeginsOutside b g → (inside b (chained f g) ≡ f) × (outside b (chained f g) ≡ g)
parts_of-chained b none none h k = (refl, refl)
parts_of-chained b none (grown p u a) h k = (ap (λ v. cond v (grown p u (inside b a)) none) k, ap (λ v. cond v (outside b a) (grown p u a)) k)
parts_of-chained b (grown p u a) g h k =
    let r = parts_of-chained b a g h.1 k in
    (ap (λ v. cond v (grown p u (inside b (chained a g))) none) h.0 ∙ ap (grown p u) r.0, ap (λ v. cond v (outside b (chained a g)) (grown p u (chained a g))) h.0 ∙ r.1)

-- what lies outside a bound lies outside all that is in it
deeper_outside : (b : Bound) (p : Piece) (g : Forest) → lies_in b p ≡ true → BeginsOutside b g → BeginsOutside (below p) g
deeper_outside b p none h k = tt
deeper_outside b p (grown r u a) h k =
    elim (lies_in (below p) r) as (λ v. lies_in (below p) r ≡ v → v ≡ false) [ true ↦ (λ e. sym (through b p r h e) ∙ k) | false ↦ (λ e. refl) ] refl

chained_laid : (b : Bound) (f g : Forest) → AllIn b f → BeginsOutside b g → IsLaid f → IsLaid g → IsLaid (chained f g)
chained_laid b none g h k l m = m
chained_laid b (grown p u none) g h k l m = (l.0, deeper_outside b p g h.0 k, l.2, m)
chained_laid b (grown p u (grown r v a)) g h k l m = (l.0, l.1, l.2, chained_laid b (grown r v a) g h.1 k l.3 m)

forest_of : (n : ℕ) (f : Forest) → length (pieces_of f) ≤ n → IsLaid f → forest (pieces_of f) ≡ f
forest_of n none s h = refl
forest_of zero (grown p u a) s h = absurd (omega arith)
forest_of (suc n) (grown p u a) s h =
    let e : pieces_of (chained u a) ≡ pieces_of u ++ pieces_of a = pieces_of-chained u a in
    let i : forest (pieces_of u ++ pieces_of a) ≡ chained u a = ap forest (sym e) ∙ forest_of n (chained u a) (omega (arith, ap length e)) (chained_laid (below p) u a h.0 h.1 h.2 h.3) in
    let w = parts_of-chained (below p) u a h.0 h.1 in
    ap (λ g. grown p (inside (below p) g) (outside (below p) g)) i ∙ ap₂ (grown p) w.0 w.1

only_forest : (f : Forest) (ps : List Piece) → pieces_of f ≡ ps → IsLaid f → f ≡ forest ps
only_forest f ps e h = sym (forest_of (length (pieces_of f)) f (omega arith) h) ∙ ap forest e

-- ---- trees

and_tree_ok : (k : ℕ) (o : Option Refusal) (n : Node) (others : Result (List Node) Refused) (ns : List Node) → and_tree k o n others ≡ Ok ns
    → (o ≡ None) × (ms : List Node) × (others ≡ Ok ms) × (ns ≡ n ∷ ms)
and_tree_ok k (Some r) n others ns e = absurd cc
and_tree_ok k None n (Ok ms) ns e = let s : n ∷ ms ≡ ns = cc in (refl, ms, refl, sym s)
and_tree_ok k None n (Err r) ns e = absurd cc

trees_are : (k : ℕ) (ds : List (List Piece)) (ns : List Node) → trees k ds ≡ Ok ns → AreTreesOf ds ns
trees_are k [] ns e = let s : ◌≡◌ {A = List Node} [] ns = cc in sym s
trees_are k ([] ∷ ds) ns e = trees_are k ds ns e
trees_are k ((p ∷ ps) ∷ ds) [] e =
    let h = and_tree_ok k (refusal 1 (opened (forest (p ∷ ps))) [] (forest (p ∷ ps))) (block 0 (forest (p ∷ ps))) (trees (k + 1) ds) [] e in
    let x : ◌≡◌ {A = List Node} [] (block 0 (forest (p ∷ ps)) ∷ h.1) = h.3 in
    absurd (omega (arith, ap length x))
trees_are k ((p ∷ ps) ∷ ds) (n ∷ ns) e =
    let f = forest (p ∷ ps) in
    let h = and_tree_ok k (refusal 1 (opened f) [] f) (block 0 f) (trees (k + 1) ds) (n ∷ ns) e in
    let x : ◌≡◌ {A = List Node} (n ∷ ns) (block 0 f ∷ h.1) = h.3 in
    let y : (n ≡ block 0 f) × (ns ≡ h.1) = (cc, cc) in
    ((f, pieces_of-forest (p ∷ ps), forest_laid (p ∷ ps), h.0, y.0), trees_are (k + 1) ds ns (h.2 ∙ ap Ok (sym y.1)))

are_trees : (k : ℕ) (ds : List (List Piece)) (ns : List Node) → AreTreesOf ds ns → trees k ds ≡ Ok ns
are_trees k [] ns e = ap Ok (sym e)
are_trees k ([] ∷ ds) ns e = are_trees k ds ns e
are_trees k ((p ∷ ps) ∷ ds) [] e = absurd e
are_trees k ((p ∷ ps) ∷ ds) (n ∷ ns) e =
    let t = e.0 in
    let s : t.0 ≡ forest (p ∷ ps) = only_forest t.0 (p ∷ ps) t.1 t.2 in
    let no : refusal 1 (opened (forest (p ∷ ps))) [] (forest (p ∷ ps)) ≡ None = ap (λ g. refusal 1 (opened g) [] g) (sym s) ∙ t.3 in
    let is : block 0 (forest (p ∷ ps)) ≡ n = ap (block 0) (sym s) ∙ sym t.4 in
    ap (λ o. and_tree k o (block 0 (forest (p ∷ ps))) (trees (k + 1) ds)) no
    ∙ ap (λ r. and_tree k None (block 0 (forest (p ∷ ps))) r) (are_trees (k + 1) ds ns e.1)
    ∙ ap (λ m. Ok (m ∷ ns)) is

-- ---- texts

pub has_trees_read : (text : List ℕ) (ns : List Node) → HasTrees text ns → read text ≡ Ok ns
has_trees_read text ns h = read_good text h.0.0 h.0.1 ∙ are_trees 1 (documents 1 (lines (without_mark text))) ns h.1

pub one_list : (text : List ℕ) (ns ms : List Node) → HasTrees text ns → HasTrees text ms → ns ≡ ms
one_list text ns ms h k =
    let e : ◌≡◌ {A = Result (List Node) Refused} (Ok ns) (Ok ms) = sym (has_trees_read text ns h) ∙ has_trees_read text ms k in
    cc

fits : (n : ℕ) → nat_lt 1048576 n ≡ false → n ≤ 1048576
fits n e = grind (arith, nat_tests)

pub read_has_trees : (text : List ℕ) (ns : List Node) → read text ≡ Ok ns → HasTrees text ns
unfolding read
read_has_trees text ns e =
    let T : Result (List Node) Refused = trees 1 (documents 1 (lines (without_mark text))) in
    let P : Bool → Type 0 = λ v. nat_lt 1048576 (length text) ≡ v
    → cond v (Err (0, record { line = 0; kind = TooLong })) (cond (not (is_utf8 text)) (Err (0, record { line = bad_line text; kind = NotUtf8 })) T) ≡ Ok ns → HasTrees text ns in
    let Q : Bool → Type 0 = λ v. nat_lt 1048576 (length text) ≡ false → is_utf8 text ≡ v → cond (not v) (Err (0, record { line = bad_line text; kind = NotUtf8 })) T ≡ Ok ns → HasTrees text ns in
    elim (nat_lt 1048576 (length text)) as P [
      | true ↦ (λ l e. absurd cc)
      | false ↦ (λ l e. elim (is_utf8 text) as Q [
        | true ↦ (λ l u e. ((fits (length text) l, IsUtf8-from_is_utf8 text u), trees_are 1 (documents 1 (lines (without_mark text))) ns e))
        | false ↦ (λ l u e. absurd cc)
      ] l refl e)
    ] refl e

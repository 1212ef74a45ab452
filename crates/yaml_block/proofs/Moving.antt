-- Other numbers of lines, and documents that stand apart.
use Rattle.std.proofs.Common.{◌≡◌, ℕ, ◌+◌, ◌≤◌, ◌<◌, Bool, true, false, ◌&&◌, ◌||◌, ◌==◌, cond, List, [], ◌∷◌, ◌++◌, length, map, Option, Some, None, Result, Ok, Err, ◌⊎◌, inl, inr, refl, sym, ap, ap₂, subst, ◌∙◌, arith}
use Rattle.std.proofs.lemmas.Bool.Decides.{nat_tests}
use Rattle.std.specs.Prelude.{nat_le, not, option_map}
use Rattle.proto_wire.specs.declared.module_kind.ModuleKind.{ModuleKind}
use Rattle.proto_wire.specs.declared.module_kind.ModuleKind.TheVariants.{Directive, Tab, Indent}
use Rattle.yaml_block.specs.declared.piece.Piece.{Piece}
use Rattle.yaml_block.specs.declared.piece.Head.{Head}
use Rattle.yaml_block.specs.declared.piece.Head.TheVariants as head
use Rattle.yaml_block.specs.declared.piece.Inline.TheVariants as inline
use Rattle.yaml_block.specs.declared.piece.Bound.{Bound}
use Rattle.yaml_block.specs.declared.piece.Block.{Block}
use Rattle.yaml_block.specs.declared.piece.Line.{Line}
use Rattle.yaml_block.specs.declared.piece.Line.TheVariants as a_line
use Rattle.yaml_block.specs.declared.fault.Refusal.{Refusal}
use Rattle.yaml_block.specs.declared.node.Node.{Node}
use Rattle.yaml_block.specs.Scalars.{is_white, is_item, is_over, is_end, past_white}
use Rattle.yaml_block.specs.Lines.{piece, pieces_on, head_on, marked_line, other_line, refused_line, has_tab, behind_mark, starts_white}
use Rattle.yaml_block.specs.Layout.{Forest, none, grown, lies_in, below, inside, outside, forest}
use Rattle.yaml_block.specs.Trees.{refusal, misfit, repeated, unreadable_value, opened, block, block_below, goes_on, and_key, at_line, ◌orElse◌}
use Rattle.yaml_block.specs.Documents.{trees, documents, and_line, line_of, and_tree, Refused}
use Rattle.yaml_block.proofs.Utf8.{equals}
use Rattle.yaml_block.proofs.Beginnings.{never_none}
use Rattle.yaml_block.specs.Laws.{meaning, moved_piece, moved, IsMoved, one_more_behind, then_others, before_trees}

-- ---- a layout with other numbers

module _ (g : ℕ → ℕ) where
  moved_inside : (b : Bound) (f : Forest) → inside b (moved g f) ≡ moved g (inside b f)
  moved_inside b none = refl
  moved_inside b (grown p u a) =
      let P : Bool → Type 0 = λ v. cond v (grown (moved_piece g p) (moved g u) (inside b (moved g a))) none ≡ moved g (cond v (grown p u (inside b a)) none) in
      elim (lies_in b p) as P [ true ↦ ap (grown (moved_piece g p) (moved g u)) (moved_inside b a) | false ↦ refl ]

  moved_outside : (b : Bound) (f : Forest) → outside b (moved g f) ≡ moved g (outside b f)
  moved_outside b none = refl
  moved_outside b (grown p u a) =
      let P : Bool → Type 0 = λ v. cond v (outside b (moved g a)) (grown (moved_piece g p) (moved g u) (moved g a)) ≡ moved g (cond v (outside b a) (grown p u a)) in
      elim (lies_in b p) as P [ true ↦ moved_outside b a | false ↦ refl ]

  moved_forest : (ps : List Piece) → forest (map (moved_piece g) ps) ≡ moved g (forest ps)
  moved_forest [] = refl
  moved_forest (p ∷ ps) =
      ap (λ f. grown (moved_piece g p) (inside (below p) f) (outside (below p) f)) (moved_forest ps)
      ∙ ap₂ (grown (moved_piece g p)) (moved_inside (below p) (forest ps)) (moved_outside (below p) (forest ps))

  moved_opened : (f : Forest) → opened (moved g f) ≡ opened f
  moved_opened none = refl
  moved_opened (grown p u a) = refl

  moved_below : (h : Head) (f : Forest) → block_below h (moved g f) ≡ block_below h f
  moved_below head.Item f = moved_opened f
  moved_below (head.Entry _ inline.Nothing) f = moved_opened f
  moved_below (head.Entry _ (inline.Scalar _)) f = refl
  moved_below (head.Entry _ (inline.Refused _)) f = refl
  moved_below (head.Scalar _) f = refl
  moved_below (head.Refused _) f = refl

  abbrev moved_refusal : Refusal → Refusal
  moved_refusal r = record { line = g r.line; kind = r.kind }

  moved_at : (line : ℕ) (o : Option ModuleKind) → at_line (g line) o ≡ option_map moved_refusal (at_line line o)
  moved_at line None = refl
  moved_at line (Some k) = refl

  moved_or : (x y : Option Refusal) → (option_map moved_refusal x orElse option_map moved_refusal y) ≡ option_map moved_refusal (x orElse y)
  moved_or None y = refl
  moved_or (Some x) y = refl

  moved_refusals : (level : ℕ) (home : Block) (keys : List (List ℕ)) (f : Forest) → refusal level home keys (moved g f) ≡ option_map moved_refusal (refusal level home keys f)
  moved_refusals level home keys none = refl
  moved_refusals level home keys (grown p u a) =
      let W = at_line p.line (misfit level home p orElse (repeated keys p.head orElse unreadable_value p.head)) in
      let U = refusal (level + 1) (block_below p.head u) [] u in
      let A = refusal level (goes_on home p.head) (and_key keys p.head) a in
      let e : refusal (level + 1) (block_below p.head (moved g u)) [] (moved g u) ≡ option_map moved_refusal U =
      ap (λ b. refusal (level + 1) b [] (moved g u)) (moved_below p.head u) ∙ moved_refusals (level + 1) (block_below p.head u) [] u in
      ap (λ w. w orElse (refusal (level + 1) (block_below p.head (moved g u)) [] (moved g u) orElse refusal level (goes_on home p.head) (and_key keys p.head) (moved g a))) (moved_at p.line _)
      ∙ ap (λ w. option_map moved_refusal W orElse (w orElse refusal level (goes_on home p.head) (and_key keys p.head) (moved g a))) e
      ∙ ap (λ w. option_map moved_refusal W orElse (option_map moved_refusal U orElse w)) (moved_refusals level (goes_on home p.head) (and_key keys p.head) a)
      ∙ ap (λ w. option_map moved_refusal W orElse w) (moved_or U A) ∙ moved_or W (U orElse A)

  -- ---- documents with other numbers

  abbrev moved_line : Line → Line
  moved_line a_line.Mark = a_line.Mark
  moved_line (a_line.Pieces ps) = a_line.Pieces (map (moved_piece g) ps)

  moved_pieces_on : (line column : ℕ) (bs : List ℕ) → pieces_on (g line) column bs ≡ map (moved_piece g) (pieces_on line column bs)
  moved_pieces_on line column [] = refl
  moved_pieces_on line column (b ∷ bs) =
      let m = map (moved_piece g) in
      let R : Bool → Type 0 = λ v. cond v (piece (g line) column head.Item ∷ pieces_on (g line) (column + 1) bs) (piece (g line) column (head_on b bs) ∷ []) ≡ m (cond v (piece line column head.Item ∷ pieces_on line (column + 1) bs) (piece line column (head_on b bs) ∷ [])) in
      let Q : Bool → Type 0 = λ v. cond v [] (cond (is_item b bs) (piece (g line) column head.Item ∷ pieces_on (g line) (column + 1) bs) (piece (g line) column (head_on b bs) ∷ [])) ≡ m (cond v [] (cond (is_item b bs) (piece line column head.Item ∷ pieces_on line (column + 1) bs) (piece line column (head_on b bs) ∷ []))) in
      let P : Bool → Type 0 = λ v. cond v (pieces_on (g line) (column + 1) bs) (cond (b == 35) [] (cond (is_item b bs) (piece (g line) column head.Item ∷ pieces_on (g line) (column + 1) bs) (piece (g line) column (head_on b bs) ∷ [])))
      ≡ m (cond v (pieces_on line (column + 1) bs) (cond (b == 35) [] (cond (is_item b bs) (piece line column head.Item ∷ pieces_on line (column + 1) bs) (piece line column (head_on b bs) ∷ [])))) in
      elim (is_white b) as P [
        | true ↦ moved_pieces_on line (column + 1) bs
        | false ↦ (elim (b == 35) as Q [ true ↦ refl | false ↦ (elim (is_item b bs) as R [ true ↦ ap (λ (ps : List Piece). piece (g line) column head.Item ∷ ps) (moved_pieces_on line (column + 1) bs) | false ↦ refl ]) ])
      ]

  moved_other : (line : ℕ) (bs : List ℕ) → other_line (g line) bs ≡ moved_line (other_line line bs)
  moved_other line [] = refl
  moved_other line (b ∷ bs) =
      let tabbed = has_tab (b ∷ bs) && not (is_over (b ∷ bs)) in
      let Q : Bool → Type 0 = λ v. cond v (refused_line (g line) Tab) (a_line.Pieces (pieces_on (g line) 0 (b ∷ bs))) ≡ moved_line (cond v (refused_line line Tab) (a_line.Pieces (pieces_on line 0 (b ∷ bs)))) in
      let P : Bool → Type 0 = λ v. cond v (refused_line (g line) Directive) (cond tabbed (refused_line (g line) Tab) (a_line.Pieces (pieces_on (g line) 0 (b ∷ bs)))) ≡ moved_line (cond v (refused_line line Directive) (cond tabbed (refused_line line Tab) (a_line.Pieces (pieces_on line 0 (b ∷ bs))))) in
      elim (b == 37) as P [ true ↦ refl | false ↦ (elim tabbed as Q [ true ↦ refl | false ↦ ap (λ (ps : List Piece). a_line.Pieces ps) (moved_pieces_on line 0 (b ∷ bs)) ]) ]

  moved_marked : (line : ℕ) (o : Option (List ℕ)) (bs : List ℕ) → marked_line (g line) o bs ≡ moved_line (marked_line line o bs)
  moved_marked line None bs = moved_other line bs
  moved_marked line (Some rest) bs =
      let Q : Bool → Type 0 = λ v. cond v (refused_line (g line) Indent) (other_line (g line) bs) ≡ moved_line (cond v (refused_line line Indent) (other_line line bs)) in
      let P : Bool → Type 0 = λ v. cond v a_line.Mark (cond (starts_white rest) (refused_line (g line) Indent) (other_line (g line) bs)) ≡ moved_line (cond v a_line.Mark (cond (starts_white rest) (refused_line line Indent) (other_line line bs))) in
      elim (is_over rest) as P [ true ↦ refl | false ↦ (elim (starts_white rest) as Q [ true ↦ refl | false ↦ moved_other line bs ]) ]

  moved_line_of : (line : ℕ) (bs : List ℕ) → line_of (g line) bs ≡ moved_line (line_of line bs)
  unfolding line_of
  moved_line_of line bs = moved_marked line (behind_mark bs) bs

  abbrev moved_documents : List (List Piece) → List (List Piece)
  moved_documents ds = map (map (moved_piece g)) ds

  map-append : (ps qs : List Piece) → map (moved_piece g) (ps ++ qs) ≡ map (moved_piece g) ps ++ map (moved_piece g) qs
  map-append [] qs = refl
  map-append (p ∷ ps) qs = ap (λ (r : List Piece). moved_piece g p ∷ r) (map-append ps qs)

  moved_and_line : (l : Line) (ds : List (List Piece)) → and_line (moved_line l) (moved_documents ds) ≡ moved_documents (and_line l ds)
  moved_and_line a_line.Mark ds = refl
  moved_and_line (a_line.Pieces ps) [] = refl
  moved_and_line (a_line.Pieces ps) (d ∷ ds) = ap (λ (r : List Piece). r ∷ moved_documents ds) (sym (map-append ps d))

  -- ---- and what they mean

  moved_tree : (k : ℕ) (f : Forest) (o : Option Refusal) (r s : Result (List Node) Refused) → g 0 ≡ 0 → IsMoved g r s → IsMoved g (and_tree k o (block 0 f) r) (and_tree k (option_map moved_refusal o) (block 0 (moved g f)) s)
  moved_tree k f (Some r) x y z h = (refl, refl)
  moved_tree k f None (Ok ns) (Ok ms) z h = (f ∷ h.0, ap (λ (xs : List Node). block 0 f ∷ xs) h.1, ap (λ (xs : List Node). block 0 (moved g f) ∷ xs) h.2)
  moved_tree k f None (Ok ns) (Err s) z h = absurd h
  moved_tree k f None (Err r) (Ok ms) z h = absurd h
  moved_tree k f None (Err r) (Err s) z h = h

  moved_trees : (k : ℕ) (ds : List (List Piece)) → g 0 ≡ 0 → IsMoved g (trees k ds) (trees k (moved_documents ds))
  moved_trees k [] z = ([], refl, refl)
  moved_trees k ([] ∷ ds) z = moved_trees k ds z
  moved_trees k ((p ∷ ps) ∷ ds) z =
      let f = forest (p ∷ ps) in
      let e : forest (moved_piece g p ∷ map (moved_piece g) ps) ≡ moved g f = moved_forest (p ∷ ps) in
      let o : refusal 1 (opened (moved g f)) [] (moved g f) ≡ option_map moved_refusal (refusal 1 (opened f) [] f) = moved_refusals 1 (opened f) [] f in
      let T = trees (k + 1) (moved_documents ds) in
      subst (λ (h : Forest). IsMoved g (and_tree k (refusal 1 (opened f) [] f) (block 0 f) (trees (k + 1) ds)) (and_tree k (refusal 1 (opened h) [] h) (block 0 h) T)) (sym e)
      (subst (λ (w : Option Refusal). IsMoved g (and_tree k (refusal 1 (opened f) [] f) (block 0 f) (trees (k + 1) ds)) (and_tree k w (block 0 (moved g f)) T)) (sym o)
      (moved_tree k f (refusal 1 (opened f) [] f) (trees (k + 1) ds) T z (moved_trees (k + 1) ds z)))

-- ---- a line more

before_it : (n k : ℕ) → k ≤ n → one_more_behind n k ≡ k
before_it n k h = let e : nat_le k n ≡ true = grind (arith, nat_tests) in rw e refl

behind_it : (n k : ℕ) → n < k → one_more_behind n k ≡ k + 1
behind_it n k h = let e : nat_le k n ≡ false = grind (arith, nat_tests) in rw e refl

documents_moved : (n k : ℕ) (ls : List (List ℕ)) → n < k → documents (k + 1) ls ≡ moved_documents (one_more_behind n) (documents k ls)
documents_moved n k [] h = refl
documents_moved n k (l ∷ ls) h =
    ap (λ (i : ℕ). and_line (line_of i l) (documents (k + 1 + 1) ls)) (sym (behind_it n k h))
    ∙ ap₂ and_line (moved_line_of (one_more_behind n) k l) (documents_moved n (k + 1) ls (omega arith))
    ∙ moved_and_line (one_more_behind n) (line_of k l) (documents (k + 1) ls)

nothing_more : (l : Line) (ds : List (List Piece)) (d : List Piece) (es : List (List Piece)) → l ≡ a_line.Pieces [] → ds ≡ d ∷ es → and_line l ds ≡ ds
nothing_more l ds d es e h = ap₂ and_line e h ∙ sym h

inserted : (n k : ℕ) (front back : List (List ℕ)) (blank : List ℕ) → ((line : ℕ) → line_of line blank ≡ a_line.Pieces []) → k + length front ≡ n + 1
    → documents k (front ++ blank ∷ back) ≡ moved_documents (one_more_behind n) (documents k (front ++ back))
inserted n k [] back blank empty h =
    let m : n < k = omega arith in
    let x = never_none (k + 1) back in
    nothing_more (line_of k blank) (documents (k + 1) back) x.0 x.1 (empty k) x.2 ∙ documents_moved n k back m
inserted n k (l ∷ ls) back blank empty h =
    ap (λ (i : ℕ). and_line (line_of i l) (documents (k + 1) (ls ++ blank ∷ back))) (sym (before_it n k (omega arith)))
    ∙ ap₂ and_line (moved_line_of (one_more_behind n) k l) (inserted n (k + 1) ls back blank empty (omega arith))
    ∙ moved_and_line (one_more_behind n) (line_of k l) (documents (k + 1) (ls ++ back))

-- ---- blank lines and comments

blank_pieces : (line column : ℕ) (bs : List ℕ) → is_end (past_white bs) ≡ true → pieces_on line column bs ≡ []
blank_pieces line column [] e = refl
blank_pieces line column (b ∷ bs) e =
    let P : Bool → Type 0 = λ v. is_end (cond v (past_white bs) (b ∷ bs)) ≡ true → cond v (pieces_on line (column + 1) bs) (cond (b == 35) [] (cond (is_item b bs) (piece line column head.Item ∷ pieces_on line (column + 1) bs) (piece line column (head_on b bs) ∷ []))) ≡ [] in
    elim (is_white b) as P [ true ↦ (λ e. blank_pieces line (column + 1) bs e) | false ↦ (λ e. rw e refl) ] e

-- what a blank line or a comment begins with is white or a `#`
begins_blank : (b : ℕ) (bs : List ℕ) → is_end (past_white (b ∷ bs)) ≡ true → (is_white b || b == 35) ≡ true
begins_blank b bs e = elim (is_white b) as (λ v. is_end (cond v (past_white bs) (b ∷ bs)) ≡ true → (v || b == 35) ≡ true) [ true ↦ (λ e. refl) | false ↦ (λ e. e) ] e

and-no : (v : Bool) → (v && false) ≡ false
and-no true = refl
and-no false = refl

black_tab : (b : ℕ) → is_white b ≡ false → (b == 9) ≡ false
black_tab b w = grind (arith, nat_tests)

black_space : (b : ℕ) → is_white b ≡ false → (b == 32) ≡ false
black_space b w = grind (arith, nat_tests)

is_no_tab : (b : ℕ) (bs : List ℕ) → is_end (past_white (b ∷ bs)) ≡ true → (has_tab (b ∷ bs) && not (is_over (b ∷ bs))) ≡ false
is_no_tab b bs e =
    let P : Bool → Type 0 = λ v. is_white b ≡ v → is_end (cond v (past_white bs) (b ∷ bs)) ≡ true → ((b == 9 || (b == 32 && has_tab bs)) && not (v && is_end (past_white bs))) ≡ false in
    elim (is_white b) as P [
      | true ↦ (λ w e. rw e (and-no (b == 9 || (b == 32 && has_tab bs))))
      | false ↦ (λ w e. rw (black_tab b w, black_space b w) refl)
    ] refl e

tab_or_hash : (b : ℕ) → ((b == 9) || b == 35) ≡ true → (b ≡ 32) ⊎ ((b ≡ 9) ⊎ (b ≡ 35))
tab_or_hash b e =
    let P : Bool → Type 0 = λ v. (b == 9) ≡ v → (v || b == 35) ≡ true → (b ≡ 32) ⊎ ((b ≡ 9) ⊎ (b ≡ 35)) in
    elim (b == 9) as P [ true ↦ (λ t e. inr (inl (equals b 9 t))) | false ↦ (λ _ e. inr (inr (equals b 35 e))) ] refl e

blank_is : (b : ℕ) → (is_white b || b == 35) ≡ true → (b ≡ 32) ⊎ ((b ≡ 9) ⊎ (b ≡ 35))
blank_is b e =
    let R : Type 0 = (b ≡ 32) ⊎ ((b ≡ 9) ⊎ (b ≡ 35)) in
    let P : Bool → Type 0 = λ v. (b == 32) ≡ v → ((v || b == 9) || b == 35) ≡ true → R in
    elim (b == 32) as P [
      | true ↦ (λ t e. inl (equals b 32 t))
      | false ↦ (λ _ e. tab_or_hash b e)
    ] refl e

-- no other byte begins so
no_other : (b n : ℕ) → (is_white b || b == 35) ≡ true → (32 == n) ≡ false → (9 == n) ≡ false → (35 == n) ≡ false → (b == n) ≡ false
no_other b n e x y z = elim (blank_is b e) as (λ _. (b == n) ≡ false) [
  | inl h ↦ rw h x
  | inr h ↦ (elim h as (λ _. (b == n) ≡ false) [ inl j ↦ rw j y | inr j ↦ rw j z ])
]

blank_other : (line : ℕ) (bs : List ℕ) → is_end (past_white bs) ≡ true → other_line line bs ≡ a_line.Pieces []
blank_other line [] e = refl
blank_other line (b ∷ bs) e =
    let no : (b == 37) ≡ false = no_other b 37 (begins_blank b bs e) refl refl refl in
    let all : Line = a_line.Pieces (pieces_on line 0 (b ∷ bs)) in
    ap (λ v. cond v (refused_line line Directive) (cond (has_tab (b ∷ bs) && not (is_over (b ∷ bs))) (refused_line line Tab) all)) no
    ∙ ap (λ v. cond v (refused_line line Tab) all) (is_no_tab b bs e)
    ∙ ap (λ (ps : List Piece). a_line.Pieces ps) (blank_pieces line 0 (b ∷ bs) e)

no_mark : (bs : List ℕ) → is_end (past_white bs) ≡ true → behind_mark bs ≡ None
no_mark [] e = refl
no_mark (a ∷ []) e = refl
no_mark (a ∷ b ∷ []) e = refl
no_mark (a ∷ b ∷ c ∷ rest) e =
    let first = begins_blank a (b ∷ c ∷ rest) e in
    rw (no_other a 45 first refl refl refl, no_other a 46 first refl refl refl) refl

blank_line : (line : ℕ) (bs : List ℕ) → is_end (past_white bs) ≡ true → line_of line bs ≡ a_line.Pieces []
unfolding line_of
blank_line line bs e = ap (λ o. marked_line line o bs) (no_mark bs e) ∙ blank_other line bs e

pub blank_moves : (front back : List (List ℕ)) (blank : List ℕ) → is_end (past_white blank) ≡ true → IsMoved (one_more_behind (length front)) (meaning (front ++ back)) (meaning (front ++ blank ∷ back))
blank_moves front back blank e =
    let n = length front in
    let i : documents 1 (front ++ blank ∷ back) ≡ moved_documents (one_more_behind n) (documents 1 (front ++ back)) = inserted n 1 front back blank (λ line. blank_line line blank e) (omega arith) in
    subst (λ (ds : List (List Piece)). IsMoved (one_more_behind n) (meaning (front ++ back)) (trees 1 ds)) (sym i) (moved_trees (one_more_behind n) 1 (documents 1 (front ++ back)) (before_it n 0 (omega arith)))

-- ---- documents apart

then_tree : (k : ℕ) (o : Option Refusal) (n : Node) (r : Result (List Node) Refused) (others : ℕ → Result (List Node) Refused)
    → and_tree k o n (then_others r (λ i. others (i + 1))) ≡ then_others (and_tree k o n r) others
then_tree k (Some s) n r others = refl
then_tree k None n (Err s) others = refl
then_tree k None n (Ok ns) others =
    let P : Result (List Node) Refused → Type 0 = λ w. and_tree k None n (before_trees ns w) ≡ before_trees (n ∷ ns) w in
    ap (λ (i : ℕ). and_tree k None n (before_trees ns (others i))) (omega arith) ∙ elim (others (length (n ∷ ns))) as P [ Ok ms ↦ refl | Err s ↦ refl ]

first_none : (k : ℕ) (es : List (List Piece)) → trees k es ≡ before_trees [] (trees (k + 0) es)
first_none k es =
    let P : Result (List Node) Refused → Type 0 = λ w. w ≡ before_trees [] w in
    let same : P (trees k es) = elim (trees k es) as P [ Ok ns ↦ refl | Err r ↦ refl ] in
    same ∙ ap (λ (i : ℕ). before_trees [] (trees i es)) (omega arith)

numbers : (k : ℕ) (r : Result (List Node) Refused) (es : List (List Piece)) → then_others r (λ n. trees (k + 1 + n) es) ≡ then_others r (λ n. trees (k + (n + 1)) es)
numbers k (Err r) es = refl
numbers k (Ok ns) es = ap (λ (i : ℕ). before_trees ns (trees i es)) (omega arith)

then_same : (r : Result (List Node) Refused) (es : List (List Piece)) → then_others r (λ n. trees (1 + n) es) ≡ then_others r (λ n. trees (n + 1) es)
then_same (Err r) es = refl
then_same (Ok ns) es = ap (λ (i : ℕ). before_trees ns (trees i es)) (omega arith)

apart : (k : ℕ) (ds es : List (List Piece)) → trees k (ds ++ es) ≡ then_others (trees k ds) (λ n. trees (k + n) es)
apart k [] es = first_none k es
apart k ([] ∷ ds) es = apart k ds es
apart k ((p ∷ ps) ∷ ds) es =
    let f = forest (p ∷ ps) in
    let o = refusal 1 (opened f) [] f in
    ap (and_tree k o (block 0 f)) (apart (k + 1) ds es ∙ numbers k (trees (k + 1) ds) es) ∙ then_tree k o (block 0 f) (trees (k + 1) ds) (λ n. trees (k + n) es)

mark_alone : (k : ℕ) (back : List (List ℕ)) (mark : List ℕ) → line_of (k + 0) mark ≡ a_line.Mark → documents k (mark ∷ back) ≡ [] ∷ documents (k + 0 + 1) back
mark_alone k back mark e =
    let zero : k + 0 ≡ k = omega arith in
    ap (λ (l : Line). and_line l (documents (k + 1) back)) (ap (λ (i : ℕ). line_of i mark) (sym zero) ∙ e) ∙ ap (λ (i : ℕ). [] ∷ documents (i + 1) back) (sym zero)

onto_first : (l : Line) (d : List Piece) (ds es : List (List Piece)) → and_line l ((d ∷ ds) ++ es) ≡ and_line l (d ∷ ds) ++ es
onto_first a_line.Mark d ds es = refl
onto_first (a_line.Pieces ps) d ds es = refl

joined_first : (l : Line) (ds es : List (List Piece)) → (d : List Piece) × (xs : List (List Piece)) × (ds ≡ d ∷ xs) → and_line l (ds ++ es) ≡ and_line l ds ++ es
joined_first l ds es h = ap (λ (x : List (List Piece)). and_line l (x ++ es)) h.2 ∙ onto_first l h.0 h.1 es ∙ sym (ap (λ (x : List (List Piece)). and_line l x ++ es) h.2)

parted : (k : ℕ) (front back : List (List ℕ)) (mark : List ℕ) → line_of (k + length front) mark ≡ a_line.Mark → documents k (front ++ mark ∷ back) ≡ documents k front ++ documents (k + length front + 1) back
parted k [] back mark e = mark_alone k back mark e
parted k (l ∷ ls) back mark e =
    let n : k + 1 + length ls ≡ k + length (l ∷ ls) = omega arith in
    let m : line_of (k + 1 + length ls) mark ≡ a_line.Mark = ap (λ (i : ℕ). line_of i mark) n ∙ e in
    ap (and_line (line_of k l)) (parted (k + 1) ls back mark m ∙ ap (λ (i : ℕ). documents (k + 1) ls ++ documents (i + 1) back) n)
    ∙ joined_first (line_of k l) (documents (k + 1) ls) (documents (k + length (l ∷ ls) + 1) back) (never_none (k + 1) ls)

pub mark_parts : (front back : List (List ℕ)) (mark : List ℕ) → line_of (length front + 1) mark ≡ a_line.Mark → meaning (front ++ mark ∷ back) ≡ then_others (meaning front) (λ n. trees (n + 1) (documents (length front + 2) back))
mark_parts front back mark e =
    let n : 1 + length front ≡ length front + 1 = omega arith in
    let two : 1 + length front + 1 ≡ length front + 2 = omega arith in
    ap (trees 1) (parted 1 front back mark (ap (λ (i : ℕ). line_of i mark) n ∙ e) ∙ ap (λ (i : ℕ). documents 1 front ++ documents i back) two)
    ∙ apart 1 (documents 1 front) (documents (length front + 2) back)
    ∙ then_same (meaning front) (documents (length front + 2) back)

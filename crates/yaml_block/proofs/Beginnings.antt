-- What stands behind a line changes no refusal up to it.
use Rattle.std.proofs.Common.{◌≡◌, ℕ, suc, ◌+◌, ◌≤◌, ◌<◌, Bool, true, false, ◌&&◌, ◌==◌, cond, List, [], ◌∷◌, ◌++◌, length, Option, Some, None, Result, Ok, Err, ◌⊎◌, inl, inr, refl, sym, ap, subst, ◌∙◌, append_assoc, arith}
use Rattle.std.specs.Prelude.{not}
use Rattle.proto_wire.specs.declared.module_kind.ModuleKind.{ModuleKind}
use Rattle.proto_wire.specs.declared.module_kind.ModuleKind.TheVariants.{Directive, Tab, Indent}
use Rattle.yaml_block.specs.declared.piece.Piece.{Piece}
use Rattle.yaml_block.specs.declared.piece.Head.{Head}
use Rattle.yaml_block.specs.declared.piece.Head.TheVariants as head
use Rattle.yaml_block.specs.declared.piece.Inline.TheVariants as inline
use Rattle.yaml_block.specs.declared.piece.Bound.{Bound}
use Rattle.yaml_block.specs.declared.piece.Block.{Block}
use Rattle.yaml_block.specs.declared.piece.Line.{Line}
use Rattle.yaml_block.specs.declared.piece.Line.TheVariants as a_line
use Rattle.yaml_block.specs.declared.fault.Refusal.{Refusal}
use Rattle.yaml_block.specs.declared.node.Node.{Node}
use Rattle.yaml_block.specs.Layout.{Forest, none, grown, lies_in, below, inside, outside, forest}
use Rattle.yaml_block.specs.Trees.{refusal, wrong, opened, block, block_below, goes_on, and_key, at_line, ◌orElse◌}
use Rattle.yaml_block.specs.Scalars.{is_white, is_item, is_over}
use Rattle.yaml_block.specs.Lines.{piece, pieces_on, head_on, marked_line, other_line, refused_line, has_tab, behind_mark, starts_white}
use Rattle.yaml_block.specs.Documents.{read, trees, documents, lines, onto_first, begins_with, without_mark, and_line, line_of, and_tree, Refused}
use Rattle.yaml_block.specs.Laws.{IsReadable, meaning}
use Rattle.yaml_block.proofs.Utf8.{equals, and_left, and_right}
use Rattle.yaml_block.proofs.Joining.{read_good}

-- ---- pieces behind a line

abbrev AllBehind : ℕ → List Piece → Type 0
AllBehind n [] = Unit {0}
AllBehind n (p ∷ ps) = (n < p.line) × AllBehind n ps

abbrev IsBehind : ℕ → Forest → Type 0
IsBehind n none = Unit {0}
IsBehind n (grown p u a) = (n < p.line) × IsBehind n u × IsBehind n a

inside_behind : (n : ℕ) (b : Bound) (f : Forest) → IsBehind n f → IsBehind n (inside b f)
inside_behind n b none h = tt
inside_behind n b (grown p u a) h = elim (lies_in b p) as (λ v. IsBehind n (cond v (grown p u (inside b a)) none)) [ true ↦ (h.0, h.1, inside_behind n b a h.2) | false ↦ tt ]

outside_behind : (n : ℕ) (b : Bound) (f : Forest) → IsBehind n f → IsBehind n (outside b f)
outside_behind n b none h = tt
outside_behind n b (grown p u a) h = elim (lies_in b p) as (λ v. IsBehind n (cond v (outside b a) (grown p u a))) [ true ↦ outside_behind n b a h.2 | false ↦ h ]

forest_behind : (n : ℕ) (ps : List Piece) → AllBehind n ps → IsBehind n (forest ps)
forest_behind n [] h = tt
forest_behind n (p ∷ ps) h = let k = forest_behind n ps h.1 in (h.0, inside_behind n (below p) (forest ps) k, outside_behind n (below p) (forest ps) k)

-- ---- the beginning of a layout: what the other has more stands behind line n

data Begins (n : ℕ) : Forest → Forest → Type 0 where
  ended : {g : Forest} → IsBehind n g → Begins n none g
  beside : {p : Piece} {u a c : Forest} → Begins n a c → Begins n (grown p u a) (grown p u c)
  under : {p : Piece} {u v c : Forest} → Begins n u v → IsBehind n c → Begins n (grown p u none) (grown p v c)

-- the parts of two layouts that a bound makes
abbrev Parted : ℕ → Bound → Forest → Forest → Type 0
Parted n b f g =
    ((inside b f ≡ inside b g) × Begins n (outside b f) (outside b g))
    ⊎ (Begins n (inside b f) (inside b g) × (outside b f ≡ none) × IsBehind n (outside b g))

parted_more : (n : ℕ) (b : Bound) (p : Piece) (u a c : Forest) → lies_in b p ≡ true → Parted n b a c → Parted n b (grown p u a) (grown p u c)
parted_more n b p u a c e (inl h) = rw e (inl (ap (grown p u) h.0, h.1))
parted_more n b p u a c e (inr h) = rw e (inr (beside h.0, h.1, h.2))

parted : (n : ℕ) (b : Bound) {f g : Forest} → Begins n f g → Parted n b f g
parted n b (ended {g} h) = inr (ended (inside_behind n b g h), refl, outside_behind n b g h)
parted n b (beside {p} {u} {a} {c} h) = elim (lies_in b p) as (λ v. lies_in b p ≡ v → Parted n b (grown p u a) (grown p u c)) [
  | true ↦ (λ e. parted_more n b p u a c e (parted n b h))
  | false ↦ (λ e. rw e (inl (refl, beside h)))
] refl
parted n b (under {p} {u} {v} {c} h k) = elim (lies_in b p) as (λ w. lies_in b p ≡ w → Parted n b (grown p u none) (grown p v c)) [
  | true ↦ (λ e. rw e (inr (under h (inside_behind n b c k), refl, outside_behind n b c k)))
  | false ↦ (λ e. rw e (inl (refl, under h k)))
] refl

grown_begins : (n : ℕ) (p : Piece) (f g : Forest) → Parted n (below p) f g → Begins n (grown p (inside (below p) f) (outside (below p) f)) (grown p (inside (below p) g) (outside (below p) g))
grown_begins n p f g (inl h) = rw h.0 (beside h.1)
grown_begins n p f g (inr h) = rw h.1 (under h.0 h.2)

forest_begins : (n : ℕ) (ps qs : List Piece) → AllBehind n qs → Begins n (forest ps) (forest (ps ++ qs))
forest_begins n [] qs h = ended (forest_behind n qs h)
forest_begins n (p ∷ ps) qs h = grown_begins n p (forest ps) (forest (ps ++ qs)) (parted n (below p) (forest_begins n ps qs h))

-- ---- refusals of the beginning

or_kept : {A : Type 0} (w x y : Option A) (r : A) → (x ≡ Some r → y ≡ Some r) → (w orElse x) ≡ Some r → (w orElse y) ≡ Some r
or_kept None x y r h e = h e
or_kept (Some w) x y r h e = e

or_left : {A : Type 0} (x y : Option A) (r : A) → x ≡ Some r → (x orElse y) ≡ Some r
or_left None y r e = absurd cc
or_left (Some x) y r e = e

or_nil : {A : Type 0} (x : Option A) → (x orElse None) ≡ x
or_nil None = refl
or_nil (Some x) = refl

or_none : {A : Type 0} (x y : Option A) → (x orElse y) ≡ None → (x ≡ None) × (y ≡ None)
or_none None y e = (refl, e)
or_none (Some x) y e = absurd cc

same_below : (h : Head) (u v : Forest) → opened u ≡ opened v → block_below h u ≡ block_below h v
same_below head.Item u v e = e
same_below (head.Entry _ inline.Nothing) u v e = e
same_below (head.Entry _ (inline.Scalar _)) u v e = refl
same_below (head.Entry _ (inline.Refused _)) u v e = refl
same_below (head.Scalar _) u v e = refl
same_below (head.Refused _) u v e = refl

-- a beginning is empty, or the blocks begin alike
alike : (n : ℕ) {f g : Forest} → Begins n f g → (f ≡ none) ⊎ (opened f ≡ opened g)
alike n (ended h) = inl refl
alike n (beside h) = inr refl
alike n (under h k) = inr refl

no_refusal : (level : ℕ) (home : Block) (keys : List (List ℕ)) (f : Forest) (r : Refusal) → f ≡ none → refusal level home keys f ≡ Some r → ⊥
no_refusal level home keys f r e h = let k : None ≡ Some r = sym (ap (refusal level home keys) e) ∙ h in absurd cc

under_kept : (level : ℕ) (p : Piece) (u v : Forest) (r : Refusal) → ((home : Block) → refusal (level + 1) home [] u ≡ Some r → refusal (level + 1) home [] v ≡ Some r) → (u ≡ none) ⊎ (opened u ≡ opened v)
    → refusal (level + 1) (block_below p.head u) [] u ≡ Some r → refusal (level + 1) (block_below p.head v) [] v ≡ Some r
under_kept level p u v r same (inl e) x = absurd (no_refusal (level + 1) (block_below p.head u) [] u r e x)
under_kept level p u v r same (inr e) x = ap (λ home. refusal (level + 1) home [] v) (sym (same_below p.head u v e)) ∙ same (block_below p.head u) x

kept : (n level : ℕ) (home : Block) (keys : List (List ℕ)) (r : Refusal) {f g : Forest} → Begins n f g → refusal level home keys f ≡ Some r → refusal level home keys g ≡ Some r
kept n level home keys r (ended h) e = absurd cc
kept n level home keys r (beside {p} {u} {a} {c} h) e =
    or_kept (wrong level home keys p) _ _ r (or_kept (refusal (level + 1) (block_below p.head u) [] u) _ _ r (kept n level (goes_on home p.head) (and_key keys p.head) r h)) e
kept n level home keys r (under {p} {u} {v} {c} h k) e =
    or_kept (wrong level home keys p) _ _ r
    (λ x. or_left (refusal (level + 1) (block_below p.head v) [] v) _ r (under_kept level p u v r (λ home. kept n (level + 1) home [] r h) (alike n h) (sym (or_nil (refusal (level + 1) (block_below p.head u) [] u)) ∙ x))) e

-- ---- refusals behind the beginning

or_split : {A : Type 0} (x y : Option A) (r : A) → (x orElse y) ≡ Some r → (x ≡ Some r) ⊎ (y ≡ Some r)
or_split None y r e = inr e
or_split (Some x) y r e = inl e

apart : {A : Type 0} {B : Type 0} (x : Option A) (r : A) → x ≡ None → x ≡ Some r → B
apart {A} {B} x r e h = let k : ◌≡◌ {A = Option A} None (Some r) = sym e ∙ h in absurd cc

line_at : (line : ℕ) (o : Option ModuleKind) (r : Refusal) → at_line line o ≡ Some r → line ≡ r.line
line_at line None r e = absurd cc
line_at line (Some k) r e = let h : ◌≡◌ {A = Refusal} (record { line = line; kind = k }) r = cc in ap (λ (x : Refusal). x.line) h

behind_late : (n level : ℕ) (home : Block) (keys : List (List ℕ)) (r : Refusal) (f : Forest) → IsBehind n f → refusal level home keys f ≡ Some r → n < r.line
behind_late n level home keys r none h e = absurd cc
behind_late n level home keys r (grown p u a) h e =
    elim (or_split (wrong level home keys p) _ r e) as (λ _. n < r.line) [
      | inl x ↦ subst (λ (k : ℕ). n < k) (line_at p.line _ r x) h.0
      | inr x ↦ (elim (or_split (refusal (level + 1) (block_below p.head u) [] u) _ r x) as (λ _. n < r.line) [
        | inl y ↦ behind_late n (level + 1) (block_below p.head u) [] r u h.1 y
        | inr y ↦ behind_late n level (goes_on home p.head) (and_key keys p.head) r a h.2 y
      ])
    ]

none_below : (level : ℕ) (p : Piece) (u v : Forest) → (u ≡ none) ⊎ (opened u ≡ opened v) → refusal (level + 1) (block_below p.head u) [] u ≡ None → refusal (level + 1) (block_below p.head v) [] u ≡ None
none_below level p u v (inl e) h = ap (refusal (level + 1) (block_below p.head v) []) e
none_below level p u v (inr e) h = ap (λ home. refusal (level + 1) home [] u) (sym (same_below p.head u v e)) ∙ h

late : (n level : ℕ) (home : Block) (keys : List (List ℕ)) (r : Refusal) {f g : Forest} → Begins n f g → refusal level home keys f ≡ None → refusal level home keys g ≡ Some r → n < r.line
late n level home keys r (ended {g} h) o e = behind_late n level home keys r g h e
late n level home keys r (beside {p} {u} {a} {c} h) o e =
    let w = or_none (wrong level home keys p) _ o in
    let x = or_none (refusal (level + 1) (block_below p.head u) [] u) _ w.1 in
    elim (or_split (wrong level home keys p) _ r e) as (λ _. n < r.line) [
      | inl y ↦ apart (wrong level home keys p) r w.0 y
      | inr y ↦ (elim (or_split (refusal (level + 1) (block_below p.head u) [] u) _ r y) as (λ _. n < r.line) [
        | inl z ↦ apart (refusal (level + 1) (block_below p.head u) [] u) r x.0 z
        | inr z ↦ late n level (goes_on home p.head) (and_key keys p.head) r h x.1 z
      ])
    ]
late n level home keys r (under {p} {u} {v} {c} h k) o e =
    let w = or_none (wrong level home keys p) _ o in
    let x = or_none (refusal (level + 1) (block_below p.head u) [] u) None w.1 in
    elim (or_split (wrong level home keys p) _ r e) as (λ _. n < r.line) [
      | inl y ↦ apart (wrong level home keys p) r w.0 y
      | inr y ↦ (elim (or_split (refusal (level + 1) (block_below p.head v) [] v) _ r y) as (λ _. n < r.line) [
        | inl z ↦ late n (level + 1) (block_below p.head v) [] r h (none_below level p u v (alike n h) x.0) z
        | inr z ↦ behind_late n level (goes_on home p.head) (and_key keys p.head) r c k z
      ])
    ]

-- ---- documents

abbrev DocumentsBehind : ℕ → List (List Piece) → Type 0
DocumentsBehind n [] = Unit {0}
DocumentsBehind n (d ∷ ds) = AllBehind n d × DocumentsBehind n ds

-- The last of the first documents goes on, and others follow.
data GoesOn (n : ℕ) : List (List Piece) → List (List Piece) → Type 0 where
  last : (d more : List Piece) (es : List (List Piece)) → AllBehind n more → DocumentsBehind n es → GoesOn n (d ∷ []) ((d ++ more) ∷ es)
  next : (d : List Piece) {ds es : List (List Piece)} → GoesOn n ds es → GoesOn n (d ∷ ds) (d ∷ es)

all_behind-append : (n : ℕ) (ps qs : List Piece) → AllBehind n ps → AllBehind n qs → AllBehind n (ps ++ qs)
all_behind-append n [] qs h k = k
all_behind-append n (p ∷ ps) qs h k = (h.0, all_behind-append n ps qs h.1 k)

pieces_behind : (n line column : ℕ) (bs : List ℕ) → n < line → AllBehind n (pieces_on line column bs)
pieces_behind n line column [] h = tt
pieces_behind n line column (b ∷ bs) h =
    let P : Bool → Type 0 = λ v. AllBehind n (cond v (pieces_on line (column + 1) bs) (cond (b == 35) [] (cond (is_item b bs) (piece line column head.Item ∷ pieces_on line (column + 1) bs) (piece line column (head_on b bs) ∷ [])))) in
    let Q : Bool → Type 0 = λ v. AllBehind n (cond v [] (cond (is_item b bs) (piece line column head.Item ∷ pieces_on line (column + 1) bs) (piece line column (head_on b bs) ∷ []))) in
    let R : Bool → Type 0 = λ v. AllBehind n (cond v (piece line column head.Item ∷ pieces_on line (column + 1) bs) (piece line column (head_on b bs) ∷ [])) in
    elim (is_white b) as P [
      | true ↦ pieces_behind n line (column + 1) bs h
      | false ↦ (elim (b == 35) as Q [ true ↦ tt | false ↦ (elim (is_item b bs) as R [ true ↦ (h, pieces_behind n line (column + 1) bs h) | false ↦ (h, tt) ]) ])
    ]

abbrev LineBehind : ℕ → Line → Type 0
LineBehind n a_line.Mark = Unit {0}
LineBehind n (a_line.Pieces ps) = AllBehind n ps

other_behind : (n line : ℕ) (bs : List ℕ) → n < line → LineBehind n (other_line line bs)
other_behind n line [] h = tt
other_behind n line (b ∷ bs) h =
    let tabbed = has_tab (b ∷ bs) && not (is_over (b ∷ bs)) in
    let P : Bool → Type 0 = λ v. LineBehind n (cond v (refused_line line Directive) (cond tabbed (refused_line line Tab) (a_line.Pieces (pieces_on line 0 (b ∷ bs))))) in
    let Q : Bool → Type 0 = λ v. LineBehind n (cond v (refused_line line Tab) (a_line.Pieces (pieces_on line 0 (b ∷ bs)))) in
    elim (b == 37) as P [ true ↦ (h, tt) | false ↦ (elim tabbed as Q [ true ↦ (h, tt) | false ↦ pieces_behind n line 0 (b ∷ bs) h ]) ]

marked_behind : (n line : ℕ) (o : Option (List ℕ)) (bs : List ℕ) → n < line → LineBehind n (marked_line line o bs)
marked_behind n line None bs h = other_behind n line bs h
marked_behind n line (Some rest) bs h =
    let P : Bool → Type 0 = λ v. LineBehind n (cond v a_line.Mark (cond (starts_white rest) (refused_line line Indent) (other_line line bs))) in
    let Q : Bool → Type 0 = λ v. LineBehind n (cond v (refused_line line Indent) (other_line line bs)) in
    elim (is_over rest) as P [ true ↦ tt | false ↦ (elim (starts_white rest) as Q [ true ↦ (h, tt) | false ↦ other_behind n line bs h ]) ]

line_behind : (n line : ℕ) (bs : List ℕ) → n < line → LineBehind n (line_of line bs)
unfolding line_of
line_behind n line bs h = marked_behind n line (behind_mark bs) bs h

and_line_behind : (n : ℕ) (l : Line) (ds : List (List Piece)) → LineBehind n l → DocumentsBehind n ds → DocumentsBehind n (and_line l ds)
and_line_behind n a_line.Mark ds h k = (tt, k)
and_line_behind n (a_line.Pieces ps) [] h k = (h, tt)
and_line_behind n (a_line.Pieces ps) (d ∷ ds) h k = (all_behind-append n ps d h k.0, k.1)

documents_behind : (n k : ℕ) (ls : List (List ℕ)) → n < k → DocumentsBehind n (documents k ls)
documents_behind n k [] h = (tt, tt)
documents_behind n k (l ∷ ls) h = and_line_behind n (line_of k l) (documents (k + 1) ls) (line_behind n k l h) (documents_behind n (k + 1) ls (omega arith))

only_more : (n : ℕ) (ds : List (List Piece)) → DocumentsBehind n (and_line (a_line.Pieces []) ds) → GoesOn n ([] ∷ []) (and_line (a_line.Pieces []) ds)
only_more n [] h = last [] [] [] tt tt
only_more n (d ∷ ds) h = last [] d ds h.0 h.1

starts_with_none : (ds : List (List Piece)) → (d : List Piece) (es : List (List Piece)) → ds ≡ d ∷ es → and_line (a_line.Pieces []) ds ≡ ds
starts_with_none ds d es e = ap (and_line (a_line.Pieces [])) e ∙ sym e

pub never_none : (k : ℕ) (ls : List (List ℕ)) → (d : List Piece) × (es : List (List Piece)) × (documents k ls ≡ d ∷ es)
never_none k [] = ([], [], refl)
never_none k (l ∷ ls) =
    let h = never_none (k + 1) ls in
    let P : Line → Type 0 = λ x. (d : List Piece) × (es : List (List Piece)) × (and_line x (documents (k + 1) ls) ≡ d ∷ es) in
    elim (line_of k l) as P [ a_line.Mark ↦ ([], documents (k + 1) ls, refl) | a_line.Pieces ps ↦ (ps ++ h.0, h.1, ap (and_line (a_line.Pieces ps)) h.2) ]

goes_on_line : (n : ℕ) (l : Line) {ds es : List (List Piece)} → GoesOn n ds es → GoesOn n (and_line l ds) (and_line l es)
goes_on_line n a_line.Mark g = next [] g
goes_on_line n (a_line.Pieces ps) (last d more es h k) = let e : (ps ++ d) ++ more ≡ ps ++ (d ++ more) = simp append_assoc in subst (λ (x : List Piece). GoesOn n ((ps ++ d) ∷ []) (x ∷ es)) e (last (ps ++ d) more es h k)
goes_on_line n (a_line.Pieces ps) (next d g) = next (ps ++ d) g

documents_go_on : (n k : ℕ) (ls ms : List (List ℕ)) → n < k + length ls → GoesOn n (documents k ls) (documents k (ls ++ ms))
documents_go_on n k [] ms h =
    let x = never_none k ms in
    let e : and_line (a_line.Pieces []) (documents k ms) ≡ documents k ms = starts_with_none (documents k ms) x.0 x.1 x.2 in
    subst (λ (y : List (List Piece)). GoesOn n ([] ∷ []) y) e (only_more n (documents k ms) (subst (DocumentsBehind n) (sym e) (documents_behind n k ms (omega arith))))
documents_go_on n k (l ∷ ls) ms h = goes_on_line n (line_of k l) (documents_go_on n (k + 1) ls ms (omega arith))

-- ---- their refusals

abbrev doc_refusal : List Piece → Option Refusal
doc_refusal ps = refusal 1 (opened (forest ps)) [] (forest ps)

and_tree_kept : (k : ℕ) (o : Option Refusal) (n m : Node) (x y : Result (List Node) Refused) (r : Refused) → (x ≡ Err r → y ≡ Err r) → and_tree k o n x ≡ Err r → and_tree k o m y ≡ Err r
and_tree_kept k (Some s) n m x y r h e = e
and_tree_kept k None n m (Ok xs) y r h e = absurd cc
and_tree_kept k None n m (Err s) y r h e = ap (and_tree k None m) (h e)

and_tree_err : (k : ℕ) (o : Option Refusal) (n : Node) (x : Result (List Node) Refused) (d : ℕ) (r : Refusal) → and_tree k o n x ≡ Err (d, r) → (o ≡ Some r) ⊎ ((o ≡ None) × (x ≡ Err (d, r)))
and_tree_err k (Some s) n x d r e =
    let h : ◌≡◌ {A = ℕ × Refusal} (k, s) (d, r) = cc in inl (ap (λ (y : ℕ × Refusal). Some y.1) h)
and_tree_err k None n (Ok xs) d r e = absurd cc
and_tree_err k None n (Err s) d r e = inr (refl, e)

no_err : {A B : Type 0} (a : A) (r : B) → ◌≡◌ {A = Result A B} (Ok a) (Err r) → ⊥
no_err a r e = cc

documents_late : (n k : ℕ) (ds : List (List Piece)) (d : ℕ) (r : Refusal) → DocumentsBehind n ds → trees k ds ≡ Err (d, r) → n < r.line
documents_late n k [] d r h e = absurd cc
documents_late n k ([] ∷ ds) d r h e = documents_late n k ds d r h.1 e
documents_late n k ((p ∷ ps) ∷ ds) d r h e =
    elim (and_tree_err k (doc_refusal (p ∷ ps)) (block 0 (forest (p ∷ ps))) (trees (k + 1) ds) d r e) as (λ _. n < r.line) [
      | inl x ↦ behind_late n 1 (opened (forest (p ∷ ps))) [] r (forest (p ∷ ps)) (forest_behind n (p ∷ ps) h.0) x
      | inr x ↦ documents_late n (k + 1) ds d r h.1 x.1
    ]

err_one : (k : ℕ) (o : Option Refusal) (n : Node) (s : Refused) → and_tree k o n (Ok []) ≡ Err s → (r : Refusal) × (o ≡ Some r) × (s ≡ (k, r))
err_one k (Some r) n s e = let h : ◌≡◌ {A = ℕ × Refusal} (k, r) s = cc in (r, refl, sym h)
err_one k None n s e = absurd cc

kept_documents : (n k : ℕ) (s : Refused) {ds es : List (List Piece)} → GoesOn n ds es → trees k ds ≡ Err s → trees k es ≡ Err s
kept_documents n k s (last [] more es h q) e = absurd cc
kept_documents n k s (last (p ∷ ps) more es h q) e =
    let x = err_one k (doc_refusal (p ∷ ps)) (block 0 (forest (p ∷ ps))) s e in
    let y = kept n 1 (opened (forest (p ∷ ps))) [] x.0 (forest_begins n (p ∷ ps) more h) x.1 in
    ap (λ o. and_tree k o (block 0 (forest (p ∷ (ps ++ more)))) (trees (k + 1) es)) y ∙ ap Err (sym x.2)
kept_documents n k s (next [] g) e = kept_documents n k s g e
kept_documents n k s (next (p ∷ ps) {ds} {es} g) e =
    and_tree_kept k (doc_refusal (p ∷ ps)) (block 0 (forest (p ∷ ps))) (block 0 (forest (p ∷ ps))) (trees (k + 1) ds) (trees (k + 1) es) s (kept_documents n (k + 1) s g) e

ok_none : (k : ℕ) (o : Option Refusal) (n : Node) (x : Result (List Node) Refused) (ns : List Node) → and_tree k o n x ≡ Ok ns → (o ≡ None) × (ms : List Node) × (x ≡ Ok ms)
ok_none k (Some r) n x ns e = absurd cc
ok_none k None n (Ok ms) ns e = (refl, ms, refl)
ok_none k None n (Err r) ns e = absurd cc

late_documents : (n k : ℕ) (ns : List Node) (d : ℕ) (r : Refusal) {ds es : List (List Piece)} → GoesOn n ds es → trees k ds ≡ Ok ns → trees k es ≡ Err (d, r) → n < r.line
late_documents n k ns d r (last [] more es h q) o e = documents_late n k (more ∷ es) d r (h, q) e
late_documents n k ns d r (last (p ∷ ps) more es h q) o e =
    elim (and_tree_err k (doc_refusal (p ∷ (ps ++ more))) (block 0 (forest (p ∷ (ps ++ more)))) (trees (k + 1) es) d r e) as (λ _. n < r.line) [
      | inl x ↦ late n 1 (opened (forest (p ∷ ps))) [] r (forest_begins n (p ∷ ps) more h) (ok_none k (doc_refusal (p ∷ ps)) (block 0 (forest (p ∷ ps))) (Ok []) ns o).0 x
      | inr x ↦ documents_late n (k + 1) es d r q x.1
    ]
late_documents n k ns d r (next [] g) o e = late_documents n k ns d r g o e
late_documents n k ns d r (next (p ∷ ps) {ds} {es} g) o e =
    let x = ok_none k (doc_refusal (p ∷ ps)) (block 0 (forest (p ∷ ps))) (trees (k + 1) ds) ns o in
    elim (and_tree_err k (doc_refusal (p ∷ ps)) (block 0 (forest (p ∷ ps))) (trees (k + 1) es) d r e) as (λ _. n < r.line) [
      | inl y ↦ apart (doc_refusal (p ∷ ps)) r x.0 y
      | inr y ↦ late_documents n (k + 1) x.1 d r g x.2 y.1
    ]

-- ---- lines

alone : (front back : List (List ℕ)) (d : ℕ) (r : Refusal) → meaning (front ++ back) ≡ Err (d, r) → r.line ≤ length front → meaning front ≡ Err (d, r)
alone front back d r e h =
    let g = documents_go_on (length front) 1 front back (omega arith) in
    let P : Result (List Node) Refused → Type 0 = λ w. trees 1 (documents 1 front) ≡ w → w ≡ Err (d, r) in
    elim (trees 1 (documents 1 front)) as P [
      | Ok ns ↦ (λ o. let l = late_documents (length front) 1 ns d r g o e in absurd (omega arith))
      | Err s ↦ (λ o. let x : ◌≡◌ {A = Result (List Node) Refused} (Err s) (Err (d, r)) = sym (kept_documents (length front) 1 s g o) ∙ e in x)
    ] refl

pub same_refusal : (front back other : List (List ℕ)) (d : ℕ) (r : Refusal) → meaning (front ++ back) ≡ Err (d, r) → r.line ≤ length front → meaning (front ++ other) ≡ Err (d, r)
same_refusal front back other d r e h = kept_documents (length front) 1 (d, r) (documents_go_on (length front) 1 front other (omega arith)) (alone front back d r e h)

-- ---- texts

-- the lines that end in a text with a line feed behind it, whatever follows
abbrev Ended : List ℕ → Type 0
Ended front = (ls : List (List ℕ)) × (length ls ≡ length (lines front)) × ((back : List ℕ) → lines (front ++ 10 ∷ back) ≡ ls ++ lines back)

onto_length : (b : ℕ) (ls : List (List ℕ)) → 0 < length ls → length (onto_first b ls) ≡ length ls
onto_length b [] h = absurd (omega arith)
onto_length b (l ∷ ls) h = refl

onto_some : (b : ℕ) (ls : List (List ℕ)) → 0 < length (onto_first b ls)
onto_some b [] = omega arith
onto_some b (l ∷ ls) = omega arith

some_line : (s : List ℕ) → 0 < length (lines s)
some_line [] = omega arith
some_line (b ∷ bs) =
    let P : Bool → Type 0 = λ v. 0 < length (cond v ([] ∷ lines bs) (cond (b == 13 && begins_with 10 bs) (lines bs) (onto_first b (lines bs)))) in
    let Q : Bool → Type 0 = λ v. 0 < length (cond v (lines bs) (onto_first b (lines bs))) in
    elim (b == 10) as P [ true ↦ omega arith | false ↦ (elim (b == 13 && begins_with 10 bs) as Q [ true ↦ some_line bs | false ↦ onto_some b (lines bs) ]) ]

-- a byte that is no line feed makes no line
same_length : (b : ℕ) (bs : List ℕ) → (b == 10) ≡ false → length (lines (b ∷ bs)) ≡ length (lines bs)
same_length b bs e =
    let Q : Bool → Type 0 = λ v. length (cond v (lines bs) (onto_first b (lines bs))) ≡ length (lines bs) in
    rw e (elim (b == 13 && begins_with 10 bs) as Q [ true ↦ refl | false ↦ onto_length b (lines bs) (some_line bs) ])

begins-append : (bs xs ys : List ℕ) → begins_with 10 (bs ++ 10 ∷ xs) ≡ begins_with 10 (bs ++ 10 ∷ ys)
begins-append [] xs ys = refl
begins-append (c ∷ cs) xs ys = refl

onto : (b : ℕ) (ls ms : List (List ℕ)) → 0 < length ls → onto_first b (ls ++ ms) ≡ onto_first b ls ++ ms
onto b [] ms h = absurd (omega arith)
onto b (l ∷ ls) ms h = refl

ended_lines : (front : List ℕ) → Ended front
ended_lines [] = ([] ∷ [], refl, λ back. refl)
ended_lines (b ∷ bs) =
    let h = ended_lines bs in
    let positive : 0 < length h.0 = omega (arith, h.1, some_line bs) in
    let return = b == 13 && begins_with 10 (bs ++ 10 ∷ []) in
    let same : (back : List ℕ) → (b == 13 && begins_with 10 (bs ++ 10 ∷ back)) ≡ return = λ back. ap (λ v. b == 13 && v) (begins-append bs back []) in
    let P : Bool → Type 0 = λ v. (b == 10) ≡ v → (ls : List (List ℕ)) × (length ls ≡ length (lines (b ∷ bs)))
    × ((back : List ℕ) → cond v ([] ∷ lines (bs ++ 10 ∷ back)) (cond (b == 13 && begins_with 10 (bs ++ 10 ∷ back)) (lines (bs ++ 10 ∷ back)) (onto_first b (lines (bs ++ 10 ∷ back)))) ≡ ls ++ lines back) in
    let Q : Bool → Type 0 = λ v. return ≡ v → (b == 10) ≡ false → (ls : List (List ℕ)) × (length ls ≡ length (lines (b ∷ bs)))
    × ((back : List ℕ) → cond (b == 13 && begins_with 10 (bs ++ 10 ∷ back)) (lines (bs ++ 10 ∷ back)) (onto_first b (lines (bs ++ 10 ∷ back))) ≡ ls ++ lines back) in
    elim (b == 10) as P [
      | true ↦ (λ e. ([] ∷ h.0, ap suc h.1 ∙ sym (ap (λ v. length (cond v ([] ∷ lines bs) (cond (b == 13 && begins_with 10 bs) (lines bs) (onto_first b (lines bs))))) e), λ back. ap (λ (ls : List (List ℕ)). [] ∷ ls) (h.2 back)))
      | false ↦ (λ e. elim return as Q [
        | true ↦ (λ r e. (h.0, h.1 ∙ sym (same_length b bs e), λ back. ap (λ v. cond v (lines (bs ++ 10 ∷ back)) (onto_first b (lines (bs ++ 10 ∷ back)))) (same back ∙ r) ∙ h.2 back))
        | false ↦ (λ r e. (
          onto_first b h.0,
          onto_length b h.0 positive ∙ h.1 ∙ sym (same_length b bs e),
          λ back.
              ap (λ v. cond v (lines (bs ++ 10 ∷ back)) (onto_first b (lines (bs ++ 10 ∷ back)))) (same back ∙ r) ∙ ap (onto_first b) (h.2 back) ∙ onto b h.0 (lines back) positive,
        ))
      ] refl e)
    ] refl

no_mark_ten : (back : List ℕ) → without_mark (10 ∷ back) ≡ 10 ∷ back
no_mark_ten [] = refl
no_mark_ten (b ∷ []) = refl
no_mark_ten (b ∷ c ∷ rest) = refl

no_mark_second : (a : ℕ) (back : List ℕ) → without_mark (a ∷ 10 ∷ back) ≡ a ∷ 10 ∷ back
no_mark_second a [] = refl
no_mark_second a (c ∷ rest) = elim (a == 239) as (λ v. cond (v && (false && c == 191)) rest (a ∷ 10 ∷ c ∷ rest) ≡ a ∷ 10 ∷ c ∷ rest) [ true ↦ refl | false ↦ refl ]

mark_no_line : (a b c : ℕ) (rest : List ℕ) → (a == 239 && (b == 187 && c == 191)) ≡ true → length (lines rest) ≡ length (lines (a ∷ b ∷ c ∷ rest))
mark_no_line a b c rest e =
    let two = and_right (a == 239) (b == 187 && c == 191) e in
    let x : (a == 10) ≡ false = rw (equals a 239 (and_left (a == 239) _ e)) refl in
    let y : (b == 10) ≡ false = rw (equals b 187 (and_left (b == 187) _ two)) refl in
    let z : (c == 10) ≡ false = rw (equals c 191 (and_right (b == 187) (c == 191) two)) refl in
    sym (same_length a (b ∷ c ∷ rest) x ∙ same_length b (c ∷ rest) y ∙ same_length c rest z)

-- a mark stands before the first line feed
mark_first : (front back : List ℕ) → without_mark (front ++ 10 ∷ back) ≡ without_mark front ++ 10 ∷ back
mark_first [] back = no_mark_ten back
mark_first (a ∷ []) back = no_mark_second a back
mark_first (a ∷ b ∷ []) back = elim (a == 239) as (λ v. cond (v && (b == 187 && false)) back (a ∷ b ∷ 10 ∷ back) ≡ a ∷ b ∷ 10 ∷ back) [
  | true ↦ (elim (b == 187) as (λ v. cond (v && false) back (a ∷ b ∷ 10 ∷ back) ≡ a ∷ b ∷ 10 ∷ back) [ true ↦ refl | false ↦ refl ])
  | false ↦ refl
]
mark_first (a ∷ b ∷ c ∷ rest) back = elim (a == 239 && (b == 187 && c == 191)) as (λ v. cond v (rest ++ 10 ∷ back) (a ∷ b ∷ c ∷ (rest ++ 10 ∷ back)) ≡ cond v rest (a ∷ b ∷ c ∷ rest) ++ 10 ∷ back) [ true ↦ refl | false ↦ refl ]

mark_lines : (front : List ℕ) → length (lines (without_mark front)) ≡ length (lines front)
mark_lines [] = refl
mark_lines (a ∷ []) = refl
mark_lines (a ∷ b ∷ []) = refl
mark_lines (a ∷ b ∷ c ∷ rest) =
    let P : Bool → Type 0 = λ v. (a == 239 && (b == 187 && c == 191)) ≡ v → length (lines (cond v rest (a ∷ b ∷ c ∷ rest))) ≡ length (lines (a ∷ b ∷ c ∷ rest)) in
    elim (a == 239 && (b == 187 && c == 191)) as P [ true ↦ (λ e. mark_no_line a b c rest e) | false ↦ (λ e. refl) ] refl

pub same_refusal_in_text : (front back other : List ℕ) (d : ℕ) (r : Refusal) → IsReadable (front ++ 10 ∷ back) → IsReadable (front ++ 10 ∷ other) → read (front ++ 10 ∷ back) ≡ Err (d, r) → r.line ≤ length (lines front)
    → read (front ++ 10 ∷ other) ≡ Err (d, r)
same_refusal_in_text front back other d r h k e l =
    let s = ended_lines (without_mark front) in
    let lined : (x : List ℕ) → lines (without_mark (front ++ 10 ∷ x)) ≡ s.0 ++ lines x = λ x. ap lines (mark_first front x) ∙ s.2 x in
    let x : meaning (s.0 ++ lines back) ≡ Err (d, r) = ap meaning (sym (lined back)) ∙ sym (read_good (front ++ 10 ∷ back) h.0 h.1) ∙ e in
    read_good (front ++ 10 ∷ other) k.0 k.1 ∙ ap meaning (lined other) ∙ same_refusal s.0 (lines back) (lines other) d r x (omega (arith, s.1, mark_lines front))

-- Where nodes and pieces stand.
use Rattle.std.proofs.Common.{◌≡◌, ℕ, zero, suc, get_or, ◌+◌, ◌-◌, ◌≤◌, ◌<◌, Bool, true, false, ◌&&◌, ◌==◌, cond, List, [], ◌∷◌, ◌++◌, length, drop, Option, Some, None, inl, inr, refl, sym, ap, subst, ◌∙◌, arith}
use Rattle.std.proofs.lemmas.List.{drop_more, length-drop}
use Rattle.std.specs.Prelude.{not, slice_get, slice_index_or, Contains}
use Rattle.proto_wire.specs.declared.module_kind.ModuleKind.TheVariants.{Directive, Tab, Indent}
use Rattle.yaml_block.specs.declared.piece.Piece.{Piece}
use Rattle.yaml_block.specs.declared.piece.Head.{Head}
use Rattle.yaml_block.specs.declared.piece.Head.TheVariants as head
use Rattle.yaml_block.specs.declared.piece.Line.{Line}
use Rattle.yaml_block.specs.declared.piece.Line.TheVariants as a_line
use Rattle.yaml_block.specs.declared.node.Node.{Node}
use Rattle.yaml_block.specs.declared.node.Pair.{Pair}
use Rattle.proto_wire.specs.declared.module_kind.ModuleKind.{ModuleKind}
use Rattle.yaml_block.specs.Scalars.{is_white, is_item, is_over}
use Rattle.yaml_block.specs.Lines.{piece, pieces_on, head_on, marked_line, other_line, refused_line, has_tab, behind_mark, starts_white}
use Rattle.yaml_block.specs.Layout.{Forest, none, grown}
use Rattle.yaml_block.specs.Trees.{block, by_head, items, pairs, unreadable}
use Rattle.yaml_block.specs.Documents.{lines, documents, and_line, line_of}
use Rattle.yaml_block.specs.Laws.{BeginsOn, StandsIn, line_of_node}

head_line : (line column : ℕ) (h : Head) (under : Node) (is : List Node) (ps : List Pair) → unreadable h ≡ None → line_of_node (by_head line h under is ps) ≡ line
head_line line column head.Item under is ps r = refl
head_line line column (head.Entry _ _) under is ps r = refl
head_line line column (head.Scalar _) under is ps r = refl
head_line line column (head.Refused _) under is ps r = absurd cc

pub block_line : (line : ℕ) (p : Piece) (u a : Forest) → unreadable p.head ≡ None → line_of_node (block line (grown p u a)) ≡ p.line
block_line line p u a r = head_line p.line p.column p.head (block p.line u) (items a) (pairs a) r

pub empty_line : (line : ℕ) → line_of_node (block line none) ≡ line
empty_line line = refl

-- ---- each piece of a line begins there

-- the pieces all are of this line
abbrev AllOn : ℕ → List ℕ → List Piece → Type 0
AllOn k line [] = Unit {0}
AllOn k line (p ∷ ps) = (p.line ≡ k) × (unreadable p.head ≡ None → BeginsOn line p) × AllOn k line ps

next_byte : (line : List ℕ) (column b : ℕ) (bs : List ℕ) → drop column line ≡ b ∷ bs → drop (column + 1) line ≡ bs
next_byte line column b bs e =
    let long : length (drop column line) ≡ length line - column = length-drop column line in
    let within : column < length line = omega (arith, long, ap length e) in
    let f : get_or line column 0 ∷ drop (column + 1) line ≡ b ∷ bs = sym (drop_more line column 0 within) ∙ e in
    cc

all_on : (k column : ℕ) (line bs : List ℕ) → drop column line ≡ bs → AllOn k line (pieces_on k column bs)
all_on k column line [] e = tt
all_on k column line (b ∷ bs) e =
    let more = all_on k (column + 1) line bs (next_byte line column b bs e) in
    let R : Bool → Type 0 = λ v. is_item b bs ≡ v → AllOn k line (cond v (piece k column head.Item ∷ pieces_on k (column + 1) bs) (piece k column (head_on b bs) ∷ [])) in
    let Q : Bool → Type 0 = λ v. AllOn k line (cond v [] (cond (is_item b bs) (piece k column head.Item ∷ pieces_on k (column + 1) bs) (piece k column (head_on b bs) ∷ []))) in
    let P : Bool → Type 0 = λ v. AllOn k line (cond v (pieces_on k (column + 1) bs) (cond (b == 35) [] (cond (is_item b bs) (piece k column head.Item ∷ pieces_on k (column + 1) bs) (piece k column (head_on b bs) ∷ [])))) in
    elim (is_white b) as P [
      | true ↦ more
      | false ↦ (elim (b == 35) as Q [
        | true ↦ tt
        | false ↦ (elim (is_item b bs) as R [
          | true ↦ (λ i. (refl, (λ _. (b, bs, e, inl (refl, i))), more))
          | false ↦ (λ i. (refl, (λ _. (b, bs, e, inr refl)), tt))
        ] refl)
      ])
    ]

abbrev LineOn : ℕ → List ℕ → Line → Type 0
LineOn k line a_line.Mark = Unit {0}
LineOn k line (a_line.Pieces ps) = AllOn k line ps

-- a line that is refused has one piece, and that is not readable
refused_on : (k : ℕ) (line : List ℕ) (kind : ModuleKind) → LineOn k line (refused_line k kind)
refused_on k line kind = (refl, (λ e. absurd cc), tt)

other_on : (k : ℕ) (line : List ℕ) → LineOn k line (other_line k line)
other_on k [] = tt
other_on k (b ∷ bs) =
    let tabbed = has_tab (b ∷ bs) && not (is_over (b ∷ bs)) in
    let Q : Bool → Type 0 = λ v. LineOn k (b ∷ bs) (cond v (refused_line k Tab) (a_line.Pieces (pieces_on k 0 (b ∷ bs)))) in
    let P : Bool → Type 0 = λ v. LineOn k (b ∷ bs) (cond v (refused_line k Directive) (cond tabbed (refused_line k Tab) (a_line.Pieces (pieces_on k 0 (b ∷ bs))))) in
    elim (b == 37) as P [ true ↦ refused_on k (b ∷ bs) Directive | false ↦ (elim tabbed as Q [ true ↦ refused_on k (b ∷ bs) Tab | false ↦ all_on k 0 (b ∷ bs) (b ∷ bs) refl ]) ]

marked_on : (k : ℕ) (o : Option (List ℕ)) (line : List ℕ) → LineOn k line (marked_line k o line)
marked_on k None line = other_on k line
marked_on k (Some rest) line =
    let Q : Bool → Type 0 = λ v. LineOn k line (cond v (refused_line k Indent) (other_line k line)) in
    let P : Bool → Type 0 = λ v. LineOn k line (cond v a_line.Mark (cond (starts_white rest) (refused_line k Indent) (other_line k line))) in
    elim (is_over rest) as P [ true ↦ tt | false ↦ (elim (starts_white rest) as Q [ true ↦ refused_on k line Indent | false ↦ other_on k line ]) ]

line_on_it : (k : ℕ) (line : List ℕ) → LineOn k line (line_of k line)
unfolding line_of
line_on_it k line = marked_on k (behind_mark line) line

-- ---- each piece of a document

-- numbered from k on
abbrev StandsFrom : ℕ → List (List ℕ) → Piece → Type 0
StandsFrom k ls p = (line : List ℕ) × (k ≤ p.line) × (slice_get ls (p.line - k) ≡ Some line) × (unreadable p.head ≡ None → BeginsOn line p)

abbrev AllStand : ℕ → List (List ℕ) → List Piece → Type 0
AllStand k ls [] = Unit {0}
AllStand k ls (p ∷ ps) = StandsFrom k ls p × AllStand k ls ps

abbrev DocumentsStand : ℕ → List (List ℕ) → List (List Piece) → Type 0
DocumentsStand k ls [] = Unit {0}
DocumentsStand k ls (d ∷ ds) = AllStand k ls d × DocumentsStand k ls ds

later : (k : ℕ) (l : List ℕ) (ls : List (List ℕ)) (p : Piece) → StandsFrom (k + 1) ls p → StandsFrom k (l ∷ ls) p
later k l ls p h =
    let m : p.line - k ≡ suc (p.line - (k + 1)) = omega (arith, h.1) in
    (h.0, omega (arith, h.1), ap (slice_get (l ∷ ls)) m ∙ h.2, h.3)

all_later : (k : ℕ) (l : List ℕ) (ls : List (List ℕ)) (ps : List Piece) → AllStand (k + 1) ls ps → AllStand k (l ∷ ls) ps
all_later k l ls [] h = tt
all_later k l ls (p ∷ ps) h = (later k l ls p h.0, all_later k l ls ps h.1)

documents_later : (k : ℕ) (l : List ℕ) (ls : List (List ℕ)) (ds : List (List Piece)) → DocumentsStand (k + 1) ls ds → DocumentsStand k (l ∷ ls) ds
documents_later k l ls [] h = tt
documents_later k l ls (d ∷ ds) h = (all_later k l ls d h.0, documents_later k l ls ds h.1)

here : (k : ℕ) (l : List ℕ) (ls : List (List ℕ)) (ps : List Piece) → AllOn k l ps → AllStand k (l ∷ ls) ps
here k l ls [] h = tt
here k l ls (p ∷ ps) h =
    let m : p.line - k ≡ 0 = omega (arith, h.0) in
    ((l, omega (arith, h.0), ap (slice_get (l ∷ ls)) m, h.1), here k l ls ps h.2)

all_stand-append : (k : ℕ) (ls : List (List ℕ)) (ps qs : List Piece) → AllStand k ls ps → AllStand k ls qs → AllStand k ls (ps ++ qs)
all_stand-append k ls [] qs h j = j
all_stand-append k ls (p ∷ ps) qs h j = (h.0, all_stand-append k ls ps qs h.1 j)

and_line_stands : (k : ℕ) (l : List ℕ) (ls : List (List ℕ)) (x : Line) (ds : List (List Piece)) → LineOn k l x → DocumentsStand k (l ∷ ls) ds → DocumentsStand k (l ∷ ls) (and_line x ds)
and_line_stands k l ls a_line.Mark ds h j = (tt, j)
and_line_stands k l ls (a_line.Pieces ps) [] h j = (here k l ls ps h, tt)
and_line_stands k l ls (a_line.Pieces ps) (d ∷ ds) h j = (all_stand-append k (l ∷ ls) ps d (here k l ls ps h) j.0, j.1)

documents_stand : (k : ℕ) (ls : List (List ℕ)) → DocumentsStand k ls (documents k ls)
documents_stand k [] = (tt, tt)
documents_stand k (l ∷ ls) = and_line_stands k l ls (line_of k l) (documents (k + 1) ls) (line_on_it k l) (documents_later k l ls (documents (k + 1) ls) (documents_stand (k + 1) ls))

all_stand-contains : (k : ℕ) (ls : List (List ℕ)) (ps : List Piece) (p : Piece) (i : ℕ) → AllStand k ls ps → i < length ps → slice_index_or ps i p ≡ p → StandsFrom k ls p
all_stand-contains k ls [] p i h l e = absurd (omega arith)
all_stand-contains k ls (q ∷ qs) p zero h l e = subst (StandsFrom k ls) e h.0
all_stand-contains k ls (q ∷ qs) p (suc i) h l e = all_stand-contains k ls qs p i h.1 (omega arith) e

documents-contains : (k : ℕ) (ls : List (List ℕ)) (ds : List (List Piece)) (d : List Piece) (i : ℕ) → DocumentsStand k ls ds → i < length ds → slice_index_or ds i d ≡ d → AllStand k ls d
documents-contains k ls [] d i h l e = absurd (omega arith)
documents-contains k ls (c ∷ cs) d zero h l e = subst (AllStand k ls) e h.0
documents-contains k ls (c ∷ cs) d (suc i) h l e = documents-contains k ls cs d i h.1 (omega arith) e

pub pieces_stand : (text : List ℕ) (d : List Piece) (p : Piece) → Contains (documents 1 (lines text)) d → Contains d p → StandsIn (lines text) p
pieces_stand text d p h j =
    let ls = lines text in
    all_stand-contains 1 ls d p j.0 (documents-contains 1 ls (documents 1 ls) d h.0 (documents_stand 1 ls) h.1 h.2) j.1 j.2

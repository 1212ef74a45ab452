-- Documents, one after the other.
use Rattle.std.proofs.Common.{◌≡◌, ℕ, ◌+◌, ◌≤◌, ◌<◌, Bool, true, false, ◌==◌, cond, List, [], ◌∷◌, ◌++◌, length, Option, Some, None, Result, Ok, Err, refl, sym, ap, ◌∙◌, append_assoc, arith}
use Rattle.std.proofs.lemmas.Bool.Decides.{nat_tests}
use Rattle.std.proofs.lemmas.List.{append-nil, length-append}
use Rattle.std.specs.Prelude.{nat_lt}
use Rattle.std.specs.Str.{IsUtf8, is_utf8}
use Rattle.std.proofs.lemmas.Str.{IsUtf8-from_is_utf8, is_utf8-from_IsUtf8}
use Rattle.proto_wire.specs.declared.module_kind.ModuleKind.TheVariants.{TooLong, NotUtf8}
use Rattle.yaml_block.specs.declared.piece.Piece.{Piece}
use Rattle.yaml_block.specs.declared.piece.Bound.{Bound}
use Rattle.yaml_block.specs.declared.piece.Line.TheVariants as a_line
use Rattle.yaml_block.specs.declared.fault.Refusal.{Refusal}
use Rattle.yaml_block.specs.declared.fault.YamlFault.{YamlFault}
use Rattle.yaml_block.specs.declared.fault.YamlFault.TheVariants as fault
use Rattle.yaml_block.specs.declared.node.Node.{Node}
use Rattle.yaml_block.specs.Layout.{Forest, none, grown, lies_in, inside, forest}
use Rattle.yaml_block.specs.Trees.{refusal, opened, block}
use Rattle.yaml_block.specs.Documents.{lines, and_line, trees, and_tree, documents, without_mark, bad_line, read, Refused, IsToldBy}
use Rattle.yaml_block.specs.Steps.{unless, rest, trees_in, read_as, read_block, document_tree, added, closed, after_nodes, trees_on}
use Rattle.yaml_block.proofs.Reading.{◌andThen◌}

-- ---- the tree of a document

everything : Bound
everything = record { least = 0; below_key = false }

all_in : (f : Forest) → inside (record { least = 0; below_key = false }) f ≡ f
all_in none = refl
all_in (grown p under after) =
    let there : lies_in (record { least = 0; below_key = false }) p ≡ true = grind (arith, nat_tests) in
    ap (λ v. cond v (grown p under (inside (record { least = 0; below_key = false }) after)) none) there ∙ ap (grown p under) (all_in after)

first_part : {A B : Type 0} (o : Option Refusal) (a : A) (b : B) → unless o a ≡ (let r : Result (A × B) Refusal = unless o (a, b) in r andThen (λ x. Ok x.0))
first_part None a b = refl
first_part (Some r) a b = refl

pub whole_document : (ps : List Piece) → document_tree (forest ps) ≡ (read_block 1 0 (record { least = 0; below_key = false }) ps andThen (λ x. Ok x.0))
unfolding document_tree read_block read_as trees_in
whole_document ps = rw (all_in (forest ps)) (first_part (refusal 1 (opened (forest ps)) [] (forest ps)) (block 0 (forest ps)) (rest (record { least = 0; below_key = false }) ps))

-- ---- a document that ends

added_tree : (k : ℕ) (nodes : List Node) (o : Option Refusal) (n m : Node) → unless o n ≡ Ok m → added k nodes o n ≡ Ok (nodes ++ m ∷ [])
added_tree k nodes None n m e = let same : n ≡ m = cc in ap (λ (x : Node). Ok (nodes ++ x ∷ [])) same
added_tree k nodes (Some r) n m e = absurd cc

added_refusal : (k : ℕ) (nodes : List Node) (o : Option Refusal) (n : Node) (r : Refusal) → unless o n ≡ Err r → added k nodes o n ≡ Err (k, r)
added_refusal k nodes None n r e = absurd cc
added_refusal k nodes (Some s) n r e = let same : s ≡ r = cc in ap (λ (x : Refusal). Err (k, x)) same

pub closed_tree : (nodes : List Node) (ps : List Piece) (m : Node) → 0 < length ps → document_tree (forest ps) ≡ Ok m → closed nodes ps ≡ Ok (nodes ++ m ∷ [])
unfolding document_tree
closed_tree nodes [] m h e = absurd (omega arith)
closed_tree nodes (p ∷ ps) m h e = added_tree _ nodes _ _ m e

pub closed_refusal : (nodes : List Node) (ps : List Piece) (r : Refusal) → 0 < length ps → document_tree (forest ps) ≡ Err r → closed nodes ps ≡ Err (length nodes + 1, r)
unfolding document_tree
closed_refusal nodes [] r h e = absurd (omega arith)
closed_refusal nodes (p ∷ ps) r h e = added_refusal _ nodes _ _ r e

pub some_pieces : (n : ℕ) (r : Bool) → r ≡ (n == 0) → r ≡ false → 0 < n
some_pieces n r e f = grind (arith, nat_tests)

-- ---- a line more

no_pieces : (k : ℕ) (ds : List (List Piece)) → trees k (and_line (a_line.Pieces []) ds) ≡ trees k ds
no_pieces k [] = refl
no_pieces k (d ∷ ds) = refl

tree_first : (nodes new : List Node) (o : Option Refusal) (n : Node) (ds : List (List Piece)) → added (length nodes + 1) nodes o n ≡ Ok new
    → after_nodes new (trees (length new + 1) ds) ≡ after_nodes nodes (and_tree (length nodes + 1) o n (trees (length nodes + 1 + 1) ds))
tree_first nodes new (Some r) n ds h = absurd cc
tree_first nodes new None n ds h =
    let is : nodes ++ n ∷ [] ≡ new = cc in
    let long : length new + 1 ≡ length nodes + 1 + 1 = omega (arith, ap length is, length-append nodes (n ∷ [])) in
    let P : Result (List Node) Refused → Type 0 = λ w. after_nodes (nodes ++ n ∷ []) w ≡ after_nodes nodes (and_tree (length nodes + 1) None n w) in
    ap (λ (k : ℕ). after_nodes new (trees k ds)) long ∙ ap (λ (xs : List Node). after_nodes xs (trees (length nodes + 1 + 1) ds)) (sym is)
    ∙ elim (trees (length nodes + 1 + 1) ds) as P [ Ok more ↦ ap Ok (simp append_assoc) | Err r ↦ refl ]

refusal_first : (k : ℕ) (nodes : List Node) (o : Option Refusal) (n : Node) (others : Result (List Node) Refused) (r : Refused) → added k nodes o n ≡ Err r → after_nodes nodes (and_tree k o n others) ≡ Err r
refusal_first k nodes None n others r h = absurd cc
refusal_first k nodes (Some s) n others r h = h

-- a mark
pub mark_tree : (nodes new : List Node) (ps : List Piece) (ds : List (List Piece)) → closed nodes ps ≡ Ok new → trees_on new [] ds ≡ trees_on nodes ps ([] ∷ ds)
mark_tree nodes new [] ds h =
    let same : nodes ≡ new = cc in
    ap (λ (xs : List Node). after_nodes xs (trees (length xs + 1) (and_line (a_line.Pieces []) ds))) (sym same) ∙ ap (after_nodes nodes) (no_pieces (length nodes + 1) ds)
mark_tree nodes new (p ∷ ps) ds h =
    ap (after_nodes new) (no_pieces (length new + 1) ds)
    ∙ tree_first nodes new (refusal 1 (opened (forest (p ∷ ps))) [] (forest (p ∷ ps))) (block 0 (forest (p ∷ ps))) ds h
    ∙ ap (λ (qs : List Piece). after_nodes nodes (trees (length nodes + 1) (qs ∷ ds))) (sym (append-nil (p ∷ ps)))

pub mark_refusal : (nodes : List Node) (ps : List Piece) (ds : List (List Piece)) (r : Refused) → closed nodes ps ≡ Err r → trees_on nodes ps ([] ∷ ds) ≡ Err r
mark_refusal nodes [] ds r h = absurd cc
mark_refusal nodes (p ∷ ps) ds r h =
    ap (λ (qs : List Piece). after_nodes nodes (trees (length nodes + 1) (qs ∷ ds))) (append-nil (p ∷ ps))
    ∙ refusal_first (length nodes + 1) nodes (refusal 1 (opened (forest (p ∷ ps))) [] (forest (p ∷ ps))) (block 0 (forest (p ∷ ps))) (trees (length nodes + 1 + 1) ds) r h

-- pieces
pub pieces_joined : (nodes : List Node) (ps qs : List Piece) (ds : List (List Piece)) → trees_on nodes (ps ++ qs) ds ≡ trees_on nodes ps (and_line (a_line.Pieces qs) ds)
pieces_joined nodes ps qs [] = refl
pieces_joined nodes ps qs (d ∷ ds) = let e : (ps ++ qs) ++ d ≡ ps ++ (qs ++ d) = simp append_assoc in ap (λ (xs : List Piece). after_nodes nodes (trees (length nodes + 1) (xs ∷ ds))) e

-- ---- the whole text

not_utf8 : (bs : List ℕ) → (IsUtf8 bs → ⊥) → is_utf8 bs ≡ false
not_utf8 bs h = elim (is_utf8 bs) as (λ v. is_utf8 bs ≡ v → v ≡ false) [ true ↦ (λ e. absurd (h (IsUtf8-from_is_utf8 bs e))) | false ↦ (λ e. refl) ] refl

pub read_long : (bs : List ℕ) → 1048576 < length bs → read bs ≡ Err (0, record { line = 0; kind = TooLong })
unfolding read
read_long bs h = let e : nat_lt 1048576 (length bs) ≡ true = grind (arith, nat_tests) in rw e refl

short : (n : ℕ) → n ≤ 1048576 → nat_lt 1048576 n ≡ false
short n h = grind (arith, nat_tests)

pub read_bad : (bs : List ℕ) → length bs ≤ 1048576 → (IsUtf8 bs → ⊥) → read bs ≡ Err (0, record { line = bad_line bs; kind = NotUtf8 })
unfolding read
read_bad bs h n = rw (short (length bs) h, not_utf8 bs n) refl

pub read_good : (bs : List ℕ) → length bs ≤ 1048576 → IsUtf8 bs → read bs ≡ trees 1 (documents 1 (lines (without_mark bs)))
unfolding read
read_good bs h u = rw (short (length bs) h, is_utf8-from_IsUtf8 bs u) refl

pub mark_told : (e : YamlFault) (nodes : List Node) (ps : List Piece) (ds : List (List Piece)) → IsToldBy e (closed nodes ps) → IsToldBy e (trees_on nodes ps ([] ∷ ds))
mark_told fault.OutOfMemory nodes ps ds h = tt
mark_told (fault.Refused d l k) nodes ps ds h = mark_refusal nodes ps ds _ h

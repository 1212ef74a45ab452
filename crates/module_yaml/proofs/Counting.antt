-- A text has no more documents than bytes, and two.
use Rattle.std.proofs.Common.{◌≡◌, ap, refl, ℕ, ◌+◌, ◌≤◌, ◌<◌, ◌^◌, Bool, true, false, not, List, [], ◌∷◌, length, arith, Option, Some, None, cond}
use Rattle.std.specs.Prelude.{Result, Ok, Err, nat_lt, ◌==◌, ◌&&◌}
use Rattle.std.specs.Str.{is_utf8}
use Rattle.std.proofs.lemmas.Bool.{ltb-false}
use Rattle.proto_wire.specs.declared.module_kind.ModuleKind.TheVariants.{Tab, Directive, Indent}
use Rattle.yaml_block.specs.declared.node.Node.{Node}
use Rattle.yaml_block.specs.Scalars.{is_over}
use Rattle.yaml_block.specs.Lines.{behind_mark, has_tab, marked_line, other_line, refused_line, starts_white}
use Rattle.yaml_block.specs.Layout.{forest}
use Rattle.yaml_block.specs.Trees.{refusal, opened, block}
use Rattle.yaml_block.specs.Documents.{Refused, read, trees, documents, lines, line_of, and_line, and_tree, onto_first, begins_with, without_mark, most_bytes}

-- what a document consists of, what a line is, and why a document is refused
abbrev PieceOf : {A : Type 0} → (ℕ → List (List ℕ) → List (List A)) → Type 0
PieceOf {A} f = A

abbrev LineOf : {A : Type 0} → (ℕ → List ℕ → A) → Type 0
LineOf {A} f = A

abbrev RefusalOf : {A B : Type 0} → (ℕ → Option A → B) → Type 0
RefusalOf {A} f = A

abbrev Piece : Type 0
Piece = PieceOf documents

abbrev Line : Type 0
Line = LineOf line_of

abbrev Refusal : Type 0
Refusal = RefusalOf and_tree

and_tree-length : (number : ℕ) (r : Option Refusal) (tree : Node) (others : Result (List Node) Refused) (most : ℕ) (nodes : List Node) →
    ((rest : List Node) → others ≡ Ok rest → length rest ≤ most) → and_tree number r tree others ≡ Ok nodes → length nodes ≤ most + 1
and_tree-length number (Some r) tree others most nodes few e = absurd cc
and_tree-length number None tree (Ok rest) most nodes few e = let h : tree ∷ rest ≡ nodes = cc in let k = few rest refl in let l = ap length h in omega arith
and_tree-length number None tree (Err r) most nodes few e = absurd cc

trees-length : (number : ℕ) (ds : List (List Piece)) (nodes : List Node) → trees number ds ≡ Ok nodes → length nodes ≤ length ds
trees-length number [] nodes e = let h : [] ≡ nodes = cc in let l = ap length h in omega arith
trees-length number ([] ∷ ds) nodes e = let k = trees-length number ds nodes e in omega arith
trees-length number ((p ∷ ps) ∷ ds) nodes e =
    let f = forest (p ∷ ps) in
    let k = and_tree-length number (refusal 1 (opened f) [] f) (block 0 f) (trees (number + 1) ds) (length ds) nodes (λ rest h. trees-length (number + 1) ds rest h) e in omega arith

-- a line makes one document more at most
abbrev IsShort : List (List Piece) → Line → Type 0
IsShort ds l = length (and_line l ds) ≤ length ds + 1

short-cond : (ds : List (List Piece)) (s : Bool) (a b : Line) → IsShort ds a → IsShort ds b → IsShort ds (cond s a b)
short-cond ds true a b p q = p
short-cond ds false a b p q = q

other-short : (number : ℕ) (bytes : List ℕ) (ds : List (List Piece)) → IsShort ds (other_line number bytes)
other-short number [] [] = omega arith
other-short number [] (d ∷ ds) = omega arith
other-short number (b ∷ bs) [] =
    short-cond [] (b == 37) (refused_line number Directive) _ (omega arith)
    (short-cond [] (has_tab (b ∷ bs) && not (is_over (b ∷ bs))) (refused_line number Tab) _ (omega arith) (omega arith))
other-short number (b ∷ bs) (d ∷ ds) =
    short-cond (d ∷ ds) (b == 37) (refused_line number Directive) _ (omega arith)
    (short-cond (d ∷ ds) (has_tab (b ∷ bs) && not (is_over (b ∷ bs))) (refused_line number Tab) _ (omega arith) (omega arith))

refused-short : (number : ℕ) (ds : List (List Piece)) → IsShort ds (refused_line number Indent)
refused-short number [] = omega arith
refused-short number (d ∷ ds) = omega arith

marked-short : (number : ℕ) (o : Option (List ℕ)) (bytes : List ℕ) (ds : List (List Piece)) → IsShort ds (marked_line number o bytes)
marked-short number None bytes ds = other-short number bytes ds
marked-short number (Some rest) bytes ds =
    short-cond ds (is_over rest) _ _ (omega arith)
    (short-cond ds (starts_white rest) (refused_line number Indent) (other_line number bytes) (refused-short number ds) (other-short number bytes ds))

line-short : (number : ℕ) (bytes : List ℕ) (ds : List (List Piece)) → IsShort ds (line_of number bytes)
unfolding line_of
line-short number bytes ds = marked-short number (behind_mark bytes) bytes ds

documents-length : (number : ℕ) (ls : List (List ℕ)) → length (documents number ls) ≤ length ls + 1
documents-length number [] = omega arith
documents-length number (l ∷ ls) = let k = documents-length (number + 1) ls in let m = line-short number l (documents (number + 1) ls) in omega arith

onto-length : (b n : ℕ) (ls : List (List ℕ)) → length ls ≤ n + 1 → length (onto_first b ls) ≤ n + 1
onto-length b n [] k = omega arith
onto-length b n (l ∷ ls) k = omega arith

lines-length : (bs : List ℕ) → length (lines bs) ≤ length bs + 1
lines-length [] = omega arith
lines-length (b ∷ bs) = go (b == 10) (b == 13 && begins_with 10 bs) (lines-length bs)
  where
    go : (s t : Bool) → length (lines bs) ≤ length bs + 1 → length (cond s ([] ∷ lines bs) (cond t (lines bs) (onto_first b (lines bs)))) ≤ length (b ∷ bs) + 1
    go true t k = omega arith
    go false true k = omega arith
    go false false k = let m = onto-length b (length bs) (lines bs) k in omega arith

mark-length : (bs : List ℕ) → length (without_mark bs) ≤ length bs
mark-length [] = omega arith
mark-length (a ∷ []) = omega arith
mark-length (a ∷ b ∷ []) = omega arith
mark-length (a ∷ b ∷ c ∷ rest) = go (a == 239 && (b == 187 && c == 191))
  where
    go : (t : Bool) → length (cond t rest (a ∷ b ∷ c ∷ rest)) ≤ length (a ∷ b ∷ c ∷ rest)
    go true = omega arith
    go false = omega arith

not-refused : (s t : Bool) (early late : Refused) (text : Result (List Node) Refused) (nodes : List Node) → cond s (Err early) (cond t (Err late) text) ≡ Ok nodes → (s ≡ false) × (text ≡ Ok nodes)
not-refused true t early late text nodes h = absurd cc
not-refused false true early late text nodes h = absurd cc
not-refused false false early late text nodes h = (refl, h)

-- the trees of a text that is not refused are few
pub few_trees : (bytes : List ℕ) (nodes : List Node) → read bytes ≡ Ok nodes → length nodes < 2 ^ 32
unfolding read
few_trees bytes nodes e =
    let both = not-refused (nat_lt most_bytes (length bytes)) (not (is_utf8 bytes)) _ _ (trees 1 (documents 1 (lines (without_mark bytes)))) nodes e in
    let a = trees-length 1 (documents 1 (lines (without_mark bytes))) nodes both.1 in
    let b = documents-length 1 (lines (without_mark bytes)) in
    let c = lines-length (without_mark bytes) in
    let d = mark-length bytes in
    let small = ltb-false most_bytes (length bytes) both.0 in
    omega arith

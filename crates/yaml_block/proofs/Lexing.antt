-- What stands on a line, step by step.
use Rattle.std.proofs.Common.{◌≡◌, ℕ, ◌+◌, ◌<◌, true, false, ◌==◌, List, [], ◌∷◌, ◌++◌, length, take, drop, Option, Some, None, refl, sym, ap, ◌∙◌, append_assoc, arith}
use Rattle.std.proofs.lemmas.Bool.Decides.{nat_tests}
use Rattle.std.proofs.lemmas.List.{length-take, drop_more}
use Rattle.proto_wire.specs.declared.module_kind.ModuleKind.{ModuleKind}
use Rattle.yaml_block.specs.declared.piece.Piece.{Piece}
use Rattle.yaml_block.specs.declared.piece.Head.{Head}
use Rattle.yaml_block.specs.declared.piece.Head.TheVariants as head
use Rattle.yaml_block.specs.declared.piece.Inline.{Inline}
use Rattle.yaml_block.specs.Scalars.{is_white, is_item, plain, double, escape, escaped_in_front, in_front}
use Rattle.yaml_block.specs.Lines.{piece, pieces_on, head_on, plain_entry, plain_head, inline_on}
use Rattle.yaml_block.proofs.Scanning.{passed, passed_one}

pub unequal : (b n : ℕ) → (b ≡ n → ⊥) → (b == n) ≡ false
unequal b n h = grind (arith, nat_tests)

-- ---- between `"`

byte_step : (front : List ℕ) (b : ℕ) (after : List ℕ) → (b == 34) ≡ false → (b == 92) ≡ false → passed front (double (b ∷ after)) ≡ passed (front ++ b ∷ []) (double after)
byte_step front b [] q e = rw q refl
byte_step front b (c ∷ cs) q e = rw (q, e) (passed_one front b (double (c ∷ cs)))

pub double_byte : (front : List ℕ) (b : ℕ) (rest after : List ℕ) → rest ≡ b ∷ after → (b ≡ 34 → ⊥) → (b ≡ 92 → ⊥) → passed (front ++ b ∷ []) (double after) ≡ passed front (double rest)
double_byte front b rest after is q e = sym (ap (λ (s : List ℕ). passed front (double s)) is ∙ byte_step front b after (unequal b 34 q) (unequal b 92 e))

escape_put : (front : List ℕ) (o : Option ℕ) (m : ℕ) (after : List ℕ) → Some m ≡ o → passed front (escaped_in_front o (double after)) ≡ passed (front ++ m ∷ []) (double after)
escape_put front None m after e = absurd cc
escape_put front (Some n) m after e = let k : n ≡ m = cc in ap (λ (b : ℕ). passed front (in_front b (double after))) k ∙ passed_one front m (double after)

pub double_escape : (front : List ℕ) (b c m : ℕ) (rest behind after : List ℕ) → rest ≡ b ∷ behind → behind ≡ c ∷ after → b ≡ 92 → Some m ≡ escape c
    → passed (front ++ m ∷ []) (double after) ≡ passed front (double rest)
double_escape front b c m rest behind after is next e o =
    let whole : rest ≡ 92 ∷ c ∷ after = is ∙ rw (e, next) refl in
    sym (ap (λ (s : List ℕ). passed front (double s)) whole ∙ escape_put front (escape c) m after o)

-- ---- an entry

key_there : (k v : List ℕ) → 0 < length k → plain_entry k v ≡ head.Entry (plain k) (inline_on v)
key_there [] v h = absurd (omega arith)
key_there (b ∷ bs) v h = refl

pub entry_there : (text : List ℕ) (at : ℕ) (key : List ℕ) (value : Inline) (foreign : Option ModuleKind) (cut : Option (List ℕ × List ℕ)) (scalar : List ℕ)
    → None ≡ foreign → Some (take at text, drop (at + 1) text) ≡ cut → 0 < at → at < length text
    → key ≡ plain (take at text) → value ≡ inline_on (drop (at + 1) text) → head.Entry key value ≡ plain_head foreign cut scalar
entry_there text at key value foreign cut scalar none some pos within k v =
    let long : 0 < length (take at text) = simp length-take (omega arith) in
    rw (sym none, sym some, k, v) (sym (key_there (take at text) (drop (at + 1) text) long))

pub past_one : (text : List ℕ) (at : ℕ) → at < length text → drop 1 (drop at text) ≡ drop (at + 1) text
past_one text at within = ap (drop 1) (drop_more text at 0 within)

-- ---- the pieces of a line

module _ (line column : ℕ) (rest after : List ℕ) (b : ℕ) (front total : List Piece) (is : rest ≡ b ∷ after) (so_far : front ++ pieces_on line column rest ≡ total) where
  pub white_passed : is_white b ≡ true → front ++ pieces_on line (column + 1) after ≡ total
  white_passed w = sym (ap (λ (s : List ℕ). front ++ pieces_on line column s) is ∙ rw w refl) ∙ so_far

  pub item_put : is_white b ≡ false → (b ≡ 35 → ⊥) → is_item b after ≡ true → (front ++ piece line column head.Item ∷ []) ++ pieces_on line (column + 1) after ≡ total
  item_put w c d =
      let one : pieces_on line column (b ∷ after) ≡ piece line column head.Item ∷ pieces_on line (column + 1) after = rw (w, unequal b 35 c, d) refl in
      simp append_assoc (sym (ap (λ (s : List ℕ). front ++ pieces_on line column s) is ∙ ap (λ (ps : List Piece). front ++ ps) one) ∙ so_far)

  pub head_put : (found : Head) → is_white b ≡ false → (b ≡ 35 → ⊥) → is_item b after ≡ false → found ≡ head_on b after → front ++ piece line column found ∷ [] ≡ total
  head_put found w c d e =
      let one : pieces_on line column (b ∷ after) ≡ piece line column found ∷ [] = rw (w, unequal b 35 c, d) refl ∙ ap (λ (h : Head). piece line column h ∷ []) (sym e) in
      sym (ap (λ (s : List ℕ). front ++ pieces_on line column s) is ∙ ap (λ (ps : List Piece). front ++ ps) one) ∙ so_far

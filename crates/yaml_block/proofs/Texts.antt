-- Lines, one after the other.
use Rattle.std.proofs.Common.{◌≡◌, ℕ, ◌+◌, ◌<◌, Bool, true, false, ◌&&◌, ◌||◌, ◌==◌, cond, List, [], ◌∷◌, ◌++◌, length, take, drop, get_or, refl, sym, ap, subst, ◌∙◌, arith}
use Rattle.std.specs.List.{list_any}
use Rattle.std.specs.Str.{IsUtf8}
use Rattle.std.proofs.lemmas.List.{take-append-drop, take_more, drop_more}
use Rattle.std.proofs.lemmas.List.Folds.{list_any-append}
use Rattle.yaml_block.specs.Documents.{lines, onto_first}
use Rattle.yaml_block.specs.Steps.{without_return}
use Rattle.yaml_block.proofs.Utf8.{utf8_before, utf8_behind}
use Rattle.yaml_block.proofs.Lexing.{unequal}

-- whether there is a line feed
abbrev pub has_feed : List ℕ → Bool
has_feed s = list_any (λ b. b == 10) s

neither : (a b : Bool) → (a || b) ≡ false → (a ≡ false) × (b ≡ false)
neither false b e = (refl, e)
neither true b e = absurd cc

pub feed_later : (text : List ℕ) (len : ℕ) → len < length text → (get_or text len 0 ≡ 10 → ⊥) → has_feed (take len text) ≡ false → has_feed (take (len + 1) text) ≡ false
feed_later text len lt other none =
    let b = get_or text len 0 in
    let split : has_feed (take (len + 1) text) ≡ (has_feed (take len text) || has_feed (b ∷ [])) = ap has_feed (take_more text len 0 lt) ∙ list_any-append (λ b. b == 10) (take len text) (b ∷ []) in
    split ∙ rw (none, unequal b 10 other) refl

-- ---- the first line of a text

and-false : (v : Bool) → (v && false) ≡ false
and-false true = refl
and-false false = refl

pub last_line : (s : List ℕ) → has_feed s ≡ false → lines s ≡ s ∷ []
last_line [] n = refl
last_line (b ∷ []) n = let h = neither (b == 10) false n in rw (h.0, and-false (b == 13)) refl
last_line (b ∷ c ∷ cs) n =
    let h = neither (b == 10) (has_feed (c ∷ cs)) n in
    let k = neither (c == 10) (has_feed cs) h.1 in
    let more : lines (c ∷ cs) ≡ (c ∷ cs) ∷ [] = last_line (c ∷ cs) h.1 in
    let one : lines (b ∷ c ∷ cs) ≡ onto_first b (lines (c ∷ cs)) = rw (h.0, k.0, and-false (b == 13)) refl in
    one ∙ ap (onto_first b) more

pub first_line : (s rest : List ℕ) → has_feed s ≡ false → lines (s ++ 10 ∷ rest) ≡ without_return s ∷ lines rest
first_line [] rest n = refl
first_line (b ∷ []) rest n =
    let h = neither (b == 10) false n in
    let P : Bool → Type 0 = λ v. cond (v && true) ([] ∷ lines rest) ((b ∷ []) ∷ lines rest) ≡ (cond v [] (b ∷ [])) ∷ lines rest in
    let one : lines ((b ∷ []) ++ 10 ∷ rest) ≡ cond (b == 13 && true) ([] ∷ lines rest) ((b ∷ []) ∷ lines rest) = rw h.0 refl in
    one ∙ elim (b == 13) as P [ true ↦ refl | false ↦ refl ]
first_line (b ∷ c ∷ cs) rest n =
    let h = neither (b == 10) (has_feed (c ∷ cs)) n in
    let k = neither (c == 10) (has_feed cs) h.1 in
    let more : lines (c ∷ (cs ++ 10 ∷ rest)) ≡ without_return (c ∷ cs) ∷ lines rest = first_line (c ∷ cs) rest h.1 in
    let one : lines (b ∷ c ∷ (cs ++ 10 ∷ rest)) ≡ onto_first b (lines (c ∷ (cs ++ 10 ∷ rest))) = rw (h.0, k.0, and-false (b == 13)) refl in
    one ∙ ap (onto_first b) more

pub return_last : (front : List ℕ) (b : ℕ) → without_return (front ++ b ∷ []) ≡ cond (b == 13) front (front ++ b ∷ [])
return_last [] b = refl
return_last (a ∷ []) b = elim (b == 13) as (λ v. a ∷ cond v [] (b ∷ []) ≡ cond v (a ∷ []) (a ∷ b ∷ [])) [ true ↦ refl | false ↦ refl ]
return_last (a ∷ c ∷ cs) b =
    let P : Bool → Type 0 = λ v. a ∷ cond v (c ∷ cs) (c ∷ (cs ++ b ∷ [])) ≡ cond v (a ∷ c ∷ cs) (a ∷ c ∷ (cs ++ b ∷ [])) in
    ap (λ (r : List ℕ). a ∷ r) (return_last (c ∷ cs) b) ∙ elim (b == 13) as P [ true ↦ refl | false ↦ refl ]

-- a text up to a line feed, and what follows it
module _ (text : List ℕ) (len : ℕ) (within : len < length text) (there : get_or text len 0 ≡ 10) where
  pub at_feed : text ≡ take len text ++ 10 ∷ drop (len + 1) text
  at_feed =
      let behind : drop len text ≡ 10 ∷ drop (len + 1) text = drop_more text len 0 within ∙ ap (λ (b : ℕ). b ∷ drop (len + 1) text) there in
      sym (take-append-drop len text) ∙ ap (λ (r : List ℕ). take len text ++ r) behind

  pub lines_at : has_feed (take len text) ≡ false → lines text ≡ without_return (take len text) ∷ lines (drop (len + 1) text)
  lines_at none = ap lines at_feed ∙ first_line (take len text) (drop (len + 1) text) none

  pub before_feed : IsUtf8 text → IsUtf8 (take len text)
  before_feed u = utf8_before (take len text) (drop (len + 1) text) 10 (omega arith) (subst IsUtf8 at_feed u)

  pub behind_feed : IsUtf8 text → IsUtf8 (drop (len + 1) text)
  behind_feed u = utf8_behind (take len text) (drop (len + 1) text) 10 (omega arith) (subst IsUtf8 at_feed u)

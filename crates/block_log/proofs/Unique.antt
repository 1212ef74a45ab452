-- A file has one meaning.
use Rattle.std.proofs.Common.{◌≡◌, ◌≢◌, ◌⊎◌, inl, inr, ⊎_elim, ℕ, ◌+◌, ◌^◌, ◌<◌, ◌≤◌, List, [], ◌∷◌, ◌++◌, length, take, drop, refl, sym, ◌∙◌, ap, arith, append_assoc, length-append, take-append-drop}
use Rattle.std.proofs.lemmas.List.{take_at, drop_at}
use Rattle.std.proofs.lemmas.Nat.{from_be_bytes-to_be_bytes_8}
use Rattle.std.specs.Int.{to_be_bytes, from_be_bytes, w64}
use Rattle.block_log.specs.Blocks.{Body, framed, AreBlocks, extent, HasBlocks, StandsFor, IsCut, IsNoLog}
use Rattle.block_log.proofs.Bytes.{length-framed, length-blocks, heads}
use Rattle.block_log.proofs.Opening.{few_blocks}

framed_apart : (x b : Body) (u v : List ℕ) → length x < 2 ^ 64 → length b < 2 ^ 64 → framed x ++ u ≡ framed b ++ v → (x ≡ b) × (u ≡ v)
framed_apart x b u v fits_x fits_b same =
    let apart : to_be_bytes w64 (length x) ++ (x ++ u) ≡ to_be_bytes w64 (length b) ++ (b ++ v) = sym (append_assoc (to_be_bytes w64 (length x)) x u) ∙ same ∙ append_assoc (to_be_bytes w64 (length b)) b v in
    let size : to_be_bytes w64 (length x) ≡ to_be_bytes w64 (length b) = sym (take_at (to_be_bytes w64 (length x)) (x ++ u) 8 (omega arith)) ∙ ap (take 8) apart ∙ take_at (to_be_bytes w64 (length b)) (b ++ v) 8 (omega arith) in
    let lengths : length x ≡ length b = sym (from_be_bytes-to_be_bytes_8 (length x) fits_x) ∙ ap (from_be_bytes w64) size ∙ from_be_bytes-to_be_bytes_8 (length b) fits_b in
    let rest : x ++ u ≡ b ++ v = sym (drop_at (to_be_bytes w64 (length x)) (x ++ u) 8 (omega arith)) ∙ ap (drop 8) apart ∙ drop_at (to_be_bytes w64 (length b)) (b ++ v) 8 (omega arith) in (
      sym (take_at x u (length x) refl) ∙ ap (take (length x)) rest ∙ take_at b v (length x) (sym lengths),
      sym (drop_at x u (length x) refl) ∙ ap (drop (length x)) rest ∙ drop_at b v (length x) (sym lengths),
    )

-- a gate behind which no block is read
abbrev IsLast : ℕ → List ℕ → Type 0
IsLast gate tail = (gate ≡ 0) ⊎ IsCut tail

-- a block does not stand behind such a gate
no_block : (b : Body) (rest tail : List ℕ) (gate opened : ℕ) → opened ≢ 0 → length b < 2 ^ 64 → 1 ≤ length rest → gate ∷ tail ≡ opened ∷ (framed b ++ rest) → IsLast gate tail → ⊥
no_block b rest tail gate opened is_open fits some same (inl shut) = is_open (sym (heads gate opened tail (framed b ++ rest) same).0 ∙ shut)
no_block b rest tail gate opened is_open fits some same (inr cut) =
    let is : tail ≡ framed b ++ rest = (heads gate opened tail (framed b ++ rest) same).1 in
    let size : length tail ≡ 8 + length b + length rest = omega (arith, ap length is, length-append (framed b) rest, length-framed b) in
    let told : from_be_bytes w64 (take 8 tail) ≡ length b =
    ap (from_be_bytes w64) (ap (take 8) (is ∙ append_assoc (to_be_bytes w64 (length b)) b rest) ∙ take_at (to_be_bytes w64 (length b)) (b ++ rest) 8 (omega arith)) ∙ from_be_bytes-to_be_bytes_8 (length b) fits in
    ⊎_elim (λ few. omega (arith, few, size, some)) (λ beyond. omega (arith, beyond, size, told, some)) cut

one_end : (front : List ℕ) (xs : List Body) (gate : ℕ) (tail other : List ℕ) (ys : List Body) (last : ℕ) (behind : List ℕ) → AreBlocks front xs → AreBlocks other ys → front ++ gate ∷ tail ≡ other ++ last ∷ behind → IsLast gate tail → IsLast last behind → (ys ≡ xs) × (last ≡ gate)
one_end front [] gate tail other [] last behind is_front is_other same ends ends_too =
    let bare = ap (λ (l : List ℕ). l ++ gate ∷ tail) (sym is_front) ∙ same ∙ ap (λ (l : List ℕ). l ++ last ∷ behind) is_other in
    (refl, sym (heads gate last tail behind bare).0)
one_end front [] gate tail other (y ∷ ys) last behind is_front o same ends ends_too =
    let bare = ap (λ (l : List ℕ). l ++ gate ∷ tail) (sym is_front) ∙ same ∙ ap (λ (l : List ℕ). l ++ last ∷ behind) o.4 ∙ ap (λ (l : List ℕ). o.0 ∷ l) (append_assoc (framed y) o.1 (last ∷ behind)) in
    absurd (no_block y (o.1 ++ last ∷ behind) tail gate o.0 o.2 o.3 (omega (arith, length-append o.1 (last ∷ behind))) bare ends)
one_end front (x ∷ xs) gate tail other [] last behind o is_other same ends ends_too =
    let bare = ap (λ (l : List ℕ). l ++ last ∷ behind) (sym is_other) ∙ sym same ∙ ap (λ (l : List ℕ). l ++ gate ∷ tail) o.4 ∙ ap (λ (l : List ℕ). o.0 ∷ l) (append_assoc (framed x) o.1 (gate ∷ tail)) in
    absurd (no_block x (o.1 ++ gate ∷ tail) behind last o.0 o.2 o.3 (omega (arith, length-append o.1 (gate ∷ tail))) bare ends_too)
one_end front (x ∷ xs) gate tail other (y ∷ ys) last behind o p same ends ends_too =
    let bare : o.0 ∷ (framed x ++ (o.1 ++ gate ∷ tail)) ≡ p.0 ∷ (framed y ++ (p.1 ++ last ∷ behind)) =
    sym (ap (λ (l : List ℕ). l ++ gate ∷ tail) o.4 ∙ ap (λ (l : List ℕ). o.0 ∷ l) (append_assoc (framed x) o.1 (gate ∷ tail))) ∙ same ∙ ap (λ (l : List ℕ). l ++ last ∷ behind) p.4 ∙ ap (λ (l : List ℕ). p.0 ∷ l) (append_assoc (framed y) p.1 (last ∷ behind)) in
    let apart = framed_apart x y (o.1 ++ gate ∷ tail) (p.1 ++ last ∷ behind) o.3 p.3 (heads o.0 p.0 (framed x ++ (o.1 ++ gate ∷ tail)) (framed y ++ (p.1 ++ last ∷ behind)) bare).1 in
    let further = one_end o.1 xs gate tail p.1 ys last behind o.5 p.5 apart.1 ends ends_too in
    (ap (λ (b : Body). b ∷ ys) (sym apart.0) ∙ ap (λ (l : List Body). x ∷ l) further.0, further.1)

one_list : (file : List ℕ) (xs ys : List Body) → HasBlocks file xs → HasBlocks file ys → ys ≡ xs
one_list file xs ys has other = (one_end has.front xs 0 has.tail other.front ys 0 other.tail has.blocks other.blocks (sym has.is ∙ other.is) (inl refl) (inl refl)).0

pub stands_for_one : (file : List ℕ) (xs ys : List Body) → StandsFor file xs → StandsFor file ys → ys ≡ xs
stands_for_one file xs ys (inl has) (inl other) = one_list file xs ys has other
stands_for_one file xs ys (inl has) (inr none) = none.1 ∙ sym (few_blocks file xs none.0 has)
stands_for_one file xs ys (inr none) (inl other) = few_blocks file ys none.0 other ∙ sym none.1
stands_for_one file xs ys (inr none) (inr nil) = nil.1 ∙ sym none.1

pub refused_or_stands : (file : List ℕ) (xs : List Body) (place : ℕ) → StandsFor file xs → IsNoLog file place → ⊥
refused_or_stands file xs place (inl has) refused = refused.is_open (one_end has.front xs 0 has.tail refused.front refused.bodies refused.gate refused.tail has.blocks refused.blocks (sym has.is ∙ refused.is) (inl refl) (inr refused.cut)).1
refused_or_stands file xs place (inr none) refused = omega (arith, none.0, refused.long)

pub refused_by_one : (file : List ℕ) (place other : ℕ) → IsNoLog file place → IsNoLog file other → other ≡ place
refused_by_one file place other here there =
    let same = (one_end here.front here.bodies here.gate here.tail there.front there.bodies there.gate there.tail here.blocks there.blocks (sym here.is ∙ there.is) (inr here.cut) (inr there.cut)).0 in
    there.place_is ∙ length-blocks there.front there.bodies there.blocks ∙ ap extent same ∙ sym (here.place_is ∙ length-blocks here.front here.bodies here.blocks)

pub behind_nothing : (file other : List ℕ) (bodies : List Body) → HasBlocks file bodies → take (extent bodies + 1) other ≡ take (extent bodies + 1) file → HasBlocks other bodies
behind_nothing file other bodies has same =
    let size : length (has.front ++ 0 ∷ []) ≡ extent bodies + 1 = omega (arith, length-append has.front (0 ∷ []), length-blocks has.front bodies has.blocks) in
    let front : take (extent bodies + 1) other ≡ has.front ++ 0 ∷ [] = same ∙ ap (take (extent bodies + 1)) (has.is ∙ sym (append_assoc has.front (0 ∷ []) has.tail)) ∙ take_at (has.front ++ 0 ∷ []) has.tail (extent bodies + 1) size in
    record {
      front = has.front;
      tail = drop (extent bodies + 1) other;
      blocks = has.blocks;
      is = sym (take-append-drop (extent bodies + 1) other) ∙ ap (λ (l : List ℕ). l ++ drop (extent bodies + 1) other) front ∙ append_assoc has.front (0 ∷ []) (drop (extent bodies + 1) other);
    }

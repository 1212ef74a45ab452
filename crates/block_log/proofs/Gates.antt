-- What stands at a gate, by the bytes that were read there.
use Rattle.std.proofs.Common.{◌≡◌, ◌≢◌, true, nat_eq, slice_index_or, inl, inr, ℕ, ◌+◌, ◌^◌, ◌<◌, ◌≤◌, List, [], ◌∷◌, ◌++◌, length, take, drop, refl, sym, ◌∙◌, ap, arith, append_assoc, length-append, length-drop, take-append-drop}
use Rattle.std.proofs.lemmas.Bool.Decides.{nat_tests}
use Rattle.std.proofs.lemmas.List.{take_at, length-take-le}
use Rattle.std.proofs.lemmas.Nat.{from_be_bytes-to_be_bytes_8}
use Rattle.std.specs.Int.{to_be_bytes, from_be_bytes, w64}
use Rattle.block_log.specs.Blocks.{framed, IsCut}
use Rattle.block_log.specs.Finding.{Begins}
use Rattle.block_log.specs.declared.gate.Gate.TheVariants.{Block, Cut}

pub first_byte : (rest bytes : List ℕ) → 0 < length rest → bytes ≡ take 1 rest → (tail : List ℕ) × (rest ≡ slice_index_or bytes 0 0 ∷ tail)
first_byte [] bytes some read = absurd (omega (arith, some))
first_byte (gate ∷ tail) bytes some read = (tail, ap (λ (n : ℕ). n ∷ tail) (sym (ap (λ (l : List ℕ). slice_index_or l 0 0) read)))

pub is_zero : (n : ℕ) → nat_eq n 0 ≡ true → n ≡ 0
is_zero n is = grind (arith, nat_tests)

pub closed_first : (rest bytes : List ℕ) → 0 < length rest → bytes ≡ take 1 rest → slice_index_or bytes 0 0 ≡ 0 → (tail : List ℕ) × (rest ≡ 0 ∷ tail)
closed_first rest bytes some read shut = let t = first_byte rest bytes some read in (t.0, t.1 ∙ ap (λ (n : ℕ). n ∷ t.0) shut)

pub cut_first : (rest bytes : List ℕ) → 0 < length rest → length rest < 10 → bytes ≡ take 1 rest → (slice_index_or bytes 0 0 ≡ 0 → ⊥) → (gate : ℕ) × (tail : List ℕ) × (gate ≢ 0) × (rest ≡ gate ∷ tail) × IsCut tail
cut_first rest bytes some few read opened = let t = first_byte rest bytes some read in (slice_index_or bytes 0 0, t.0, opened, t.1, inl (omega (arith, few, ap length t.1)))

pub left_behind : (at left : ℕ) (file : List ℕ) → at + left ≡ length file → length (drop at file) ≡ left
left_behind at left file is = omega (arith, length-drop at file, is)

-- a block that fits
pub block_there : (gate len left : ℕ) (rest : List ℕ) → gate ≢ 0 → len < 2 ^ 64 → len + 10 ≤ left → length rest + 9 ≡ left → Begins (Block len) (gate ∷ to_be_bytes w64 len ++ rest)
block_there gate len left rest opened small within size =
    let body_size : length (take len rest) ≡ len = length-take-le len rest (omega (arith, within, size)) in
    let whole : to_be_bytes w64 len ++ rest ≡ framed (take len rest) ++ drop len rest =
    ap (λ (l : List ℕ). to_be_bytes w64 len ++ l) (sym (take-append-drop len rest)) ∙ sym (append_assoc (to_be_bytes w64 len) (take len rest) (drop len rest))
    ∙ ap (λ (n : ℕ). (to_be_bytes w64 n ++ take len rest) ++ drop len rest) (sym body_size) in
    (gate, take len rest, drop len rest, opened, body_size, small, ap (λ (l : List ℕ). gate ∷ l) whole)

-- one that does not
pub cut_there : (gate len left : ℕ) (rest : List ℕ) → gate ≢ 0 → len < 2 ^ 64 → left < len + 10 → length rest + 9 ≡ left → Begins Cut (gate ∷ to_be_bytes w64 len ++ rest)
cut_there gate len left rest opened small beyond size =
    let told : from_be_bytes w64 (take 8 (to_be_bytes w64 len ++ rest)) ≡ len = ap (from_be_bytes w64) (take_at (to_be_bytes w64 len) rest 8 (omega arith)) ∙ from_be_bytes-to_be_bytes_8 len small in
    (gate, to_be_bytes w64 len ++ rest, opened, refl, inr (omega (arith, told, beyond, size, length-append (to_be_bytes w64 len) rest)))

-- the bytes of the head, with what is behind them
pub head_there : (bytes rest : List ℕ) (gate len : ℕ) → bytes ≡ take 9 rest → bytes ≡ gate ∷ to_be_bytes w64 len → rest ≡ gate ∷ to_be_bytes w64 len ++ drop 9 rest
head_there bytes rest gate len read is = sym (take-append-drop 9 rest) ∙ ap (λ (l : List ℕ). l ++ drop 9 rest) (sym read ∙ is)

pub behind_head : (rest : List ℕ) (left : ℕ) → length rest ≡ left → 10 ≤ left → length (drop 9 rest) + 9 ≡ left
behind_head rest left size long = omega (arith, size, long, length-drop 9 rest)

-- Bytes that are blocks: how long they are, and one block more.
use Rattle.std.proofs.Common.{◌≡◌, ◌≢◌, ℕ, ◌+◌, ◌^◌, ◌<◌, ◌≤◌, List, [], ◌∷◌, ◌++◌, length, refl, sym, ◌∙◌, ap, arith, append_assoc, length-append}
use Rattle.std.proofs.lemmas.List.{append-nil}
use Rattle.std.specs.Int.{to_be_bytes, w64}
use Rattle.block_log.specs.Blocks.{Body, framed, AreBlocks, extent, places_from, HasBlocks}

pub length-framed : (b : Body) → length (framed b) ≡ 8 + length b
length-framed b = omega (arith, length-append (to_be_bytes w64 (length b)) b)

pub length-blocks : (bytes : List ℕ) (bs : List Body) → AreBlocks bytes bs → length bytes ≡ extent bs
length-blocks bytes [] is = ap length is
length-blocks bytes (b ∷ bs) o = omega (arith, ap length o.4, length-append (framed b) o.1, length-framed b, length-blocks o.1 bs o.5)

pub blocks_push : (bytes : List ℕ) (bs : List Body) (b : Body) (gate : ℕ) → gate ≢ 0 → length b < 2 ^ 64 → AreBlocks bytes bs → AreBlocks (bytes ++ gate ∷ framed b) (bs ++ b ∷ [])
blocks_push bytes [] b gate opened fits is = (gate, [], opened, fits, ap (λ (l : List ℕ). l ++ gate ∷ framed b) is ∙ ap (λ (l : List ℕ). gate ∷ l) (sym (append-nil (framed b))), refl)
blocks_push bytes (x ∷ bs) b gate opened fits o = (o.0, o.1 ++ gate ∷ framed b, o.2, o.3, ap (λ (l : List ℕ). l ++ gate ∷ framed b) o.4 ∙ ap (λ (l : List ℕ). o.0 ∷ l) (append_assoc (framed x) o.1 (gate ∷ framed b)), blocks_push o.1 bs b gate opened fits o.5)

pub extent-push : (bs : List Body) (b : Body) → extent (bs ++ b ∷ []) ≡ extent bs + 9 + length b
extent-push [] b = omega arith
extent-push (x ∷ bs) b = omega (arith, extent-push bs b)

places_push_from : (place : ℕ) (bs : List Body) (b : Body) (end : ℕ) → end ≡ place + extent bs → places_from place (bs ++ b ∷ []) ≡ places_from place bs ++ end ∷ []
places_push_from place [] b end is = ap (λ (n : ℕ). n ∷ []) (let e : place ≡ end = omega (arith, is) in e)
places_push_from place (x ∷ bs) b end is = ap (λ (l : List ℕ). place ∷ l) (places_push_from (place + 9 + length x) bs b end (omega (arith, is)))

pub places_push : (bs : List Body) (b : Body) → places_from 0 (bs ++ b ∷ []) ≡ places_from 0 bs ++ extent bs ∷ []
places_push bs b = places_push_from 0 bs b (extent bs) (omega arith)

pub heads : (a b : ℕ) (xs ys : List ℕ) → a ∷ xs ≡ b ∷ ys → (a ≡ b) × (xs ≡ ys)
heads a b xs ys same = (cc, cc)

pub end_within : (file : List ℕ) (bs : List Body) → HasBlocks file bs → extent bs + 1 ≤ length file
end_within file bs has = omega (arith, ap length has.is, length-append has.front (0 ∷ has.tail), length-blocks has.front bs has.blocks)

-- Where the block of a position stands, and what is read of it.
use Rattle.std.proofs.Common.{◌≡◌, ◌≢◌, inl, ℕ, zero, suc, ◌+◌, ◌^◌, ◌<◌, ◌≤◌, List, [], ◌∷◌, ◌++◌, length, take, drop, Contains, slice_index_or, None, refl, sym, ◌∙◌, ap, subst, arith, append_assoc, length-append}
use Rattle.std.proofs.lemmas.List.{take_at, drop_at}
use Rattle.std.proofs.lemmas.Nat.{from_be_bytes-to_be_bytes_8}
use Rattle.std.specs.Int.{to_be_bytes, from_be_bytes, w64}
use Rattle.sf_disk.specs.Images.{FileState}
use Rattle.sf_disk.specs.Moments.{Moment, WhereTold, newest}
use Rattle.block_log.specs.declared.log.BlockLog.{BlockLog}
use Rattle.block_log.specs.Blocks.{Body, framed, AreBlocks, extent, places_from}
use Rattle.block_log.specs.Logs.{IsOpen, HasBlockAt}
use Rattle.block_log.proofs.Bytes.{length-framed, heads}

at_place : (p : ℕ) (bodies : List Body) (q k : ℕ) → k < length (places_from p bodies) → slice_index_or (places_from p bodies) k q ≡ q → (before : List Body) × (b : Body) × (behind : List Body) × (bodies ≡ before ++ b ∷ behind) × (q ≡ p + extent before)
at_place p [] q k less is = absurd (omega (arith, less))
at_place p (x ∷ bodies) q zero less is = ([], x, bodies, refl, omega (arith, is))
at_place p (x ∷ bodies) q (suc k) less is = let r = at_place (p + 9 + length x) bodies q k (omega (arith, less)) is in (x ∷ r.0, r.1, r.2, ap (λ (l : List Body). x ∷ l) r.3, omega (arith, r.4))

-- a position of the log's blocks is one of a block
pub has_block : (log : BlockLog) (bodies : List Body) (state : FileState) (position : ℕ) → IsOpen log bodies state → Contains log.blocks position → (b : Body) × HasBlockAt bodies position b
has_block log bodies state position opened there =
    let inside = subst (λ (l : List ℕ). Contains l position) opened.knows.blocks there in
    let r = at_place 0 bodies position inside.0 inside.1 inside.2 in
    (r.1, record { before = r.0; behind = r.2; is = r.3; place_is = omega (arith, r.4) })

split_at : (bytes : List ℕ) (before : List Body) (b : Body) (behind : List Body) → AreBlocks bytes (before ++ b ∷ behind) → (front : List ℕ) × (gate : ℕ) × (rest : List ℕ) × (gate ≢ 0) × (length b < 2 ^ 64) × (bytes ≡ front ++ gate ∷ (framed b ++ rest)) × (length front ≡ extent before)
split_at bytes [] b behind o = ([], o.0, o.1, o.2, o.3, o.4, refl)
split_at bytes (x ∷ before) b behind o =
    let s = split_at o.1 before b behind o.5 in (
      o.0 ∷ (framed x ++ s.0),
      s.1,
      s.2,
      s.3,
      s.4,
      o.4 ∙ ap (λ (l : List ℕ). o.0 ∷ (framed x ++ l)) s.5 ∙ ap (λ (l : List ℕ). o.0 ∷ l) (sym (append_assoc (framed x) s.0 (s.1 ∷ (framed b ++ s.2)))),
      omega (arith, length-append (framed x) s.0, length-framed x, s.6),
    )

-- a block of this body stands there in the file, before the log's end
pub record Stands (file : List ℕ) (position end : ℕ) (b : Body) : Type 0 where
  pub gate : ℕ
  pub rest : List ℕ
  pub is : drop position file ≡ gate ∷ (framed b ++ rest)
  pub body_is : drop (position + 9) file ≡ b ++ rest
  pub is_open : gate ≢ 0
  pub fits : length b < 2 ^ 64
  pub within : position + 10 + length b ≤ length file
  pub before_end : position + 9 + length b ≤ end

extent-append : (xs ys : List Body) → extent (xs ++ ys) ≡ extent xs + extent ys
extent-append [] ys = omega arith
extent-append (x ∷ xs) ys = omega (arith, extent-append xs ys)

pub stands_at : (log : BlockLog) (bodies : List Body) (state : FileState) (position : ℕ) (b : Body) → IsOpen log bodies state → HasBlockAt bodies position b → Stands state.seen position log.end b
stands_at log bodies state position b opened at =
    let has = opened.rest state.seen (inl refl) in
    let s = split_at has.front at.before b at.behind (subst (AreBlocks has.front) at.is has.blocks) in
    let rest = s.2 ++ 0 ∷ has.tail in
    let whole : state.seen ≡ s.0 ++ s.1 ∷ (framed b ++ rest) =
    has.is ∙ ap (λ (l : List ℕ). l ++ 0 ∷ has.tail) s.5 ∙ append_assoc s.0 (s.1 ∷ (framed b ++ s.2)) (0 ∷ has.tail) ∙ ap (λ (l : List ℕ). s.0 ++ s.1 ∷ l) (append_assoc (framed b) s.2 (0 ∷ has.tail)) in
    let head = s.0 ++ s.1 ∷ to_be_bytes w64 (length b) in
    let apart : state.seen ≡ head ++ (b ++ rest) =
    whole ∙ ap (λ (l : List ℕ). s.0 ++ s.1 ∷ l) (append_assoc (to_be_bytes w64 (length b)) b rest) ∙ sym (append_assoc s.0 (s.1 ∷ to_be_bytes w64 (length b)) (b ++ rest)) in
    record {
      gate = s.1;
      rest = rest;
      is = ap (drop position) whole ∙ drop_at s.0 (s.1 ∷ (framed b ++ rest)) position (s.6 ∙ sym at.place_is);
      body_is = ap (drop (position + 9)) apart ∙ drop_at head (b ++ rest) (position + 9) (omega (arith, length-append s.0 (s.1 ∷ to_be_bytes w64 (length b)), s.6, at.place_is));
      is_open = s.3;
      fits = s.4;
      within = omega (arith, ap length whole, length-append s.0 (s.1 ∷ (framed b ++ rest)), length-append (framed b) rest, length-framed b, length-append s.2 (0 ∷ has.tail), s.6, at.place_is);
      before_end = omega (arith, opened.knows.end, ap extent at.is, extent-append at.before (b ∷ at.behind), at.place_is);
    }

-- what its head says
pub head_read : (file : List ℕ) (position end : ℕ) (b : Body) (s : Stands file position end b) (bytes : List ℕ) (gate len : ℕ) → bytes ≡ take 9 (drop position file) → bytes ≡ gate ∷ to_be_bytes w64 len → len < 2 ^ 64 → (gate ≢ 0) × (len ≡ length b)
head_read file position end b s bytes gate len read is small =
    let there : take 9 (drop position file) ≡ s.gate ∷ to_be_bytes w64 (length b) =
    ap (take 9) (s.is ∙ ap (λ (l : List ℕ). s.gate ∷ l) (append_assoc (to_be_bytes w64 (length b)) b s.rest)) ∙ take_at (s.gate ∷ to_be_bytes w64 (length b)) (b ++ s.rest) 9 (omega arith) in
    let parts = heads gate s.gate (to_be_bytes w64 len) (to_be_bytes w64 (length b)) (sym is ∙ read ∙ there) in
    (λ shut. s.is_open (sym parts.0 ∙ shut), sym (from_be_bytes-to_be_bytes_8 len small) ∙ ap (from_be_bytes w64) parts.1 ∙ from_be_bytes-to_be_bytes_8 (length b) s.fits)

pub body_read : (file : List ℕ) (position end : ℕ) (b : Body) (s : Stands file position end b) (n : ℕ) (bytes : List ℕ) → n ≡ length b → bytes ≡ take n (drop (position + 9) file) → bytes ≡ b
body_read file position end b s n bytes size read = read ∙ ap (take n) s.body_is ∙ take_at b s.rest n (sym size)

-- a disk that never tells has no moment now
pub untold : (a : List Moment) → WhereTold a (λ m. ⊥) → newest a ≡ None
untold [] never = refl
untold (m ∷ past) never = absurd (never m refl)

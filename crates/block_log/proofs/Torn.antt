-- What writes of a block and of its gate leave of a file of blocks.
use Rattle.std.proofs.Common.{◌≡◌, ◌⊎◌, inl, inr, ℕ, ◌+◌, ◌<◌, ◌≤◌, ◌^◌, List, [], ◌∷◌, ◌++◌, length, get_or, take, drop, sym, ◌∙◌, ap, arith, append_assoc, length-append, take-append-drop}
use Rattle.std.proofs.lemmas.Bool.{cases_eq}
use Rattle.std.proofs.lemmas.List.{take_at, drop_at, drop_more}
use Rattle.sf_disk.specs.Images.{Torn, patched}
use Rattle.block_log.specs.Blocks.{Body, framed, AreBlocks, extent, HasBlocks}
use Rattle.block_log.proofs.Bytes.{length-blocks, blocks_push}

-- a block stands behind the closed gate
pub record Staged (file : List ℕ) (bs : List Body) (b : Body) : Type 0 where
  pub front : List ℕ
  pub tail : List ℕ
  pub blocks : AreBlocks front bs
  pub is : file ≡ front ++ 0 ∷ (framed b ++ 0 ∷ tail)

module _ (bs : List Body) where
  to_gate : (d : List ℕ) (has : HasBlocks d bs) → take (extent bs + 1) d ≡ has.front ++ 0 ∷ []
  to_gate d has =
      let size : length (has.front ++ 0 ∷ []) ≡ extent bs + 1 = omega (arith, length-append has.front (0 ∷ []), length-blocks has.front bs has.blocks) in
      ap (take (extent bs + 1)) (has.is ∙ sym (append_assoc has.front (0 ∷ []) has.tail)) ∙ take_at (has.front ++ 0 ∷ []) has.tail (extent bs + 1) size

  -- blocks and closed gate stand in each outcome of a write behind them
  pub torn_behind : (n : ℕ) (d c : List ℕ) → HasBlocks d bs → Torn (extent bs + 1) n d c → HasBlocks c bs
  torn_behind n d c has torn = record {
    front = has.front;
    tail = drop (extent bs + 1) c;
    blocks = has.blocks;
    is = sym (take-append-drop (extent bs + 1) c) ∙ ap (λ (l : List ℕ). l ++ drop (extent bs + 1) c) (torn.before ∙ to_gate d has) ∙ append_assoc has.front (0 ∷ []) (drop (extent bs + 1) c);
  }

  pub written_behind : (b : Body) (d c : List ℕ) → HasBlocks d bs → c ≡ patched d (extent bs + 1) (framed b ++ 0 ∷ []) → Staged c bs b
  written_behind b d c has is =
      let bytes = framed b ++ 0 ∷ [] in
      let tail = drop (extent bs + 1 + length bytes) d in
      record {
        front = has.front;
        tail = tail;
        blocks = has.blocks;
        is = is ∙ ap (λ (l : List ℕ). l ++ bytes ++ tail) (to_gate d has) ∙ append_assoc (has.front ++ 0 ∷ []) bytes tail ∙ append_assoc has.front (0 ∷ []) (bytes ++ tail) ∙ ap (λ (l : List ℕ). has.front ++ 0 ∷ l) (append_assoc (framed b) (0 ∷ []) tail);
      }

  -- The block stands whole behind whatever gate a crash leaves.
  whole_block : (b : Body) → length b < 2 ^ 64 → (front tail : List ℕ) (gate : ℕ) (c : List ℕ) → AreBlocks front bs → c ≡ front ++ gate ∷ (framed b ++ 0 ∷ tail) → HasBlocks c bs ⊎ HasBlocks c (bs ++ b ∷ [])
  whole_block b fits front tail gate c blocks is = elim (cases_eq gate 0) [
    | inl shut ↦ inl (record { front = front; tail = framed b ++ 0 ∷ tail; blocks = blocks; is = is ∙ ap (λ (g : ℕ). front ++ g ∷ (framed b ++ 0 ∷ tail)) shut })
    | inr opened ↦ inr (record { front = front ++ gate ∷ framed b; tail = tail; blocks = blocks_push front bs b gate opened fits blocks; is = is ∙ sym (append_assoc front (gate ∷ framed b) (0 ∷ tail)) })
  ]

  before_gate : (b : Body) (d : List ℕ) (staged : Staged d bs b) → take (extent bs) d ≡ staged.front
  before_gate b d staged = ap (take (extent bs)) staged.is ∙ take_at staged.front (0 ∷ (framed b ++ 0 ∷ staged.tail)) (extent bs) (length-blocks staged.front bs staged.blocks)

  behind_gate : (b : Body) (d : List ℕ) (staged : Staged d bs b) → drop (extent bs + 1) d ≡ framed b ++ 0 ∷ staged.tail
  behind_gate b d staged =
      let behind = framed b ++ 0 ∷ staged.tail in
      ap (drop (extent bs + 1)) (staged.is ∙ sym (append_assoc staged.front (0 ∷ []) behind)) ∙ drop_at (staged.front ++ 0 ∷ []) behind (extent bs + 1) (omega (arith, length-append staged.front (0 ∷ []), length-blocks staged.front bs staged.blocks))

  pub gate_within : (b : Body) (d : List ℕ) → Staged d bs b → extent bs + 1 ≤ length d
  gate_within b d staged = omega (arith, ap length staged.is, length-append staged.front (0 ∷ (framed b ++ 0 ∷ staged.tail)), length-blocks staged.front bs staged.blocks)

  pub torn_gate : (b : Body) → length b < 2 ^ 64 → (d c : List ℕ) → Staged d bs b → Torn (extent bs) 1 d c → HasBlocks c bs ⊎ HasBlocks c (bs ++ b ∷ [])
  torn_gate b fits d c staged torn =
      let gate = get_or c (extent bs) 0 in
      let long : extent bs < length c = omega (arith, torn.no_shorter, gate_within b d staged) in
      let rest : drop (extent bs) c ≡ gate ∷ (framed b ++ 0 ∷ staged.tail) = drop_more c (extent bs) 0 long ∙ ap (λ (l : List ℕ). gate ∷ l) (torn.behind ∙ behind_gate b d staged) in
      whole_block b fits staged.front staged.tail gate c staged.blocks (sym (take-append-drop (extent bs) c) ∙ ap (λ (l : List ℕ). l ++ drop (extent bs) c) (torn.before ∙ before_gate b d staged) ∙ ap (λ (l : List ℕ). staged.front ++ l) rest)

  pub written_gate : (b : Body) → length b < 2 ^ 64 → (d c : List ℕ) → Staged d bs b → c ≡ patched d (extent bs) (1 ∷ []) → HasBlocks c (bs ++ b ∷ [])
  written_gate b fits d c staged is = record {
    front = staged.front ++ 1 ∷ framed b;
    tail = staged.tail;
    blocks = blocks_push staged.front bs b 1 (omega arith) fits staged.blocks;
    is = is ∙ append_assoc (take (extent bs) d) (1 ∷ []) (drop (extent bs + 1) d) ∙ ap (λ (l : List ℕ). l ++ 1 ∷ drop (extent bs + 1) d) (before_gate b d staged) ∙ ap (λ (l : List ℕ). staged.front ++ 1 ∷ l) (behind_gate b d staged)
        ∙ sym (append_assoc staged.front (1 ∷ framed b) (0 ∷ staged.tail));
  }

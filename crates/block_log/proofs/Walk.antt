-- A walk over the blocks of a file, from gate to gate.
use Rattle.std.proofs.Common.{◌≡◌, ℕ, ◌+◌, ◌≤◌, List, [], ◌∷◌, ◌++◌, length, drop, refl, sym, ◌∙◌, ap, arith, append_assoc}
use Rattle.std.proofs.lemmas.List.{drop_at}
use Rattle.block_log.specs.declared.log.BlockLog.{BlockLog}
use Rattle.block_log.specs.declared.gate.Gate.TheVariants.{Closed, Block, Cut}
use Rattle.block_log.specs.Blocks.{Body, framed, AreBlocks, extent, places_from, IsNoLog}
use Rattle.block_log.specs.Finding.{Begins}
use Rattle.block_log.specs.Logs.{EndsAt}
use Rattle.block_log.proofs.Bytes.{length-blocks, blocks_push, extent-push, places_push}

-- whole blocks up to a place
pub record Walked (file : List ℕ) (at : ℕ) (places : List ℕ) : Type 0 where
  pub bodies : List Body
  pub front : List ℕ
  pub rest : List ℕ
  pub blocks : AreBlocks front bodies
  pub is : file ≡ front ++ rest
  pub at_is : at ≡ extent bodies
  pub places_are : places ≡ places_from 0 bodies

pub starts : (file : List ℕ) → Walked file 0 []
starts file = record { bodies = []; front = []; rest = file; blocks = refl; is = refl; at_is = refl; places_are = refl }

module _ (file : List ℕ) (at : ℕ) (places : List ℕ) (w : Walked file at places) where
  rest_there : drop at file ≡ w.rest
  rest_there = ap (drop at) w.is ∙ drop_at w.front w.rest at (length-blocks w.front w.bodies w.blocks ∙ sym w.at_is)

  pub ends_here : Begins Closed (drop at file) → (log : BlockLog) → log.end ≡ at → log.blocks ≡ places → EndsAt log file
  ends_here closed log end blocks = (
    w.bodies,
    record { front = w.front; tail = closed.0; blocks = w.blocks; is = w.is ∙ ap (λ (l : List ℕ). w.front ++ l) (sym rest_there ∙ closed.1) },
    record { blocks = blocks ∙ w.places_are; end = end ∙ w.at_is },
  )

  pub refused : Begins Cut (drop at file) → 10 ≤ length file → IsNoLog file at
  refused cut long = record {
    bodies = w.bodies;
    front = w.front;
    gate = cut.0;
    tail = cut.1;
    blocks = w.blocks;
    is = w.is ∙ ap (λ (l : List ℕ). w.front ++ l) (sym rest_there ∙ cut.3);
    place_is = w.at_is ∙ sym (length-blocks w.front w.bodies w.blocks);
    is_open = cut.2;
    cut = cut.4;
    long = long;
  }

  pub passes : (len next : ℕ) → Begins (Block len) (drop at file) → next ≡ at + (9 + len) → Walked file next (places ++ at ∷ [])
  passes len next block is =
      let body = block.1 in
      record {
        bodies = w.bodies ++ body ∷ [];
        front = w.front ++ block.0 ∷ framed body;
        rest = block.2;
        blocks = blocks_push w.front w.bodies body block.0 block.3 (omega (arith, block.4, block.5)) w.blocks;
        is = w.is ∙ ap (λ (l : List ℕ). w.front ++ l) (sym rest_there ∙ block.6) ∙ sym (append_assoc w.front (block.0 ∷ framed body) block.2);
        at_is = omega (arith, is, w.at_is, block.4, extent-push w.bodies body);
        places_are = ap (λ (l : List ℕ). l ++ at ∷ []) w.places_are ∙ ap (λ (n : ℕ). places_from 0 w.bodies ++ n ∷ []) w.at_is ∙ sym (places_push w.bodies body);
      }

-- The four calls of an append: what each leads to, and what a crash in it leaves.
use Rattle.std.proofs.Common.{◌≡◌, ◌⊎◌, inl, ℕ, ◌+◌, ◌^◌, ◌<◌, ◌≤◌, List, [], ◌∷◌, ◌++◌, length, refl, sym, ◌∙◌, ap, subst, arith}
use Rattle.sf_disk.specs.Images.{FileState, Follows, Done, Synced, IsSynced, Torn, Same, patched}
use Rattle.sf_disk.specs.Moments.{Moment, Since, Becomes, InFile, WhereTold}
use Rattle.sf_disk.proofs.Onward.{Along, along_first, along_all, along_next, along_now, file_as, told_now}
use Rattle.block_log.specs.declared.log.BlockLog.{BlockLog}
use Rattle.block_log.specs.Blocks.{Body, framed, extent, places_from, HasBlocks}
use Rattle.block_log.specs.Logs.{AtRest, IsOpen, WithOrWithout, Adds, Added}
use Rattle.block_log.proofs.Bytes.{extent-push, places_push, end_within}
use Rattle.block_log.proofs.Torn.{Staged, torn_behind, written_behind, torn_gate, written_gate, gate_within}

-- the block was written behind the gate
pub record Behind (log : BlockLog) (b : Body) (old new : FileState) : Type 0 where
  pub rest : (bs : List Body) → IsOpen log bs old → AtRest new bs
  pub staged : (bs : List Body) → IsOpen log bs old → Staged new.seen bs b

-- and synced
pub record Kept (log : BlockLog) (b : Body) (old new : FileState) : Type 0 where
  pub all : IsSynced new
  pub staged : (bs : List Body) → IsOpen log bs old → Staged new.seen bs b

-- the gate was opened
pub record GateOpened (log : BlockLog) (b : Body) (old new : FileState) : Type 0 where
  pub either : (bs : List Body) → IsOpen log bs old → WithOrWithout bs b new
  pub seen : (bs : List Body) → IsOpen log bs old → HasBlocks new.seen (bs ++ b ∷ [])

module _ (log : BlockLog) (b : Body) (fits : length b < 2 ^ 64) where
  torn_1 : (n : ℕ) (old new : FileState) → Follows (Torn (log.end + 1) n) old new → (bs : List Body) → IsOpen log bs old → AtRest new bs
  torn_1 n old new follows bs opened = λ c left.
      let from = follows.crash c left in
      torn_behind bs n from.0 c (opened.rest from.0 from.1) (subst (λ (e : ℕ). Torn (e + 1) n from.0 c) opened.knows.end from.2)

  err_1 : (n : ℕ) (old new : FileState) → Follows (Torn (log.end + 1) n) old new → Adds log b old new
  err_1 n old new follows = λ bs opened c left. inl (torn_1 n old new follows bs opened c left)

  ok_1 : (bytes : List ℕ) → bytes ≡ framed b ++ 0 ∷ [] → (old new : FileState) → Done (Torn (log.end + 1) (length bytes)) (λ d. patched d (log.end + 1) bytes) old new → Behind log b old new
  ok_1 bytes is old new done = record {
    rest = torn_1 (length bytes) old new done.follows;
    staged = λ bs opened. written_behind bs b old.seen new.seen (opened.rest old.seen (inl refl))
        (done.seen ∙ ap (λ (e : ℕ). patched old.seen (e + 1) bytes) opened.knows.end ∙ ap (λ (l : List ℕ). patched old.seen (extent bs + 1) l) is);
  }

  err_2 : (old mid new : FileState) → Behind log b old mid → Follows Same mid new → Adds log b old new
  err_2 old mid new behind follows = λ bs opened c left.
      let from = follows.crash c left in
      inl (subst (λ (l : List ℕ). HasBlocks l bs) (sym from.2) (behind.rest bs opened from.0 from.1))

  ok_2 : (old mid new : FileState) → Behind log b old mid → Synced mid new → Kept log b old new
  ok_2 old mid new behind synced = record {
    all = synced.all;
    staged = λ bs opened. subst (λ (l : List ℕ). Staged l bs b) (sym synced.follows.reads) (behind.staged bs opened);
  }

  err_3 : (old mid new : FileState) → Kept log b old mid → Follows (Torn log.end 1) mid new → Adds log b old new
  err_3 old mid new kept follows = λ bs opened c left.
      let from = follows.crash c left in
      torn_gate bs b fits from.0 c (subst (λ (l : List ℕ). Staged l bs b) (sym (kept.all from.0 from.1)) (kept.staged bs opened)) (subst (λ (e : ℕ). Torn e 1 from.0 c) opened.knows.end from.2)

  ok_3 : (old mid new : FileState) → Kept log b old mid → Done (Torn log.end 1) (λ d. patched d log.end (1 ∷ [])) mid new → GateOpened log b old new
  ok_3 old mid new kept done = record {
    either = err_3 old mid new kept done.follows;
    seen = λ bs opened. written_gate bs b fits mid.seen new.seen (kept.staged bs opened) (done.seen ∙ ap (λ (e : ℕ). patched mid.seen e (1 ∷ [])) opened.knows.end);
  }

  err_4 : (old mid new : FileState) → GateOpened log b old mid → Follows Same mid new → Adds log b old new
  err_4 old mid new gate follows = λ bs opened c left.
      let from = follows.crash c left in
      subst (λ (l : List ℕ). HasBlocks l bs ⊎ HasBlocks l (bs ++ b ∷ [])) (sym from.2) (gate.either bs opened from.0 from.1)

  ok_4 : (now : BlockLog) → now.end ≡ log.end + 9 + length b → now.blocks ≡ log.blocks ++ log.end ∷ [] → (old mid new : FileState) → GateOpened log b old mid → Synced mid new → Added log now b old new
  ok_4 now end blocks old mid new gate synced bs opened = record {
    rest = λ c left. subst (λ (l : List ℕ). HasBlocks l (bs ++ b ∷ [])) (sym (synced.all c left ∙ synced.follows.reads)) (gate.seen bs opened);
    knows = record {
      blocks = blocks ∙ ap (λ (l : List ℕ). l ++ log.end ∷ []) opened.knows.blocks ∙ ap (λ (e : ℕ). places_from 0 bs ++ e ∷ []) opened.knows.end ∙ sym (places_push bs b);
      end = omega (arith, end, opened.knows.end, extent-push bs b);
    };
  }

  -- the premises of the two writes
  pub behind_end : (file : ℕ) (a : List Moment) → WhereTold a (λ m. (bs : List Body) × IsOpen log bs (m file)) → WhereTold a (λ m. log.end + 1 ≤ length (m file).seen)
  behind_end file a opened = λ m told. let o = opened m told in omega (arith, o.1.knows.end, end_within (m file).seen o.0 (o.1.rest (m file).seen (inl refl)))

  -- the exits, in the order of the calls
  module _ (file : ℕ) (bytes : List ℕ) (is : bytes ≡ framed b ++ 0 ∷ []) (a0 a1 : List Moment) (since_1 : Since a0 a1 (InFile file (Follows (Torn (log.end + 1) (length bytes))))) where
    pub exit_1 : Since a0 a1 (InFile file (Adds log b))
    exit_1 = file_as file a0 a1 (Follows (Torn (log.end + 1) (length bytes))) (Adds log b) since_1 (λ m n told. err_1 (length bytes) (m file) n)

    module _ (now_1 : Becomes a0 a1 (InFile file (Done (Torn (log.end + 1) (length bytes)) (λ d. patched d (log.end + 1) bytes)))) (a2 : List Moment) (since_2 : Since a1 a2 (InFile file (Follows Same))) where
      along_1 : Along file a0 a1 (Adds log b) (Behind log b)
      along_1 = along_first file a0 a1 (Follows (Torn (log.end + 1) (length bytes))) (Done (Torn (log.end + 1) (length bytes)) (λ d. patched d (log.end + 1) bytes)) (Adds log b) (Behind log b) since_1 now_1 (err_1 (length bytes)) (ok_1 bytes is)

      pub exit_2 : Since a0 a2 (InFile file (Adds log b))
      exit_2 = along_all file a0 a1 a2 (Adds log b) (Behind log b) (Follows Same) along_1 since_2 err_2

      module _ (now_2 : Becomes a1 a2 (InFile file Synced)) where
        along_2 : Along file a0 a2 (Adds log b) (Kept log b)
        along_2 = along_next file a0 a1 a2 (Adds log b) (Behind log b) (Follows Same) Synced (Kept log b) along_1 since_2 now_2 err_2 ok_2

        pub gate_there : WhereTold a0 (λ m. (bs : List Body) × IsOpen log bs (m file)) → WhereTold a2 (λ m. log.end ≤ length (m file).seen)
        gate_there opened = told_now a0 a2 (InFile file (Kept log b)) (InFile file (Adds log b)) (λ m. log.end ≤ length (m file).seen) along_2.all along_2.now (λ m k told kept.
            let o = opened m told in
            omega (arith, o.1.knows.end, gate_within o.0 b (k file).seen (kept.here.staged o.0 o.1)))

        module _ (a3 : List Moment) (since_3 : Since a2 a3 (InFile file (Follows (Torn log.end 1)))) where
          pub exit_3 : Since a0 a3 (InFile file (Adds log b))
          exit_3 = along_all file a0 a2 a3 (Adds log b) (Kept log b) (Follows (Torn log.end 1)) along_2 since_3 err_3

          module _ (now_3 : Becomes a2 a3 (InFile file (Done (Torn log.end 1) (λ d. patched d log.end (1 ∷ []))))) (a4 : List Moment) (since_4 : Since a3 a4 (InFile file (Follows Same))) where
            along_3 : Along file a0 a3 (Adds log b) (GateOpened log b)
            along_3 = along_next file a0 a2 a3 (Adds log b) (Kept log b) (Follows (Torn log.end 1)) (Done (Torn log.end 1) (λ d. patched d log.end (1 ∷ []))) (GateOpened log b) along_2 since_3 now_3 err_3 ok_3

            pub exit_4 : Since a0 a4 (InFile file (Adds log b))
            exit_4 = along_all file a0 a3 a4 (Adds log b) (GateOpened log b) (Follows Same) along_3 since_4 err_4

            pub added : (now : BlockLog) → now.end ≡ log.end + 9 + length b → now.blocks ≡ log.blocks ++ log.end ∷ [] → Becomes a3 a4 (InFile file Synced) → Becomes a0 a4 (InFile file (Added log now b))
            added now end blocks now_4 = along_now file a0 a3 a4 (Adds log b) (GateOpened log b) Synced (Added log now b) along_3 now_4 (ok_4 now end blocks)

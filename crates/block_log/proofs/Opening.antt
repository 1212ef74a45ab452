-- What opening a log leads to, and what a crash in it leaves.
use Rattle.std.proofs.Common.{◌≡◌, inl, inr, ℕ, ◌<◌, List, [], ◌∷◌, length, drop, refl, sym, ◌∙◌, ap, subst, arith}
use Rattle.sf_disk.specs.Images.{FileState, IsSynced, Follows, Done, Synced, Torn, Same, patched}
use Rattle.sf_disk.specs.Moments.{Moment, Since, Becomes, InFile, WhereTold}
use Rattle.sf_disk.proofs.Onward.{Along, along_first, along_all, along_now, file_as, file_becomes, file_stays, told_now}
use Rattle.block_log.specs.declared.log.BlockLog.{BlockLog}
use Rattle.block_log.specs.Blocks.{Body, HasBlocks, StandsFor, Keeps}
use Rattle.block_log.specs.Logs.{IsOpened, EndsAt}
use Rattle.block_log.specs.Mending.{IsShort, Mended}
use Rattle.block_log.proofs.Bytes.{end_within}

-- a file too short for a block has none
pub few_blocks : (file : List ℕ) (bs : List Body) → length file < 10 → HasBlocks file bs → bs ≡ []
few_blocks file [] few has = refl
few_blocks file (b ∷ bs) few has = absurd (omega (arith, few, end_within file (b ∷ bs) has))

kept_then : (x y z : FileState) → Follows Keeps x y → Follows Keeps y z → Follows Keeps x z
kept_then x y z first second = record {
  crash = λ c left. let d = second.crash c left in let e = first.crash d.0 d.1 in (e.0, e.1, λ bs stands. d.2 bs (e.2 bs stands));
  reads = λ bs stands. second.reads bs (first.reads bs stands);
}

kept_same : (a b : List ℕ) → Same a b → Keeps a b
kept_same a b same = λ bs stands. subst (λ (l : List ℕ). StandsFor l bs) (sym same) stands

pub same_keeps : (x y : FileState) → Follows Same x y → Follows Keeps x y
same_keeps x y follows = record {
  crash = λ c left. let d = follows.crash c left in (d.0, d.1, kept_same d.0 c d.2);
  reads = kept_same x.seen y.seen follows.reads;
}

kept_none : (x : FileState) → Follows Keeps x x
kept_none x = record { crash = λ c left. (c, left, λ bs stands. stands); reads = λ bs stands. stands }

few_keeps : (d c : List ℕ) → length d < 10 → length c < 10 → Keeps d c
few_keeps d c few few_now bs (inl has) = inr (few_now, few_blocks d bs few has)
few_keeps d c few few_now bs (inr none) = inr (few_now, none.1)

torn_few : (len : ℕ) → len < 10 → (x y : FileState) → IsShort len x → Follows (Torn 0 1) x y → Follows Keeps x y
torn_few len few x y short follows =
    let small = λ (d : List ℕ) (is : d ≡ x.seen). let r : length d < 10 = omega (arith, few, short.len_is, ap length is) in r in
    record {
      crash = λ c left.
          let d = follows.crash c left in
          let before = small d.0 (short.all d.0 d.1) in
          (d.0, d.1, few_keeps d.0 c before (omega (arith, before, d.2.no_longer)));
      reads = let before = small x.seen refl in few_keeps x.seen y.seen before (omega (arith, before, follows.reads.no_longer));
    }

-- the first gate was written
pub record Gated (old new : FileState) : Type 0 where
  pub follows : Follows Keeps old new
  pub tail : List ℕ
  pub seen : new.seen ≡ 0 ∷ tail

mended : (x y z : FileState) → Gated x y → Synced y z → Mended x z
mended x y z gate synced = record {
  follows = kept_then x y z gate.follows (same_keeps y z synced.follows);
  rest = λ c left. record { front = []; tail = gate.tail; blocks = refl; is = synced.all c left ∙ synced.follows.reads ∙ gate.seen };
}

module _ (file len : ℕ) (few : len < 10) (a : List Moment) (short : WhereTold a (λ m. IsShort len (m file))) where
  pub mending_1 : (b : List Moment) → Since a b (InFile file (Follows (Torn 0 1))) → Since a b (InFile file (Follows Keeps))
  mending_1 b since = file_as file a b (Follows (Torn 0 1)) (Follows Keeps) since (λ m n told follows. torn_few len few (m file) n (short m told) follows)

  gating : (b : List Moment) → Since a b (InFile file (Follows (Torn 0 1))) → Becomes a b (InFile file (Done (Torn 0 1) (λ d. patched d 0 (0 ∷ [])))) → Along file a b (Follows Keeps) Gated
  gating b since becomes = record {
    all = mending_1 b since;
    now = file_becomes file a b (Done (Torn 0 1) (λ d. patched d 0 (0 ∷ []))) Gated becomes (λ m n told done. record { follows = torn_few len few (m file) n (short m told) done.follows; tail = drop 1 (m file).seen; seen = done.seen });
  }

  module _ (b d : List Moment) (since : Since a b (InFile file (Follows (Torn 0 1)))) (becomes : Becomes a b (InFile file (Done (Torn 0 1) (λ d. patched d 0 (0 ∷ []))))) where
    pub mending_2 : Since b d (InFile file (Follows Same)) → Since a d (InFile file (Follows Keeps))
    mending_2 next = along_all file a b d (Follows Keeps) Gated (Follows Same) (gating b since becomes) next (λ m k n gate follows. kept_then m k n gate.follows (same_keeps k n follows))

    pub mending : Becomes b d (InFile file Synced) → Becomes a d (InFile file Mended)
    mending next = along_now file a b d (Follows Keeps) Gated Synced Mended (gating b since becomes) next mended

  pub nothing_to_mend : (b : List Moment) → b ≡ a → WhereTold a (λ m. (tail : List ℕ) × ((m file).seen ≡ 0 ∷ tail)) → Becomes a b (InFile file Mended)
  nothing_to_mend b same closed = file_stays file a b Mended same (λ m told. let t = closed m told in record {
    follows = kept_none (m file);
    rest = λ c left. record { front = []; tail = t.0; blocks = refl; is = (short m told).all c left ∙ t.1 };
  })

-- the first sync
pub started : (file : ℕ) (a b : List Moment) → Since a b (InFile file (Follows Same)) → Becomes a b (InFile file Synced) → Along file a b (Follows Keeps) Synced
started file a b since becomes = along_first file a b (Follows Same) Synced (Follows Keeps) Synced since becomes same_keeps (λ m n synced. synced)

module _ (file : ℕ) (a b : List Moment) (along : Along file a b (Follows Keeps) Synced) where
  pub is_short : (len : ℕ) → WhereTold b (λ m. len ≡ length (m file).seen) → WhereTold b (λ m. IsShort len (m file))
  is_short len sized = λ k told.
      let all = told_now a b (InFile file Synced) (InFile file (Follows Keeps)) (λ m. IsSynced (m file)) along.all along.now (λ m n is synced. synced.here.all) in
      record { len_is = sized k told; all = all k told }

  pub opening : (d : List Moment) → Since b d (InFile file (Follows Keeps)) → Since a d (InFile file (Follows Keeps))
  opening d since = along_all file a b d (Follows Keeps) Synced (Follows Keeps) along since (λ m k n synced follows. kept_then m k n (same_keeps m k synced.follows) follows)

  pub opened_short : (len : ℕ) → len < 10 → WhereTold b (λ m. len ≡ length (m file).seen) → (d : List Moment) (log : BlockLog) → log.end ≡ 0 → log.blocks ≡ [] → Becomes b d (InFile file Mended) → Becomes a d (InFile file (IsOpened log))
  opened_short len few sized d log end blocks becomes = λ m told.
      let k = along.now m told in
      let n = becomes k.0 k.1 in (
        n.0,
        n.1,
        record {
          others = λ other differs. n.2.others other differs ∙ k.2.others other differs;
          here = record {
            follows = kept_then (m file) (k.0 file) (n.0 file) (same_keeps (m file) (k.0 file) k.2.here.follows) n.2.here.follows;
            bodies = [];
            stood = inr (omega (arith, few, sized k.0 k.1, ap length k.2.here.follows.reads), refl);
            is_open = record { rest = n.2.here.rest; knows = record { blocks = blocks; end = end } };
          };
        },
      )

  pub opened_long : (log : BlockLog) → WhereTold b (λ m. EndsAt log (m file).seen) → Becomes a b (InFile file (IsOpened log))
  opened_long log ends = λ m told.
      let k = along.now m told in
      let e = ends k.0 k.1 in (
        k.0,
        k.1,
        record {
          others = k.2.others;
          here = record {
            follows = same_keeps (m file) (k.0 file) k.2.here.follows;
            bodies = e.0;
            stood = inl (subst (λ (l : List ℕ). HasBlocks l e.0) k.2.here.follows.reads e.1);
            is_open = record { rest = λ c left. subst (λ (l : List ℕ). HasBlocks l e.0) (sym (k.2.here.all c left)) e.1; knows = e.2 };
          };
        },
      )

-- a call between that leaves all moments
pub since_from : (a b d : List Moment) (R : Moment → Moment → Type 0) → b ≡ a → Since b d R → Since a d R
since_from a b d R same since = subst (λ (l : List Moment). Since l d R) same since

pub becomes_from : (a b d : List Moment) (R : Moment → Moment → Type 0) → b ≡ a → Becomes b d R → Becomes a d R
becomes_from a b d R same becomes = subst (λ (l : List Moment). Becomes l d R) same becomes

pub since_to : (a b d : List Moment) (R : Moment → Moment → Type 0) → d ≡ b → Since a b R → Since a d R
since_to a b d R same since = subst (λ (l : List Moment). Since a l R) (sym same) since

pub becomes_to : (a b d : List Moment) (R : Moment → Moment → Type 0) → d ≡ b → Becomes a b R → Becomes a d R
becomes_to a b d R same becomes = subst (λ (l : List Moment). Becomes a l R) (sym same) becomes

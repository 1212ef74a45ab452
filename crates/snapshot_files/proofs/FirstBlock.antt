-- The first block of a manifest.
use Rattle.std.proofs.Common.{◌≡◌, ◌≢◌, inl, inr, ⊎_elim, ℕ, List, [], ◌∷◌, ◌≤◌, length, slice_index_or, None, Some, Result, Ok, Err, arith, refl, sym, ap, subst}
use Rattle.sf_disk.specs.Images.{FileState, Leaves, Follows}
use Rattle.block_log.specs.declared.log.BlockLog.{BlockLog}
use Rattle.block_log.specs.Blocks.{Body, StandsFor}
use Rattle.block_log.specs.Logs.{IsOpen, HasBlockAt, Adds, Added}
use Rattle.block_log.proofs.Unique.{stands_for_one}
use Rattle.folder_form.specs.Folders.{job_in}
use Rattle.snapshot_files.specs.Opening.{Begins}
use Rattle.snapshot_files.specs.Steps.{Begun, HasText, JobWritten}
use Rattle.std.specs.Result.{OnOk}
use Rattle.sf_disk.specs.Moments.{Moment, Becomes, InFile}
use Rattle.sf_disk.proofs.Onward.{becomes_as, becomes_now}
use Rattle.store_faults.specs.declared.fault.StoreFault.{StoreFault}

pub no_blocks : (log : BlockLog) (bodies : List Body) (state : FileState) → log.blocks ≡ [] → IsOpen log bodies state → bodies ≡ []
no_blocks log [] state none opened = refl
no_blocks log (job ∷ rest) state none opened = let some : 1 ≤ 0 = omega (arith, ap length none, ap length opened.knows.blocks) in absurd (omega (arith, some))

-- where there is a block
pub first_block : (log : BlockLog) (bodies : List Body) (state : FileState) → log.blocks ≢ [] → IsOpen log bodies state
    → (job : Body) × (rest : List Body) × (bodies ≡ job ∷ rest) × HasBlockAt bodies (slice_index_or log.blocks 0 0) job
first_block log [] state some opened = absurd (some opened.knows.blocks)
first_block log (job ∷ rest) state some opened = (job, rest, refl, record { before = []; behind = rest; is = refl; place_is = ap (λ (l : List ℕ). slice_index_or l 0 0) opened.knows.blocks })

pub first_place : (log : BlockLog) (bodies : List Body) (state : FileState) → log.blocks ≢ [] → IsOpen log bodies state → slice_index_or log.blocks 0 0 ≡ 0
first_place log [] state some opened = absurd (some opened.knows.blocks)
first_place log (job ∷ rest) state some opened = ap (λ (l : List ℕ). slice_index_or l 0 0) opened.knows.blocks

-- ---- the job is written

module _ (log : BlockLog) (text : List ℕ) (body : Body) (is_text : job_in body ≡ Some text) where
  pub begins : (old new : FileState) → IsOpen log [] old → Adds log body old new → Follows (Begins text) old new
  begins old new opened adds = record { crash = λ bytes left. (old.seen, inl refl, from bytes left); reads = from new.seen (inl refl) }
    where
      from : (bytes : List ℕ) → Leaves new bytes → Begins text old.seen bytes
      from bytes left = λ bodies stands.
          let none : bodies ≡ [] = stands_for_one old.seen [] bodies (inl (opened.rest old.seen (inl refl))) stands in
          ⊎_elim (λ has. inl (subst (StandsFor bytes) (sym none) (inl has))) (λ has. inr (none, body, is_text, inl has)) (adds [] opened bytes left)

  pub written : (now : BlockLog) (old new : FileState) → Added log now body old new → JobWritten log now text old new
  written now old new added = λ opened. (body, is_text, added [] opened)

-- ---- a manifest begins with the job

pub begun_written : (log now : BlockLog) (text : List ℕ) (a b c : List Moment) → b ≡ a → HasText log a None → (r : Result (Unit {0}) StoreFault) → OnOk r (Becomes b c (InFile 0 (JobWritten log now text))) → OnOk r (Becomes a c (InFile 0 (Begun log now text)))
begun_written log now text a b c same has (Err e) h = tt
begun_written log now text a b c same has (Ok u) h =
    becomes_as a c (InFile 0 (JobWritten log now text)) (InFile 0 (Begun log now text)) (subst (λ (l : List Moment). Becomes l c (InFile 0 (JobWritten log now text))) same h) (λ m n told w. record {
      others = w.others;
      here = λ bodies opened.
          let none = has m told bodies opened in
          let j = w.here (subst (λ (bs : List Body). IsOpen log bs (m 0)) none opened) in
          record { begun = j.0 ∷ []; is_open = j.2; begins = (j.0, [], refl, j.1); either = inr (none, j.0, refl, j.1) };
    })

pub begun_before : (log : BlockLog) (text : List ℕ) (a b : List Moment) → b ≡ a → HasText log a (Some text) → Becomes a b (InFile 0 (Begun log log text))
begun_before log text a b same has = becomes_now a b (InFile 0 (Begun log log text)) same (λ m told. record {
  others = λ other differs. refl;
  here = λ bodies opened. record { begun = bodies; is_open = opened; begins = has m told bodies opened; either = inl refl };
})

-- Folders that were opened stand for what they stood for.
use Rattle.std.proofs.Common.{◌≡◌, ◌≢◌, ◌⊎◌, inl, inr, ℕ, zero, suc, ◌+◌, ◌<◌, ◌≤◌, Bool, true, false, nat_lt, ltb-true, ltb-false, List, refl, sym, subst, arith}
use Rattle.sf_disk.specs.Images.{FileState, Leaves, Follows}
use Rattle.sf_disk.specs.Moments.{Moment, Folder, IsImage, InFile, Others}
use Rattle.block_log.specs.Blocks.{Body, StandsFor, Keeps}
use Rattle.folder_form.specs.Folders.{file_of}
use Rattle.snapshot_files.specs.Stores.{most_partitions, HasForm}
use Rattle.snapshot_files.specs.Opening.{IsOther, OpensKept}
use Rattle.egress_commit.specs.Epochs.{Epoch, HasEpochs, KeepsEpochs}
use Rattle.command_io.specs.Folders.{StandsAs, Stays}

-- ---- each file by itself

-- each file but that of egress has the blocks that it had, and that of egress the epochs
pub record KeepsAll (first later : Moment) : Type 0 where
  pub blocks : (file : ℕ) → file ≢ 1 → Follows Keeps (first file) (later file)
  pub epochs : Follows KeepsEpochs (first 1) (later 1)

kept_now : (a b : FileState) → b ≡ a → Follows Keeps a b
kept_now a b same = record { crash = λ bytes left. (bytes, subst (λ (s : FileState). Leaves s bytes) same left, λ bodies stands. stands); reads = λ bodies stands. subst (λ (s : FileState). StandsFor s.seen bodies) (sym same) stands }

epochs_now : (a b : FileState) → b ≡ a → Follows KeepsEpochs a b
epochs_now a b same = record { crash = λ bytes left. (bytes, subst (λ (s : FileState). Leaves s bytes) same left, λ epochs has. has); reads = λ epochs has. subst (λ (s : FileState). HasEpochs s.seen epochs) (sym same) has }

kept_then : (a b c : FileState) → Follows Keeps a b → c ≡ b → Follows Keeps a c
kept_then a b c follows same = subst (λ (s : FileState). Follows Keeps a s) (sym same) follows

less_or : (a b : ℕ) → (a < b) ⊎ (b ≤ a)
less_or a b = by (nat_lt a b) refl
  where
    by : (t : Bool) → nat_lt a b ≡ t → (a < b) ⊎ (b ≤ a)
    by true e = inl (ltb-true a b e)
    by false e = inr (ltb-false a b e)

module _ (m n : Moment) (o : OpensKept m n) where
  no_log : (file : ℕ) → 18 ≤ file → IsOther file
  no_log file most = (λ same. omega (arith, same, most), λ p less same. omega (arith, same, most, less))

  opened_by : (file : ℕ) → file ≢ 1 → (file < 18) ⊎ (18 ≤ file) → Follows Keeps (m file) (n file)
  opened_by zero other (inl less) = o.manifest
  opened_by (suc zero) other (inl less) = absurd (other refl)
  opened_by (suc (suc p)) other (inl less) = subst (λ (file : ℕ). Follows Keeps (m file) (n file)) (omega arith) (o.logs p (omega (arith, less)))
  opened_by file other (inr most) = kept_now (m file) (n file) (o.others file (no_log file most))

  pub egress_same : n 1 ≡ m 1
  egress_same = o.others 1 (λ same. omega (arith, same), λ p less same. omega (arith, same))

  pub opened_all : KeepsAll m n
  opened_all = record { blocks = λ file other. opened_by file other (less_or file 18); epochs = epochs_now (m 1) (n 1) egress_same }

-- the egress file is opened too
pub opened_egress : (m k n : Moment) → OpensKept m k → InFile 1 (Follows KeepsEpochs) k n → KeepsAll m n
opened_egress m k n o e = record {
  blocks = λ file other. kept_then (m file) (k file) (n file) ((opened_all m k o).blocks file other) (e.others file other);
  epochs = subst (λ (s : FileState). Follows KeepsEpochs s (n 1)) (egress_same m k o) e.here;
}

-- ---- the folder

-- one file's outcome, and the earlier one that it comes from
record Comes (file : ℕ) (first : FileState) (bytes : List ℕ) : Type 0 where
  before : List ℕ
  left : Leaves first before
  keeps : file ≢ 1 → Keeps before bytes
  egress : file ≡ 1 → KeepsEpochs before bytes

module _ (m n : Moment) (all : KeepsAll m n) (folder : Folder) (image : IsImage n folder) where
  comes_egress : Comes 1 (m 1) (folder 1)
  comes_egress = let h = all.epochs.crash (folder 1) (image 1) in record { before = h.0; left = h.1; keeps = λ other. absurd (other refl); egress = λ is. h.2 }

  comes_log : (file : ℕ) → file ≢ 1 → Comes file (m file) (folder file)
  comes_log file other = let h = (all.blocks file other).crash (folder file) (image file) in record { before = h.0; left = h.1; keeps = λ not_egress. h.2; egress = λ is. absurd (other is) }

  comes : (file : ℕ) → Comes file (m file) (folder file)
  comes zero = comes_log zero (λ same. omega (arith, same))
  comes (suc zero) = comes_egress
  comes (suc (suc file)) = comes_log (suc (suc file)) (λ same. omega (arith, same))

  abbrev earlier : Folder
  earlier file = (comes file).before

  pub stays_here : (before : Folder) × IsImage m before × StandsAs before folder
  stays_here = (
    earlier,
    λ file. (comes file).left,
    record {
      form = λ form has. record {
        files = has.files;
        are_logs = record {
          manifest = (comes 0).keeps (λ same. omega (arith, same)) (has.files 0) has.are_logs.manifest;
          logs = λ p less. (comes (file_of p)).keeps (λ same. omega (arith, same)) (has.files (file_of p)) (has.are_logs.logs p less);
        };
        form_is = has.form_is;
      };
      epochs = (comes 1).egress refl;
    },
  )

pub stays : (m n : Moment) → KeepsAll m n → Stays m n
stays m n all folder image = stays_here m n all folder image

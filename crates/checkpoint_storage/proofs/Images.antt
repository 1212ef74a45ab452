-- What images of a folder stand for, by those of an earlier moment.
use Rattle.std.proofs.Common.{◌≡◌, ◌≢◌, ◌⊎◌, inl, inr, ℕ, zero, suc, ◌+◌, ◌<◌, ◌≤◌, Bool, true, false, nat_eq, nat_lt, ltb-true, ltb-false, if◌then◌else◌, List, [], ◌∷◌, Option, Some, None, option_map, Ok, refl, sym, ◌∙◌, ap, subst, arith}
use Rattle.std.proofs.lemmas.Bool.Decides.{nat_tests}
use Rattle.sf_disk.specs.Images.{FileState, Leaves, Follows}
use Rattle.sf_disk.specs.Moments.{Moment, Folder, IsImage, Others, InFile}
use Rattle.block_log.specs.Blocks.{Body, StandsFor, Keeps}
use Rattle.block_log.specs.Logs.{IsOpen}
use Rattle.folder_form.specs.declared.shape.Shape.{Shape}
use Rattle.folder_form.specs.Shapes.{partitions_in, shape_in, splits_in}
use Rattle.folder_form.specs.Folders.{Contents, Files, Held, Reading, file_of, form_of, form_from, job_in, no_contents}
use Rattle.snapshot_files.specs.declared.store.Store.{Store}
use Rattle.snapshot_files.specs.Stores.{most_partitions, AreLogs, HasForm, Pending, IsStore, held_by}
use Rattle.snapshot_files.specs.Opening.{IsOther, Begins, Opens, IsJob, contents_in}
use Rattle.snapshot_files.proofs.Folding.{form_first}
use Rattle.snapshot_files.proofs.OneThing.{store_stands}
use Rattle.egress_commit.specs.declared.outlet.Outlet.{Outlet}
use Rattle.egress_commit.specs.Epochs.{Epoch, HasEpochs, KeepsEpochs}
use Rattle.egress_commit.specs.Outlets.{IsOutlet}
use Rattle.checkpoint_storage.specs.declared.storage.CheckpointStorage.{CheckpointStorage}
use Rattle.checkpoint_storage.specs.Folders.{Stands, IsStorage, Stays}

-- ---- moments that differ in files of no concern

-- the manifest and the files of partitions are as they were
pub record AreSame (m n : Moment) : Type 0 where
  pub manifest : n 0 ≡ m 0
  pub logs : (partition : ℕ) → n (2 + partition) ≡ m (2 + partition)

pub same_but_egress : (m n : Moment) → Others 1 m n → AreSame m n
same_but_egress m n others = record { manifest = others 0 (λ same. omega (arith, same)); logs = λ p. others (2 + p) (λ same. omega (arith, same)) }

pub store_still : (store : Store) (contents : Contents) (pending : ℕ → Pending) (m n : Moment) → AreSame m n → IsStore store contents pending m → IsStore store contents pending n
store_still store contents pending m n same is = record {
  files = is.files;
  manifest = subst (IsOpen store.manifest (is.files 0)) (sym same.manifest) is.manifest;
  logs = λ p log there. subst (IsOpen log (is.files (2 + p))) (sym (same.logs p)) (is.logs p log there);
  form_is = is.form_is;
  kept = is.kept;
  slots = is.slots;
  newest_is = is.newest_is;
  leg_is = is.leg_is;
}

pub epochs_left : (outlet : Outlet) (epochs : List Epoch) (state : FileState) → IsOutlet outlet epochs state → (bytes : List ℕ) → Leaves state bytes → HasEpochs bytes epochs
epochs_left outlet epochs state is bytes left = (is.bodies, inl (is.is_open.rest bytes left), is.spelled)

-- what a folder of a job that has a form and epochs stands for
pub stands_by : (store : Store) (contents : Contents) (epochs : List Epoch) (text : List ℕ) (folder : Folder) → store.text ≡ text → HasForm folder (Some (held_by store contents)) → HasEpochs (folder 1) epochs → Stands text folder contents epochs
stands_by store contents epochs text folder same has committed = record { form = Some (held_by store contents); has_form = has; job = same; contents_are = refl; has_epochs = committed }

pub storage_stands : (storage : CheckpointStorage) (contents : Contents) (epochs : List Epoch) (now : Moment) → IsStorage storage contents epochs now → (folder : Folder) → IsImage now folder → Stands storage.store.text folder contents epochs
storage_stands storage contents epochs now is folder image =
    stands_by storage.store contents epochs storage.store.text folder refl (store_stands storage.store contents _ now is.store folder image) (epochs_left storage.outlet epochs (now 1) is.outlet (folder 1) (image 1))

-- ---- opening

less_or : (a b : ℕ) → (a < b) ⊎ (b ≤ a)
less_or a b = by (nat_lt a b) refl
  where
    by : (t : Bool) → nat_lt a b ≡ t → (a < b) ⊎ (b ≤ a)
    by true e = inl (ltb-true a b e)
    by false e = inr (ltb-false a b e)

-- one file's outcome, and the earlier one that it comes from
pub record Comes (text : List ℕ) (file : ℕ) (first : FileState) (bytes : List ℕ) : Type 0 where
  pub before : List ℕ
  pub left : Leaves first before
  pub begins : file ≡ 0 → Begins text before bytes
  pub keeps : file ≢ 0 → Keeps before bytes
  pub egress : file ≡ 1 → before ≡ bytes

module _ (text : List ℕ) (m n : Moment) (o : Opens text m n) (folder : Folder) (image : IsImage n folder) where
  from_other : (file : ℕ) → file ≢ 0 → n file ≡ m file → Comes text file (m file) (folder file)
  from_other file differs same = record {
    before = folder file;
    left = subst (λ (s : FileState). Leaves s (folder file)) same (image file);
    begins = λ first. absurd (differs first);
    keeps = λ not_first bodies stands. stands;
    egress = λ is. refl;
  }

  from_log : (p : ℕ) → p < most_partitions → Comes text (file_of p) (m (file_of p)) (folder (file_of p))
  from_log p less =
      let h = (o.logs p less).crash (folder (file_of p)) (image (file_of p)) in
      record { before = h.0; left = h.1; begins = λ first. absurd (omega (arith, first)); keeps = λ not_first. h.2; egress = λ is. absurd (omega (arith, is)) }

  from_manifest : Comes text 0 (m 0) (folder 0)
  from_manifest =
      let h = o.manifest.crash (folder 0) (image 0) in
      record { before = h.0; left = h.1; begins = λ first. h.2; keeps = λ not_first. absurd (not_first refl); egress = λ is. absurd (omega (arith, is)) }

  no_log : (file : ℕ) → 18 ≤ file → IsOther file
  no_log file most = (λ same. omega (arith, same, most), λ p less same. omega (arith, same, most, less))

  comes_by : (file : ℕ) → (file < 18) ⊎ (18 ≤ file) → Comes text file (m file) (folder file)
  comes_by zero (inl less) = from_manifest
  comes_by (suc zero) (inl less) = from_other 1 (λ same. omega (arith, same)) (o.others 1 (λ same. omega (arith, same), λ p less same. omega (arith, same)))
  comes_by (suc (suc p)) (inl less) = subst (λ (file : ℕ). Comes text file (m file) (folder file)) (omega arith) (from_log p (omega (arith, less)))
  comes_by file (inr most) = from_other file (λ same. omega (arith, same, most)) (o.others file (no_log file most))

  comes : (file : ℕ) → Comes text file (m file) (folder file)
  comes file = comes_by file (less_or file 18)

  abbrev before : Folder
  before file = (comes file).before

  logs_kept : (files : Files) → AreLogs before files → (p : ℕ) → p < most_partitions → StandsFor (folder (file_of p)) (files (file_of p))
  logs_kept files are p less = (comes (file_of p)).keeps (λ same. omega (arith, same)) (files (file_of p)) (are.logs p less)

  egress_kept : (epochs : List Epoch) → HasEpochs (before 1) epochs → HasEpochs (folder 1) epochs
  egress_kept epochs has = subst (λ (b : List ℕ). HasEpochs b epochs) ((comes 1).egress refl) has

-- other blocks in the manifest
abbrev pub with_first : List Body → Files → Files
with_first bodies files zero = bodies
with_first bodies files (suc file) = files (suc file)

behind_first : (bodies : List Body) (files : Files) (p : ℕ) → with_first bodies files (2 + p) ≡ files (2 + p)
behind_first bodies files p = subst (λ (file : ℕ). with_first bodies files file ≡ files file) (omega arith) (by p)
  where
    by : (p : ℕ) → with_first bodies files (suc (suc p)) ≡ files (suc (suc p))
    by p = refl

shape_there : (text : List ℕ) (partitions : ℕ) → partitions_in text ≡ Some partitions → (shape : Shape) × (shape_in text ≡ Some shape)
unfolding shape_in
shape_there text partitions names = (_, ap (option_map (λ (p : ℕ). record { partitions = p; splits = splits_in text })) names)

no_form : (files : Files) → files 0 ≡ [] → (form : Option Held) → form_of files ≡ Ok form → form ≡ None
no_form files none form is = let empty : form_of files ≡ Ok None = ap (form_from files) none in cc

-- the folder has what the earlier one had; where that had no job, it may have this one
module _ (text : List ℕ) (partitions : ℕ) (names : partitions_in text ≡ Some partitions) (m n : Moment) (o : Opens text m n) (folder : Folder) (image : IsImage n folder) where
  abbrev earlier : Folder
  earlier = before text m n o folder image

  is_earlier : IsImage m earlier
  is_earlier file = (comes text m n o folder image file).left

  logs_of : (files : Files) → AreLogs earlier files → (bodies : List Body) → StandsFor (folder 0) bodies → AreLogs folder (with_first bodies files)
  logs_of files are bodies stands = record { manifest = stands; logs = λ p less. subst (StandsFor (folder (file_of p))) (sym (behind_first bodies files p)) (logs_kept text m n o folder image files are p less) }

  kept_or : (contents : Contents) (epochs : List Epoch) (h : Stands text earlier contents epochs) → StandsFor (folder 0) (h.has_form.files 0) ⊎ ((h.has_form.files 0 ≡ []) × (job : Body) × (job_in job ≡ Some text) × StandsFor (folder 0) (job ∷ [])) → Stands text folder contents epochs
  kept_or contents epochs h (inl stands) = record {
    form = h.form;
    has_form = record {
      files = h.has_form.files;
      are_logs = record { manifest = stands; logs = λ p less. logs_kept text m n o folder image h.has_form.files h.has_form.are_logs p less };
      form_is = h.has_form.form_is;
    };
    job = h.job;
    contents_are = h.contents_are;
    has_epochs = egress_kept text m n o folder image epochs h.has_epochs;
  }
  kept_or contents epochs h (inr (none, job, is_job, stands)) =
      let shape = shape_there text partitions names in
      record {
        form = Some (record { text = text; shape = shape.0; contents = no_contents });
        has_form = record {
          files = with_first (job ∷ []) h.has_form.files;
          are_logs = logs_of h.has_form.files h.has_form.are_logs (job ∷ []) stands;
          form_is = form_first (with_first (job ∷ []) h.has_form.files) job text shape.0 is_job shape.1;
        };
        job = refl;
        contents_are = h.contents_are ∙ ap contents_in (no_form h.has_form.files none h.form h.has_form.form_is);
        has_epochs = egress_kept text m n o folder image epochs h.has_epochs;
      }

  pub opens_stays : (before : Folder) × IsImage m before × ((contents : Contents) (epochs : List Epoch) → Stands text before contents epochs → Stands text folder contents epochs)
  opens_stays = (earlier, is_earlier, λ contents epochs h. kept_or contents epochs h ((comes text m n o folder image 0).begins refl (h.has_form.files 0) h.has_form.are_logs.manifest))

-- ---- the egress file

-- one file of a folder replaced
abbrev pub with_egress : List ℕ → Folder → Folder
with_egress bytes folder zero = folder zero
with_egress bytes folder (suc zero) = bytes
with_egress bytes folder (suc (suc file)) = folder (suc (suc file))

beside_egress : (bytes : List ℕ) (folder : Folder) (p : ℕ) → with_egress bytes folder (2 + p) ≡ folder (2 + p)
beside_egress bytes folder p = subst (λ (file : ℕ). with_egress bytes folder file ≡ folder file) (omega arith) (by p)
  where
    by : (p : ℕ) → with_egress bytes folder (suc (suc p)) ≡ folder (suc (suc p))
    by p = refl

-- the egress file still stands for its epochs
module _ (text : List ℕ) (k n : Moment) (o : InFile 1 (Follows KeepsEpochs) k n) (folder : Folder) (image : IsImage n folder) where
  abbrev comes_from : (before : List ℕ) × Leaves (k 1) before × KeepsEpochs before (folder 1)
  comes_from = (o.here).crash (folder 1) (image 1)

  abbrev sooner : Folder
  sooner = with_egress comes_from.0 folder

  is_sooner : IsImage k sooner
  is_sooner zero = subst (λ (s : FileState). Leaves s (folder 0)) (o.others 0 (λ same. omega (arith, same))) (image 0)
  is_sooner (suc zero) = comes_from.1
  is_sooner (suc (suc file)) = subst (λ (s : FileState). Leaves s (folder (suc (suc file)))) (o.others (suc (suc file)) (λ same. omega (arith, same))) (image (suc (suc file)))

  pub still_stands : (contents : Contents) (epochs : List Epoch) → Stands text sooner contents epochs → Stands text folder contents epochs
  still_stands contents epochs h = record {
    form = h.form;
    has_form = record { files = h.has_form.files; are_logs = record { manifest = h.has_form.are_logs.manifest; logs = λ p less. subst (λ (bytes : List ℕ). StandsFor bytes (h.has_form.files (file_of p))) (beside_egress comes_from.0 folder p) (h.has_form.are_logs.logs p less) }; form_is = h.has_form.form_is };
    job = h.job;
    contents_are = h.contents_are;
    has_epochs = comes_from.2 epochs h.has_epochs;
  }

pub stays_then : (text : List ℕ) (m k n : Moment) → Stays text m k → InFile 1 (Follows KeepsEpochs) k n → Stays text m n
stays_then text m k n stays o folder image =
    let r = stays (sooner text k n o folder image) (is_sooner text k n o folder image) in
    (r.0, r.1, λ contents epochs h. still_stands text k n o folder image contents epochs (r.2 contents epochs h))

pub stays_opened : (text : List ℕ) (partitions : ℕ) → partitions_in text ≡ Some partitions → (m n : Moment) → Opens text m n → Stays text m n
stays_opened text partitions names m n o folder image = opens_stays text partitions names m n o folder image

-- Opening a folder: its logs, its job, its manifest.
use Rattle.std.proofs.Common.{◌≡◌, ◌⊎◌, inl, inr, ⊎_elim, ℕ, List, [], ◌∷◌, Option, Some, None, Result, Ok, Err, refl, sym, ◌∙◌, ap, subst, arith}
use Rattle.std.specs.Option.{option_map}
use Rattle.std.specs.Result.{IfOk, IfErr}
use Rattle.sf_disk.specs.Images.{FileState, Leaves, Follows}
use Rattle.sf_disk.specs.Moments.{Moment, Folder, Since, Becomes, InFile, WhereTold, newest}
use Rattle.sf_disk.proofs.Onward.{since_as, since_then, becomes_then, at_now, first_told}
use Rattle.block_log.specs.declared.log.BlockLog.{BlockLog}
use Rattle.block_log.specs.Blocks.{Body, StandsFor, Keeps}
use Rattle.block_log.specs.Logs.{IsOpen}
use Rattle.block_log.proofs.Unique.{stands_for_one}
use Rattle.store_faults.specs.declared.fault.StoreFault.{StoreFault}
use Rattle.store_faults.specs.declared.fault.StoreFault.TheVariants.{DiskFault, NotAStore, StoreOfOther, OutOfMemory}
use Rattle.folder_form.specs.declared.shape.Shape.{Shape}
use Rattle.folder_form.specs.Shapes.{shape_in, partitions_in, splits_in}
use Rattle.folder_form.specs.Folders.{Break, Contents, Files, Held, file_of, form_from, form_of, job_in, no_contents}
use Rattle.snapshot_files.specs.declared.store.Store.{Store}
use Rattle.snapshot_files.specs.Stores.{AreLogs, AreOpen, IsStore, held_by, nothing_pending}
use Rattle.snapshot_files.specs.Opening.{Begins, BreaksFor, HasJob, IsNew, IsOpened, IsOpenedKept, Opens, OpensKept, RefusesKept, RefusesStore, seen}
use Rattle.snapshot_files.specs.Steps.{BeginsWith, Begun, HasBegun, HasText, IsFolder, IsRead, LogsOpened, RefusesFolder, RefusesJob, RefusesLog, RefusesText}
use Rattle.snapshot_files.proofs.Growing.{other_place}
use Rattle.snapshot_files.proofs.AllOpened.{with_bodies}
use Rattle.snapshot_files.proofs.Folding.{form_first, no_job}

-- ---- a folder as it is

module _ (a b : List Moment) (manifest : BlockLog) (pieces : List BlockLog) (opened : Becomes a b (LogsOpened manifest pieces)) where
  pub is_new : HasText manifest b None → Becomes a b IsNew
  is_new none = λ m told.
      let k = opened m told in
      let o = k.2 in
      (k.0, k.1, record { opens = o.opens; none = subst (StandsFor (m 0).seen) (none k.0 k.1 (o.files 0) o.held.first) o.stood.manifest })

  pub opened_kept : (text : List ℕ) (store : Store) → HasText manifest b (Some text) → IsRead manifest pieces text b store → Becomes a b (IsOpenedKept store)
  opened_kept text store has read = λ m told.
      let k = opened m told in
      let o = k.2 in
      let r = read k.0 k.1 o.files (record { held = o.held; begins = has k.0 k.1 (o.files 0) o.held.first }) in
      (k.0, k.1, record { opens = o.opens; contents = r.0; stood = record { files = o.files; are_logs = o.stood; form_is = r.1 }; is_store = r.2 })

  pub refused_job : (fault : StoreFault) → RefusesJob manifest b fault → RefusesKept a fault
  refused_job DiskFault r = tt
  refused_job (NotAStore file place) r = λ m told.
      let k = opened m told in
      let o = k.2 in
      let j = r k.0 k.1 (o.files 0) o.held.first in
      inr (o.files, o.stood, ap (form_from o.files) j.2.2 ∙ no_job o.files j.2.0 j.2.1 j.2.3 ∙ ap (λ (n : ℕ). Err (record { file = n; place = 0 })) (sym j.0) ∙ ap (λ (n : ℕ). Err (record { file = file; place = n })) (sym j.1))
  refused_job (StoreOfOther kept given) r = absurd r
  refused_job OutOfMemory r = tt

-- the reading begins where the logs were opened
pub refused_folder : (a b c : List Moment) → c ≡ b → (manifest : BlockLog) (pieces : List BlockLog) → Becomes a b (LogsOpened manifest pieces) → (text : List ℕ) → HasText manifest b (Some text) → (fault : StoreFault) → RefusesFolder manifest pieces text c fault → RefusesKept a fault
refused_folder a b c same manifest pieces opened text has DiskFault r = tt
refused_folder a b c same manifest pieces opened text has (NotAStore file place) r = λ m told.
    let k = opened m told in
    let o = k.2 in
    inr (o.files, o.stood, r k.0 (ap newest same ∙ k.1) o.files (record { held = o.held; begins = has k.0 k.1 (o.files 0) o.held.first }))
refused_folder a b c same manifest pieces opened text has (StoreOfOther kept given) r = absurd r
refused_folder a b c same manifest pieces opened text has OutOfMemory r = tt

pub refused_log : (a : List Moment) (fault : StoreFault) → RefusesLog a fault → RefusesKept a fault
refused_log a DiskFault r = tt
refused_log a (NotAStore file place) r = λ m told. inl (r m told)
refused_log a (StoreOfOther kept given) r = absurd r
refused_log a OutOfMemory r = tt

-- ---- a folder of a job

pub opens_text : (text : List ℕ) (m n : Moment) → OpensKept m n → Opens text m n
opens_text text m n o = record {
  others = o.others;
  manifest = record { crash = λ c left. let d = o.manifest.crash c left in (d.0, d.1, λ bs stands. inl (d.2 bs stands)); reads = λ bs stands. inl (o.manifest.reads bs stands) };
  logs = o.logs;
}

opens_job : (text : List ℕ) (m k n : Moment) → OpensKept m k → InFile 0 (Follows (Begins text)) k n → Opens text m n
opens_job text m k n o s = record {
  others = λ file is. s.others file is.0 ∙ o.others file is;
  manifest = record {
    crash = λ c left. let d = s.here.crash c left in let e = o.manifest.crash d.0 d.1 in (e.0, e.1, λ bs stands. d.2 bs (e.2 bs stands));
    reads = λ bs stands. s.here.reads bs (o.manifest.reads bs stands);
  };
  logs = λ p less. subst (Follows Keeps (m (file_of p))) (sym (s.others (file_of p) (λ e. omega (arith, e)))) (o.logs p less);
}

follows_begun : (log now : BlockLog) (text : List ℕ) (bodies : List Body) (old new : FileState) → IsOpen log bodies old → HasBegun now text bodies new → Follows (Begins text) old new
follows_begun log now text bodies old new opened h = record { crash = λ c left. (old.seen, inl refl, from c left); reads = from new.seen (inl refl) }
  where
    from : (c : List ℕ) → Leaves new c → Begins text old.seen c
    from c left = λ bs stands.
        let same : bs ≡ bodies = stands_for_one old.seen bodies bs (inl (opened.rest old.seen (inl refl))) stands in
        let has : StandsFor c h.begun = inl (h.is_open.rest c left) in
        ⊎_elim (λ e. inl (subst (StandsFor c) (e ∙ sym same) has)) (λ e. inr (same ∙ e.0, e.1, e.3, subst (StandsFor c) e.2 has)) h.either

-- The folder is one of that job: so it was, or it had none.
pub record FolderOpened (manifest : BlockLog) (pieces : List BlockLog) (text : List ℕ) (first last : Moment) : Type 0 where
  pub opens : Opens text first last
  pub before : Files
  pub stood : AreLogs (seen first) before
  pub files : Files
  pub folder : IsFolder manifest pieces text files last
  pub either : ((a : Held) → form_of files ≡ Ok (Some a) → form_of before ≡ Ok (Some a)) × ((e : Break) → form_of files ≡ Err e → form_of before ≡ Err e) × BeginsWith (before 0) text
      ⊎ (before 0 ≡ []) × (job : Body) × (files 0 ≡ job ∷ []) × (job_in job ≡ Some text)

module _ (a b c : List Moment) (old manifest : BlockLog) (pieces : List BlockLog) (text : List ℕ) (kept : Since a b OpensKept) (opened : Becomes a b (LogsOpened old pieces)) where
  pub job_since : Since b c (InFile 0 (Follows (Begins text))) → Since a c (Opens text)
  job_since since = since_then a b c (Opens text) (InFile 0 (Follows (Begins text))) (since_as a b OpensKept (Opens text) kept (λ m n told o. opens_text text m n o)) since (λ m k n is_m is_k s. opens_job text m k n (at_now a b (LogsOpened old pieces) opened m k is_m is_k).opens s)

  others_there : (m k n : Moment) (o : LogsOpened old pieces m k) (s : InFile 0 (Begun old manifest text) k n) (files : Files) → ((p : ℕ) → files (file_of p) ≡ o.files (file_of p)) → AreOpen files n 2 pieces
  others_there m k n o s files same p log is = subst (λ (bs : List Body). IsOpen log bs (n (file_of p))) (sym (same p)) (subst (IsOpen log (o.files (file_of p))) (sym (s.others (file_of p) (λ e. omega (arith, e)))) (o.held.others p log is))

  module _ (m k n : Moment) (o : LogsOpened old pieces m k) (s : InFile 0 (Begun old manifest text) k n) where
    abbrev h : HasBegun manifest text (o.files 0) (n 0)
    h = s.here (o.files 0) o.held.first

    abbrev opens : Opens text m n
    opens = opens_job text m k n o.opens (record { others = s.others; here = follows_begun old manifest text (o.files 0) (k 0) (n 0) o.held.first h })

    one_folder : (h.begun ≡ o.files 0) ⊎ ((o.files 0 ≡ []) × (job : Body) × (h.begun ≡ job ∷ []) × (job_in job ≡ Some text)) → FolderOpened manifest pieces text m n
    one_folder (inl e) = record {
      opens = opens;
      before = o.files;
      stood = o.stood;
      files = o.files;
      folder = record { held = record { first = subst (λ (bs : List Body). IsOpen manifest bs (n 0)) e h.is_open; others = others_there m k n o s o.files (λ p. refl) }; begins = subst (λ (bs : List Body). BeginsWith bs text) e h.begins };
      either = inl (λ x is. is, λ x is. is, subst (λ (bs : List Body). BeginsWith bs text) e h.begins);
    }
    one_folder (inr e) = record {
      opens = opens;
      before = o.files;
      stood = o.stood;
      files = with_bodies o.files 0 h.begun;
      folder = record {
        held = record { first = h.is_open; others = others_there m k n o s (with_bodies o.files 0 h.begun) (λ p. other_place (file_of p) 0 h.begun (o.files (file_of p)) (λ x. omega (arith, x))) };
        begins = h.begins;
      };
      either = inr e;
    }

  pub folder_opened : Becomes b c (InFile 0 (Begun old manifest text)) → Becomes a c (FolderOpened manifest pieces text)
  folder_opened begun = becomes_then a b c (LogsOpened old pieces) (InFile 0 (Begun old manifest text)) (FolderOpened manifest pieces text) opened begun (λ m k n told o s. one_folder m k n o s (s.here (o.files 0) o.held.first).either)

-- what a file stands for whose blocks begin with a job of that text
one_job : (folder : Folder) (bodies : List Body) (text kept : List ℕ) → StandsFor (folder 0) bodies → BeginsWith bodies text → HasJob folder kept → kept ≡ text
one_job folder bodies text kept stands begins has =
    let same : has.0 ∷ has.1 ≡ bodies = stands_for_one (folder 0) bodies (has.0 ∷ has.1) stands has.2 in
    let heads : has.0 ≡ begins.0 = first_same (same ∙ begins.2) in
    some_same (sym has.3 ∙ ap job_in heads ∙ begins.3)
  where
    first_same : {x y : Body} {xs ys : List Body} → x ∷ xs ≡ y ∷ ys → x ≡ y
    first_same e = cc

    some_same : {x y : List ℕ} → Some x ≡ Some y → x ≡ y
    some_same e = cc

no_one_job : (folder : Folder) (job : Body) (rest : List Body) (kept : List ℕ) → StandsFor (folder 0) (job ∷ rest) → job_in job ≡ None → HasJob folder kept → ⊥
no_one_job folder job rest kept stands none has =
    let same : has.0 ∷ has.1 ≡ job ∷ rest = stands_for_one (folder 0) (job ∷ rest) (has.0 ∷ has.1) stands has.2 in
    let heads : has.0 ≡ job = cc in
    let both : Some kept ≡ None = sym has.3 ∙ ap job_in heads ∙ none in
    absurd cc

-- ---- the job alone has no checkpoints

alone : (files : Files) (job : Body) (text : List ℕ) (shape : Shape) (held : Held) → job_in job ≡ Some text → shape_in text ≡ Some shape → form_from files (job ∷ []) ≡ Ok (Some held) → held.contents ≡ no_contents
alone files job text shape held is_text is_shape is =
    let same : Ok (Some (record { text = text; shape = shape; contents = no_contents })) ≡ Ok (Some held) = sym (form_first files job text shape is_text is_shape) ∙ is in
    let one : record { text = text; shape = shape; contents = no_contents } ≡ held = cc in
    sym (ap (λ (h : Held). h.contents) one)

pub partitions_are : (text : List ℕ) (partitions : ℕ) (shape : Shape) → partitions_in text ≡ Some partitions → shape_in text ≡ Some shape → shape.partitions ≡ partitions
unfolding shape_in
partitions_are text partitions shape names is =
    let same : Some (record { partitions = partitions; splits = splits_in text }) ≡ Some shape = sym (ap (option_map (λ (p : ℕ). record { partitions = p; splits = splits_in text })) names) ∙ is in
    let one : record { partitions = partitions; splits = splits_in text } ≡ shape = cc in
    sym (ap (λ (s : Shape). s.partitions) one)

shape_there : (text : List ℕ) (partitions : ℕ) → partitions_in text ≡ Some partitions → (shape : Shape) × (shape_in text ≡ Some shape)
unfolding shape_in
shape_there text partitions names = (record { partitions = partitions; splits = splits_in text }, ap (option_map (λ (p : ℕ). record { partitions = p; splits = splits_in text })) names)

module _ (a c : List Moment) (manifest : BlockLog) (pieces : List BlockLog) (text : List ℕ) (partitions : ℕ) (names : partitions_in text ≡ Some partitions) (opened : Becomes a c (FolderOpened manifest pieces text)) where
  pub is_opened : (store : Store) → store.text ≡ text → IsRead manifest pieces text c store → Becomes a c (IsOpened store text)
  is_opened store is_text read = λ m told. let k = opened m told in (k.0, k.1, made m k.0 k.2 (read k.0 k.1 k.2.files k.2.folder))
    where
      made : (m n : Moment) (o : FolderOpened manifest pieces text m n) → (contents : Contents) × (form_of o.files ≡ Ok (Some (held_by store contents))) × IsStore store contents nothing_pending n → IsOpened store text m n
      made m n o r = cases o.either
        where
          cases : (((x : Held) → form_of o.files ≡ Ok (Some x) → form_of o.before ≡ Ok (Some x)) × ((e : Break) → form_of o.files ≡ Err e → form_of o.before ≡ Err e) × BeginsWith (o.before 0) text) ⊎ ((o.before 0 ≡ []) × (job : Body) × (o.files 0 ≡ job ∷ []) × (job_in job ≡ Some text)) → IsOpened store text m n
          cases (inl e) = record {
            opens = o.opens;
            form = Some (held_by store r.0);
            stood = record { files = o.before; are_logs = o.stood; form_is = e.0 (held_by store r.0) r.1 };
            job = is_text;
            text_is = is_text;
            is_store = r.2;
          }
          cases (inr e) =
              let s = shape_there text partitions names in
              let none : r.0 ≡ no_contents = alone o.files e.1 text s.0 (held_by store r.0) e.3 s.1 (sym (ap (form_from o.files) e.2) ∙ r.1) in
              record {
                opens = o.opens;
                form = None;
                stood = record { files = o.before; are_logs = o.stood; form_is = ap (form_from o.before) e.0 };
                job = tt;
                text_is = is_text;
                is_store = subst (λ (x : Contents). IsStore store x nothing_pending n) none r.2;
              }

  pub folder_refused : (fault : StoreFault) → RefusesFolder manifest pieces text c fault → RefusesStore text a fault
  folder_refused DiskFault r = tt
  folder_refused (NotAStore file place) r = λ m told. let k = opened m told in refused m k.0 k.2 (r k.0 k.1 k.2.files k.2.folder)
    where
      refused : (m n : Moment) (o : FolderOpened manifest pieces text m n) → form_of o.files ≡ Err (record { file = file; place = place }) → BreaksFor text (seen m) file place
      refused m n o breaks = ⊎_elim
          (λ e. inr (o.before, o.stood, e.1 (record { file = file; place = place }) breaks, λ kept has. one_job (seen m) (o.before 0) text kept o.stood.manifest e.2 has))
          (λ e. let s = shape_there text partitions names in never (sym (form_first o.files e.1 text s.0 e.3 s.1) ∙ sym (ap (form_from o.files) e.2) ∙ breaks))
          o.either
        where
          never : {x : Option Held} {e : Break} → Ok x ≡ Err e → BreaksFor text (seen m) file place
          never is = absurd cc
  folder_refused (StoreOfOther kept given) r = absurd r
  folder_refused OutOfMemory r = tt

pub log_refused : (text : List ℕ) (a : List Moment) (fault : StoreFault) → RefusesLog a fault → RefusesStore text a fault
log_refused text a DiskFault r = tt
log_refused text a (NotAStore file place) r = λ m told. inl (r m told)
log_refused text a (StoreOfOther kept given) r = absurd r
log_refused text a OutOfMemory r = tt

module _ (a b : List Moment) (manifest : BlockLog) (pieces : List BlockLog) (opened : Becomes a b (LogsOpened manifest pieces)) (text : List ℕ) where
  pub text_refused : (fault : StoreFault) → RefusesText manifest text b fault → RefusesStore text a fault
  text_refused DiskFault r = tt
  text_refused (NotAStore file place) r = λ m told.
      let k = opened m told in
      let o = k.2 in
      let j = r k.0 k.1 (o.files 0) o.held.first in
      inr (
        o.files,
        o.stood,
        ap (form_from o.files) j.2.2 ∙ no_job o.files j.2.0 j.2.1 j.2.3 ∙ ap (λ (n : ℕ). Err (record { file = n; place = 0 })) (sym j.0) ∙ ap (λ (n : ℕ). Err (record { file = file; place = n })) (sym j.1),
        λ kept has. absurd (no_one_job (seen m) j.2.0 j.2.1 kept (subst (StandsFor (seen m 0)) j.2.2 o.stood.manifest) j.2.3 has),
      )
  text_refused (StoreOfOther kept given) r = (
    r.0,
    r.1,
    λ m told.
        let k = opened m told in
        let o = k.2 in
        let j = r.2 k.0 k.1 (o.files 0) o.held.first in
        (j.0, j.1, subst (StandsFor (seen m 0)) j.2 o.stood.manifest, j.3),
  )
  text_refused OutOfMemory r = tt

-- ---- the folder now

pub folder_now : (a b : List Moment) (manifest : BlockLog) (pieces : List BlockLog) (text : List ℕ) → Since a b OpensKept → Becomes a b (LogsOpened manifest pieces) → HasText manifest b (Some text) → WhereTold b (λ now. (files : Files) × IsFolder manifest pieces text files now)
folder_now a b manifest pieces text kept opened has = λ k is.
    let m = first_told a b OpensKept k kept is in
    let o = at_now a b (LogsOpened manifest pieces) opened m.0 k m.1 is in
    (o.files, record { held = o.held; begins = has k is (o.files 0) o.held.first })

pub job_now : (a c : List Moment) (manifest : BlockLog) (pieces : List BlockLog) (text : List ℕ) → Since a c (Opens text) → Becomes a c (FolderOpened manifest pieces text) → WhereTold c (λ now. (files : Files) × IsFolder manifest pieces text files now)
job_now a c manifest pieces text since opened = λ k is.
    let m = first_told a c (Opens text) k since is in
    let o = at_now a c (FolderOpened manifest pieces text) opened m.0 k m.1 is in
    (o.files, o.folder)

module _ (a c d : List Moment) (same : d ≡ c) (manifest : BlockLog) (pieces : List BlockLog) (text copy : List ℕ) (copied : copy ≡ text) (partitions : ℕ) (names : partitions_in text ≡ Some partitions) where
  pub store_opened : Becomes a c (FolderOpened manifest pieces text) → (r : Result Store StoreFault) → IfOk r (λ store. store.text ≡ copy) → IfOk r (IsRead manifest pieces copy c) → IfOk r (λ store. Becomes a d (IsOpened store text))
  store_opened opened (Err e) is_text read = tt
  store_opened opened (Ok store) is_text read =
      subst (λ (l : List Moment). Becomes a l (IsOpened store text)) (sym same) (is_opened a c manifest pieces text partitions names opened store (is_text ∙ copied) (subst (λ (t : List ℕ). IsRead manifest pieces t c store) copied read))

  pub store_refused : Becomes a c (FolderOpened manifest pieces text) → (r : Result Store StoreFault) → IfErr r (RefusesFolder manifest pieces copy c) → IfErr r (RefusesStore text a)
  store_refused opened (Ok store) h = tt
  store_refused opened (Err e) h = folder_refused a c manifest pieces text partitions names opened e (subst (λ (t : List ℕ). RefusesFolder manifest pieces t c e) copied h)

  pub store_partitions : (r : Result Store StoreFault) → IfOk r (λ store. shape_in copy ≡ Some store.shape) → IfOk r (λ store. store.shape.partitions ≡ partitions)
  store_partitions (Err e) h = tt
  store_partitions (Ok store) h = partitions_are text partitions store.shape names (ap shape_in (sym copied) ∙ h)

-- Opening the logs of a folder, one after the other.
use Rattle.std.proofs.Common.{◌≡◌, ◌≢◌, ◌⊎◌, inl, inr, ⊎_elim, ℕ, zero, suc, ◌+◌, ◌<◌, ◌≤◌, nat_eq, if◌then◌else◌, List, [], ◌∷◌, ◌++◌, length, slice_get, Some, IsFalse, refl, sym, ◌∙◌, ap, subst, arith}
use Rattle.std.proofs.lemmas.Bool.Decides.{eqb_tells}
use Rattle.sf_disk.specs.Images.{FileState, Follows}
use Rattle.sf_disk.specs.Moments.{Moment, Since, Becomes, InFile, WhereTold}
use Rattle.sf_disk.proofs.Onward.{since_as, since_then, becomes_as, becomes_then, at_now}
use Rattle.block_log.specs.declared.log.BlockLog.{BlockLog}
use Rattle.block_log.specs.Blocks.{Body, StandsFor, IsNoLog, Keeps}
use Rattle.block_log.specs.Logs.{IsOpen, IsOpened}
use Rattle.store_faults.specs.declared.fault.StoreFault.{StoreFault}
use Rattle.store_faults.specs.declared.fault.StoreFault.TheVariants.{DiskFault, NotAStore, StoreOfOther, OutOfMemory}
use Rattle.store_faults.specs.Faults.{RefusesBy}
use Rattle.folder_form.specs.Folders.{Files, file_of}
use Rattle.snapshot_files.specs.Logs.{AreFiles, AreUsable}
use Rattle.snapshot_files.specs.Stores.{AreOpen}
use Rattle.snapshot_files.specs.Opening.{OpensKept}
use Rattle.snapshot_files.specs.Steps.{LogsOpened, RefusesLog}
use Rattle.snapshot_files.proofs.Growing.{same_place, other_place}

-- ---- files

pub decide : (a b : ℕ) → (a ≡ b) ⊎ (a ≢ b)
decide a b = ⊎_elim (λ e. inl e.1) (λ d. inr d.1) (eqb_tells a b)

pub follows_none : (x : FileState) → Follows Keeps x x
follows_none x = record { crash = λ c left. (c, left, λ bs stands. stands); reads = λ bs stands. stands }

pub follows_then : (x y z : FileState) → Follows Keeps x y → Follows Keeps y z → Follows Keeps x z
follows_then x y z first second = record {
  crash = λ c left. let d = second.crash c left in let e = first.crash d.0 d.1 in (e.0, e.1, λ bs stands. d.2 bs (e.2 bs stands));
  reads = λ bs stands. second.reads bs (first.reads bs stands);
}

pub opens_first : (m n : Moment) → InFile 0 (Follows Keeps) m n → OpensKept m n
opens_first m n s = record {
  others = λ file is. s.others file is.0;
  manifest = s.here;
  logs = λ p less. subst (Follows Keeps (m (file_of p))) (sym (s.others (file_of p) (λ e. omega (arith, e)))) (follows_none (m (file_of p)));
}

pub opens_next : (p : ℕ) → p < 16 → (m k n : Moment) → OpensKept m k → InFile (file_of p) (Follows Keeps) k n → OpensKept m n
opens_next p less m k n o s = record {
  others = λ file is. s.others file (is.1 p less) ∙ o.others file is;
  manifest = subst (Follows Keeps (m 0)) (sym (s.others 0 (λ e. omega (arith, e)))) o.manifest;
  logs = λ q below. ⊎_elim
      (λ e. subst (λ (r : ℕ). Follows Keeps (m (file_of r)) (n (file_of r))) e (follows_then (m (file_of p)) (k (file_of p)) (n (file_of p)) (o.logs p less) s.here))
      (λ d. subst (Follows Keeps (m (file_of q))) (sym (s.others (file_of q) (λ e. d (omega (arith, e))))) (o.logs q below))
      (decide p q);
}

-- ---- the logs so far

abbrev pub with_bodies : Files → ℕ → List Body → Files
with_bodies files file bodies other = if nat_eq other file then bodies else files other

-- The manifest and the files of so many partitions were opened.
pub record Reached (count : ℕ) (manifest : BlockLog) (logs : List BlockLog) (first last : Moment) : Type 0 where
  pub opens : OpensKept first last
  pub files : Files
  pub manifest_stood : StandsFor (first 0).seen (files 0)
  pub manifest_open : IsOpen manifest (files 0) (last 0)
  pub stood : (partition : ℕ) → partition < count → StandsFor (first (file_of partition)).seen (files (file_of partition))
  pub are_open : AreOpen files last 2 logs
  pub untouched : (partition : ℕ) → count ≤ partition → last (file_of partition) ≡ first (file_of partition)

reached_first : (manifest : BlockLog) (m n : Moment) → InFile 0 (IsOpened manifest) m n → Reached 0 manifest [] m n
reached_first manifest m n s = record {
  opens = opens_first m n (record { others = s.others; here = s.here.follows });
  files = λ file. s.here.bodies;
  manifest_stood = s.here.stood;
  manifest_open = s.here.is_open;
  stood = λ p less. absurd (omega (arith, less));
  are_open = λ p log is. absurd cc;
  untouched = λ p from. s.others (file_of p) (λ e. omega (arith, e));
}

-- what stands in a list with one element more
pub pushed_get : {X : Type 0} (xs : List X) (y x : X) (p : ℕ) → slice_get (xs ++ y ∷ []) p ≡ Some x → ((slice_get xs p ≡ Some x) × (p < length xs)) ⊎ ((p ≡ length xs) × (x ≡ y))
pushed_get [] y x zero is = inr (refl, cc)
pushed_get [] y x (suc p) is = absurd cc
pushed_get (z ∷ xs) y x zero is = inl (is, omega arith)
pushed_get (z ∷ xs) y x (suc p) is = ⊎_elim (λ h. inl (h.0, omega (arith, h.1))) (λ h. inr (omega (arith, h.0), h.1)) (pushed_get xs y x p is)

module _ (count : ℕ) (few : count < 16) (manifest : BlockLog) (logs : List BlockLog) (size : length logs ≡ count) (log : BlockLog) (m k n : Moment) (r : Reached count manifest logs m k) (s : InFile (file_of count) (IsOpened log) k n) where
  abbrev files : Files
  files = with_bodies r.files (file_of count) s.here.bodies

  here : files (file_of count) ≡ s.here.bodies
  here = same_place (file_of count) (file_of count) s.here.bodies (r.files (file_of count)) refl

  there : (other : ℕ) → other ≢ file_of count → files other ≡ r.files other
  there other differs = other_place other (file_of count) s.here.bodies (r.files other) differs

  apart : (p : ℕ) → p ≢ count → file_of p ≢ file_of count
  apart p differs = λ e. differs (omega (arith, e))

  first_apart : 0 ≢ file_of count
  first_apart = λ e. omega (arith, e)

  stood_here : StandsFor (m (file_of count)).seen (files (file_of count))
  stood_here = subst (StandsFor (m (file_of count)).seen) (sym here) (subst (λ (f : FileState). StandsFor f.seen s.here.bodies) (r.untouched count (omega arith)) s.here.stood)

  open_here : IsOpen log (files (file_of count)) (n (file_of count))
  open_here = subst (λ (bs : List Body). IsOpen log bs (n (file_of count))) (sym here) s.here.is_open

  open_there : (p : ℕ) (l : BlockLog) → p ≢ count → slice_get logs p ≡ Some l → IsOpen l (files (file_of p)) (n (file_of p))
  open_there p l differs is =
      subst (λ (bs : List Body). IsOpen l bs (n (file_of p))) (sym (there (file_of p) (apart p differs))) (subst (IsOpen l (r.files (file_of p))) (sym (s.others (file_of p) (apart p differs))) (r.are_open p l is))

  pub reached_next : Reached (count + 1) manifest (logs ++ log ∷ []) m n
  reached_next = record {
    opens = opens_next count few m k n r.opens (record { others = s.others; here = s.here.follows });
    files = files;
    manifest_stood = subst (StandsFor (m 0).seen) (sym (there 0 first_apart)) r.manifest_stood;
    manifest_open = subst (λ (bs : List Body). IsOpen manifest bs (n 0)) (sym (there 0 first_apart)) (subst (IsOpen manifest (r.files 0)) (sym (s.others 0 first_apart)) r.manifest_open);
    stood = λ p less. ⊎_elim (λ e. subst (λ (q : ℕ). StandsFor (m (file_of q)).seen (files (file_of q))) (sym e) stood_here)
        (λ d. subst (StandsFor (m (file_of p)).seen) (sym (there (file_of p) (apart p d))) (r.stood p (grind (arith, less, d))))
        (decide p count);
    are_open = λ p l is. ⊎_elim (λ h. open_there p l (λ e. omega (arith, e, h.1, size)) h.0)
        (λ h. subst (λ (q : ℕ). IsOpen l (files (file_of q)) (n (file_of q))) (sym (h.0 ∙ size)) (subst (λ (x : BlockLog). IsOpen x (files (file_of count)) (n (file_of count))) (sym h.1) open_here))
        (pushed_get logs log l p is);
    untouched = λ p from. s.others (file_of p) (λ e. omega (arith, e, from)) ∙ r.untouched p (omega (arith, from));
  }

-- ---- the calls so far

pub record SoFar (a b : List Moment) (count : ℕ) (manifest : BlockLog) (logs : List BlockLog) : Type 0 where
  pub all : Since a b OpensKept
  pub now : Becomes a b (Reached count manifest logs)

module _ (a b : List Moment) where
  pub kept_first : Since a b (InFile 0 (Follows Keeps)) → Since a b OpensKept
  kept_first since = since_as a b (InFile 0 (Follows Keeps)) OpensKept since (λ m n told s. opens_first m n s)

  pub opened_first : (manifest : BlockLog) → Since a b (InFile 0 (Follows Keeps)) → Becomes a b (InFile 0 (IsOpened manifest)) → SoFar a b 0 manifest []
  opened_first manifest since becomes = record {
    all = kept_first since;
    now = becomes_as a b (InFile 0 (IsOpened manifest)) (Reached 0 manifest []) becomes (λ m n told s. reached_first manifest m n s);
  }

  module _ (count : ℕ) (few : count < 16) (manifest : BlockLog) (logs : List BlockLog) (so_far : SoFar a b count manifest logs) where
    pub kept_next : (c : List Moment) → Since b c (InFile (file_of count) (Follows Keeps)) → Since a c OpensKept
    kept_next c next = since_then a b c OpensKept (InFile (file_of count) (Follows Keeps)) so_far.all next (λ m k n is_m is_k s. opens_next count few m k n (at_now a b (Reached count manifest logs) so_far.now m k is_m is_k).opens s)

    pub opened_next : (c : List Moment) (log : BlockLog) → length logs ≡ count → Since b c (InFile (file_of count) (Follows Keeps)) → Becomes b c (InFile (file_of count) (IsOpened log)) → SoFar a c (count + 1) manifest (logs ++ log ∷ [])
    opened_next c log size since becomes = record {
      all = kept_next c since;
      now = becomes_then a b c (Reached count manifest logs) (InFile (file_of count) (IsOpened log)) (Reached (count + 1) manifest (logs ++ log ∷ [])) so_far.now becomes (λ m k n told r s. reached_next count few manifest logs size log m k n r s);
    }

    pub refused_next : (fault : StoreFault) → RefusesBy (λ named place. (named ≡ file_of count) × WhereTold b (λ now. IsNoLog (now (file_of count)).seen place)) fault → RefusesLog a fault
    refused_next DiskFault r = tt
    refused_next (NotAStore named place) r = λ m told.
        let k = so_far.now m told in
        (inr (count, few, r.0), subst (λ (f : ℕ). IsNoLog (m f).seen place) (sym r.0) (subst (λ (f : FileState). IsNoLog f.seen place) (k.2.untouched count (omega arith)) (r.1 k.0 k.1)))
    refused_next (StoreOfOther kept given) r = absurd r
    refused_next OutOfMemory r = tt

pub refused_first : (a : List Moment) (fault : StoreFault) → RefusesBy (λ named place. (named ≡ 0) × WhereTold a (λ now. IsNoLog (now 0).seen place)) fault → RefusesLog a fault
refused_first a DiskFault r = tt
refused_first a (NotAStore named place) r = λ m told. (inl r.0, subst (λ (f : ℕ). IsNoLog (m f).seen place) (sym r.0) (r.1 m told))
refused_first a (StoreOfOther kept given) r = absurd r
refused_first a OutOfMemory r = tt

pub all_opened : (a b : List Moment) (manifest : BlockLog) (logs : List BlockLog) → SoFar a b 16 manifest logs → Becomes a b (LogsOpened manifest logs)
all_opened a b manifest logs so_far = becomes_as a b (Reached 16 manifest logs) (LogsOpened manifest logs) so_far.now (λ m n told r. record {
  opens = r.opens;
  files = r.files;
  stood = record { manifest = r.manifest_stood; logs = r.stood };
  held = record { first = r.manifest_open; others = r.are_open };
})

-- ---- one log more

pub numbers_next : (logs : List BlockLog) (log : BlockLog) (count : ℕ) → length logs ≡ count → AreFiles 2 logs → log.file ≡ 2 + count → AreFiles 2 (logs ++ log ∷ [])
numbers_next logs log count size are is = λ p l at. ⊎_elim (λ h. are p l h.0) (λ h. ap (λ (x : BlockLog). x.file) h.1 ∙ is ∙ omega (arith, h.0, size)) (pushed_get logs log l p at)

pub usable_next : (logs : List BlockLog) (log : BlockLog) → AreUsable logs → IsFalse log.spent → AreUsable (logs ++ log ∷ [])
usable_next logs log are is = λ p l at. ⊎_elim (λ h. are p l h.0) (λ h. subst (λ (x : BlockLog). IsFalse x.spent) (sym h.1) is) (pushed_get logs log l p at)

-- What windows show while a file is synced.
use Rattle.std.proofs.Common.{◌≡◌, ⊎_elim, ℕ, List, [], ◌∷◌, ◌++◌, length, take, drop, All, Some, sym, ◌∙◌, ap, subst, slice_index_or}
use Rattle.std.specs.List.{AllByRecursion}
use Rattle.std.proofs.lemmas.Bool.Decides.{eqb_tells}
use Rattle.sf_disk.specs.Images.{FileState, Follows, Same}
use Rattle.sf_disk.specs.Moments.{Moment, Since, InFile, WhereTold, newest}
use Rattle.read_ahead.specs.Windows.{Shows, AllShow}
use Rattle.read_ahead.specs.declared.window.Window.{Window}

module _ (P : Moment → Type 0) (a : List Moment) (R : Moment → Moment → Type 0) (told : WhereTold a P) (keeps : (m n : Moment) → P m → R m n → P n) where
  newest_of : (more : List Moment) → AllByRecursion (λ later. (first : Moment) × (newest a ≡ Some first) × R first later) more → (k : Moment) → newest (more ++ a) ≡ Some k → P k
  newest_of [] each k is = told k is
  newest_of (n ∷ more) each k is = let same : n ≡ k = cc in subst P same (keeps each.0.0 n (told each.0.0 each.0.1) each.0.2)

  -- what each moment since keeps is so now
  pub kept_told : (b : List Moment) → Since a b R → WhereTold b P
  kept_told b since k is = newest_of since.more since.each k (ap newest (sym since.goes_on) ∙ is)

reads_same : (file : ℕ) (m n : Moment) → InFile file (Follows Same) m n → (other : ℕ) → (n other).seen ≡ (m other).seen
reads_same file m n synced other =
    ⊎_elim (λ same. subst (λ (f : ℕ). (n f).seen ≡ (m f).seen) (sym same.1) synced.here.reads) (λ differs. ap (λ (s : FileState). s.seen) (synced.others other differs.1)) (eqb_tells other file)

shows_same : (file : ℕ) (m n : Moment) → InFile file (Follows Same) m n → (window : Window) → Shows m window → Shows n window
shows_same file m n synced window shows =
    shows ∙ ap (λ (l : List ℕ). take (length window.bytes) (drop window.at l)) (sym (reads_same file m n synced window.file))

-- a sync changes nothing of what they show
pub synced_show : (file : ℕ) (windows : List Window) (a b : List Moment) → Since a b (InFile file (Follows Same)) → AllShow a windows → AllShow b windows
synced_show file windows a b since shown =
    kept_told (λ m. All (Shows m) windows) a (InFile file (Follows Same)) shown (λ m n all synced k d less. shows_same file m n synced (slice_index_or windows k d) (all k d less)) b since

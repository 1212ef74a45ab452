-- What is found behind any list of lives.
use Rattle.std.proofs.Common.{◌≡◌, ◌⊎◌, inl, inr, ⊎_elim, ℕ, ◌<◌, arith, List, [], ◌∷◌, ◌++◌, length, Option, Some, None, option_to_list, refl, sym, ◌∙◌, ap, subst, append_assoc}
use Rattle.std.proofs.lemmas.List.{append-nil}
use Rattle.sf_disk.specs.Images.{FileState, Leaves, Follows}
use Rattle.sf_disk.specs.Moments.{Moment, Folder, InFile, WhereTold, newest}
use Rattle.sf_disk.proofs.Onward.{since_now, told_now, each_left}
use Rattle.block_log.specs.declared.log.BlockLog.{BlockLog}
use Rattle.block_log.specs.Blocks.{Body, HasBlocks, StandsFor, Keeps}
use Rattle.block_log.specs.Logs.{IsOpen, IsOpened, Adds, Added}
use Rattle.block_log.specs.Laws.{Life, Appends, Lived, LeftBehind, MayHold}
use Rattle.block_log.proofs.Unique.{stands_for_one}

-- these were held, and of what came then what is sure, with or without what is not
abbrev Found : List ℕ → List Body → List Body → Option Body → Type 0
Found bytes held sure unsure = (bodies : List Body) × StandsFor bytes bodies × ((bodies ≡ held ++ sure) ⊎ (bodies ≡ held ++ sure ++ option_to_list unsure))

with_more : (bytes : List ℕ) (held : List Body) (b : Body) (sure : List Body) (unsure : Option Body) → Found bytes (held ++ b ∷ []) sure unsure → Found bytes held (b ∷ sure) unsure
with_more bytes held b sure unsure found = (
  found.0,
  found.1,
  ⊎_elim (λ is. inl (is ∙ append_assoc held (b ∷ []) sure)) (λ is. inr (is ∙ ap (λ (l : List Body). l ++ option_to_list unsure) (append_assoc held (b ∷ []) sure))) found.2,
)

appended : (file : ℕ) (log : BlockLog) (start : List Moment) (held sure : List Body) (unsure : Option Body) (folder : Folder) → WhereTold start (λ m. IsOpen log held (m file)) → Appends file log start sure unsure folder → Found (folder file) held sure unsure
appended file log start held [] None folder opened left =
    let has = each_left start start (λ m n. n ≡ m) folder (λ m. HasBlocks (folder file) held) (since_now start start (λ m n. n ≡ m) refl) (λ m told image. (opened m told).rest (folder file) (image file))
    (λ m n told same image. (opened m told).rest (folder file) (subst (λ (k : Moment). Leaves (k file) (folder file)) same (image file))) left in
    (held, inl has.2, inl (sym (append-nil held)))
appended file log start held [] (Some b) folder opened life =
    let either = each_left start life.0 (InFile file (Adds log b)) folder (λ m. HasBlocks (folder file) held ⊎ HasBlocks (folder file) (held ++ b ∷ [])) life.1 (λ m told image. inl ((opened m told).rest (folder file) (image file)))
    (λ m n told adds image. adds.here held (opened m told) (folder file) (image file)) life.2 in
    ⊎_elim (λ has. (held, inl has, inl (sym (append-nil held)))) (λ has. (held ++ b ∷ [], inl has, inr (ap (λ (l : List Body). l ++ b ∷ []) (sym (append-nil held))))) either.2
appended file log start held (b ∷ sure) unsure folder opened life =
    let next = told_now start life.0 (InFile file (Added log life.1 b)) (InFile file (Adds log b)) (λ m. IsOpen life.1 (held ++ b ∷ []) (m file)) life.2 life.3 (λ m k told added. added.here held (opened m told)) in
    with_more (folder file) held b sure unsure (appended file life.1 life.0 (held ++ b ∷ []) sure unsure folder next life.4)

module _ (file : ℕ) (start : List Moment) (found : List ℕ) (held : List Body) (stands : StandsFor found held) (all : WhereTold start (λ m. (c : List ℕ) → Leaves (m file) c → c ≡ found)) where
  keeps_held : (m : Moment) (n : FileState) → newest start ≡ Some m → Follows Keeps (m file) n → (c : List ℕ) → Leaves n c → StandsFor c held
  keeps_held m n told follows c left = let d = follows.crash c left in d.2 held (subst (λ (l : List ℕ). StandsFor l held) (sym (all m told d.0 d.1)) stands)

  lived : (life : Life) (folder : Folder) → Lived file start life folder → Found (folder file) held life.sure life.unsure
  lived life folder (now, since, inl cut) =
      let has = each_left start now (InFile file (Follows Keeps)) folder (λ m. StandsFor (folder file) held) since
      (λ m told image. subst (λ (l : List ℕ). StandsFor l held) (sym (all m told (folder file) (image file))) stands)
      (λ m n told follows image. keeps_held m (n file) told follows.here (folder file) (image file)) cut.2 in
      (held, has.2, inl (sym (append-nil held) ∙ ap (λ (l : List Body). held ++ l) (sym cut.0)))
  lived life folder (now, since, inr goes) =
      let log = goes.0 in
      let opened = told_now start now (InFile file (IsOpened log)) (InFile file (Follows Keeps)) (λ m. IsOpen log held (m file)) since goes.1 (λ m k told is.
      let seen = all m told (m file).seen (inl refl) in
      let same = stands_for_one found held is.here.bodies stands (subst (λ (l : List ℕ). StandsFor l is.here.bodies) seen is.here.stood) in
      subst (λ (l : List Body). IsOpen log l (k file)) same is.here.is_open) in
      appended file log now held life.sure life.unsure folder opened goes.2

pub left_behind : (file : ℕ) (lives : List Life) (bytes : List ℕ) → LeftBehind file lives bytes → (bodies : List Body) × StandsFor bytes bodies × MayHold lives bodies
left_behind file [] bytes is = ([], inr (subst (λ (l : List ℕ). length l < 10) (sym is) (let small : length {A = ℕ} [] < 10 = omega arith in small), refl), refl)
left_behind file (life ∷ earlier) bytes (found, left, start, all, folder, life_is, is) =
    let before = left_behind file earlier found left in
    let now = lived file start found before.0 before.1 all life folder life_is in
    (now.0, subst (λ (l : List ℕ). StandsFor l now.0) (sym is) now.1, (before.0, before.2, now.2))

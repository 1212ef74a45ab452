-- What calls that write make of a store, and what a crash in them leaves.
use Rattle.std.proofs.Common.{◌≡◌, ◌≢◌, ◌⊎◌, inl, inr, ⊎_elim, ℕ, zero, suc, ◌+◌, ◌<◌, ◌≤◌, max, true, List, [], ◌∷◌, ◌++◌, take, replicate, length, slice_get, slice_set, Option, Some, None, Ok, refl, sym, ◌∙◌, ap, subst, arith, IsFalse, length-append}
use Rattle.std.proofs.lemmas.Bool.{cases_eq}
use Rattle.std.proofs.lemmas.Option.{slice_get_within}
use Rattle.std.proofs.lemmas.List.{length-map, length-take-le}
use Rattle.std.specs.List.{list_all}
use Rattle.std.specs.Option.{option_map_or}
use Rattle.typed_values.specs.declared.letter.Letter.{Letter}
use Rattle.sf_disk.specs.Images.{FileState, Leaves}
use Rattle.sf_disk.specs.Moments.{Moment, Folder, IsImage, Others, InFile, Since, Becomes}
use Rattle.sf_disk.proofs.Onward.{since_as, becomes_as}
use Rattle.block_log.specs.declared.log.BlockLog.{BlockLog}
use Rattle.block_log.specs.Blocks.{Body, HasBlocks, extent}
use Rattle.block_log.specs.Logs.{AtRest, IsOpen, Adds, Added}
use Rattle.folder_messages.specs.declared.manifest.Manifest.{Manifest}
use Rattle.folder_messages.specs.declared.manifest.Manifest.TheVariants as says
use Rattle.folder_messages.specs.declared.manifest.Complete.{Complete}
use Rattle.folder_messages.specs.ManifestSpelling.{manifest_value}
use Rattle.piece_messages.specs.declared.piece.Piece.{Piece}
use Rattle.piece_messages.specs.Spelling.{piece_value, feedback_value}
use Rattle.folder_form.specs.declared.shape.Shape.{Shape}
use Rattle.folder_form.specs.declared.mark.Mark.{Mark}
use Rattle.folder_form.specs.Pieces.{owns_piece, owns_letters, latest_in}
use Rattle.folder_form.specs.declared.pieces.Home.{Home}
use Rattle.folder_form.specs.Folders.{Part, Contents, Files, Held, block_at, count_of, file_of, is_next, mark_of, parts_from, spelled_at, step_in, takes, piece_in, letters_in, with_leg, with_checkpoint}
use Rattle.snapshot_files.specs.declared.slot.Slot.{Slot}
use Rattle.snapshot_files.specs.declared.store.Store.{Store}
use Rattle.snapshot_files.specs.Logs.{AreFiles, AreUsable}
use Rattle.snapshot_files.specs.Usable.{AreAllPut}
use Rattle.snapshot_files.specs.Stores.{Pending, IsPut, IsSlot, IsKept, AreKept, AreOpen, AreSlots, AreLogs, HasForm, IsStore, complete_in, home_in, held_by, newest, nothing_pending}
use Rattle.snapshot_files.specs.Changes.{Grows, Grown, Says, Said, Keeps, Writes, with_block, with_piece, with_letters, parts_put, place_of, places_put, PutPiece, PutLetters, opened_run, Began, marked, completed_by, Completed}
use Rattle.snapshot_files.proofs.Growing.{Behind, behind_block, block_here, block_other, block_there, same_place, other_place, form_kept, form_pushed, are_still, are_pushed, put_still, slot_still, spells_piece, spells_letters, says_opening, says_complete, spells_complete, next_is, parts_kept, parts_stand}

-- ---- elements that are written

pub set_same : {X : Type 0} (xs : List X) (p : ℕ) (y : X) → p < length xs → slice_get (slice_set xs p y) p ≡ Some y
set_same [] p y within = absurd (omega (arith, within))
set_same (x ∷ xs) zero y within = refl
set_same (x ∷ xs) (suc p) y within = set_same xs p y (omega (arith, within))

pub set_other : {X : Type 0} (xs : List X) (p q : ℕ) (y : X) → q ≢ p → slice_get (slice_set xs p y) q ≡ slice_get xs q
set_other [] p q y differs = refl
set_other (x ∷ xs) zero zero y differs = absurd (differs refl)
set_other (x ∷ xs) zero (suc q) y differs = refl
set_other (x ∷ xs) (suc p) zero y differs = refl
set_other (x ∷ xs) (suc p) (suc q) y differs = set_other xs p q y (λ same. differs (ap suc same))

pub get_within : {X : Type 0} (xs : List X) (p : ℕ) → p < length xs → (x : X) × (slice_get xs p ≡ Some x)
get_within [] p within = absurd (omega (arith, within))
get_within (x ∷ xs) zero within = (x, refl)
get_within (x ∷ xs) (suc p) within = get_within xs p (omega (arith, within))

some_same : {X : Type 0} (a b : X) (o : Option X) → o ≡ Some a → o ≡ Some b → a ≡ b
some_same a b o is_a is_b = cc

in_copies : {X : Type 0} (n : ℕ) (x : X) (q : ℕ) (y : X) → slice_get (replicate n x) q ≡ Some y → x ≡ y
in_copies zero x q y at = absurd cc
in_copies (suc n) x zero y at = cc
in_copies (suc n) x (suc q) y at = in_copies n x q y at

file_apart : (p q : ℕ) → p ≢ q → file_of p ≢ file_of q
file_apart p q differs = λ same. differs (omega (arith, same))

-- ---- a block more in the file of a partition

module _ (logs : List BlockLog) (p : ℕ) (log : BlockLog) (files_are : AreFiles 2 logs) (at : slice_get logs p ≡ Some log) (body : Body) (a b : List Moment) where
  pub grows_of : Since a b (InFile log.file (Adds log body)) → Since a b (Grows (file_of p) body logs)
  grows_of since = since_as a b (InFile (file_of p) (Adds log body)) (Grows (file_of p) body logs) (subst (λ (f : ℕ). Since a b (InFile f (Adds log body))) (files_are p log at) since)
      (λ m n told i. record { others = i.others; either = λ files are. i.here (files (file_of p)) (are p log at) })

  module _ (next : BlockLog) where
    opened : (m n : Moment) (files : Files) → InFile (file_of p) (Added log next body) m n → AreOpen files m 2 logs → AreOpen (with_block (file_of p) body files) n 2 (slice_set logs p next)
    opened m n files i are q found is = ⊎_elim
        (λ same. let this : next ≡ found = some_same next found (slice_get (slice_set logs p next) p) (set_same logs p next (slice_get_within logs p log at)) (ap (slice_get (slice_set logs p next)) (sym same) ∙ is) in
        subst (λ (f : ℕ). IsOpen found (with_block (file_of p) body files f) (n f)) (ap file_of (sym same))
        (subst (λ (bodies : List Body). IsOpen found bodies (n (file_of p))) (sym (block_here (file_of p) body files))
        (subst (λ (l : BlockLog). IsOpen l (files (file_of p) ++ body ∷ []) (n (file_of p))) this (i.here (files (file_of p)) (are p log at)))))
        (λ differs. let apart = file_apart q p differs in
        subst (λ (bodies : List Body). IsOpen found bodies (n (file_of q))) (sym (block_other (file_of p) body files (file_of q) apart))
        (subst (IsOpen found (files (file_of q))) (sym (i.others (file_of q) apart)) (are q found (sym (set_other logs p q next differs) ∙ is))))
        (cases_eq q p)

    pub grown_of : (place : ℕ) → place ≡ log.end → Becomes a b (InFile log.file (Added log next body)) → Becomes a b (Grown (file_of p) place body logs (slice_set logs p next))
    grown_of place ends becomes = becomes_as a b (InFile (file_of p) (Added log next body)) (Grown (file_of p) place body logs (slice_set logs p next)) (subst (λ (f : ℕ). Becomes a b (InFile f (Added log next body))) (files_are p log at) becomes)
        (λ m n told i. record { others = i.others; place_is = λ files are. ends ∙ (are p log at).knows.end; are_open = λ files. opened m n files i })

-- each log may be used, where the one that was written may
pub usable_set : (logs : List BlockLog) (p : ℕ) (next : BlockLog) → p < length logs → AreUsable logs → IsFalse next.spent → AreUsable (slice_set logs p next)
usable_set logs p next within usable fresh q found is = ⊎_elim
    (λ same. let this : next ≡ found = some_same next found (slice_get (slice_set logs p next) p) (set_same logs p next within) (ap (slice_get (slice_set logs p next)) (sym same) ∙ is) in subst (λ (l : BlockLog). IsFalse l.spent) this fresh)
    (λ differs. usable q found (sym (set_other logs p q next differs) ∙ is))
    (cases_eq q p)

-- ---- what a crash leaves

-- a file of the folder's
abbrev pub IsOwn : ℕ → Type 0
IsOwn file = (file ≡ 0) ⊎ ((p : ℕ) × (p < 16) × (file ≡ file_of p))

module _ (store : Store) (contents : Contents) (pending : ℕ → Pending) (first : Moment) (is : IsStore store contents pending first) where
  at_rest : (file : ℕ) → IsOwn file → AtRest (first file) (is.files file)
  at_rest file (inl same) = subst (λ (f : ℕ). AtRest (first f) (is.files f)) (sym same) is.manifest.rest
  at_rest file (inr (p, within, same)) =
      let log = get_within store.logs.items p (omega (arith, within, store.logs_len, store.logs.ok.0)) in
      subst (λ (f : ℕ). AtRest (first f) (is.files f)) (sym same) (is.logs p log.0 log.1).rest

  -- the images of a moment at which one file may have changed
  module _ (later : Moment) (file : ℕ) (others : Others file first later) (folder : Folder) (image : IsImage later folder) (now : Files) (same : (other : ℕ) → other ≢ file → now other ≡ is.files other) (here : HasBlocks (folder file) (now file)) where
    has : (other : ℕ) → IsOwn other → HasBlocks (folder other) (now other)
    has other own = ⊎_elim (λ e. subst (λ (f : ℕ). HasBlocks (folder f) (now f)) (sym e) here)
        (λ differs. subst (HasBlocks (folder other)) (sym (same other differs)) (at_rest other own (folder other) (subst (λ (s : FileState). Leaves s (folder other)) (others other differs) (image other))))
        (cases_eq other file)

    pub stands : AreLogs folder now
    stands = record { manifest = inl (has 0 (inl refl)); logs = λ p within. inl (has (file_of p) (inr (p, within, refl))) }

zero_apart : (p : ℕ) → 0 ≢ file_of p
zero_apart p = λ same. omega (arith, same)

pub keeps_of : (store : Store) (p : ℕ) (body : Body) (a b : List Moment) → p < 16 → Since a b (Grows (file_of p) body store.logs.items) → Since a b (Keeps (file_of p) store)
keeps_of store p body a b within since = since_as a b (Grows (file_of p) body store.logs.items) (Keeps (file_of p) store) since (λ m n told grows. record {
  others = grows.others;
  stands = λ contents pending is folder image. either m n grows contents pending is folder image (grows.either is.files is.logs (folder (file_of p)) (image (file_of p)));
})
  where
    either : (m n : Moment) → Grows (file_of p) body store.logs.items m n → (contents : Contents) (pending : ℕ → Pending) (is : IsStore store contents pending m) (folder : Folder) → IsImage n folder
        → HasBlocks (folder (file_of p)) (is.files (file_of p)) ⊎ HasBlocks (folder (file_of p)) (is.files (file_of p) ++ body ∷ []) → HasForm folder (Some (held_by store contents))
    either m n grows contents pending is folder image (inl has) = record {
      files = is.files;
      are_logs = stands store contents pending m is n (file_of p) grows.others folder image is.files (λ other differs. refl) has;
      form_is = is.form_is;
    }
    either m n grows contents pending is folder image (inr has) =
        let now = with_block (file_of p) body is.files in
        record {
          files = now;
          are_logs = stands store contents pending m is n (file_of p) grows.others folder image now (block_other (file_of p) body is.files) (subst (HasBlocks (folder (file_of p))) (sym (block_here (file_of p) body is.files)) has);
          form_is = form_kept is.files now (held_by store contents) (behind_block (file_of p) body is.files) (block_other (file_of p) body is.files 0 (zero_apart p)) is.form_is;
        }

pub writes_of : (store : Store) (said : Manifest) (next : Contents → (ℕ → Pending) → Option Contents) (a b : List Moment)
    → ((m : Moment) (contents written : Contents) (pending : ℕ → Pending) (is : IsStore store contents pending m) (body : Body) → manifest_value body ≡ Ok said → next contents pending ≡ Some written
    → (at : ℕ) → step_in store.shape (with_block 0 body is.files) at contents body ≡ Ok written)
    → Since a b (Says said store.manifest) → Since a b (Writes store next)
writes_of store said next a b step since = since_as a b (Says said store.manifest) (Writes store next) since (λ m n told says. record {
  others = says.adds.others;
  stands = λ contents pending written is is_next folder image. either m n says contents pending written is is_next folder image (says.adds.here (is.files 0) is.manifest (folder 0) (image 0));
})
  where
    either : (m n : Moment) (says : Says said store.manifest m n) (contents : Contents) (pending : ℕ → Pending) (written : Contents) (is : IsStore store contents pending m) → next contents pending ≡ Some written → (folder : Folder) → IsImage n folder
        → HasBlocks (folder 0) (is.files 0) ⊎ HasBlocks (folder 0) (is.files 0 ++ says.body ∷ []) → HasForm folder (Some (held_by store contents)) ⊎ HasForm folder (Some (held_by store written))
    either m n says contents pending written is is_next folder image (inl has) = inl (record {
      files = is.files;
      are_logs = stands store contents pending m is n 0 says.adds.others folder image is.files (λ other differs. refl) has;
      form_is = is.form_is;
    })
    either m n says contents pending written is is_next folder image (inr has) =
        let now = with_block 0 says.body is.files in
        inr (record {
          files = now;
          are_logs = stands store contents pending m is n 0 says.adds.others folder image now (block_other 0 says.body is.files) (subst (HasBlocks (folder 0)) (sym (block_here 0 says.body is.files)) has);
          form_is = form_pushed is.files now says.body (held_by store contents) written (behind_block 0 says.body is.files) (block_here 0 says.body is.files) (step m contents written pending is says.body says.spells is_next) is.form_is;
        })

-- ---- what was put

-- all but its slots and logs is as it was
pub record SameBut (store now : Store) : Type 0 where
  pub manifest : now.manifest ≡ store.manifest
  pub text : now.text ≡ store.text
  pub shape : now.shape ≡ store.shape
  pub completes : now.completes ≡ store.completes
  pub stored_leg : now.stored_leg ≡ store.stored_leg

held_still : (store now : Store) (contents : Contents) → now.text ≡ store.text → now.shape ≡ store.shape → held_by store contents ≡ held_by now contents
held_still store now contents text shape = ap (λ (t : List ℕ). record { text = t; shape = store.shape; contents = contents }) (sym text) ∙ ap (λ (s : Shape). record { text = now.text; shape = s; contents = contents }) (sym shape)

-- a store in which a block of a partition came behind
module _ (store now : Store) (same : SameBut store now) (p place : ℕ) (body : Body) (m n : Moment) (grown : Grown (file_of p) place body store.logs.items now.logs.items m n) (contents : Contents) (pending after : ℕ → Pending) (is : IsStore store contents pending m) where
  behind : Behind is.files (with_block (file_of p) body is.files)
  behind = behind_block (file_of p) body is.files

  manifest_still : with_block (file_of p) body is.files 0 ≡ is.files 0
  manifest_still = block_other (file_of p) body is.files 0 (zero_apart p)

  pub is_grown : AreSlots now (with_block (file_of p) body is.files) after → IsStore now contents after n
  is_grown slots = record {
    files = with_block (file_of p) body is.files;
    manifest = subst (λ (l : BlockLog). IsOpen l (with_block (file_of p) body is.files 0) (n 0)) (sym same.manifest)
        (subst (λ (bodies : List Body). IsOpen store.manifest bodies (n 0)) (sym manifest_still) (subst (IsOpen store.manifest (is.files 0)) (sym (grown.others 0 (zero_apart p))) is.manifest));
    logs = grown.are_open is.files is.logs;
    form_is = form_kept is.files (with_block (file_of p) body is.files) (held_by store contents) behind manifest_still is.form_is ∙ ap (λ (h : Held). Ok (Some h)) (held_still store now contents same.text same.shape);
    kept = subst (λ (s : Shape). AreKept s (with_block (file_of p) body is.files) now.completes contents.checkpoints) (sym same.shape)
        (subst (λ (l : List ℕ). AreKept store.shape (with_block (file_of p) body is.files) l contents.checkpoints) (sym same.completes) (are_still store.shape is.files (with_block (file_of p) body is.files) store.completes contents.checkpoints behind is.kept));
    slots = slots;
    newest_is = ap length same.completes ∙ is.newest_is;
    leg_is = same.stored_leg ∙ is.leg_is;
  }

  -- the slots, where that of the partition is another
  module _ (old slot : Slot) (was : slice_get store.slots.items p ≡ Some old) (written : now.slots.items ≡ slice_set store.slots.items p slot) (rest : (q : ℕ) → q ≢ p → after q ≡ pending q) (here : IsSlot (home_in store.shape p) (with_block (file_of p) body is.files (file_of p)) slot (after p)) where
    slots_in : (q : ℕ) (found : Slot) → slice_get (slice_set store.slots.items p slot) q ≡ Some found → IsSlot (home_in store.shape q) (with_block (file_of p) body is.files (file_of q)) found (after q)
    slots_in q found at = ⊎_elim
        (λ e. let this : slot ≡ found = some_same slot found (slice_get (slice_set store.slots.items p slot) p) (set_same store.slots.items p slot (slice_get_within store.slots.items p old was)) (ap (slice_get (slice_set store.slots.items p slot)) (sym e) ∙ at) in
        subst (λ (k : ℕ). IsSlot (home_in store.shape k) (with_block (file_of p) body is.files (file_of k)) found (after k)) (sym e) (subst (λ (s : Slot). IsSlot (home_in store.shape p) (with_block (file_of p) body is.files (file_of p)) s (after p)) this here))
        (λ differs. subst (IsSlot (home_in store.shape q) (with_block (file_of p) body is.files (file_of q)) found) (sym (rest q differs))
        (slot_still (home_in store.shape q) (is.files (file_of q)) (with_block (file_of p) body is.files (file_of q)) found (pending q) (behind (file_of q)) (is.slots q found (sym (set_other store.slots.items p q slot differs) ∙ at))))
        (cases_eq q p)

    pub is_put : IsStore now contents after n
    is_put = is_grown (λ q found at. subst (λ (s : Shape). IsSlot (home_in s q) (with_block (file_of p) body is.files (file_of q)) found (after q)) (sym same.shape) (slots_in q found (ap (λ (l : List Slot). slice_get l q) (sym written) ∙ at)))

-- a slot, where the block behind is its piece or its letters
module _ (store : Store) (p place : ℕ) (body : Body) (contents : Contents) (pending : ℕ → Pending) (m : Moment) (is : IsStore store contents pending m) (place_is : place ≡ extent (is.files (file_of p))) (old : Slot) (was : slice_get store.slots.items p ≡ Some old) where
  still : (q : ℕ) (b : Body) → block_at q (is.files (file_of p)) ≡ Some b → block_at q (with_block (file_of p) body is.files (file_of p)) ≡ Some b
  still = behind_block (file_of p) body is.files (file_of p)

  there : {A : Type 0} (read : Body → Option A) (a : A) → read body ≡ Some a → spelled_at read (block_at place (with_block (file_of p) body is.files (file_of p))) ≡ Some a
  there read a spelled = ap (spelled_at read) (block_there (file_of p) body is.files place place_is) ∙ spelled

  with_its_piece : (piece : Piece) → piece_in (home_in store.shape p) (latest_in piece) body ≡ Some piece
      → IsSlot (home_in store.shape p) (with_block (file_of p) body is.files (file_of p)) (record { piece = Some place; latest = latest_in piece; letters = old.letters }) (record (pending p) { piece = Some piece })
  with_its_piece piece spelled = record {
    piece = there (piece_in (home_in store.shape p) (latest_in piece)) piece spelled;
    letters = put_still (letters_in (home_in store.shape p)) (is.files (file_of p)) (with_block (file_of p) body is.files (file_of p)) old.letters (pending p).letters still (is.slots p old was).letters;
  }

  with_its_letters : (letters : List Letter) → letters_in (home_in store.shape p) body ≡ Some letters
      → IsSlot (home_in store.shape p) (with_block (file_of p) body is.files (file_of p)) (record { piece = old.piece; latest = old.latest; letters = Some place }) (record (pending p) { letters = Some letters })
  with_its_letters letters spelled = record {
    piece = put_still (piece_in (home_in store.shape p) old.latest) (is.files (file_of p)) (with_block (file_of p) body is.files (file_of p)) old.piece (pending p).piece still (is.slots p old was).piece;
    letters = there (letters_in (home_in store.shape p)) letters spelled;
  }

module _ (store now : Store) (same : SameBut store now) (place : ℕ) (body : Body) (a b : List Moment) (old : Slot) where
  pub piece_put : (piece : Piece) → Becomes a b (Grown (file_of piece.partition) place body store.logs.items now.logs.items) → slice_get store.slots.items piece.partition ≡ Some old → owns_piece (home_in store.shape piece.partition) piece ≡ true → piece_value body ≡ Ok piece
      → now.slots.items ≡ slice_set store.slots.items piece.partition (record { piece = Some place; latest = latest_in piece; letters = old.letters }) → Becomes a b (PutPiece store now piece)
  piece_put piece grown was owned spells written = becomes_as a b (Grown (file_of piece.partition) place body store.logs.items now.logs.items) (PutPiece store now piece) grown (λ m n told g. record {
    others = g.others;
    is_store = λ contents pending is. is_put store now same piece.partition place body m n g contents pending (with_piece piece.partition piece pending) is old (record { piece = Some place; latest = latest_in piece; letters = old.letters }) was written
        (λ q differs. other_place q piece.partition (record (pending q) { piece = Some piece }) (pending q) differs)
        (subst (IsSlot (home_in store.shape piece.partition) (with_block (file_of piece.partition) body is.files (file_of piece.partition)) (record { piece = Some place; latest = latest_in piece; letters = old.letters }))
        (sym (same_place piece.partition piece.partition (record (pending piece.partition) { piece = Some piece }) (pending piece.partition) refl))
        (with_its_piece store piece.partition place body contents pending m is (g.place_is is.files is.logs) old was piece (spells_piece (home_in store.shape piece.partition) body piece owned spells)));
  })

  pub letters_put : (p : ℕ) (letters : List Letter) → Becomes a b (Grown (file_of p) place body store.logs.items now.logs.items) → slice_get store.slots.items p ≡ Some old → owns_letters (home_in store.shape p) letters ≡ true → feedback_value body ≡ Ok (record { letters = letters })
      → now.slots.items ≡ slice_set store.slots.items p (record { piece = old.piece; latest = old.latest; letters = Some place }) → Becomes a b (PutLetters store now p letters)
  letters_put p letters grown was owned spells written = becomes_as a b (Grown (file_of p) place body store.logs.items now.logs.items) (PutLetters store now p letters) grown (λ m n told g. record {
    others = g.others;
    is_store = λ contents pending is. is_put store now same p place body m n g contents pending (with_letters p letters pending) is old (record { piece = old.piece; latest = old.latest; letters = Some place }) was written
        (λ q differs. other_place q p (record (pending q) { letters = Some letters }) (pending q) differs)
        (subst (IsSlot (home_in store.shape p) (with_block (file_of p) body is.files (file_of p)) (record { piece = old.piece; latest = old.latest; letters = Some place }))
        (sym (same_place p p (record (pending p) { letters = Some letters }) (pending p) refl))
        (with_its_letters store p place body contents pending m is (g.place_is is.files is.logs) old was letters (spells_letters (home_in store.shape p) body letters owned spells)));
  })

-- nothing was put
empty_put : {A : Type 0} (read : Body → Option A) (bodies : List Body) (place : Option ℕ) → place ≡ None → IsPut read bodies place None
empty_put read bodies None same = tt
empty_put read bodies (Some place) same = absurd cc

empty_slot : (home : Home) (bodies : List Body) (slot : Slot) → slot.piece ≡ None → slot.letters ≡ None → IsSlot home bodies slot (record { piece = None; letters = None })
empty_slot home bodies slot piece letters = record { piece = empty_put (piece_in home slot.latest) bodies slot.piece piece; letters = empty_put (letters_in home) bodies slot.letters letters }

pub none_put : (n : ℕ) (empty : Slot) (slots : List Slot) → slots ≡ replicate n empty → empty.piece ≡ None → empty.letters ≡ None → (q : ℕ) (slot : Slot) → slice_get slots q ≡ Some slot → (slot.piece ≡ None) × (slot.letters ≡ None)
none_put n empty slots all piece letters q slot at =
    let same = in_copies n empty q slot (ap (λ (l : List Slot). slice_get l q) (sym all) ∙ at) in
    (ap (λ (s : Slot). s.piece) (sym same) ∙ piece, ap (λ (s : Slot). s.letters) (sym same) ∙ letters)

-- ---- what was said

pub says_of : (log : BlockLog) → log.file ≡ 0 → (saying : Manifest) (body : Body) → manifest_value body ≡ Ok saying → (a b : List Moment) → Since a b (InFile log.file (Adds log body)) → Since a b (Says saying log)
says_of log file saying body spells a b since = since_as a b (InFile 0 (Adds log body)) (Says saying log) (subst (λ (f : ℕ). Since a b (InFile f (Adds log body))) file since) (λ m n told i. record { body = body; spells = spells; adds = i })

module _ (store now : Store) (logs : now.logs ≡ store.logs) (text : now.text ≡ store.text) (shape : now.shape ≡ store.shape) (saying : Manifest) (place : ℕ) (m n : Moment) (said : Said saying place store.manifest now.manifest m n) (contents written : Contents) (pending after : ℕ → Pending) (is : IsStore store contents pending m) where
  pub files_said : Files
  files_said = with_block 0 said.body is.files

  file_still : (p : ℕ) → with_block 0 said.body is.files (file_of p) ≡ is.files (file_of p)
  file_still p = block_other 0 said.body is.files (file_of p) (λ e. zero_apart p (sym e))

  pub is_said : ((at : ℕ) → step_in store.shape (with_block 0 said.body is.files) at contents said.body ≡ Ok written) → AreKept store.shape (with_block 0 said.body is.files) now.completes written.checkpoints
      → ((q : ℕ) (slot : Slot) → slice_get now.slots.items q ≡ Some slot → IsSlot (home_in store.shape q) (is.files (file_of q)) slot (after q)) → length now.completes ≡ length written.checkpoints → now.stored_leg ≡ written.leg → IsStore now written after n
  is_said step kept slots newest_is leg_is = record {
    files = with_block 0 said.body is.files;
    manifest = subst (λ (bodies : List Body). IsOpen now.manifest bodies (n 0)) (sym (block_here 0 said.body is.files)) (said.added.here (is.files 0) is.manifest);
    logs = λ q log at. subst (λ (bodies : List Body). IsOpen log bodies (n (file_of q))) (sym (file_still q))
        (subst (IsOpen log (is.files (file_of q))) (sym (said.added.others (file_of q) (λ e. zero_apart q (sym e)))) (is.logs q log (ap (λ v. slice_get v.items q) (sym logs) ∙ at)));
    form_is = form_pushed is.files (with_block 0 said.body is.files) said.body (held_by store contents) written (behind_block 0 said.body is.files) (block_here 0 said.body is.files) step is.form_is ∙ ap (λ (h : Held). Ok (Some h)) (held_still store now written text shape);
    kept = subst (λ (s : Shape). AreKept s (with_block 0 said.body is.files) now.completes written.checkpoints) (sym shape) kept;
    slots = λ q slot at. subst (λ (s : Shape). IsSlot (home_in s q) (with_block 0 said.body is.files (file_of q)) slot (after q)) (sym shape)
        (subst (λ (bodies : List Body). IsSlot (home_in store.shape q) bodies slot (after q)) (sym (file_still q)) (slots q slot at));
    newest_is = newest_is;
    leg_is = leg_is;
  }

-- ---- a run is begun

pub opens : (store : Store) (limit : ℕ) (a b : List Moment) → Since a b (Says (says.Opening (record { leg = limit })) store.manifest) → Since a b (Writes store (opened_run limit))
opens store limit a b since = writes_of store (says.Opening (record { leg = limit })) (opened_run limit) a b
    (λ m contents written pending is body spells next at. says_opening store.shape (with_block 0 body is.files) limit contents body spells at ∙ ap (λ (c : Contents). Ok c) (one_contents (with_leg limit contents) written next)) since
  where
    one_contents : (c d : Contents) → Some c ≡ Some d → c ≡ d
    one_contents c d e = cc

pub began : (store now : Store) → now.logs ≡ store.logs → now.text ≡ store.text → now.shape ≡ store.shape → now.slots ≡ store.slots → now.completes ≡ store.completes → (limit place : ℕ) → now.stored_leg ≡ limit → store.stored_leg ≤ limit → (a b : List Moment)
    → Becomes a b (Said (says.Opening (record { leg = limit })) place store.manifest now.manifest) → Becomes a b (Began store now limit)
began store now logs text shape slots completes limit place leg less a b said = becomes_as a b (Said (says.Opening (record { leg = limit })) place store.manifest now.manifest) (Began store now limit) said (λ m n told s. record {
  others = s.added.others;
  is_store = λ contents pending is. is_said store now logs text shape (says.Opening (record { leg = limit })) place m n s contents (with_leg limit contents) pending pending is
      (says_opening store.shape (with_block 0 s.body is.files) limit contents s.body s.spells)
      (subst (λ (l : List ℕ). AreKept store.shape (with_block 0 s.body is.files) l contents.checkpoints) (sym completes) (are_still store.shape is.files (with_block 0 s.body is.files) store.completes contents.checkpoints (behind_block 0 s.body is.files) is.kept))
      (λ q slot at. is.slots q slot (ap (λ v. slice_get v.items q) (sym slots) ∙ at))
      (ap length completes ∙ is.newest_is)
      (let e : now.stored_leg ≡ max contents.leg limit = omega (arith, leg, less, is.leg_is) in e);
})

-- ---- a checkpoint is completed

module _ (store : Store) (mark : Mark) (complete : Complete) (mark_is : mark_of complete ≡ mark) (places_are : complete.places ≡ places_put store) (put : AreAllPut store mark.moment) (number : mark.number ≡ newest store + 1) (leg : mark.number ≤ mark.leg) (taken : length mark.taken ≡ store.shape.splits) (all : list_all takes mark.takes ≡ true) where
  count_taken : length complete.taken ≡ store.shape.splits
  count_taken = sym (length-map complete.taken count_of) ∙ ap (λ (k : Mark). length k.taken) mark_is ∙ taken

  count_places : length complete.places ≡ store.shape.partitions
  count_places = ap length places_are ∙ length-map (take store.shape.partitions store.slots.items) place_of ∙ length-take-le store.shape.partitions store.slots.items (omega (arith, store.most, store.slots_len, store.slots.ok.0))

  module _ (contents : Contents) (pending : ℕ → Pending) (m : Moment) (is : IsStore store contents pending m) (parts : List Part) (parts_are : parts_put store.shape.partitions 0 pending ≡ Some parts) where
    is_next_one : is_next store.shape (length contents.checkpoints) complete ≡ true
    is_next_one = next_is store.shape (length contents.checkpoints) complete (ap (λ (k : Mark). k.number) mark_is ∙ number ∙ ap (λ (k : ℕ). k + 1) is.newest_is)
        (subst (λ (k : Mark). k.number ≤ k.leg) (sym mark_is) leg) count_taken count_places (ap (λ (k : Mark). list_all takes k.takes) mark_is ∙ all)

    parts_there : parts_from store.shape.partitions 0 is.files complete.moment complete.places ≡ Ok parts
    parts_there = ap (parts_from store.shape.partitions 0 is.files complete.moment) places_are
        ∙ ap (λ (k : Mark). parts_from store.shape.partitions 0 is.files k.moment (places_put store)) mark_is
        ∙ parts_stand store.shape.partitions is.files pending mark.moment store.shape.partitions 0 store.slots.items parts (omega (arith, store.most, store.slots_len, store.slots.ok.0))
        (λ k q slot less at same. subst (λ (p : ℕ). IsSlot (home_in store.shape p) (is.files (file_of p)) slot (pending p) × (slot.latest ≤ mark.moment)) (let e : k ≡ q = omega (arith, same) in e)
        (is.slots k slot at, subst (λ (l : ℕ). l ≤ mark.moment) (ap (λ (o : Option Slot). option_map_or (λ s. s.latest) o 0) at) (put k less).2))
        parts_are

    -- the block completes them, whatever comes behind other blocks
    completes_them : (now : Files) (body : Body) → Behind is.files now → manifest_value body ≡ Ok (says.Complete complete) → (at : ℕ) → step_in store.shape now at contents body ≡ Ok (with_checkpoint mark parts contents)
    completes_them now body behind spells at =
        says_complete store.shape now complete contents body parts spells is_next_one (parts_kept store.shape.partitions 0 is.files now complete.moment complete.places parts behind parts_there) at
        ∙ ap (λ (k : Mark). Ok (with_checkpoint k parts contents)) mark_is

  some_marked : (contents written : Contents) (o : Option (List Part)) → marked mark contents o ≡ Some written → (parts : List Part) × (o ≡ Some parts) × (with_checkpoint mark parts contents ≡ written)
  some_marked contents written None is = absurd cc
  some_marked contents written (Some parts) is = (parts, refl, cc)

  pub may_complete : (a b : List Moment) → Since a b (Says (says.Complete complete) store.manifest) → Since a b (Writes store (completed_by store mark))
  may_complete a b since = writes_of store (says.Complete complete) (completed_by store mark) a b
      (λ m contents written pending is body spells next at.
      let p = some_marked contents written (parts_put store.shape.partitions 0 pending) next in
      completes_them contents pending m is p.0 p.1 (with_block 0 body is.files) body (behind_block 0 body is.files) spells at ∙ ap (λ (c : Contents). Ok c) p.2) since

  module _ (now : Store) (logs : now.logs ≡ store.logs) (text : now.text ≡ store.text) (shape : now.shape ≡ store.shape) (place : ℕ) (completes : now.completes ≡ store.completes ++ place ∷ []) (stored : now.stored_leg ≡ max store.stored_leg mark.leg) (none : (q : ℕ) (slot : Slot) → slice_get now.slots.items q ≡ Some slot → (slot.piece ≡ None) × (slot.letters ≡ None)) where
    newly_kept : (m n : Moment) (s : Said (says.Complete complete) place store.manifest now.manifest m n) (contents : Contents) (pending : ℕ → Pending) (is : IsStore store contents pending m) (parts : List Part) → parts_put store.shape.partitions 0 pending ≡ Some parts
        → IsKept store.shape (with_block 0 s.body is.files) place (record { mark = mark; parts = parts })
    newly_kept m n s contents pending is parts parts_are = record {
      complete = complete;
      block = ap (spelled_at complete_in) (block_there 0 s.body is.files place (s.place_is ∙ is.manifest.knows.end)) ∙ spells_complete s.body complete s.spells;
      mark = sym mark_is;
      parts = parts_kept store.shape.partitions 0 is.files (with_block 0 s.body is.files) complete.moment complete.places parts (behind_block 0 s.body is.files) (parts_there contents pending m is parts parts_are);
    }

    pub completed : (a b : List Moment) → Becomes a b (Said (says.Complete complete) place store.manifest now.manifest) → Becomes a b (Completed store now mark)
    completed a b said = becomes_as a b (Said (says.Complete complete) place store.manifest now.manifest) (Completed store now mark) said (λ m n told s. record {
      others = s.added.others;
      is_store = λ contents pending parts is parts_are. is_said store now logs text shape (says.Complete complete) place m n s contents (with_checkpoint mark parts contents) pending nothing_pending is
          (completes_them contents pending m is parts parts_are (with_block 0 s.body is.files) s.body (behind_block 0 s.body is.files) s.spells)
          (subst (λ (l : List ℕ). AreKept store.shape (with_block 0 s.body is.files) l (contents.checkpoints ++ record { mark = mark; parts = parts } ∷ [])) (sym completes)
          (are_pushed store.shape (with_block 0 s.body is.files) store.completes contents.checkpoints place (record { mark = mark; parts = parts })
          (are_still store.shape is.files (with_block 0 s.body is.files) store.completes contents.checkpoints (behind_block 0 s.body is.files) is.kept) (newly_kept m n s contents pending is parts parts_are)))
          (λ q slot at. empty_slot (home_in store.shape q) (is.files (file_of q)) slot (none q slot at).0 (none q slot at).1)
          (let e : length now.completes ≡ length (contents.checkpoints ++ record { mark = mark; parts = parts } ∷ []) = omega (arith, ap length completes, length-append store.completes (place ∷ []), length-append contents.checkpoints (record { mark = mark; parts = parts } ∷ []), is.newest_is) in e)
          (stored ∙ ap (λ (l : ℕ). max l mark.leg) is.leg_is);
    })

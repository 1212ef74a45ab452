-- What putting the part of a checkpoint, completing it and committing its egress make of a folder.
use Rattle.std.proofs.Common.{◌≡◌, ◌≢◌, ◌⊎◌, inl, inr, ℕ, zero, suc, ◌+◌, ◌-◌, ◌<◌, ◌≤◌, true, List, [], ◌∷◌, ◌++◌, length, slice_get, Option, Some, None, option_map, refl, sym, ◌∙◌, ap, subst, arith, append-nil}
use Rattle.std.specs.Option.{option_to_list}
use Rattle.sf_disk.specs.Images.{FileState, Leaves}
use Rattle.sf_disk.specs.Moments.{Moment, Folder, IsImage, Others, InFile, Since, Becomes, WhereTold, newest}
use Rattle.sf_disk.proofs.Onward.{since_as, since_then, becomes_as, becomes_then, at_now, told_now}
use Rattle.typed_values.specs.declared.letter.Letter.{Letter}
use Rattle.piece_messages.specs.declared.piece.Piece.{Piece}
use Rattle.folder_form.specs.declared.mark.Mark.{Mark}
use Rattle.folder_form.specs.Folders.{Part, Checkpoint, Contents, egress_in, file_of, pieces_of, with_checkpoint}
use Rattle.snapshot_files.specs.declared.store.Store.{Store}
use Rattle.snapshot_files.specs.Stores.{newest as newest_of, HasForm, Pending, IsStore, nothing_pending, held_by}
use Rattle.snapshot_files.specs.Changes.{Keeps, Writes, PutPiece, PutLetters, Completed, completed_by, marked, parts_put, with_piece, with_letters}
use Rattle.snapshot_files.proofs.OneThing.{store_stands}
use Rattle.egress_commit.specs.declared.outlet.Outlet.{Outlet}
use Rattle.egress_commit.specs.Epochs.{Epoch, HasEpochs}
use Rattle.egress_commit.specs.Outlets.{last_epoch, IsOutlet, Commits, Committed}
use Rattle.egress_commit.proofs.Steps.{counted}
use Rattle.checkpoint_storage.specs.declared.storage.CheckpointStorage.{CheckpointStorage}
use Rattle.checkpoint_storage.specs.Folders.{Stands, IsStorage, IsKnown, Change, Leaves as LeavesAmong, Turns, uncommitted, with_next, Completes, Checkpoints, the_part}
use Rattle.checkpoint_storage.proofs.Images.{AreSame, same_but_egress, store_still, epochs_left, stands_by, storage_stands}

-- what was put so far, beside what the storage stood for
record Holds (storage : CheckpointStorage) (store : Store) (put : (ℕ → Pending) → ℕ → Pending) (m k : Moment) : Type 0 where
  store_is : (contents : Contents) (epochs : List Epoch) → IsStorage storage contents epochs m → IsStore store contents (put nothing_pending) k
  egress : k 1 ≡ m 1

-- the egress file is as it was
outlet_left : (outlet : Outlet) (epochs : List Epoch) (m n : Moment) → n 1 ≡ m 1 → IsOutlet outlet epochs (m 1) → (folder : Folder) → IsImage n folder → HasEpochs (folder 1) epochs
outlet_left outlet epochs m n same is folder image = epochs_left outlet epochs (m 1) is (folder 1) (subst (λ (s : FileState). Leaves s (folder 1)) same (image 1))

module _ (storage : CheckpointStorage) (parts : List Part) (mark : Mark) where
  -- a part was put: all stands as it did
  kept : (store : Store) (put : (ℕ → Pending) → ℕ → Pending) (file : ℕ) → 1 ≢ file → store.text ≡ storage.store.text → (m k n : Moment) → Holds storage store put m k → Keeps file store k n → LeavesAmong storage (Completes mark parts) m n
  kept store put file differs same m k n holds keeps contents epochs is folder image = (
    contents,
    epochs,
    (inl refl, refl),
    stands_by store contents epochs storage.store.text folder same (keeps.stands contents (put nothing_pending) (holds.store_is contents epochs is) folder image)
        (outlet_left storage.outlet epochs m n (keeps.others 1 differs ∙ holds.egress) is.outlet folder image),
  )

  -- the checkpoint stands, or not yet
  written : (store : Store) (put : (ℕ → Pending) → ℕ → Pending) → store.text ≡ storage.store.text → store.shape ≡ storage.store.shape → storage.store.shape.partitions ≡ 1 → parts_put 1 0 (put nothing_pending) ≡ Some parts
      → (m k n : Moment) → Holds storage store put m k → Writes store (completed_by store mark) k n → LeavesAmong storage (Completes mark parts) m n
  written store put same shape one all m k n holds writes contents epochs is folder image =
      by (writes.stands contents (put nothing_pending) (with_checkpoint mark parts contents) (holds.store_is contents epochs is) completes folder image)
    where
      all_put : parts_put store.shape.partitions 0 (put nothing_pending) ≡ Some parts
      all_put = ap (λ (n : ℕ). parts_put n 0 (put nothing_pending)) (ap (λ s. s.partitions) shape ∙ one) ∙ all

      completes : completed_by store mark contents (put nothing_pending) ≡ Some (with_checkpoint mark parts contents)
      completes = ap (marked mark contents) all_put

      left : HasEpochs (folder 1) epochs
      left = outlet_left storage.outlet epochs m n (writes.others 1 (λ e. omega (arith, e)) ∙ holds.egress) is.outlet folder image

      by : HasForm folder (Some (held_by store contents)) ⊎ HasForm folder (Some (held_by store (with_checkpoint mark parts contents)))
          → (now : Contents) × (committed : List Epoch) × Completes mark parts contents epochs now committed × Stands storage.store.text folder now committed
      by (inl form) = (contents, epochs, (inl refl, refl), stands_by store contents epochs storage.store.text folder same form left)
      by (inr form) = (with_checkpoint mark parts contents, epochs, (inr refl, refl), stands_by store (with_checkpoint mark parts contents) epochs storage.store.text folder same form left)

-- what was put for the only partition
abbrev pub put_piece : Piece → (ℕ → Pending) → ℕ → Pending
put_piece piece pending = with_piece piece.partition piece pending

abbrev pub put_both : Piece → List Letter → (ℕ → Pending) → ℕ → Pending
put_both piece letters pending = with_letters 0 letters (put_piece piece pending)

both_put : (piece : Piece) (letters : List Letter) → piece.partition ≡ 0 → parts_put 1 0 (put_both piece letters nothing_pending) ≡ Some (the_part piece letters)
both_put piece letters first = ap (λ (p : ℕ). parts_put 1 0 (with_letters 0 letters (with_piece p piece nothing_pending))) first

module _ (storage : CheckpointStorage) (mark : Mark) (piece : Piece) (letters : List Letter) (first : piece.partition ≡ 0) (single : storage.store.shape.partitions ≡ 1) (a b : List Moment)
    (put : Since a b (Keeps (file_of piece.partition) storage.store)) where
  first_file : 1 ≢ file_of piece.partition
  first_file same = omega (arith, same)

  holds_none : (m : Moment) → Holds storage storage.store (λ pending. pending) m m
  holds_none m = record { store_is = λ contents epochs is. is.store; egress = refl }

  pub piece_leaves : Since a b (LeavesAmong storage (Completes mark (the_part piece letters)))
  piece_leaves = since_as a b (Keeps (file_of piece.partition) storage.store) (LeavesAmong storage (Completes mark (the_part piece letters))) put
      (λ m n told keeps. kept storage (the_part piece letters) mark storage.store (λ pending. pending) (file_of piece.partition) first_file refl m m n (holds_none m) keeps)

  pub piece_known : (one : Store) → Becomes a b (PutPiece storage.store one piece) → IsKnown storage a → WhereTold b (λ now. (contents : Contents) × (pending : (ℕ → Pending)) × IsStore one contents pending now)
  piece_known one is_put known = told_now a b (PutPiece storage.store one piece) (Keeps (file_of piece.partition) storage.store) (λ now. (contents : Contents) × (pending : (ℕ → Pending)) × IsStore one contents pending now) put is_put
      (λ m k told p. let r = known m told in (r.0, put_piece piece nothing_pending, p.is_store r.0 nothing_pending r.2.store))

  module _ (one : Store) (text_one : one.text ≡ storage.store.text) (is_put : Becomes a b (PutPiece storage.store one piece)) (c : List Moment) (put_letters : Since b c (Keeps 2 one)) where
    holds_piece : (m k : Moment) → PutPiece storage.store one piece m k → Holds storage one (put_piece piece) m k
    holds_piece m k p = record { store_is = λ contents epochs is. p.is_store contents nothing_pending is.store; egress = p.others 1 first_file }

    piece_now : (m k : Moment) → newest a ≡ Some m → newest b ≡ Some k → Holds storage one (put_piece piece) m k
    piece_now m k told_m told_k = holds_piece m k (at_now a b (PutPiece storage.store one piece) is_put m k told_m told_k)

    pub letters_leave : Since a c (LeavesAmong storage (Completes mark (the_part piece letters)))
    letters_leave = since_then a b c (LeavesAmong storage (Completes mark (the_part piece letters))) (Keeps 2 one) piece_leaves put_letters
        (λ m k n told_m told_k keeps. kept storage (the_part piece letters) mark one (put_piece piece) 2 (λ e. omega (arith, e)) text_one m k n (piece_now m k told_m told_k) keeps)

    pub both_known : (two : Store) → Becomes b c (PutLetters one two 0 letters) → IsKnown storage a → WhereTold c (λ now. (contents : Contents) × (pending : (ℕ → Pending)) × IsStore two contents pending now)
    both_known two are_put known = told_now a c (Holds storage two (put_both piece letters)) (LeavesAmong storage (Completes mark (the_part piece letters))) (λ now. (contents : Contents) × (pending : (ℕ → Pending)) × IsStore two contents pending now) letters_leave
        (becomes_then a b c (PutPiece storage.store one piece) (PutLetters one two 0 letters) (Holds storage two (put_both piece letters)) is_put are_put
        (λ m k n told p l. record { store_is = λ contents epochs is. l.is_store contents (put_piece piece nothing_pending) (p.is_store contents nothing_pending is.store); egress = l.others 1 (λ e. omega (arith, e)) ∙ p.others 1 first_file }))
        (λ m n told h. let r = known m told in (r.0, put_both piece letters nothing_pending, h.store_is r.0 r.1 r.2))

    module _ (two : Store) (text_two : two.text ≡ one.text) (shape_two : two.shape ≡ storage.store.shape) (are_put : Becomes b c (PutLetters one two 0 letters)) (d : List Moment) (writing : Since c d (Writes two (completed_by two mark))) where
      both_now : Becomes a c (Holds storage two (put_both piece letters))
      both_now = becomes_then a b c (PutPiece storage.store one piece) (PutLetters one two 0 letters) (Holds storage two (put_both piece letters)) is_put are_put
          (λ m k n told p l. record { store_is = λ contents epochs is. l.is_store contents (put_piece piece nothing_pending) (p.is_store contents nothing_pending is.store); egress = l.others 1 (λ e. omega (arith, e)) ∙ p.others 1 first_file })

      same_text : two.text ≡ storage.store.text
      same_text = text_two ∙ text_one

      pub complete_leaves : Since a d (LeavesAmong storage (Completes mark (the_part piece letters)))
      complete_leaves = since_then a c d (LeavesAmong storage (Completes mark (the_part piece letters))) (Writes two (completed_by two mark)) letters_leave writing
          (λ m k n told_m told_k w. written storage (the_part piece letters) mark two (put_both piece letters) same_text shape_two single (both_put piece letters first) m k n (at_now a c (Holds storage two (put_both piece letters)) both_now m k told_m told_k) w)

      turned : (three : Store) (m k n : Moment) → Holds storage two (put_both piece letters) m k → Completed two three mark k n
          → Turns storage (record { store = three; outlet = storage.outlet }) (λ contents epochs. with_checkpoint mark (the_part piece letters) contents) (λ contents epochs. epochs) m n
      turned three m k n holds done contents epochs is = record {
        store = done.is_store contents (put_both piece letters nothing_pending) (the_part piece letters) (holds.store_is contents epochs is)
            (ap (λ (n : ℕ). parts_put n 0 (put_both piece letters nothing_pending)) (ap (λ s. s.partitions) shape_two ∙ single) ∙ both_put piece letters first);
        outlet = subst (IsOutlet storage.outlet epochs) (sym (done.others 1 (λ e. omega (arith, e)) ∙ holds.egress)) is.outlet;
      }

      pub complete_turns : (three : Store) → Becomes c d (Completed two three mark)
          → Becomes a d (Turns storage (record { store = three; outlet = storage.outlet }) (λ contents epochs. with_checkpoint mark (the_part piece letters) contents) (λ contents epochs. epochs))
      complete_turns three done = becomes_then a c d (Holds storage two (put_both piece letters)) (Completed two three mark)
          (Turns storage (record { store = three; outlet = storage.outlet }) (λ contents epochs. with_checkpoint mark (the_part piece letters) contents) (λ contents epochs. epochs))
          both_now done (λ m k n told h z. turned three m k n h z)

-- ---- committing behind a checkpoint

last_there : {X : Type 0} (xs : List X) (x : X) → slice_get (xs ++ x ∷ []) (length xs) ≡ Some x
last_there [] x = refl
last_there (y ∷ xs) x = last_there xs x

-- a checkpoint that is completed, or not yet, and whose egress is not committed
pub saving : (storage : CheckpointStorage) (mark : Mark) (parts : List Part) (a b : List Moment) → Since a b (LeavesAmong storage (Completes mark parts)) → Since a b (LeavesAmong storage (Checkpoints mark parts))
saving storage mark parts a b all = since_as a b (LeavesAmong storage (Completes mark parts)) (LeavesAmong storage (Checkpoints mark parts)) all (λ m n told l contents epochs is folder image. let r = l contents epochs is folder image in (r.0, r.1, inl r.2, r.3))

-- where each epoch is committed there are as many as checkpoints
pub even_lengths : (storage : CheckpointStorage) → last_epoch storage.outlet ≡ newest_of storage.store → (contents : Contents) (epochs : List Epoch) (m : Moment) → IsStorage storage contents epochs m → length epochs ≡ length contents.checkpoints
even_lengths storage even contents epochs m is = let count = counted storage.outlet epochs (m 1) is.outlet in let newest_is = (is.store).newest_is in omega (arith, even, count, newest_is)

module _ (storage middle : CheckpointStorage) (mark : Mark) (piece : Piece) (letters : List Letter) (a b : List Moment)
    (all : Since a b (LeavesAmong storage (Completes mark (the_part piece letters))))
    (turns : Becomes a b (Turns storage middle (λ contents epochs. with_checkpoint mark (the_part piece letters) contents) (λ contents epochs. epochs)))
    (text : middle.store.text ≡ storage.store.text) where
  abbrev parts : List Part
  parts = the_part piece letters

  pub outlet_now : IsKnown storage a → WhereTold b (λ now. (epochs : List Epoch) × IsOutlet middle.outlet epochs (now 1))
  outlet_now known = told_now a b (Turns storage middle (λ contents epochs. with_checkpoint mark parts contents) (λ contents epochs. epochs)) (LeavesAmong storage (Completes mark parts)) (λ now. (epochs : List Epoch) × IsOutlet middle.outlet epochs (now 1)) all turns
      (λ m k told t. let r = known m told in (r.1, (t r.0 r.1 r.2).outlet))

  module _ (number : ℕ) (is_next : number ≡ last_epoch storage.outlet + 1) (same_outlet : middle.outlet ≡ storage.outlet) (even : (contents : Contents) (epochs : List Epoch) (m : Moment) → IsStorage storage contents epochs m → length epochs ≡ length contents.checkpoints) (c : List Moment) where
    given : egress_in (record { mark = mark; parts = parts }) ≡ piece.egress
    unfolding egress_in
    given = append-nil piece.egress

    all_is : (contents : Contents) (epochs : List Epoch) (m : Moment) → IsStorage storage contents epochs m → epochs ++ piece.egress ∷ [] ≡ with_next (with_checkpoint mark parts contents) epochs
    all_is contents epochs m is =
        let count = even contents epochs m is in
        let newest_one : Checkpoint = record { mark = mark; parts = parts } in
        ap (λ (e : Epoch). epochs ++ e ∷ []) (sym given)
        ∙ ap (λ (o : Option Checkpoint). epochs ++ option_to_list (option_map egress_in o)) (sym (ap (slice_get (contents.checkpoints ++ newest_one ∷ [])) count ∙ last_there contents.checkpoints newest_one))

    left : (m k n : Moment) → Turns storage middle (λ contents epochs. with_checkpoint mark parts contents) (λ contents epochs. epochs) m k → InFile 1 (Commits middle.outlet number piece.egress) k n → LeavesAmong storage (Checkpoints mark parts) m n
    left m k n t o contents epochs is folder image =
        let now = t contents epochs is in
        let next = with_checkpoint mark parts contents in
        let store = store_still middle.store next nothing_pending k n (same_but_egress k n o.others) now.store in
        by (store_stands middle.store next nothing_pending n store folder image) ((o.here) epochs now.outlet (folder 1) (image 1))
      where
        by : HasForm folder (Some (held_by middle.store (with_checkpoint mark parts contents))) → HasEpochs (folder 1) epochs ⊎ ((number ≡ length epochs + 1) × HasEpochs (folder 1) (epochs ++ piece.egress ∷ []))
            → (now : Contents) × (committed : List Epoch) × Checkpoints mark parts contents epochs now committed × Stands storage.store.text folder now committed
        by form (inl has) = (with_checkpoint mark parts contents, epochs, inl (inr refl, refl), stands_by middle.store (with_checkpoint mark parts contents) epochs storage.store.text folder text form has)
        by form (inr has) =
            (with_checkpoint mark parts contents, epochs ++ piece.egress ∷ [], inr (refl, all_is contents epochs m is), stands_by middle.store (with_checkpoint mark parts contents) (epochs ++ piece.egress ∷ []) storage.store.text folder text form has.1)

    pub committing : Since b c (InFile 1 (Commits middle.outlet number piece.egress)) → Since a c (LeavesAmong storage (Checkpoints mark parts))
    committing commits = since_then a b c (LeavesAmong storage (Checkpoints mark parts)) (InFile 1 (Commits middle.outlet number piece.egress)) (saving storage mark parts a b all) commits
        (λ m k n told_m told_k o. left m k n (at_now a b (Turns storage middle (λ contents epochs. with_checkpoint mark parts contents) (λ contents epochs. epochs)) turns m k told_m told_k) o)

    turned_both : (outlet : Outlet) (m k n : Moment) → Turns storage middle (λ contents epochs. with_checkpoint mark parts contents) (λ contents epochs. epochs) m k → InFile 1 (Committed middle.outlet outlet piece.egress) k n
        → Turns storage (record { store = middle.store; outlet = outlet }) (λ contents epochs. with_checkpoint mark parts contents) (λ contents epochs. with_next (with_checkpoint mark parts contents) epochs) m n
    turned_both outlet m k n t o contents epochs is =
        let now = t contents epochs is in
        record {
          store = store_still middle.store (with_checkpoint mark parts contents) nothing_pending k n (same_but_egress k n o.others) now.store;
          outlet = subst (λ (e : List Epoch). IsOutlet outlet e (n 1)) (all_is contents epochs m is) ((o.here) epochs now.outlet);
        }

    pub saved : (outlet : Outlet) → Becomes b c (InFile 1 (Committed middle.outlet outlet piece.egress))
        → Becomes a c (Turns storage (record { store = middle.store; outlet = outlet }) (λ contents epochs. with_checkpoint mark parts contents) (λ contents epochs. with_next (with_checkpoint mark parts contents) epochs))
    saved outlet committed = becomes_then a b c (Turns storage middle (λ contents epochs. with_checkpoint mark parts contents) (λ contents epochs. epochs)) (InFile 1 (Committed middle.outlet outlet piece.egress))
        (Turns storage (record { store = middle.store; outlet = outlet }) (λ contents epochs. with_checkpoint mark parts contents) (λ contents epochs. with_next (with_checkpoint mark parts contents) epochs))
        turns committed (λ m k n told t o. turned_both outlet m k n t o)

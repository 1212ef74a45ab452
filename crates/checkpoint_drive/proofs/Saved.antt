-- What saving a checkpoint leaves, told of the run.
use Rattle.std.proofs.Common.{◌≡◌, inr, List, [], ◌∷◌, ◌++◌, length, slice_get, option_map, Option, Some, Result, Ok, Err, refl, sym, ◌∙◌, ap, subst}
use Rattle.std.specs.Option.{option_to_list}
use Rattle.sf_disk.specs.Moments.{Moment, Since, Becomes}
use Rattle.sf_disk.proofs.Onward.{becomes_as}
use Rattle.typed_values.specs.declared.letter.Letter.{Letter}
use Rattle.piece_messages.specs.declared.piece.Piece.{Piece}
use Rattle.folder_form.specs.declared.mark.Mark.{Mark}
use Rattle.folder_form.specs.Folders.{Checkpoint, Contents, egress_in, with_checkpoint}
use Rattle.snapshot_files.specs.Stores.{newest}
use Rattle.egress_commit.specs.Epochs.{Epoch}
use Rattle.egress_commit.specs.Outlets.{last_epoch}
use Rattle.store_faults.specs.declared.fault.StoreFault.{StoreFault}
use Rattle.store_faults.specs.Faults.{IsNoRefusal}
use Rattle.checkpoint_storage.specs.declared.storage.CheckpointStorage.{CheckpointStorage}
use Rattle.checkpoint_storage.specs.Folders.{Checkpoints, IsStorage, Leaves, Turns, the_part, with_next}
use Rattle.checkpoint_storage.proofs.Saves.{even_lengths}
use Rattle.statefun_driver.specs.Work.{here, plan_of}
use Rattle.checkpoint_drive.specs.declared.run.Run.{Run}
use Rattle.checkpoint_drive.specs.Drives.{IsCheckpointOf, checkpoint_of}
use Rattle.checkpoint_drive.specs.Laws.{after}
use Rattle.checkpoint_drive.specs.OneLeg.{IsSaving, Saves}

last_there : {X : Type 0} (xs : List X) (x : X) → slice_get (xs ++ x ∷ []) (length xs) ≡ Some x
last_there [] x = refl
last_there (y ∷ xs) x = last_there xs x

-- where all egress is committed, the next is that of the checkpoint
next_given : (contents : Contents) (epochs : List Epoch) (one : Checkpoint) → length epochs ≡ length contents.checkpoints
    → with_next (with_checkpoint one.mark one.parts contents) epochs ≡ epochs ++ egress_in one ∷ []
next_given contents epochs one count =
    ap (λ (o : Option Checkpoint). epochs ++ option_to_list (option_map egress_in o)) (ap (slice_get (contents.checkpoints ++ one ∷ [])) count ∙ last_there contents.checkpoints one)

module _ (run now : Run) (storage : CheckpointStorage) (same : storage ≡ run.storage) (mark : Mark) (piece : Piece) (letters : List Letter) (none : letters ≡ [])
    (is : IsCheckpointOf (plan_of run.job) (newest run.storage.store) (here run.progress) mark piece) (old new : List Moment)
    (meanwhile : Since old new (Leaves storage (Checkpoints mark (the_part piece letters)))) where
  is_saving : IsSaving run old new mark piece
  is_saving = record {
    is = is;
    meanwhile = subst (λ (s : CheckpointStorage). Since old new (Leaves s (Checkpoints mark (the_part piece [])))) same
        (subst (λ (l : List Letter). Since old new (Leaves storage (Checkpoints mark (the_part piece l)))) none meanwhile);
  }

  pub save_failed : (r : Result (Unit {0}) StoreFault) (fault : StoreFault) → (y : StoreFault) × (r ≡ Err y) × (y ≡ fault) → IsNoRefusal fault → Saves run now old new r
  save_failed r fault p form = subst (Saves run now old new) (sym (p.1 ∙ ap Err p.2)) (form, inr (mark, piece, is_saving))

  module _ (even : last_epoch run.storage.outlet ≡ newest run.storage.store)
      (saved : Becomes old new (Turns storage now.storage (λ contents epochs. with_checkpoint mark (the_part piece letters) contents) (λ contents epochs. with_next (with_checkpoint mark (the_part piece letters) contents) epochs))) where
    abbrev one : Checkpoint
    one = checkpoint_of mark piece

    -- the storage and the letters by their names
    named : Becomes old new (Turns run.storage now.storage (λ contents epochs. with_checkpoint mark one.parts contents) (λ contents epochs. with_next (with_checkpoint mark one.parts contents) epochs))
    named = subst (λ (s : CheckpointStorage). Becomes old new (Turns s now.storage (λ contents epochs. with_checkpoint mark one.parts contents) (λ contents epochs. with_next (with_checkpoint mark one.parts contents) epochs))) same
        (subst (λ (l : List Letter). Becomes old new (Turns storage now.storage (λ contents epochs. with_checkpoint mark (the_part piece l) contents) (λ contents epochs. with_next (with_checkpoint mark (the_part piece l) contents) epochs))) none saved)

    pub save_stands : Saves run now old new (Ok tt)
    save_stands = (
      mark,
      piece,
      is_saving,
      becomes_as old new
          (Turns run.storage now.storage (λ contents epochs. with_checkpoint mark one.parts contents) (λ contents epochs. with_next (with_checkpoint mark one.parts contents) epochs))
          (Turns run.storage now.storage (λ contents epochs. after contents (Some one)) (λ contents epochs. epochs ++ egress_in one ∷ [])) named
          (λ m n told turns contents epochs is_storage. subst (λ (e : List Epoch). IsStorage now.storage (with_checkpoint mark one.parts contents) e n)
          (next_given contents epochs one (even_lengths run.storage even contents epochs m is_storage)) (turns contents epochs is_storage)),
    )

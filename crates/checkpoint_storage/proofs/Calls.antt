-- What the calls on a storage's store and outlet make of both.
use Rattle.std.proofs.Common.{◌≡◌, ◌≢◌, ◌⊎◌, inl, inr, ℕ, zero, suc, ◌+◌, ◌-◌, ◌<◌, ◌≤◌, List, [], ◌∷◌, ◌++◌, length, slice_get, Option, Some, None, option_map, Result, Ok, Err, IfOk, IfErr, refl, sym, ◌∙◌, ap, subst, arith, append-nil}
use Rattle.std.specs.Option.{option_to_list}
use Rattle.std.proofs.lemmas.Option.{slice_get_past}
use Rattle.sf_disk.specs.Images.{FileState, Leaves, Follows}
use Rattle.sf_disk.specs.Moments.{Moment, Folder, IsImage, Others, InFile, Since, Becomes, WhereTold, newest}
use Rattle.sf_disk.proofs.Onward.{since_as, since_now, since_then, becomes_as, becomes_now, becomes_then, told_now, first_told, at_now, still_told}
use Rattle.typed_values.specs.declared.letter.Letter.{Letter}
use Rattle.typed_values.specs.declared.record.EgressRecord.{EgressRecord}
use Rattle.piece_messages.specs.declared.piece.Piece.{Piece}
use Rattle.store_faults.specs.declared.fault.StoreFault.{StoreFault}
use Rattle.store_faults.specs.declared.fault.StoreFault.TheVariants.{DiskFault, NotAStore, StoreOfOther, OutOfMemory}
use Rattle.store_faults.specs.Faults.{RefusesBy, IsNoRefusal}
use Rattle.folder_form.specs.declared.mark.Mark.{Mark}
use Rattle.folder_form.specs.Shapes.{partitions_in}
use Rattle.folder_form.specs.Folders.{Part, Checkpoint, Contents, egress_in, with_leg, with_checkpoint}
use Rattle.snapshot_files.specs.declared.store.Store.{Store}
use Rattle.snapshot_files.specs.Stores as stores
use Rattle.snapshot_files.specs.Stores.{HasForm, Pending, IsStore, nothing_pending, held_by}
use Rattle.snapshot_files.specs.Opening.{Opens, IsOpened as IsStoreOpened, IsJob, contents_in, seen, RefusesStore}
use Rattle.snapshot_files.specs.Reading.{IsUntold}
use Rattle.snapshot_files.specs.Changes.{Keeps, Writes, Began, opened_run}
use Rattle.snapshot_files.proofs.OneThing.{store_stands}
use Rattle.egress_commit.specs.declared.outlet.Outlet.{Outlet}
use Rattle.egress_commit.specs.Epochs.{Epoch, HasEpochs, KeepsEpochs, IsNoOutlet}
use Rattle.egress_commit.specs.Outlets.{last_epoch, IsOutlet, IsOpened as IsOutletOpened, Commits, Committed, RefusesOutlet}
use Rattle.egress_commit.proofs.Steps.{counted}
use Rattle.checkpoint_storage.specs.declared.storage.CheckpointStorage.{CheckpointStorage}
use Rattle.checkpoint_storage.specs.Folders.{Stands, IsStorage, IsKnown, Stays, Change, Leaves as LeavesAmong, Turns, uncommitted, with_next, MayCommit, MayBegin, RefusesStorage}
use Rattle.checkpoint_storage.specs.Opened.{IsOpened}
use Rattle.checkpoint_storage.proofs.Images.{AreSame, same_but_egress, store_still, epochs_left, stands_by, storage_stands, stays_then, stays_opened}

-- ---- opening

module _ (text : List ℕ) (partitions : ℕ) (names : partitions_in text ≡ Some partitions) (a b : List Moment) (all : Since a b (Opens text)) where
  pub opening : Since a b (Stays text)
  opening = since_as a b (Opens text) (Stays text) all (λ m n told o. stays_opened text partitions names m n o)

  module _ (store : Store) (opened : Becomes a b (IsStoreOpened store text)) (c : List Moment) where
    pub opening_both : Since b c (InFile 1 (Follows KeepsEpochs)) → Since a c (Stays text)
    opening_both egress = since_then a b c (Stays text) (InFile 1 (Follows KeepsEpochs)) opening egress
        (λ m k n told_m told_k o. stays_then text m k n (stays_opened text partitions names m k (at_now a b (IsStoreOpened store text) opened m k told_m told_k).opens) o)

    both : (outlet : Outlet) (m k n : Moment) → IsStoreOpened store text m k → InFile 1 (IsOutletOpened outlet) k n → IsOpened (record { store = store; outlet = outlet }) text m n
    both outlet m k n s o =
        let same : k 1 ≡ m 1 = s.opens.others 1 (λ is. omega (arith, is), λ p less is. omega (arith, is)) in
        record {
          contents = contents_in s.form;
          epochs = (o.here).epochs;
          stood = record {
            form = s.form;
            has_form = s.stood;
            job = s.job;
            contents_are = refl;
            has_epochs = subst (λ (f : FileState). HasEpochs f.seen (o.here).epochs) same (o.here).stood;
          };
          is_storage = record {
            store = store_still store (contents_in s.form) nothing_pending k n (same_but_egress k n o.others) s.is_store;
            outlet = (o.here).is_open;
          };
        }

    pub both_opened : (outlet : Outlet) → Becomes b c (InFile 1 (IsOutletOpened outlet)) → Becomes a c (IsOpened (record { store = store; outlet = outlet }) text)
    both_opened outlet egress = becomes_then a b c (IsStoreOpened store text) (InFile 1 (IsOutletOpened outlet)) (IsOpened (record { store = store; outlet = outlet }) text) opened egress (λ m k n told s o. both outlet m k n s o)

    -- the egress file is refused by what it was at first
    outlet_refused : (fault : StoreFault) → RefusesOutlet b fault → RefusesStorage text a fault
    outlet_refused DiskFault r = tt
    outlet_refused (NotAStore file place) r =
        inr (r.0, λ m told. let k = opened m told in subst (λ (f : FileState). IsNoOutlet f.seen place) (k.2.opens.others 1 (λ is. omega (arith, is), λ p less is. omega (arith, is))) (r.1 k.0 k.1))
    outlet_refused (StoreOfOther kept given) r = absurd r
    outlet_refused OutOfMemory r = tt

    pub refused_outlet : (fault : StoreFault) → RefusesOutlet b fault → RefusesStorage text a fault
    refused_outlet = outlet_refused

pub refused_store : (text : List ℕ) (a : List Moment) (fault : StoreFault) → RefusesStore text a fault → RefusesStorage text a fault
refused_store text a DiskFault r = tt
refused_store text a (NotAStore file place) r = inl r
refused_store text a (StoreOfOther kept given) r = r
refused_store text a OutOfMemory r = tt

-- ---- loading and committing

pub store_known : (storage : CheckpointStorage) (a : List Moment) → IsKnown storage a → WhereTold a (λ now. (contents : Contents) × (pending : (ℕ → Pending)) × IsStore storage.store contents pending now)
store_known storage a known = λ m told. let k = known m told in (k.0, nothing_pending, k.2.store)

pub outlet_known : (storage : CheckpointStorage) (a : List Moment) → IsKnown storage a → WhereTold a (λ now. (epochs : List Epoch) × IsOutlet storage.outlet epochs (now 1))
outlet_known storage a known = λ m told. let k = known m told in (k.1, k.2.outlet)

-- nothing changed
pub leaves_now : (storage : CheckpointStorage) (Among : Change) → ((contents : Contents) (epochs : List Epoch) → Among contents epochs contents epochs) → (a b : List Moment) → b ≡ a → Since a b (LeavesAmong storage Among)
leaves_now storage Among stays a b same = since_now a b (LeavesAmong storage Among) same

module _ (storage : CheckpointStorage) (number : ℕ) (egress : Epoch) (a b : List Moment)
    (is_next : number ≡ last_epoch storage.outlet + 1) (is_newest : number ≡ stores.newest storage.store)
    (read : WhereTold a (λ now. (contents : Contents) (pending : (ℕ → Pending)) → IsStore storage.store contents pending now → option_map egress_in (slice_get contents.checkpoints (number - 1)) ≡ Some egress)) where
  next_is : (m : Moment) → newest a ≡ Some m → (contents : Contents) (epochs : List Epoch) → IsStorage storage contents epochs m → uncommitted contents epochs ≡ Some egress
  next_is m told contents epochs is =
      let count = counted storage.outlet epochs (m 1) is.outlet in
      ap (λ (n : ℕ). option_map egress_in (slice_get contents.checkpoints n)) (omega (arith, is_next, count)) ∙ read m told contents nothing_pending is.store

  all_is : (m : Moment) (told : newest a ≡ Some m) (contents : Contents) (epochs : List Epoch) → IsStorage storage contents epochs m → epochs ++ egress ∷ [] ≡ with_next contents epochs
  all_is m told contents epochs is = ap (λ (o : Option Epoch). epochs ++ option_to_list o) (sym (next_is m told contents epochs is))

  left : (m n : Moment) → newest a ≡ Some m → InFile 1 (Commits storage.outlet number egress) m n → LeavesAmong storage MayCommit m n
  left m n told o contents epochs is folder image =
      let store = store_still storage.store contents nothing_pending m n (same_but_egress m n o.others) is.store in
      let form = store_stands storage.store contents nothing_pending n store folder image in
      by form ((o.here) epochs is.outlet (folder 1) (image 1))
    where
      by : HasForm folder (Some (held_by storage.store contents)) → HasEpochs (folder 1) epochs ⊎ ((number ≡ length epochs + 1) × HasEpochs (folder 1) (epochs ++ egress ∷ []))
          → (now : Contents) × (committed : List Epoch) × MayCommit contents epochs now committed × Stands storage.store.text folder now committed
      by form (inl has) = (contents, epochs, (refl, inl refl), stands_by storage.store contents epochs storage.store.text folder refl form has)
      by form (inr has) = (contents, epochs ++ egress ∷ [], (refl, inr (all_is m told contents epochs is)), stands_by storage.store contents (epochs ++ egress ∷ []) storage.store.text folder refl form has.1)

  pub committing : Since a b (InFile 1 (Commits storage.outlet number egress)) → Since a b (LeavesAmong storage MayCommit)
  committing all = since_as a b (InFile 1 (Commits storage.outlet number egress)) (LeavesAmong storage MayCommit) all left

  turned : (outlet : Outlet) (m n : Moment) → newest a ≡ Some m → InFile 1 (Committed storage.outlet outlet egress) m n → Turns storage (record { store = storage.store; outlet = outlet }) (λ contents epochs. contents) with_next m n
  turned outlet m n told o contents epochs is = record {
    store = store_still storage.store contents nothing_pending m n (same_but_egress m n o.others) is.store;
    outlet = subst (λ (e : List Epoch). IsOutlet outlet e (n 1)) (all_is m told contents epochs is) ((o.here) epochs is.outlet);
  }

  pub committed : (outlet : Outlet) → Becomes a b (InFile 1 (Committed storage.outlet outlet egress)) → Becomes a b (Turns storage (record { store = storage.store; outlet = outlet }) (λ contents epochs. contents) with_next)
  committed outlet becomes = becomes_as a b (InFile 1 (Committed storage.outlet outlet egress)) (Turns storage (record { store = storage.store; outlet = outlet }) (λ contents epochs. contents) with_next) becomes (turned outlet)

-- ---- nothing to commit

all_given : (storage : CheckpointStorage) (contents : Contents) (epochs : List Epoch) (m : Moment) → last_epoch storage.outlet ≡ stores.newest storage.store → IsStorage storage contents epochs m → epochs ≡ with_next contents epochs
all_given storage contents epochs m even is =
    let count = counted storage.outlet epochs (m 1) is.outlet in
    let newest_is = (is.store).newest_is in
    sym (ap (λ (o : Option Checkpoint). epochs ++ option_to_list (option_map egress_in o)) (slice_get_past contents.checkpoints (length epochs) (omega (arith, even, count, newest_is))) ∙ append-nil epochs)

pub even_turns : (storage : CheckpointStorage) (a b : List Moment) → b ≡ a → last_epoch storage.outlet ≡ stores.newest storage.store → Becomes a b (Turns storage storage (λ contents epochs. contents) with_next)
even_turns storage a b same even = becomes_now a b (Turns storage storage (λ contents epochs. contents) with_next) same
    (λ m told contents epochs is. record { store = is.store; outlet = subst (λ (e : List Epoch). IsOutlet storage.outlet e (m 1)) (all_given storage contents epochs m even is) is.outlet })

-- ---- beginning a run

begun : (storage : CheckpointStorage) (limit : ℕ) (contents : Contents) (epochs : List Epoch) (folder : Folder) → HasEpochs (folder 1) epochs
    → HasForm folder (Some (held_by storage.store contents)) ⊎ HasForm folder (Some (held_by storage.store (with_leg limit contents)))
    → (now : Contents) × (committed : List Epoch) × MayBegin limit contents epochs now committed × Stands storage.store.text folder now committed
begun storage limit contents epochs folder has (inl form) = (contents, epochs, (inl refl, refl), stands_by storage.store contents epochs storage.store.text folder refl form has)
begun storage limit contents epochs folder has (inr form) = (with_leg limit contents, epochs, (inr refl, refl), stands_by storage.store (with_leg limit contents) epochs storage.store.text folder refl form has)

pub beginning : (storage : CheckpointStorage) (limit : ℕ) (a b : List Moment) → Since a b (Writes storage.store (opened_run limit)) → Since a b (LeavesAmong storage (MayBegin limit))
beginning storage limit a b all = since_as a b (Writes storage.store (opened_run limit)) (LeavesAmong storage (MayBegin limit)) all
    (λ m n told w contents epochs is folder image.
    begun storage limit contents epochs folder
    (epochs_left storage.outlet epochs (m 1) is.outlet (folder 1) (subst (λ (s : FileState). Leaves s (folder 1)) (w.others 1 (λ e. omega (arith, e))) (image 1)))
    (w.stands contents nothing_pending (with_leg limit contents) is.store refl folder image))

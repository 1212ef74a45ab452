-- What is found in a folder that was opened as it is.
use Rattle.std.proofs.Common.{◌≡◌, ◌⊎◌, inl, inr, ℕ, ◌+◌, ◌≤◌, List, [], ◌∷◌, Bool, true, false, Option, Some, None, refl, sym, ◌∙◌, ap, subst}
use Rattle.std.proofs.lemmas.Bool.{and_parts}
use Rattle.sf_disk.specs.Moments.{Moment, Becomes, WhereTold, Since, newest}
use Rattle.sf_disk.proofs.Onward.{told_now}
use Rattle.store_faults.specs.declared.fault.StoreFault.{StoreFault}
use Rattle.store_faults.specs.declared.fault.StoreFault.TheVariants.{DiskFault, NotAStore, StoreOfOther, OutOfMemory}
use Rattle.address_routing.specs.declared.module.Module.{Module}
use Rattle.address_routing.specs.JobText.{job_text}
use Rattle.run_record.specs.declared.entry.Entry.{Entry}
use Rattle.piece_messages.specs.declared.piece.Piece.{Piece}
use Rattle.folder_form.specs.declared.shape.Shape.{Shape}
use Rattle.folder_form.specs.declared.loaded.Loaded.{Loaded}
use Rattle.folder_form.specs.Pieces.{owns_piece}
use Rattle.folder_form.specs.Folders.{Contents, nothing_loaded, loaded_of, record_of}
use Rattle.snapshot_files.specs.declared.store.Store.{Store}
use Rattle.snapshot_files.specs.Stores.{IsStore, Pending, held_by, home_in, nothing_pending}
use Rattle.snapshot_files.specs.Opening.{IsNew, IsOpenedKept, OpensKept, RefusesKept, seen}
use Rattle.snapshot_files.specs.Reading as reading
use Rattle.snapshot_files.specs.Reading.{FitsShape, IsUntold}
use Rattle.checkpoint_state.specs.Matching.{AreOwned, HaveCells}
use Rattle.checkpoint_state.specs.Stored.{states_in}
use Rattle.checkpoint_state.proofs.Owned.{owned_have_cells}
use Rattle.folder_audit.specs.declared.record.Found.{Found}
use Rattle.folder_audit.specs.declared.record.Found.TheVariants.{Nothing, Other, Record}
use Rattle.folder_audit.specs.Stored.{IsFound, IsFoundIn, RefusesFound, RefusesFoundIn, is_of}

-- ---- cells

owned_by : (shape : Shape) (moment partition : ℕ) (pieces : List Piece) → reading.AreOwned shape moment partition pieces → AreOwned shape.partitions partition pieces
owned_by shape moment partition [] owned = tt
owned_by shape moment partition (piece ∷ pieces) owned = ((and_parts (owns_piece (home_in shape partition) piece) _ owned.0).0, owned_by shape moment (partition + 1) pieces owned.1)

pub have_cells : (shape : Shape) (loaded : Loaded) → FitsShape shape loaded → HaveCells (states_in loaded.pieces)
have_cells shape loaded (inl none) = subst (λ (l : Loaded). HaveCells (states_in l.pieces)) (sym none) refl
have_cells shape loaded (inr fits) = owned_have_cells shape.partitions 0 loaded.pieces (owned_by shape loaded.moment 0 loaded.pieces fits.each_piece)

-- ---- the folder by its store

pub kept_opens : (store : Store) (m k : Moment) → IsOpenedKept store m k → OpensKept m k
kept_opens store m k o = o.opens

-- a store that was opened stands for something
pub store_known : (a b : List Moment) (store : Store) → Since a b OpensKept → Becomes a b (IsOpenedKept store) → WhereTold b (λ now. (contents : Contents) × (pending : (ℕ → Pending)) × IsStore store contents pending now)
store_known a b store since becomes = told_now a b (IsOpenedKept store) OpensKept _ since becomes (λ m k told o. (o.contents, nothing_pending, o.is_store))

pub found_there : (m : Module) (a b : List Moment) (store : Store) (found : Found) → Becomes a b (IsOpenedKept store) → IsFoundIn m store b found → IsFound m a found
found_there m a b store Nothing becomes is = absurd is
found_there m a b store Other becomes is = λ first told. let k = becomes first told in (held_by store k.2.contents, k.2.stood, is)
found_there m a b store (Record entries loaded) becomes is = (
  is.1,
  λ first told.
      let k = becomes first told in
      let read = is.2 k.0 k.1 k.2.contents nothing_pending k.2.is_store in
      (k.2.contents, (held_by store k.2.contents, k.2.stood, is.0, refl), read.0, read.1),
)

pub nothing_there : (m : Module) (a b : List Moment) → Becomes a b IsNew → IsFound m a Nothing
nothing_there m a b becomes first told = let k = becomes first told in k.2.none

pub kept_refused : (a : List Moment) (fault : StoreFault) → RefusesKept a fault → RefusesFound a fault
kept_refused a DiskFault r = tt
kept_refused a (NotAStore file place) r = r
kept_refused a (StoreOfOther kept given) r = absurd r
kept_refused a OutOfMemory r = tt

pub untold_refused : (a b : List Moment) (store : Store) → Becomes a b (IsOpenedKept store) → (fault : StoreFault) → RefusesFoundIn b fault → RefusesFound a fault
untold_refused a b store becomes DiskFault r = tt
untold_refused a b store becomes (NotAStore file place) r = λ first told. let k = becomes first told in let some = k.1 in absurd cc
untold_refused a b store becomes (StoreOfOther kept given) r = absurd r
untold_refused a b store becomes OutOfMemory r = tt

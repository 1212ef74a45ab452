-- Reading the manifest of a folder from its first block to its last.
use Rattle.std.proofs.Common.{◌≡◌, ℕ, zero, suc, ◌+◌, ◌<◌, ◌≤◌, List, [], ◌∷◌, ◌++◌, length, replicate, take, take_all, slice_get, slice_index_or, Some, None, Ok, Err, sym, ◌∙◌, ap, subst, arith, append_assoc, length-append}
use Rattle.std.proofs.lemmas.List.{take_at}
use Rattle.sf_disk.specs.Moments.{Moment, WhereTold, newest}
use Rattle.block_log.specs.declared.log.BlockLog.{BlockLog}
use Rattle.block_log.specs.Blocks.{Body, extent}
use Rattle.block_log.specs.Logs.{IsOpen, HasBlockAt}
use Rattle.store_faults.specs.declared.fault.StoreFault.{StoreFault}
use Rattle.store_faults.specs.declared.fault.StoreFault.TheVariants.{DiskFault, NotAStore, StoreOfOther, OutOfMemory}
use Rattle.folder_form.specs.declared.shape.Shape.{Shape}
use Rattle.folder_form.specs.Shapes.{shape_in}
use Rattle.folder_form.specs.Folders.{Contents, Files, file_of, form_from, form_of, no_contents, step_in}
use Rattle.snapshot_files.specs.declared.slot.Slot.{Slot}
use Rattle.snapshot_files.specs.declared.store.Store.{Store}
use Rattle.snapshot_files.specs.Stores.{AreKept, AreOpen, IsSlot, held_by, home_in, nothing_pending}
use Rattle.snapshot_files.specs.Steps.{Advances, AreHeld, IsFolder, IsRead, IsReading, Knows, RefusesBlock, RefusesFolder}
use Rattle.snapshot_files.proofs.Places.{length_blocks, numbered}
use Rattle.snapshot_files.proofs.Advancing.{counted}
use Rattle.snapshot_files.proofs.Folding.{form_next, form_breaks, form_first, no_shape}

abbrev pub empty_slot : Slot
empty_slot = record { piece = None; latest = 0; letters = None }

abbrev pub AreEmpty : List Slot → Type 0
AreEmpty slots = (p : ℕ) (slot : Slot) → slice_get slots p ≡ Some slot → slot ≡ empty_slot

-- the blocks up to a number were read
abbrev pub UpTo : ℕ → Store → Files → Type 0
UpTo number store files = (contents : Contents) × (form_from files (take number (files 0)) ≡ Ok (Some (held_by store contents))) × Knows store contents files

module _ (manifest : BlockLog) (pieces : List BlockLog) (text : List ℕ) where
  abbrev pub AllUpTo : ℕ → Store → List Moment → Type 0
  AllUpTo number store a = WhereTold a (λ now. (files : Files) → IsFolder manifest pieces text files now → UpTo number store files)

  -- the job was read
  pub starts : (store : Store) (a : List Moment) → store.text ≡ text → shape_in text ≡ Some store.shape → store.completes ≡ [] → store.stored_leg ≡ 0 → AllUpTo 1 store a
  starts store a is_text is_shape none zero_leg = λ m told files folder.
      let b = folder.begins in (
        no_contents,
        ap (λ (l : List Body). form_from files (take 1 l)) b.2 ∙ form_first files b.0 text store.shape b.3 is_shape ∙ ap (λ (t : List ℕ). Ok (Some (record { text = t; shape = store.shape; contents = no_contents }))) (sym is_text),
        record { kept = subst (λ (l : List ℕ). AreKept store.shape files l []) (sym none) tt; leg_is = zero_leg },
      )

  -- no job names no partitions
  pub no_start : (a : List Moment) → shape_in text ≡ None → RefusesFolder manifest pieces text a (NotAStore 0 0)
  no_start a none = λ m told files folder. let b = folder.begins in ap (form_from files) b.2 ∙ no_shape files b.0 b.1 text b.3 none

  -- the block of that number
  module _ (store now : Store) (a : List Moment) (number place : ℕ) (is_manifest : store.manifest ≡ manifest) (is_logs : store.logs.items ≡ pieces) (others : IsReading store now) (less : number < length manifest.blocks) (place_is : place ≡ slice_index_or manifest.blocks number 0) where
    module _ (m : Moment) (files : Files) (folder : IsFolder manifest pieces text files m) (so_far : UpTo number store files) where
      here : (b : Body) × (at : HasBlockAt (files 0) (slice_index_or manifest.blocks number 0) b) × (length at.before ≡ number)
      here = numbered manifest (files 0) (m 0) number 0 folder.held.first less

      at : HasBlockAt (files 0) place here.0
      at = subst (λ (p : ℕ). HasBlockAt (files 0) p here.0) (sym place_is) here.1

      front : take number (files 0) ≡ here.1.before
      front = ap (take number) here.1.is ∙ take_at here.1.before (here.0 ∷ here.1.behind) number here.2

      spelled : form_from files here.1.before ≡ Ok (Some (held_by store so_far.0))
      spelled = ap (form_from files) (sym front) ∙ so_far.1

      size : length (here.1.before ++ here.0 ∷ []) ≡ number + 1
      size = omega (arith, here.2, length-append here.1.before (here.0 ∷ []))

      further : take (number + 1) (files 0) ≡ here.1.before ++ here.0 ∷ []
      further = ap (take (number + 1)) (here.1.is ∙ sym (append_assoc here.1.before (here.0 ∷ []) here.1.behind)) ∙ take_at (here.1.before ++ here.0 ∷ []) here.1.behind (number + 1) size

      held : AreHeld store.manifest store.logs.items files m
      held = subst (λ (l : BlockLog). AreHeld l store.logs.items files m) (sym is_manifest) (subst (λ (l : List BlockLog). AreHeld manifest l files m) (sym is_logs) folder.held)

      place_there : place ≡ extent here.1.before
      place_there = place_is ∙ here.1.place_is

      pub goes_on : newest a ≡ Some m → Advances store now place a → UpTo (number + 1) now files
      goes_on told advances =
          let next = advances m told files so_far.0 here.0 held so_far.2 at in (
            next.0,
            ap (form_from files) further ∙ form_next files here.1.before here.0 (held_by store so_far.0) next.0 spelled (subst (λ (p : ℕ). step_in store.shape files p so_far.0 here.0 ≡ Ok next.0) place_there next.1)
                ∙ ap (λ (t : List ℕ). Ok (Some (record { text = t; shape = store.shape; contents = next.0 }))) (sym others.text) ∙ ap (λ (s : Shape). Ok (Some (record { text = now.text; shape = s; contents = next.0 }))) (sym others.shape),
            next.2,
          )

      breaks_off : (file at_place : ℕ) → step_in store.shape files place so_far.0 here.0 ≡ Err (record { file = file; place = at_place }) → form_of files ≡ Err (record { file = file; place = at_place })
      breaks_off file at_place breaks = ap (form_from files) here.1.is ∙ form_breaks files here.1.before here.0 here.1.behind (held_by store so_far.0) (record { file = file; place = at_place }) spelled (subst (λ (p : ℕ). step_in store.shape files p so_far.0 here.0 ≡ Err (record { file = file; place = at_place })) place_there breaks)

    pub all_go_on : AllUpTo number store a → Advances store now place a → AllUpTo (number + 1) now a
    all_go_on so_far advances = λ m told files folder. goes_on m files folder (so_far m told files folder) told advances

    pub refused_at : AllUpTo number store a → (b : List Moment) → b ≡ a → (fault : StoreFault) → RefusesBlock store place b fault → RefusesFolder manifest pieces text a fault
    refused_at so_far b same DiskFault r = tt
    refused_at so_far b same (NotAStore file at_place) r = λ m told files folder.
        let upto = so_far m told files folder in
        breaks_off m files folder upto file at_place (r m (ap newest same ∙ told) files upto.0 (here m files folder upto).0 (held m files folder upto) upto.2 (at m files folder upto))
    refused_at so_far b same (StoreOfOther kept given) r = absurd r
    refused_at so_far b same OutOfMemory r = tt

  -- all blocks were read
  pub whole_read : (store : Store) (a : List Moment) (number : ℕ) → store.manifest ≡ manifest → store.logs.items ≡ pieces → AreEmpty store.slots.items → length manifest.blocks ≤ number → AllUpTo number store a → IsRead manifest pieces text a store
  whole_read store a number is_manifest is_logs empty past so_far = λ m told files folder.
      let upto = so_far m told files folder in
      let all : take number (files 0) ≡ files 0 = take_all number (files 0) (omega (arith, past, length_blocks manifest (files 0) (m 0) folder.held.first)) in
      let form : form_of files ≡ Ok (Some (held_by store upto.0)) = ap (form_from files) (sym all) ∙ upto.1 in (
        upto.0,
        form,
        record {
          files = files;
          manifest = subst (λ (l : BlockLog). IsOpen l (files 0) (m 0)) (sym is_manifest) folder.held.first;
          logs = subst (λ (l : List BlockLog). AreOpen files m 2 l) (sym is_logs) folder.held.others;
          form_is = form;
          kept = upto.2.kept;
          slots = λ p slot is. subst (λ (s : Slot). IsSlot (home_in store.shape p) (files (file_of p)) s (nothing_pending p)) (sym (empty p slot is)) (record { piece = tt; letters = tt });
          newest_is = counted store upto.0 files upto.2;
          leg_is = upto.2.leg_is;
        },
      )

-- slots that are all the same
pub all_same : (n : ℕ) (slot : Slot) (p : ℕ) (found : Slot) → slice_get (replicate n slot) p ≡ Some found → found ≡ slot
all_same zero slot p found is = absurd cc
all_same (suc n) slot zero found is = cc
all_same (suc n) slot (suc p) found is = all_same n slot p found is

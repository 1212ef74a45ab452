-- What is shown of a folder that was opened.
use Rattle.std.proofs.Common.{◌≡◌, ◌⊎◌, inl, inr, ℕ, List, [], Option, Some, None, refl, sym, ◌∙◌, ap, subst}
use Rattle.std.specs.Prelude.{MatchOption}
use Rattle.sf_disk.specs.Images.{FileState}
use Rattle.sf_disk.specs.Moments.{Moment, InFile, Becomes, WhereTold, newest}
use Rattle.sf_disk.proofs.Onward.{becomes_as, at_now, still_told}
use Rattle.block_log.specs.Blocks.{StandsFor}
use Rattle.store_faults.specs.declared.fault.StoreFault.{StoreFault}
use Rattle.store_faults.specs.declared.fault.StoreFault.TheVariants.{DiskFault, NotAStore, StoreOfOther, OutOfMemory}
use Rattle.store_faults.specs.Faults.{RefusesUntold}
use Rattle.folder_form.specs.Folders.{Held}
use Rattle.snapshot_files.specs.declared.store.Store.{Store}
use Rattle.snapshot_files.specs.Stores.{HasForm, held_by}
use Rattle.snapshot_files.specs.Opening.{IsNew, IsOpenedKept, OpensKept, RefusesKept, seen}
use Rattle.egress_commit.specs.declared.outlet.Outlet.{Outlet}
use Rattle.egress_commit.specs.Epochs.{Epoch, HasEpochs, IsNoOutlet}
use Rattle.egress_commit.specs.Outlets.{IsOutlet, IsOpened, RefusesOutlet}
use Rattle.command_io.proofs.Stays.{egress_same}
use Rattle.folder_commands.specs.Shown.{IsOutletText, show_text}
use Rattle.folder_commands.specs.Show.{HasCommitted, IsKept, IsNoFolder, IsText, RefusesShow}

-- a folder was opened, whether it has a job or not
pub record OpensSo (first last : Moment) : Type 0 where
  pub opens : OpensKept first last
  pub kept : IsKept (seen first)

pub opened_so : (a b : List Moment) (found : Option Store) → MatchOption found (Becomes a b IsNew) (λ store. Becomes a b (IsOpenedKept store)) → Becomes a b OpensSo
opened_so a b None becomes = becomes_as a b IsNew OpensSo becomes (λ m n told o. record { opens = o.opens; kept = inr o.none })
opened_so a b (Some store) becomes = becomes_as a b (IsOpenedKept store) OpensSo becomes (λ m n told o. record { opens = o.opens; kept = inl (held_by store o.contents, o.stood) })

pub so_opens : (m k : Moment) → OpensSo m k → OpensKept m k
so_opens m k o = o.opens

module _ (a b c : List Moment) (opened : Becomes a b OpensSo) where
  -- the lines of the outlet are those of the folder
  pub text_shown : (outlet : Outlet) (text : List ℕ) → Becomes b c (InFile 1 (IsOpened outlet)) → IsOutletText outlet c text → IsText a text
  text_shown outlet text egress (epochs, is, told) = (
    epochs,
    is,
    λ m told_m.
        let k = opened m told_m in
        let n = egress k.0 k.1 in
        let o = (n.2).here in
        let same = egress_same m k.0 (k.2).opens in
        let has : HasEpochs (m 1).seen o.epochs = subst (λ (s : FileState). HasEpochs s.seen o.epochs) same o.stood in
        ((k.2).kept, subst (λ (e : List Epoch). HasEpochs (m 1).seen e) (told n.0 n.1 o.epochs o.is_open) has),
  )

  pub outlet_refused : (fault : StoreFault) → RefusesOutlet b fault → RefusesShow a fault
  outlet_refused DiskFault r = tt
  outlet_refused (NotAStore file place) r = λ m told.
      let k = opened m told in
      inr (r.0, subst (λ (s : FileState). IsNoOutlet s.seen place) (egress_same m k.0 (k.2).opens) (r.1 k.0 k.1))
  outlet_refused (StoreOfOther kept given) r = absurd r
  outlet_refused OutOfMemory r = tt

  -- where a moment was told at first, one is told still
  pub untold_refused : Becomes b c (λ m n. Unit {0}) → (fault : StoreFault) → RefusesUntold 1 c fault → RefusesShow a fault
  untold_refused later DiskFault r = tt
  untold_refused later (NotAStore file place) r = λ m told. let k = opened m told in let n = later k.0 k.1 in let none = r.1 in let some = n.1 in absurd cc
  untold_refused later (StoreOfOther kept given) r = absurd r
  untold_refused later OutOfMemory r = tt

pub kept_refused : (a : List Moment) (fault : StoreFault) → RefusesKept a fault → RefusesShow a fault
kept_refused a DiskFault r = tt
kept_refused a (NotAStore file place) r = λ m told. inl (r m told)
kept_refused a (StoreOfOther kept given) r = absurd r
kept_refused a OutOfMemory r = tt

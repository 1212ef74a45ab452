use Rattle.std.proofs.Common.{◌≡◌, ℕ, take}
use Rattle.std.specs.List.{flat_map}
use Rattle.sf_disk.specs.Moments.{WhereTold}
use Rattle.folder_form.specs.Folders.{Contents, entry_lists}
use Rattle.snapshot_files.specs.Stores.{IsStore, Pending}
use Rattle.snapshot_files.proofs.store.Store.read_entries.Given as goal

-- the entries of the checkpoints so far, and nothing but reads
abbrev pub invariant-loop-place : goal.invariant-loop-place
invariant-loop-place g l = record {
  same : g.D.Disk.moments l.disk ≡ g.D.Disk.moments l.fn.disk;
  faults : g.D.Disk.faults l.disk ≡ g.D.Disk.faults l.fn.disk;
  lists : WhereTold (g.D.Disk.moments l.fn.disk) (λ now. (contents : Contents) (pending : (ℕ → Pending)) → IsStore l.self contents pending now → l.lists ≡ flat_map entry_lists (take l.place-index contents.checkpoints));
}

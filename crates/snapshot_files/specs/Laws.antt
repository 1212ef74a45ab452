-- What follows from the form of a folder, for any folders, stores and moments.
use Rattle.std.specs.Prelude.{◌≡◌, ℕ, List, Option, Some}
use Rattle.sf_disk.specs.Moments.{Moment, Folder, IsImage}
use Rattle.folder_form.specs.Folders.{Part, Contents, Held}
use Rattle.snapshot_files.specs.declared.store.Store.{Store}
use Rattle.snapshot_files.specs.Usable.{AreAllPut}
use Rattle.snapshot_files.specs.Stores.{HasForm, Pending, IsStore, held_by}
use Rattle.snapshot_files.specs.Changes.{parts_put}
use Rattle.snapshot_files.specs.Opening.{BreaksAt, BreaksFor}

abbrev pub StandsForOneThing : Type 0
StandsForOneThing = (folder : Folder) (a b : Option Held) → HasForm folder a → HasForm folder b → a ≡ b

abbrev pub BreaksOrStands : Type 0
BreaksOrStands = (folder : Folder) (form : Option Held) (file place : ℕ) → HasForm folder form → BreaksAt folder file place → ⊥

-- the same, where it is opened for a job
abbrev pub IsRefusedOrStands : Type 0
IsRefusedOrStands = (text : List ℕ) (folder : Folder) (form : Option Held) (file place : ℕ) → HasForm folder form → BreaksFor text folder file place → ⊥

abbrev pub StandsForItsContents : Type 0
StandsForItsContents =
    (store : Store) (contents : Contents) (pending : ℕ → Pending) (now : Moment) → IsStore store contents pending now
    → (folder : Folder) → IsImage now folder → HasForm folder (Some (held_by store contents))

abbrev pub HasWhatWasPut : Type 0
HasWhatWasPut =
    (store : Store) (contents : Contents) (pending : ℕ → Pending) (now : Moment) (moment : ℕ) → IsStore store contents pending now
    → AreAllPut store moment → (parts : List Part) × (parts_put store.shape.partitions 0 pending ≡ Some parts)

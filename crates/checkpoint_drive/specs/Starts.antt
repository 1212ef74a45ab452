-- What the opening of a folder reads of it, before anything is committed or begun.
use Rattle.std.specs.Prelude.{◌≡◌, ◌≤◌, ◌⊎◌, ℕ, ◌++◌, List, length, false, IsFalse}
use Rattle.sf_disk.specs.Moments.{Moment, Becomes}
use Rattle.address_routing.specs.declared.module.Module.{Module}
use Rattle.address_routing.specs.Routing.{splits_in}
use Rattle.folder_form.specs.declared.loaded.Loaded.{Loaded}
use Rattle.folder_form.specs.Folders.{Contents, loaded_of}
use Rattle.snapshot_files.specs.Opening.{seen}
use Rattle.snapshot_files.specs.Reading.{FitsShape}
use Rattle.snapshot_files.specs.Stores.{newest}
use Rattle.egress_commit.specs.Epochs.{Epoch}
use Rattle.egress_commit.specs.Outlets.{last_epoch}
use Rattle.checkpoint_storage.specs.declared.storage.CheckpointStorage.{CheckpointStorage}
use Rattle.checkpoint_storage.specs.Folders.{IsFar, IsStorage, Stands}
use Rattle.checkpoint_state.specs.Stored.{states_in, delays_in, letters_in, on_the_way}
use Rattle.checkpoint_state.specs.Laws.{counts_in}
use Rattle.partition_core.specs.declared.kept_work.KeptWork.{KeptWork}
use Rattle.partition_core.specs.KeptWork.{kept_work}
use Rattle.statefun_driver.specs.Turns.{Origin}
use Rattle.checkpoint_drive.specs.declared.opening.Start.{Start}
use Rattle.checkpoint_drive.specs.Begins.{reaches_work, shape_of}

-- what turns begin with behind a checkpoint
abbrev pub start_from : Loaded → Start
start_from loaded = record {
  moment = loaded.moment;
  taken = loaded.taken;
  kept = record { letters = letters_in loaded.pieces ++ on_the_way loaded.feedback; states = states_in loaded.pieces; delays = delays_in loaded.pieces };
}

-- where they begin, behind that leg
abbrev pub origin_at : ℕ → Start → Origin
origin_at leg start = record {
  turn = leg;
  moment = start.moment;
  counts = counts_in start.taken;
  work = kept_work start.kept.letters start.kept.states start.kept.delays;
}

-- the storage stands for what a read gave at first, whose newest checkpoint is that one
pub record Reads (text : List ℕ) (loaded : Loaded) (storage : CheckpointStorage) (first last : Moment) : Type 0 where
  pub contents : Contents
  pub epochs : List Epoch
  pub stood : Stands text (seen first) contents epochs
  pub loaded_is : loaded_of contents ≡ loaded
  pub is_storage : IsStorage storage contents epochs last

-- a folder was opened, and its newest checkpoint was loaded
pub record HasRead (m : Module) (text : List ℕ) (old new : List Moment) (storage : CheckpointStorage) (start : Start) : Type 0 where
  pub loaded : Loaded
  pub start_is : start ≡ start_from loaded
  pub fits : FitsShape (shape_of m) loaded
  pub counted : length loaded.taken ≤ splits_in m.ingresses
  pub became : Becomes old new (Reads text loaded storage)
  pub text_is : storage.store.text ≡ text
  pub shape : storage.store.shape ≡ shape_of m
  pub usable : IsFalse storage.store.spent
  pub committing : IsFalse storage.outlet.spent

-- no run is begun: the egress file is further off than one epoch, or something waits for a function without an endpoint
abbrev pub IsUnfit : Module → CheckpointStorage → KeptWork → ℕ → ℕ → Type 0
IsUnfit m storage kept file place =
    (place ≡ 0)
    × (((file ≡ 1) × IsFar (newest storage.store) (last_epoch storage.outlet)) ⊎ ((file ≡ 2) × (reaches_work m kept.letters kept.delays ≡ false)))

-- A folder that was opened.
use Rattle.std.specs.Prelude.{◌≡◌, ℕ, List}
use Rattle.sf_disk.specs.Moments.{Moment}
use Rattle.folder_form.specs.Folders.{Contents}
use Rattle.snapshot_files.specs.Opening.{seen}
use Rattle.egress_commit.specs.Epochs.{Epoch}
use Rattle.checkpoint_storage.specs.declared.storage.CheckpointStorage.{CheckpointStorage}
use Rattle.checkpoint_storage.specs.Folders.{Stands, IsStorage}

-- the storage stands for what a read gave at first
pub record IsOpened (storage : CheckpointStorage) (text : List ℕ) (first last : Moment) : Type 0 where
  pub contents : Contents
  pub epochs : List Epoch
  pub stood : Stands text (seen first) contents epochs
  pub is_storage : IsStorage storage contents epochs last

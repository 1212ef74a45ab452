-- How a run over a folder begins: from its newest checkpoint.
use Rattle.std.specs.Prelude.{◌≡◌, ◌≤◌, ◌<◌, ◌⊎◌, ℕ, ◌+◌, ◌-◌, ◌^◌, Bool, true, false, IsTrue, IsFalse, List, ◌++◌, length, ◌&&◌}
use Rattle.std.specs.Option.{is_some}
use Rattle.std.specs.List.{list_all}
use Rattle.sf_disk.specs.Moments.{Moment, WhereTold, Becomes}
use Rattle.typed_values.specs.declared.letter.Letter.{Letter}
use Rattle.typed_values.specs.declared.record.Delay.{Delay}
use Rattle.address_routing.specs.declared.module.Module.{Module}
use Rattle.address_routing.specs.Routing.{endpoint_of, is_routable, splits_in}
use Rattle.folder_form.specs.declared.shape.Shape.{Shape}
use Rattle.folder_form.specs.declared.loaded.Loaded.{Loaded}
use Rattle.folder_form.specs.Folders.{Contents, loaded_of}
use Rattle.snapshot_files.specs.Opening.{seen}
use Rattle.snapshot_files.specs.Reading.{FitsShape}
use Rattle.snapshot_files.specs.Stores.{newest}
use Rattle.egress_commit.specs.Epochs.{Epoch}
use Rattle.egress_commit.specs.Outlets.{last_epoch}
use Rattle.store_faults.specs.declared.fault.StoreFault.{StoreFault}
use Rattle.store_faults.specs.declared.fault.StoreFault.TheVariants.{NotAStore}
use Rattle.checkpoint_storage.specs.Folders.{IsFar, IsStorage, RefusesStorage, Stands, with_next}
use Rattle.partition_core.specs.KeptWork.{kept_work}
use Rattle.checkpoint_state.specs.Stored.{states_in, delays_in, letters_in, on_the_way}
use Rattle.checkpoint_state.specs.Laws.{counts_in}
use Rattle.statefun_driver.specs.Turns.{Plan, Origin, rested}
use Rattle.statefun_driver.specs.Runs.{AreModest}
use Rattle.statefun_driver.specs.Work.{here, splits_of}
use Rattle.checkpoint_drive.specs.declared.options.Options.{Options}
use Rattle.checkpoint_drive.specs.declared.run.Run.{Run}
use Rattle.checkpoint_drive.specs.Images.{begun_run, most_legs}
use Rattle.checkpoint_drive.specs.Drives.{Rest}

-- ---- the plan

-- turns of a module that are driven one by one
abbrev pub driven_plan : Module → Plan
driven_plan m = record { routes = m; turns = 0; rests = true }

-- all addresses are in one partition
abbrev pub shape_of : Module → Shape
shape_of m = record { partitions = 1; splits = splits_in m.ingresses }

-- ---- from a checkpoint

-- The turns begin with what the checkpoint keeps, behind the stored leg. Letters that were on the way come behind those that waited.
abbrev pub stored_origin : ℕ → Loaded → Origin
stored_origin leg loaded = record {
  turn = leg;
  moment = loaded.moment;
  counts = counts_in loaded.taken;
  work = kept_work (letters_in loaded.pieces ++ on_the_way loaded.feedback) (states_in loaded.pieces) (delays_in loaded.pieces);
}

-- a letter and a delayed letter can be delivered
abbrev pub reaches_letter : Module → Letter → Bool
reaches_letter m letter = is_some (endpoint_of m letter.target.kind)

abbrev pub reaches_delay : Module → Delay → Bool
reaches_delay m delay = is_some (endpoint_of m delay.target.kind)

-- all of them can
abbrev pub reaches_work : Module → List Letter → List Delay → Bool
reaches_work m letters delays = list_all (reaches_letter m) letters && list_all (reaches_delay m) delays

-- all that waits in a checkpoint can
abbrev pub reaches_all : Module → Loaded → Bool
reaches_all m loaded = reaches_work m (letters_in loaded.pieces ++ on_the_way loaded.feedback) (delays_in loaded.pieces)

-- ---- between legs

-- what a run is between two legs
abbrev pub rest_of : Origin → Run → Rest
rest_of origin run = record { origin = origin; control = here run.progress; legs = run.legs; newest = newest run.storage.store; unheld = run.unheld }

-- A run may make its next leg.
pub record IsReady (run : Run) : Type 0 where
  pub rests : run.job.rests ≡ true
  pub turns : run.job.turns ≡ 0
  pub routable : IsTrue (is_routable run.job.routes)
  pub modest : AreModest run.job.routes.endpoints
  pub counted : splits_of run.progress ≡ run.job.splits
  pub shape : run.storage.store.shape ≡ shape_of run.job.routes
  pub usable : IsFalse run.storage.store.spent
  pub committing : IsFalse run.storage.outlet.spent
  pub even : last_epoch run.storage.outlet ≡ newest run.storage.store
  pub numbered : newest run.storage.store ≤ (here run.progress).turn
  pub every : 1 ≤ run.options.every
  pub legs : run.legs ≤ run.most
  pub room : (here run.progress).turn + (run.most - run.legs) < 2 ^ 64

-- ---- opening

-- The storage stands for what a read gave at first, whose newest checkpoint is the one that was loaded, with its egress committed and
-- the run begun.
pub record Begins (text : List ℕ) (options : Options) (stored : ℕ) (loaded : Loaded) (run : Run) (first last : Moment) : Type 0 where
  pub contents : Contents
  pub epochs : List Epoch
  pub stood : Stands text (seen first) contents epochs
  pub leg : contents.leg ≡ stored
  pub loaded_is : loaded_of contents ≡ loaded
  pub is_storage : IsStorage run.storage (begun_run options contents) (with_next contents epochs) last

-- A folder was opened, and the run was begun from what its newest checkpoint keeps.
pub record IsBegun (m : Module) (options : Options) (text : List ℕ) (old new : List Moment) (run : Run) : Type 0 where
  -- the stored leg at first, and the checkpoint that was loaded
  pub stored : ℕ
  pub loaded : Loaded
  pub fits : FitsShape (shape_of m) loaded
  pub reached : reaches_all m loaded ≡ true
  pub ready : IsReady run
  pub routes : run.job.routes ≡ m
  pub options_are : run.options ≡ options
  pub most : run.most ≡ most_legs options stored
  pub legs : run.legs ≡ 0
  pub unheld : run.unheld ≡ false
  pub here_is : here run.progress ≡ rested (stored_origin stored loaded)
  pub text_is : run.storage.store.text ≡ text
  pub became : Becomes old new (Begins text options stored loaded run)

-- ---- refusals

-- A checkpoint is refused: the egress file is further off than one epoch, something waits for a function without an endpoint, or it
-- counts more splits than there are.
abbrev pub IsRefused : Module → Contents → List Epoch → ℕ → ℕ → Type 0
IsRefused m contents epochs file place =
    (place ≡ 0)
    × (((file ≡ 1) × IsFar (length contents.checkpoints) (length epochs)) ⊎ ((file ≡ 2) × (reaches_all m (loaded_of contents) ≡ false))
    ⊎ ((file ≡ 0) × (splits_in m.ingresses < length (loaded_of contents).taken)))

-- what a read gives stands for one that is
abbrev pub RefusesLoaded : Module → List ℕ → ℕ → ℕ → Moment → Type 0
RefusesLoaded m text file place now = (contents : Contents) × (epochs : List Epoch) × Stands text (seen now) contents epochs × IsRefused m contents epochs file place

abbrev pub RefusesOpening : Module → List ℕ → List Moment → StoreFault → Type 0
RefusesOpening m text moments (NotAStore file place) = RefusesStorage text moments (NotAStore file place) ⊎ WhereTold moments (RefusesLoaded m text file place)
RefusesOpening m text moments fault = RefusesStorage text moments fault

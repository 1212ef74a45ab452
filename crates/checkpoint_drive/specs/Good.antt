-- What a run over a folder keeps: what a crash leaves of a good folder is good, and nothing that stood in it is lost.
use Rattle.std.specs.Prelude.{◌≡◌, ◌≤◌, ◌<◌, ℕ, ◌+◌, List, [], ◌++◌, length, map, Option, Some, IfSome, IsTrue}
use Rattle.std.specs.List.{flat_map}
use Rattle.typed_values.specs.declared.name.TypeName.{TypeName}
use Rattle.typed_values.specs.declared.address.Address.{Address}
use Rattle.typed_values.specs.declared.letter.Sender.{Sender}
use Rattle.typed_values.specs.declared.letter.Sender.TheVariants.{Split, Function}
use Rattle.sf_outside.specs.Splits.{Lists, split_of}
use Rattle.sf_outside.specs.declared.call.Exchange.{Exchange}
use Rattle.sf_outside.specs.declared.call.LinkEvent.{LinkEvent}
use Rattle.sf_disk.specs.Moments.{Moment, Folder, IsImage, WhereTold, MightHaveLeft, newest}
use Rattle.address_routing.specs.declared.module.Module.{Module}
use Rattle.address_routing.specs.Routing.{is_routable, splits_in}
use Rattle.run_record.specs.Machine.{State, arguments_at, first_state}
use Rattle.run_record.specs.Record.{replayed}
use Rattle.folder_form.specs.Folders.{Checkpoint, Contents, egress_in, record_of}
use Rattle.snapshot_files.specs.Opening.{seen}
use Rattle.egress_commit.specs.Epochs.{Epoch}
use Rattle.checkpoint_storage.specs.Folders.{Stands}
use Rattle.checkpoint_state.specs.Meaning.{state_in, with_only, IsGood}
use Rattle.statefun_driver.specs.Seen.{Seen}
use Rattle.statefun_driver.specs.Traces.{IsFront}
use Rattle.statefun_driver.specs.Runs.{AreModest}
use Rattle.statefun_driver.specs.Stretches.{AreUpTo}
use Rattle.checkpoint_drive.specs.declared.end.DriveEnd.{DriveEnd}
use Rattle.checkpoint_drive.specs.declared.end.DriveEnd.TheVariants.{Done, TurnsSpent, Refused, Stopped}
use Rattle.checkpoint_drive.specs.declared.options.Options.{Options}
use Rattle.checkpoint_drive.specs.Laws.{IsBackedBy}
use Rattle.checkpoint_drive.specs.Driven.{IsDriven}

-- ---- a good folder

-- what all checkpoints gave to egress, an epoch each
abbrev pub egress_of_all : Contents → List Epoch
egress_of_all contents = map egress_in contents.checkpoints

-- that is committed, but for the newest checkpoint's perhaps
pub record AreCommitted (contents : Contents) (epochs : List Epoch) : Type 0 where
  pub front : IsFront epochs (egress_of_all contents)
  pub near : length contents.checkpoints ≤ length epochs + 1

-- The folder stands for checkpoints, each of which is what the sequential machine gives on the record up to it.
pub record HasGood (m : Module) (text : List ℕ) (told : Lists) (folder : Folder) : Type 0 where
  pub contents : Contents
  pub epochs : List Epoch
  pub stands : Stands text folder contents epochs
  pub good : IsGood m told contents
  pub are : AreCommitted contents epochs

-- a folder without a byte is one, for each job
abbrev pub no_folder : Folder
no_folder file = []

abbrev pub EmptyIsGood : Type 0
EmptyIsGood = (m : Module) (text : List ℕ) (told : Lists) → HasGood m text told no_folder

-- What is committed is what the sequential machine gave to egresses on the record of the checkpoints up to one of them: of each address
-- and egress the same values, in the same order.
pub record IsOfMachine (m : Module) (told : Lists) (contents : Contents) (epochs : List Epoch) : Type 0 where
  pub front : List Checkpoint
  pub is_front : IsFront front contents.checkpoints
  pub last : State
  pub replays : replayed m told first_state (record_of (with_only front contents)) ≡ Some last
  pub gave : (address : Address) (name : TypeName) → last.egress address name ≡ arguments_at address name (flat_map (λ (epoch : Epoch). epoch) epochs)

abbrev pub CommittedIsOfMachine : Type 0
CommittedIsOfMachine =
    (m : Module) (text : List ℕ) (told : Lists) (folder : Folder) (good : HasGood m text told folder) → IsOfMachine m told good.contents good.epochs

-- ---- what a crash leaves of it

-- no checkpoint, no entry of the record and no committed epoch was lost or changed
pub record AreKept (contents : Contents) (epochs : List Epoch) (now : Contents) (committed : List Epoch) : Type 0 where
  pub checkpoints : IsFront contents.checkpoints now.checkpoints
  pub entries : IsFront (record_of contents) (record_of now)
  pub egress : IsFront epochs committed

-- A good folder that grew out of an earlier one. Where the link told at first what it had done, the record is backed by what backed the
-- earlier one's and by these exchanges.
pub record HasGrown (m : Module) (text : List ℕ) (told later : Lists) (journal : Option (List LinkEvent)) (exchanges : List Exchange)
    (earlier folder : Folder) : Type 0 where
  pub contents : Contents
  pub epochs : List Epoch
  pub stood : Stands text earlier contents epochs
  pub now : Contents
  pub committed : List Epoch
  pub stands : Stands text folder now committed
  pub good : IsGood m later now
  pub are : AreCommitted now committed
  pub kept : AreKept contents epochs now committed
  pub backed : (others : List Exchange) → IfSome journal (λ done. IsBackedBy others m told contents → IsBackedBy (others ++ exchanges) m later now)

-- so it is of a folder that a crash at that moment may leave
abbrev pub GrewOutOf : Module → List ℕ → Lists → Lists → Option (List LinkEvent) → List Exchange → Moment → Folder → Type 0
GrewOutOf m text told later journal exchanges first folder =
    (earlier : Folder) × IsImage first earlier × HasGrown m text told later journal exchanges earlier folder

-- ---- how a run ends

-- Nothing is left to do: all records of these lists were taken, no letter waits, and none is delayed.
pub record IsAllDone (m : Module) (told : Lists) (st : State) : Type 0 where
  pub taken : (split : ℕ) → split < splits_in m.ingresses → length (split_of told split) ≤ (st.own (Split split)).taken
  pub letters : (sender : Sender) (target : Address) → st.mail sender target ≡ []
  pub delays : (address : Address) → (st.own (Function address)).delays ≡ []

-- the folder has so many checkpoints, and the egress of each is committed
pub record HasAll (text : List ℕ) (number : ℕ) (folder : Folder) : Type 0 where
  pub contents : Contents
  pub stands : Stands text folder contents (egress_of_all contents)
  pub number_is : length contents.checkpoints ≡ number

-- At the number that is told, and at Done nothing is left of what stood in the lists at first.
abbrev pub EndsTruly : Module → List ℕ → Lists → DriveEnd → Folder → Type 0
EndsTruly m text told (Done number) folder = (all : HasAll text number folder) × IsAllDone m told (state_in all.contents)
EndsTruly m text told (TurnsSpent number legs) folder = HasAll text number folder
EndsTruly m text told (Refused fault) folder = Unit {0}
EndsTruly m text told (Stopped end) folder = Unit {0}

-- ---- a run

-- All that a crash may leave at first is good, and no call of a leg behind the stored one was started before.
pub record BeginsGood (m : Module) (text : List ℕ) (told : Lists) (before : Seen) (first : Moment) : Type 0 where
  pub each : (folder : Folder) → IsImage first folder → HasGood m text told folder
  pub fresh : (contents : Contents) (epochs : List Epoch) → Stands text (seen first) contents epochs → IfSome before.journal (AreUpTo contents.leg)

-- What a crash might have left at any moment grew out of what it would have left at first.
pub record StaysGood (m : Module) (text : List ℕ) (told : Lists) (first : Moment) (old new : List Moment) (before after : Seen) (end : DriveEnd) : Type 0 where
  pub later : Lists
  pub lists : after.lists ≡ Some later
  pub left : (folder : Folder) → MightHaveLeft old new folder → GrewOutOf m text told later before.journal after.exchanges first folder
  pub ends : WhereTold new (λ last. (folder : Folder) → IsImage last folder → EndsTruly m text told end folder)

-- Where the lists and the disk's moments are told, a run that begins so keeps it so.
abbrev pub KeepsGood : Module → List ℕ → List Moment → List Moment → Seen → Seen → DriveEnd → Type 0
KeepsGood m text old new before after end =
    (told : Lists) (first : Moment) → before.lists ≡ Some told → newest old ≡ Some first
    → BeginsGood m text told before first → StaysGood m text told first old new before after end

abbrev pub RunsKeepGood : Type 0
RunsKeepGood =
    (m : Module) (options : Options) (text : List ℕ) (old new : List Moment) (before after : Seen) (end : DriveEnd)
    → IsTrue (is_routable m) → AreModest m.endpoints → IsDriven m options text old new before after end
    → KeepsGood m text old new before after end

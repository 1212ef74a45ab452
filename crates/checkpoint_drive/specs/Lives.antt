-- A folder over many runs: each begins with what a crash left of the one before.
use Rattle.std.specs.Prelude.{◌≡◌, ℕ, List, [], ◌∷◌, ◌++◌, length, Some, IsTrue}
use Rattle.sf_outside.specs.Splits.{Lists, GrowTo}
use Rattle.sf_outside.specs.declared.call.Exchange.{Exchange}
use Rattle.sf_disk.specs.Moments.{Moment, Folder, IsImage, MightHaveLeft, newest}
use Rattle.address_routing.specs.declared.module.Module.{Module}
use Rattle.address_routing.specs.Routing.{is_routable}
use Rattle.folder_form.specs.Folders.{Contents}
use Rattle.egress_commit.specs.Epochs.{Epoch}
use Rattle.checkpoint_state.specs.Meaning.{state_in}
use Rattle.statefun_driver.specs.Seen.{Seen}
use Rattle.statefun_driver.specs.Runs.{AreModest}
use Rattle.checkpoint_drive.specs.declared.end.DriveEnd.{DriveEnd}
use Rattle.checkpoint_drive.specs.declared.end.DriveEnd.TheVariants.{Done}
use Rattle.checkpoint_drive.specs.declared.options.Options.{Options}
use Rattle.checkpoint_drive.specs.Driven.{IsDriven}
use Rattle.checkpoint_drive.specs.Laws.{IsBackedBy}
use Rattle.checkpoint_drive.specs.Good.{HasGood, HasGrown, IsAllDone, egress_of_all, no_folder}

-- a run over a folder
pub record Life : Type 0 where
  pub options : Options
  -- the disk's moments, and what the outside told, at first and in the end
  pub old : List Moment
  pub new : List Moment
  pub before : Seen
  pub after : Seen
  pub end : DriveEnd

-- It began over one of these folders: a crash at once would leave no other. The lists may have grown, and the link had done nothing.
pub record IsBorn (may : Folder → Type 0) (told : Lists) (life : Life) : Type 0 where
  pub first : Moment
  pub is_first : newest life.old ≡ Some first
  pub each : (folder : Folder) → IsImage first folder → may folder
  pub now : Lists
  pub lists : life.before.lists ≡ Some now
  pub grown : GrowTo told now
  pub journal : life.before.journal ≡ Some []

-- Then it went on as a run does.
pub record IsLife (m : Module) (text : List ℕ) (may : Folder → Type 0) (told : Lists) (life : Life) : Type 0 where
  pub born : IsBorn may told life
  pub driven : IsDriven m life.options text life.old life.new life.before life.after life.end
  pub later : Lists
  pub lists : life.after.lists ≡ Some later

-- One life after the other, up to the last folder: each begins with what a crash at any moment of the one before might have left.
abbrev pub AreLives : Module → List ℕ → (Folder → Type 0) → Lists → List Life → Folder → Type 0
AreLives m text may told [] last = may last
AreLives m text may told (life ∷ lives) last = (is : IsLife m text may told life) × AreLives m text (MightHaveLeft life.old life.new) is.later lives last

-- what their links exchanged
abbrev pub exchanged_in : List Life → List Exchange
exchanged_in [] = []
exchanged_in (life ∷ lives) = life.after.exchanges ++ exchanged_in lives

-- Whatever crashes came: the folder is good, it has all that stood in the first one, and its record is backed by all that was exchanged.
abbrev pub LivesKeepGood : Type 0
LivesKeepGood =
    (m : Module) (text : List ℕ) (told : Lists) (first last : Folder) (lives : List Life)
    → IsTrue (is_routable m) → AreModest m.endpoints → HasGood m text told first → AreLives m text (λ folder. folder ≡ first) told lives last
    → (later : Lists) × HasGrown m text told later (Some []) (exchanged_in lives) first last

-- ---- from nothing

-- What lives make of a folder that had nothing is good, and its record is backed by all that their links exchanged.
abbrev pub LivesMakeGood : Type 0
LivesMakeGood =
    (m : Module) (text : List ℕ) (told : Lists) (last : Folder) (lives : List Life)
    → IsTrue (is_routable m) → AreModest m.endpoints → AreLives m text (λ folder. folder ≡ no_folder) told lives last
    → (later : Lists) × (good : HasGood m text later last) × IsBackedBy (exchanged_in lives) m later good.contents

-- So much is done: all egress is committed, and nothing is left to do of these lists.
pub record HasDone (m : Module) (now : Lists) (number : ℕ) (contents : Contents) (epochs : List Epoch) : Type 0 where
  pub number_is : length contents.checkpoints ≡ number
  pub committed : epochs ≡ egress_of_all contents
  pub all_done : IsAllDone m now (state_in contents)

-- What the folder stands for where the last life ended at Done: nothing is left of what stood in the lists when that life began.
abbrev pub LivesEndDone : Type 0
LivesEndDone =
    (m : Module) (text : List ℕ) (told now : Lists) (folder : Folder) (lives : List Life) (last : Life) (number : ℕ) (moment : Moment)
    → IsTrue (is_routable m) → AreModest m.endpoints → AreLives m text (λ folder. folder ≡ no_folder) told (lives ++ last ∷ []) folder
    → last.end ≡ Done number → last.before.lists ≡ Some now → newest last.new ≡ Some moment → IsImage moment folder
    → (later : Lists) × (good : HasGood m text later folder) × IsBackedBy (exchanged_in (lives ++ last ∷ [])) m later good.contents
    × HasDone m now number good.contents good.epochs

-- A run over a folder as a whole: the opening, and the legs behind it.
use Rattle.std.proofs.Common.{◌≡◌, ◌⊎◌, inl, inr, ℕ, Bool, true, false, cond, nat_lt, List, [], ◌∷◌, ◌++◌, length, Some, refl, sym, ◌∙◌, ap, subst}
use Rattle.std.specs.Prelude.{◌||◌}
use Rattle.sf_disk.specs.Moments.{Moment, Folder, WhereTold, Since, Becomes, newest}
use Rattle.sf_disk.proofs.Onward.{since_as, since_then, becomes_then, at_now, told_now}
use Rattle.block_log.specs.Blocks.{Body}
use Rattle.block_log.proofs.Unique.{stands_for_one}
use Rattle.address_routing.specs.declared.module.Module.{Module}
use Rattle.folder_form.specs.Folders.{Contents, loaded_of}
use Rattle.snapshot_files.specs.Opening.{seen, contents_in}
use Rattle.snapshot_files.specs.Stores as stores
use Rattle.snapshot_files.proofs.OneThing.{one_thing}
use Rattle.egress_commit.specs.Epochs.{Epoch, epochs_from}
use Rattle.store_faults.specs.declared.fault.StoreFault.{StoreFault}
use Rattle.checkpoint_storage.specs.declared.storage.CheckpointStorage.{CheckpointStorage}
use Rattle.checkpoint_storage.specs.Folders.{IsKnown, Leaves, Stands, Turns, with_next}
use Rattle.checkpoint_storage.proofs.Images.{storage_stands}
use Rattle.statefun_driver.specs.Seen.{Seen}
use Rattle.statefun_driver.specs.declared.end.End.TheVariants.{TurnsSpent as TurnsEnd}
use Rattle.statefun_driver.specs.Turns.{Plan, Origin, Asking, Stopped as Stops, at, first_control, rested, taken_in}
use Rattle.statefun_driver.specs.Work.{here, plan_of}
use Rattle.statefun_driver.proofs.Journal.{objects_along, objects_stay}
use Rattle.checkpoint_drive.specs.declared.end.DriveEnd.{DriveEnd}
use Rattle.checkpoint_drive.specs.declared.end.DriveEnd.TheVariants.{Done, TurnsSpent, Refused, Stopped}
use Rattle.checkpoint_drive.specs.declared.options.Options.{Options}
use Rattle.checkpoint_drive.specs.declared.run.Run.{Run}
use Rattle.checkpoint_drive.specs.Drives.{Rest, Leg, AreLegs, behind, first_rest}
use Rattle.checkpoint_drive.specs.Laws.{after_all}
use Rattle.checkpoint_drive.specs.Images.{MayLeave, Reaches, RunsOn, IsAsBefore, IsLedBy, begun_run, egress_by, most_legs}
use Rattle.checkpoint_drive.specs.Begins.{Begins, IsBegun, RefusesOpening, driven_plan, rest_of, stored_origin}
use Rattle.checkpoint_drive.specs.Driven.{ComesTo, EndBy, HasRun, IfWhole, IsDriven, IsUnderway, IsUnsaved, MakesLegs, StandsFor}
use Rattle.checkpoint_drive.proofs.Growing.{reaches_less}
use Rattle.checkpoint_drive.proofs.Stored.{stored_sound}

-- ---- a folder stands for one thing

epochs_once : (number : ℕ) (one other : List Body) (a b : List Epoch) → other ≡ one → epochs_from number one ≡ Some a → epochs_from number other ≡ Some b → a ≡ b
epochs_once number one other a b same is_a is_b = let both : epochs_from number other ≡ epochs_from number one = ap (epochs_from number) same in cc

pub stands_once : (text : List ℕ) (folder : Folder) (contents also : Contents) (epochs committed : List Epoch)
    → Stands text folder contents epochs → Stands text folder also committed → (contents ≡ also) × (epochs ≡ committed)
stands_once text folder contents also epochs committed a b = (
  a.contents_are ∙ ap contents_in (one_thing folder a.form b.form a.has_form b.has_form) ∙ sym b.contents_are,
  epochs_once 1 (a.has_epochs).0 (b.has_epochs).0 epochs committed (stands_for_one (folder 1) (a.has_epochs).0 (b.has_epochs).0 (a.has_epochs).1 (b.has_epochs).1) (a.has_epochs).2 (b.has_epochs).2,
)

-- ---- refused

pub refused : (m : Module) (options : Options) (text : List ℕ) (old new : List Moment) (before after : Seen) (fault : StoreFault)
    → Since old new (MayLeave text options []) → after ≡ before → RefusesOpening m text old fault → IsDriven m options text old new before after (Refused fault)
refused m options text old new before after fault meanwhile outside cause = inr (fault, refl, record { meanwhile = meanwhile; outside = outside; cause = cause })

-- ---- ran

-- what legs made from a rest on
record Made (first last : CheckpointStorage) (before after : Seen) (mid new : List Moment) (end : DriveEnd) (plan : Plan) (options : Options) (most : ℕ) (rest : Rest) : Type 0 where
  comes : ComesTo plan options most rest before after end
  meanwhile : Since mid new (Leaves first (Reaches (comes.legs ++ comes.saving)))
  became : IfWhole end (Becomes mid new (Turns first last (λ contents epochs. after_all contents comes.legs) (λ contents epochs. epochs ++ egress_by comes.legs)))

if_whole : (end : DriveEnd) (P Q : Type 0) → (P → Q) → IfWhole end P → IfWhole end Q
if_whole (Done checkpoint) P Q f h = f h
if_whole (TurnsSpent checkpoint legs) P Q f h = f h
if_whole (Refused fault) P Q f h = tt
if_whole (Stopped end) P Q f h = tt

plan_is : (plan : Plan) (m : Module) → plan.routes ≡ m → plan.turns ≡ 0 → plan.rests ≡ true → plan ≡ driven_plan m
plan_is plan m routes is_turns rests = λ i. record { routes = routes i; turns = is_turns i; rests = rests i }

rest_is : (rest : Rest) (m : Module) (origin : Origin) (number : ℕ) → rest.origin ≡ origin → rest.control ≡ rested origin → rest.legs ≡ 0 → rest.newest ≡ number → rest.unheld ≡ false → rest ≡ first_rest (driven_plan m) origin number
rest_is rest m origin number is_origin control legs is_newest unheld = λ i. record { origin = is_origin i; control = control i; legs = legs i; newest = is_newest i; unheld = unheld i }

-- turns that are driven wait for the next moment
pub first_is : (plan : Plan) (start : Origin) → plan.rests ≡ true → first_control plan start ≡ rested start
first_is plan start rests = by plan.rests (nat_lt start.turn plan.turns) rests
  where
    by : (r t : Bool) → r ≡ true → at (cond (r || t) Asking (Stops (TurnsEnd (taken_in [])))) (rested start) ≡ rested start
    by true t e = refl
    by false t e = absurd (let k : false ≡ true = e in cc)

module _ (m : Module) (options : Options) (text : List ℕ) (old mid : List Moment) (run : Run) (begun : IsBegun m options text old mid run) (opening : Since old mid (MayLeave text options [])) where
  abbrev pub origin : Origin
  origin = stored_origin begun.stored begun.loaded

  abbrev number : ℕ
  number = stores.newest run.storage.store

  as_begun : (P : Plan → Options → ℕ → Rest → Type 0) → P (plan_of run.job) run.options run.most (rest_of origin run) → P (driven_plan m) options (most_legs options begun.stored) (first_rest (driven_plan m) origin number)
  as_begun P h =
      subst (P (driven_plan m) options (most_legs options begun.stored)) (rest_is (rest_of origin run) m origin number refl begun.here_is begun.legs refl begun.unheld)
      (subst (λ (n : ℕ). P (driven_plan m) options n (rest_of origin run)) begun.most
      (subst (λ (o : Options). P (driven_plan m) o run.most (rest_of origin run)) begun.options_are
      (subst (λ (p : Plan). P p run.options run.most (rest_of origin run)) (plan_is (plan_of run.job) m begun.routes begun.ready.turns begun.ready.rests) h)))

  -- and there the turns are
  pub underway_at_first : (seen : Seen) → IsUnderway (plan_of run.job) origin (here run.progress) seen
  underway_at_first seen = record {
    from = seen;
    leads = ([], (first_is (plan_of run.job) origin begun.ready.rests ∙ sym begun.here_is, refl));
    sound = stored_sound m begun.stored begun.loaded begun.fits;
  }

  pub known_at_first : IsKnown run.storage mid
  known_at_first = told_now old mid _ _ _ opening begun.became (λ first last at b. (begun_run options b.contents, with_next b.contents b.epochs, b.is_storage))

  -- what a read gave is what was loaded
  begins_there : WhereTold old (λ first. (contents : Contents) (epochs : List Epoch) → Stands text (seen first) contents epochs
      → (contents.leg ≡ begun.stored) × (length contents.checkpoints ≡ number) × (loaded_of contents ≡ begun.loaded))
  begins_there first told contents epochs stood =
      let b = (begun.became first told).2 in
      let same = (stands_once text (seen first) contents b.contents epochs b.epochs stood b.stood).0 in
      subst (λ (c : Contents). (c.leg ≡ begun.stored) × (length c.checkpoints ≡ number) × (loaded_of c ≡ begun.loaded)) (sym same)
      (b.leg, sym (b.is_storage).store.newest_is, b.loaded_is)

  module _ (now : Run) (before after : Seen) (new : List Moment) (end : DriveEnd) (same : now.storage.store.text ≡ run.storage.store.text) where
    weaker : (legs : List Leg) (first later : Moment) → MayLeave text options [] first later → MayLeave text options legs first later
    weaker legs first later may folder image = by (may folder image)
      where
        runs_by : (contents now : Contents) (epochs committed : List Epoch) → RunsOn options [] contents epochs now committed → RunsOn options legs contents epochs now committed
        runs_by contents now epochs committed (inl may) = inl may
        runs_by contents now epochs committed (inr reaches) = inr (reaches_less [] legs (begun_run options contents) now (with_next contents epochs) committed reaches)

        by : IsAsBefore text first folder ⊎ IsLedBy text options [] first folder → IsAsBefore text first folder ⊎ IsLedBy text options legs first folder
        by (inl kept) = inl kept
        by (inr led) = inr (record {
          contents = led.contents;
          epochs = led.epochs;
          now = led.now;
          committed = led.committed;
          stood = led.stood;
          runs = runs_by led.contents led.now led.epochs led.committed led.runs;
          stands = led.stands;
        })

    leads_to : (legs : List Leg) (first middle later : Moment) → newest old ≡ Some first → newest mid ≡ Some middle → Leaves run.storage (Reaches legs) middle later → MayLeave text options legs first later
    leads_to legs first middle later at_first at_middle leaves folder image =
        let b : Begins text options begun.stored begun.loaded run first middle = at_now old mid _ begun.became first middle at_first at_middle in
        let r = leaves (begun_run options b.contents) (with_next b.contents b.epochs) b.is_storage folder image in
        inr (record {
          contents = b.contents;
          epochs = b.epochs;
          now = r.0;
          committed = r.1;
          stood = b.stood;
          runs = inr r.2;
          stands = subst (λ (t : List ℕ). Stands t folder r.0 r.1) begun.text_is r.3;
        })

    stands_then : (legs : List Leg) (first middle last : Moment) → Begins text options begun.stored begun.loaded run first middle
        → Turns run.storage now.storage (λ contents epochs. after_all contents legs) (λ contents epochs. epochs ++ egress_by legs) middle last
        → (contents : Contents) (epochs : List Epoch) → Stands text (seen first) contents epochs → StandsFor text last (after_all (begun_run options contents) legs) (with_next contents epochs ++ egress_by legs)
    stands_then legs first middle last b turned contents epochs stood folder image =
        let once = stands_once text (seen first) b.contents contents b.epochs epochs b.stood stood in
        let is = storage_stands now.storage (after_all (begun_run options b.contents) legs) (with_next b.contents b.epochs ++ egress_by legs) last (turned (begun_run options b.contents) (with_next b.contents b.epochs) b.is_storage) folder image in
        subst (λ (c : Contents). Stands text folder (after_all (begun_run options c) legs) (with_next c epochs ++ egress_by legs)) once.0
        (subst (λ (e : List Epoch). Stands text folder (after_all (begun_run options b.contents) legs) (with_next b.contents e ++ egress_by legs)) once.1
        (subst (λ (t : List ℕ). Stands t folder (after_all (begun_run options b.contents) legs) (with_next b.contents b.epochs ++ egress_by legs)) (same ∙ begun.text_is) is))

    has_run : Made run.storage now.storage before after mid new end (driven_plan m) options (most_legs options begun.stored) (first_rest (driven_plan m) origin number) → HasRun m options text old new before after end
    has_run made = record {
      stored = begun.stored;
      newest = number;
      loaded = begun.loaded;
      fits = begun.fits;
      reached = begun.reached;
      begins = begins_there;
      comes = made.comes;
      meanwhile =
          since_then old mid new (MayLeave text options (made.comes.legs ++ made.comes.saving)) (Leaves run.storage (Reaches (made.comes.legs ++ made.comes.saving)))
          (since_as old mid (MayLeave text options []) (MayLeave text options (made.comes.legs ++ made.comes.saving)) opening (λ first later at may. weaker (made.comes.legs ++ made.comes.saving) first later may))
          made.meanwhile (leads_to (made.comes.legs ++ made.comes.saving));
      became = if_whole end _ _
          (λ h. becomes_then old mid new (Begins text options begun.stored begun.loaded run)
          (Turns run.storage now.storage (λ contents epochs. after_all contents made.comes.legs) (λ contents epochs. epochs ++ egress_by made.comes.legs))
          (λ first last. (contents : Contents) (epochs : List Epoch) → Stands text (seen first) contents epochs → StandsFor text last (after_all (begun_run options contents) made.comes.legs) (with_next contents epochs ++ egress_by made.comes.legs))
          begun.became h (λ first middle last at b turned. stands_then made.comes.legs first middle last b turned))
          made.became;
    }

    made_of : MakesLegs run now origin before after mid new end → Made run.storage now.storage before after mid new end (plan_of run.job) run.options run.most (rest_of origin run)
    made_of h = record { comes = h.comes; meanwhile = h.meanwhile; became = h.became }

    pub ran : MakesLegs run now origin before after mid new end → IsDriven m options text old new before after end
    ran h = inl (has_run (as_begun (Made run.storage now.storage before after mid new end) (made_of h)))

-- ---- the objects stay

module _ (plan : Plan) (options : Options) where
  objects_by : (rest last : Rest) (before after : Seen) (legs : List Leg) → AreLegs plan options rest before legs last after → after.objects ≡ before.objects
  objects_by rest last before after [] are = ap (λ (s : Seen). s.objects) (sym are.1)
  objects_by rest last before after (leg ∷ legs) are = objects_by (behind plan options rest leg) last are.0 after legs are.2 ∙ objects_along plan rest.control before leg.events leg.control are.0 are.1.trace

  unsaved_objects : (last : Rest) (before after : Seen) (saving : List Leg) → IsUnsaved plan options last before saving after → after.objects ≡ before.objects
  unsaved_objects last before after [] u = objects_along plan last.control before u.0 u.1 after u.2
  unsaved_objects last before after (leg ∷ []) u = objects_along plan last.control before leg.events leg.control after u.0.trace
  unsaved_objects last before after (leg ∷ other ∷ legs) u = absurd u

  end_objects : (most : ℕ) (rest : Rest) (legs : List Leg) (last : Rest) (between : Seen) (saving : List Leg) (after : Seen) (end : DriveEnd) → EndBy plan options most rest legs last between saving after end → after.objects ≡ between.objects
  end_objects most rest legs last between saving after (Done checkpoint) e = ap (λ (s : Seen). s.objects) (sym e.1)
  end_objects most rest legs last between saving after (TurnsSpent checkpoint made) e = ap (λ (s : Seen). s.objects) (sym e.1)
  end_objects most rest legs last between saving after (Refused fault) e = unsaved_objects last between after saving e.0
  end_objects most rest legs last between saving after (Stopped end) e = objects_stay plan last.control between e.4.0 end after e.4.1

  pub objects_same : (most : ℕ) (rest : Rest) (before after : Seen) (end : DriveEnd) → ComesTo plan options most rest before after end → after.objects ≡ before.objects
  objects_same most rest before after end comes =
      end_objects most rest comes.legs comes.last comes.between comes.saving after end comes.ends ∙ objects_by rest comes.last before comes.between comes.legs comes.are

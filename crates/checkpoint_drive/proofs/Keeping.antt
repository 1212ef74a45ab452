-- A run over a folder keeps what is good in it.
use Rattle.std.proofs.Common.{◌≡◌, inl, inr, ℕ, List, [], ◌∷◌, ◌++◌, length, Some, refl, sym, ◌∙◌, ap, subst}
use Rattle.std.specs.Prelude.{IsTrue}
use Rattle.sf_outside.specs.Splits.{Lists, GrowTo}
use Rattle.sf_disk.specs.Moments.{Moment, Folder, IsImage, Becomes, newest}
use Rattle.sf_disk.proofs.Onward.{at_now}
use Rattle.address_routing.specs.declared.module.Module.{Module}
use Rattle.address_routing.specs.Routing.{is_routable}
use Rattle.folder_form.specs.Folders.{Contents, loaded_of}
use Rattle.snapshot_files.specs.Opening.{seen}
use Rattle.egress_commit.specs.Epochs.{Epoch}
use Rattle.store_faults.specs.declared.fault.StoreFault.{StoreFault}
use Rattle.checkpoint_storage.specs.Folders.{Stands, with_next}
use Rattle.checkpoint_state.specs.Meaning.{IsGood}
use Rattle.statefun_driver.specs.Seen.{Seen}
use Rattle.statefun_driver.specs.Traces.{IsFront}
use Rattle.statefun_driver.specs.Runs.{AreModest}
use Rattle.checkpoint_drive.specs.declared.end.DriveEnd.{DriveEnd}
use Rattle.checkpoint_drive.specs.declared.end.DriveEnd.TheVariants.{Done, TurnsSpent, Refused, Stopped}
use Rattle.checkpoint_drive.specs.declared.options.Options.{Options}
use Rattle.checkpoint_drive.specs.Drives.{Leg, Rest, AreLegs, first_rest}
use Rattle.checkpoint_drive.specs.Laws.{after_all}
use Rattle.checkpoint_drive.specs.Images.{begun_run, egress_by, most_legs}
use Rattle.checkpoint_drive.specs.Begins.{driven_plan, stored_origin}
use Rattle.checkpoint_drive.specs.Driven.{EndBy, HasRun, IfWhole, IsDriven, StandsFor, WasRefused}
use Rattle.checkpoint_drive.specs.Good.{AreCommitted, BeginsGood, EndsTruly, HasGood, RunsKeepGood, StaysGood}
use Rattle.checkpoint_drive.proofs.GoodLegs.{told_then}
use Rattle.checkpoint_drive.proofs.Fronts.{Fronts, Went, all_legs, front_of, went_to, went_legs, went_then}
use Rattle.checkpoint_drive.proofs.GoodRuns.{Completed, Laws, begun_at, begun_fresh, begun_good, committed_as, front_completed, good_as, might_leave, none_completed, seen_is_image}
use Rattle.checkpoint_drive.proofs.GoodEnds.{has_all, over_all_done}

no_front : (front more : List Leg) → [] ≡ front ++ more → front ≡ []
no_front [] more e = refl
no_front (leg ∷ front) more e = absurd cc

module _ (laws : Laws) (m : Module) (options : Options) (text : List ℕ) (old new : List Moment) (before after : Seen) (end : DriveEnd) (routable : IsTrue (is_routable m)) (modest : AreModest m.endpoints)
    (told : Lists) (first : Moment) (lists : before.lists ≡ Some told) (is_first : newest old ≡ Some first) (begins : BeginsGood m text told before first) where
  abbrev at_seen : HasGood m text told (seen first)
  at_seen = begins.each (seen first) (seen_is_image first)

  -- ---- a folder that was refused

  module _ (fault : StoreFault) (is_end : end ≡ Refused fault) (refused : WasRefused m options text old new before after fault) where
    is_told : after.lists ≡ Some told
    is_told = ap (λ (s : Seen). s.lists) refused.outside ∙ lists

    went : Went before after
    went = went_to before after (sym refused.outside)

    completes : (contents : Contents) (epochs : List Epoch) → Stands text (seen first) contents epochs → (front : List Leg) → IsFront front [] → Completed laws m text told told before after went lists is_told options contents front
    completes contents epochs stood front is =
        subst (Completed laws m text told told before after went lists is_told options contents) (sym (no_front front is.0 is.1))
        (none_completed laws m text told told before after went lists is_told options contents (good_as m text told (seen first) contents epochs at_seen stood))

    was_refused : StaysGood m text told first old new before after end
    was_refused = record {
      later = told;
      lists = is_told;
      left = might_leave laws m text told told before after went lists is_told first begins options [] completes old new is_first refused.meanwhile;
      ends = λ last is_last folder image. subst (λ (e : DriveEnd). EndsTruly m text told e folder) (sym is_end) tt;
    }

  -- ---- a run

  module _ (run : HasRun m options text old new before after end) where
    abbrev from : Rest
    from = first_rest (driven_plan m) (stored_origin run.stored run.loaded) run.newest

    abbrev all : Fronts (driven_plan m) options from before after (run.comes.legs ++ run.comes.saving)
    all = all_legs (driven_plan m) options (most_legs options run.stored) from before after end run.comes

    abbrev went_all : Went before after
    went_all = went_then before (all.there) after (went_legs (driven_plan m) options from all.last before all.there (run.comes.legs ++ run.comes.saving) all.are) all.went

    abbrev grown : (later : Lists) × (after.lists ≡ Some later) × GrowTo told later
    grown = told_then before.lists after.lists told lists went_all.lists

    module _ (contents : Contents) (epochs : List Epoch) (stood : Stands text (seen first) contents epochs) where
      abbrev stored : (contents.leg ≡ run.stored) × (length contents.checkpoints ≡ run.newest) × (loaded_of contents ≡ run.loaded)
      stored = run.begins first is_first contents epochs stood

      good : IsGood m told contents
      good = good_as m text told (seen first) contents epochs at_seen stood

      pub run_completes : (front : List Leg) → IsFront front (run.comes.legs ++ run.comes.saving) → Completed laws m text told grown.0 before after went_all lists grown.1 options contents front
      run_completes front is =
          front_completed laws m text told grown.0 before after went_all lists grown.1 options contents run.stored run.newest run.loaded stored.0 stored.2 run.fits good (begins.fresh contents epochs stood) routable modest front
          (front_of (driven_plan m) options from before after (run.comes.legs ++ run.comes.saving) front is.0 is.1 all)

      are : AreCommitted contents epochs
      are = committed_as m text told (seen first) contents epochs at_seen stood

      pub ends_truly : (end : DriveEnd) (legs saving : List Leg) (last : Rest) (between : Seen) (are_legs : AreLegs (driven_plan m) options from before legs last between)
          → EndBy (driven_plan m) options (most_legs options run.stored) from legs last between saving after end
          → IfWhole end (Becomes old new (λ first last. (contents : Contents) (epochs : List Epoch) → Stands text (seen first) contents epochs
          → StandsFor text last (after_all (begun_run options contents) legs) (with_next contents epochs ++ egress_by legs)))
          → (moment : Moment) → newest new ≡ Some moment → (folder : Folder) → IsImage moment folder → EndsTruly m text told end folder
      ends_truly (Done number) legs saving last between are_legs by became moment is folder image = (
        has_all (driven_plan m) options text contents epochs are legs number from last before between are_legs stored.1 by.2 folder (at_now old new _ became first moment is_first is contents epochs stood folder image),
        over_all_done laws.legs (driven_plan m) options (begun_run options contents) (stored_origin run.stored run.loaded) run.newest told before routable modest lists
            (begun_good laws m text told grown.0 before after went_all lists grown.1 options contents run.stored run.newest run.loaded stored.0 stored.2 run.fits good (begins.fresh contents epochs stood) routable modest)
            (begun_at laws m text told grown.0 before after went_all lists grown.1 options contents run.stored run.newest run.loaded stored.0 stored.2 run.fits good (begins.fresh contents epochs stood) routable modest)
            (begun_fresh laws m text told grown.0 before after went_all lists grown.1 options contents run.stored run.newest run.loaded stored.0 stored.2 run.fits good (begins.fresh contents epochs stood) routable modest)
            legs last between are_legs by.3,
      )
      ends_truly (TurnsSpent number made) legs saving last between are_legs by became moment is folder image =
          has_all (driven_plan m) options text contents epochs are legs number from last before between are_legs stored.1 by.2 folder (at_now old new _ became first moment is_first is contents epochs stood folder image)
      ends_truly (Refused fault) legs saving last between are_legs by became moment is folder image = tt
      ends_truly (Stopped stop) legs saving last between are_legs by became moment is folder image = tt

    has_run : StaysGood m text told first old new before after end
    has_run = record {
      later = grown.0;
      lists = grown.1;
      left = might_leave laws m text told grown.0 before after went_all lists grown.1 first begins options (run.comes.legs ++ run.comes.saving) run_completes old new is_first run.meanwhile;
      ends = ends_truly at_seen.contents at_seen.epochs at_seen.stands end run.comes.legs run.comes.saving run.comes.last run.comes.between run.comes.are run.comes.ends run.became;
    }

pub runs_keep_good : Laws → RunsKeepGood
runs_keep_good laws m options text old new before after end routable modest driven told first lists is_first begins = by driven
  where
    by : IsDriven m options text old new before after end → StaysGood m text told first old new before after end
    by (inl run) = has_run laws m options text old new before after end routable modest told first lists is_first begins run
    by (inr (fault, is_end, refused)) = was_refused laws m options text old new before after end routable modest told first lists is_first begins fault is_end refused

-- What a crash leaves of a good folder, while a run goes over it, is good.
use Rattle.std.proofs.Common.{◌≡◌, ◌⊎◌, inl, inr, ℕ, ◌+◌, ◌≤◌, List, [], ◌∷◌, ◌++◌, Option, Some, None, IfSome, refl, sym, ◌∙◌, ap, subst, arith, append-nil}
use Rattle.std.specs.Prelude.{IsTrue}
use Rattle.std.specs.List.{AllByRecursion}
use Rattle.sf_outside.specs.Splits.{Lists, GrowTo}
use Rattle.sf_outside.specs.Answers.{Extends}
use Rattle.sf_outside.specs.declared.call.Call.{Call}
use Rattle.sf_outside.specs.declared.call.Exchange.{Exchange}
use Rattle.sf_disk.specs.Moments.{Moment, Folder, IsImage, Since, MightHaveLeft, newest}
use Rattle.sf_disk.proofs.Onward.{each_left}
use Rattle.address_routing.specs.declared.module.Module.{Module}
use Rattle.address_routing.specs.Routing.{is_routable}
use Rattle.run_record.specs.declared.entry.Entry.{Entry}
use Rattle.run_record.specs.Machine.{first_state}
use Rattle.run_record.specs.Backed.{AreBacked, calls_of}
use Rattle.folder_form.specs.declared.loaded.Loaded.{Loaded}
use Rattle.folder_form.specs.Folders.{Contents, loaded_of, record_of}
use Rattle.snapshot_files.specs.Opening.{seen}
use Rattle.snapshot_files.specs.Reading.{FitsShape}
use Rattle.egress_commit.specs.Epochs.{Epoch}
use Rattle.checkpoint_storage.specs.Folders.{Stands, with_next}
use Rattle.checkpoint_state.specs.Stored.{stored_state}
use Rattle.checkpoint_state.specs.Meaning.{state_in, given_by, IsGood, IsSound, IsWithin}
use Rattle.checkpoint_state.specs.Laws.{CheckpointsAreWork, LegsKeepGood}
use Rattle.partition_core.specs.Work.{state_of}
use Rattle.statefun_driver.specs.Seen.{Seen}
use Rattle.statefun_driver.specs.Traces.{IsFront}
use Rattle.statefun_driver.specs.Runs.{AreModest}
use Rattle.statefun_driver.specs.Stretches.{AreUpTo}
use Rattle.checkpoint_drive.specs.declared.options.Options.{Options}
use Rattle.checkpoint_drive.specs.Drives.{Leg, first_rest}
use Rattle.checkpoint_drive.specs.Laws.{BeginsAt, HaveGrownGood, IsBackedBy, after_all}
use Rattle.checkpoint_drive.specs.Images.{MayLeave, Reaches, RunsOn, IsAsBefore, IsLedBy, begun_run, most_legs}
use Rattle.checkpoint_drive.specs.Begins.{driven_plan, shape_of, stored_origin}
use Rattle.checkpoint_drive.specs.Good.{AreCommitted, BeginsGood, GrewOutOf, HasGood, HasGrown}
use Rattle.checkpoint_drive.proofs.GoodLegs.{Laws as LegLaws, behind_others, legs_complete_what_is_good, one_later, some_then, told_then}
use Rattle.checkpoint_drive.proofs.Fronts.{Fronts, Went, checkpoints_behind}
use Rattle.checkpoint_drive.proofs.Committed.{commit_keeps, legs_keep, may_commit, still_committed}
use Rattle.checkpoint_drive.proofs.Stored.{stored_sound}
use Rattle.checkpoint_drive.proofs.Whole.{stands_once}

-- what lower crates say
pub record Laws : Type 0 where
  pub legs : LegLaws
  pub later : LegsKeepGood
  pub work : CheckpointsAreWork

-- ---- one folder

pub good_as : (m : Module) (text : List ℕ) (told : Lists) (folder : Folder) (contents : Contents) (epochs : List Epoch)
    → HasGood m text told folder → Stands text folder contents epochs → IsGood m told contents
good_as m text told folder contents epochs g stands =
    subst (IsGood m told) (stands_once text folder g.contents contents g.epochs epochs g.stands stands).0 g.good

pub committed_as : (m : Module) (text : List ℕ) (told : Lists) (folder : Folder) (contents : Contents) (epochs : List Epoch)
    → HasGood m text told folder → Stands text folder contents epochs → AreCommitted contents epochs
committed_as m text told folder contents epochs g stands =
    let once = stands_once text folder g.contents contents g.epochs epochs g.stands stands in
    subst (λ (c : Contents). AreCommitted c epochs) once.0 (subst (AreCommitted g.contents) once.1 g.are)

-- what a read gives is left by a crash
pub seen_is_image : (moment : Moment) → IsImage moment (seen moment)
seen_is_image moment = λ file. inl refl

-- ---- where a run begins

record_begun : (options : Options) (contents : Contents) → record_of (begun_run options contents) ≡ record_of contents
unfolding record_of
record_begun options contents = refl

loaded_begun : (options : Options) (contents : Contents) → loaded_of (begun_run options contents) ≡ loaded_of contents
unfolding loaded_of
loaded_begun options contents = refl

le_le : (a b c : ℕ) → a ≤ b → b ≤ c → a ≤ c
le_le a b c h k = omega (arith, h, k)

entries_up_to : (leg moment bound : ℕ) → leg ≤ bound → (entries : List Entry) → AllByRecursion (IsWithin leg moment) entries → AllByRecursion (λ (entry : Entry). entry.leg ≤ bound) entries
entries_up_to leg moment bound less [] h = tt
entries_up_to leg moment bound less (entry ∷ entries) h = (le_le entry.leg leg bound h.0.0 less, entries_up_to leg moment bound less entries h.1)

-- turns begin behind the stored leg, from what the newest checkpoint keeps
pub begins_at : Laws → (m : Module) (told : Lists) (options : Options) (contents : Contents) (stored : ℕ) (loaded : Loaded)
    → contents.leg ≡ stored → loaded_of contents ≡ loaded → FitsShape (shape_of m) loaded → IsGood m told contents
    → BeginsAt (begun_run options contents) (stored_origin stored loaded)
begins_at laws m told options contents stored loaded leg is fits good =
    let sound : IsSound m told contents = good.each contents.checkpoints [] (sym (append-nil contents.checkpoints)) in
    record {
      work = state_begun;
      sound = stored_sound m stored loaded fits;
      legs = subst (AllByRecursion (λ (entry : Entry). entry.leg ≤ stored)) (sym (record_begun options contents))
          (entries_up_to (loaded_of contents).leg (loaded_of contents).moment stored (subst (λ (n : ℕ). (loaded_of contents).leg ≤ n) leg good.newest) (record_of contents) sound.within);
      calls = subst (λ (entries : List Entry). AllByRecursion (λ (call : Call). call.leg ≤ stored) (calls_of entries)) (sym (record_begun options contents))
          (subst (λ (n : ℕ). AllByRecursion (λ (call : Call). call.leg ≤ n) (calls_of (record_of contents))) leg good.calls);
      loaded = subst (λ (l : Loaded). l.leg ≤ stored) (sym (loaded_begun options contents)) (subst (λ (n : ℕ). (loaded_of contents).leg ≤ n) leg good.newest);
      moment = subst (λ (l : Loaded). l.moment ≤ loaded.moment) (sym (loaded_begun options contents ∙ is)) (omega arith);
    }
  where
    state_begun : state_in (begun_run options contents) ≡ state_of (stored_origin stored loaded).counts (given_by (begun_run options contents)) (stored_origin stored loaded).work
    state_begun =
        ap (λ (l : Loaded). stored_state l (given_by contents)) (loaded_begun options contents ∙ is) ∙ laws.work loaded (given_by contents)

-- ---- what grew

module _ (laws : Laws) (m : Module) (text : List ℕ) (told later : Lists) (before after : Seen) (went : Went before after) (lists : before.lists ≡ Some told) (is_later : after.lists ≡ Some later) where
  grows : GrowTo told later
  grows =
      let t = told_then before.lists after.lists told lists went.lists in
      subst (GrowTo told) (one_later after.lists t.0 later t.1 is_later) t.2

  -- what was backed stays so over more exchanges and longer lists
  backed_on : (fewer more : List Exchange) (one other : Lists) (contents : Contents) → Extends fewer more → GrowTo one other → IsGood m one contents → IsBackedBy fewer m one contents → IsBackedBy more m other contents
  backed_on fewer more one other contents extends grow good b =
      let all = good.each contents.checkpoints [] (sym (append-nil contents.checkpoints)) in
      subst (AreBacked more m other first_state) (append-nil (record_of contents))
      ((laws.legs).backing fewer more m one other first_state (state_in contents) (record_of contents) [] extends grow b all.replays tt)

  some_of : {X : Type 0} {P : Type 0} (o : Option X) → P → IfSome o (λ _. P)
  some_of None p = tt
  some_of (Some x) p = p

  -- contents that stay, with the next epoch perhaps
  module _ (earlier folder : Folder) (contents : Contents) (epochs committed : List Epoch) (stood : Stands text earlier contents epochs) (good : IsGood m told contents) (are : AreCommitted contents committed) (egress : IsFront epochs committed) where
    stays : (now : Contents) → now ≡ contents → Stands text folder now committed → HasGrown m text told later before.journal after.exchanges earlier folder
    stays now same stands = record {
      contents = contents;
      epochs = epochs;
      stood = stood;
      now = contents;
      committed = committed;
      stands = subst (λ (c : Contents). Stands text folder c committed) same stands;
      good = (laws.legs).lists m told later contents grows good;
      are = are;
      kept = record { checkpoints = ([], sym (append-nil contents.checkpoints)); entries = ([], sym (append-nil (record_of contents))); egress = egress };
      backed = λ others. some_of before.journal (backed_on others (others ++ after.exchanges) told later contents (after.exchanges, refl) grows good);
    }

  -- contents with what legs completed are good
  pub record Completed (options : Options) (contents : Contents) (front : List Leg) : Type 0 where
    pub good : IsGood m later (after_all (begun_run options contents) front)
    pub entries : IsFront (record_of contents) (record_of (after_all (begun_run options contents) front))
    pub backed : (others : List Exchange) → IfSome before.journal (λ done. IsBackedBy others m told contents → IsBackedBy (others ++ after.exchanges) m later (after_all (begun_run options contents) front))

  -- none
  pub none_completed : (options : Options) (contents : Contents) → IsGood m told contents → Completed options contents []
  none_completed options contents good =
      let begun : IsGood m told (begun_run options contents) = laws.later m told contents (contents.leg + most_legs options contents.leg) good in
      record {
        good = (laws.legs).lists m told later (begun_run options contents) grows begun;
        entries = ([], record_begun options contents ∙ sym (append-nil (record_of contents)));
        backed = λ others. some_of before.journal (λ b. backed_on others (others ++ after.exchanges) told later (begun_run options contents) (after.exchanges, refl) grows begun
            (subst (AreBacked others m told first_state) (sym (record_begun options contents)) b));
      }

  -- those that were made
  module _ (options : Options) (contents : Contents) (stored number : ℕ) (loaded : Loaded) (leg : contents.leg ≡ stored) (is : loaded_of contents ≡ loaded) (fits : FitsShape (shape_of m) loaded)
      (good : IsGood m told contents) (fresh : IfSome before.journal (AreUpTo contents.leg)) (routable : IsTrue (is_routable m)) (modest : AreModest m.endpoints) where
    pub begun_good : IsGood m told (begun_run options contents)
    begun_good = laws.later m told contents (contents.leg + most_legs options contents.leg) good

    pub begun_at : BeginsAt (begun_run options contents) (stored_origin stored loaded)
    begun_at = begins_at laws m told options contents stored loaded leg is fits good

    pub begun_fresh : IfSome before.journal (AreUpTo (stored_origin stored loaded).turn)
    begun_fresh = subst (λ (n : ℕ). IfSome before.journal (AreUpTo n)) leg fresh

    module _ (front : List Leg) (f : Fronts (driven_plan m) options (first_rest (driven_plan m) (stored_origin stored loaded) number) before after front) where
      abbrev made : HaveGrownGood m told (begun_run options contents) before f.there (after_all (begun_run options contents) front)
      made = legs_complete_what_is_good laws.legs (driven_plan m) options (begun_run options contents) (stored_origin stored loaded) number told before f.there front f.last routable modest lists begun_good begun_at begun_fresh f.are

      grows_on : GrowTo made.later later
      grows_on =
          let t = told_then (f.there).lists after.lists made.later made.lists (f.went).lists in
          subst (GrowTo made.later) (one_later after.lists t.0 later t.1 is_later) t.2

      pub front_completed : Completed options contents front
      front_completed = record {
        good = (laws.legs).lists m made.later later (after_all (begun_run options contents) front) grows_on made.good;
        entries = subst (λ (entries : List Entry). IsFront entries (record_of (after_all (begun_run options contents) front))) (record_begun options contents) made.grown;
        backed = λ others. some_then before.journal
            (λ done f_backed b. backed_on (others ++ (f.there).exchanges) (others ++ after.exchanges) made.later later (after_all (begun_run options contents) front)
            (behind_others others (f.there).exchanges after.exchanges (f.went).exchanges) grows_on made.good
            (f_backed (subst (AreBacked others m told first_state) (sym (record_begun options contents)) b)))
            (made.backed others);
      }

  -- ---- what a crash leaves

  module _ (first : Moment) (begins : BeginsGood m text told before first) (options : Options) (legs : List Leg)
      (completes : (contents : Contents) (epochs : List Epoch) → Stands text (seen first) contents epochs → (front : List Leg) → IsFront front legs → Completed options contents front) where
    as_before : (folder : Folder) → IsAsBefore text first folder → GrewOutOf m text told later before.journal after.exchanges first folder
    as_before folder kept =
        let g = begins.each kept.0 kept.1 in
        (kept.0, kept.1, stays kept.0 folder g.contents g.epochs g.epochs g.stands g.good g.are ([], sym (append-nil g.epochs)) g.contents refl (kept.2 g.contents g.epochs g.stands))

    module _ (folder : Folder) (contents now : Contents) (epochs committed : List Epoch) (stood : Stands text (seen first) contents epochs) (stands : Stands text folder now committed) where
      good : IsGood m told contents
      good = good_as m text told (seen first) contents epochs (begins.each (seen first) (seen_is_image first)) stood

      are : AreCommitted contents epochs
      are = committed_as m text told (seen first) contents epochs (begins.each (seen first) (seen_is_image first)) stood

      reached : Reaches legs (begun_run options contents) (with_next contents epochs) now committed → HasGrown m text told later before.journal after.exchanges (seen first) folder
      reached r =
          let c = completes contents epochs stood r.front r.is_front in
          let grown = after_all (begun_run options contents) r.front in
          record {
            contents = contents;
            epochs = epochs;
            stood = stood;
            now = grown;
            committed = committed;
            stands = subst (λ (x : Contents). Stands text folder x committed) r.contents_are stands;
            good = c.good;
            are = still_committed options contents epochs are r.front committed r.committed_are;
            kept = record {
              checkpoints = (_, checkpoints_behind (begun_run options contents) r.front);
              entries = c.entries;
              egress = legs_keep options contents epochs are r.front committed r.committed_are;
            };
            backed = c.backed;
          }

      led_by : RunsOn options legs contents epochs now committed → HasGrown m text told later before.journal after.exchanges (seen first) folder
      led_by (inl may) =
          stays (seen first) folder contents epochs committed stood good
          (subst (λ (c : Contents). AreCommitted c committed) may.0 (may_commit contents now epochs committed are may))
          (commit_keeps contents epochs committed may.1) now may.0 stands
      led_by (inr reaches) = reached reaches

    pub leaves : (later_moment : Moment) → MayLeave text options legs first later_moment → (folder : Folder) → IsImage later_moment folder → GrewOutOf m text told later before.journal after.exchanges first folder
    leaves later_moment may folder image = by (may folder image)
      where
        by : IsAsBefore text first folder ⊎ IsLedBy text options legs first folder → GrewOutOf m text told later before.journal after.exchanges first folder
        by (inl kept) = as_before folder kept
        by (inr led) = (seen first, seen_is_image first, led_by folder led.contents led.now led.epochs led.committed led.stood led.stands led.runs)

    at_once : (folder : Folder) → IsImage first folder → GrewOutOf m text told later before.journal after.exchanges first folder
    at_once folder image = as_before folder (folder, image, λ contents epochs stands. stands)

    -- at any moment
    module _ (old new : List Moment) (is_first : newest old ≡ Some first) (meanwhile : Since old new (MayLeave text options legs)) where
      one_moment : (o : Option Moment) (a b : Moment) → o ≡ Some a → o ≡ Some b → a ≡ b
      one_moment o a b is_a is_b = cc

      pub might_leave : (folder : Folder) → MightHaveLeft old new folder → GrewOutOf m text told later before.journal after.exchanges first folder
      might_leave folder left =
          let all = each_left old new (MayLeave text options legs) folder (λ (moment : Moment). GrewOutOf m text told later before.journal after.exchanges first folder) meanwhile
          (λ moment is image. at_once folder (subst (λ (x : Moment). IsImage x folder) (one_moment (newest old) moment first is is_first) image))
          (λ moment next is may image. leaves next (subst (λ (x : Moment). MayLeave text options legs x next) (one_moment (newest old) moment first is is_first) may) folder image)
          left in
          all.2

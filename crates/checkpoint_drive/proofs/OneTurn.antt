-- One leg: its turn, and what closes it.
use Rattle.std.proofs.Common.{◌≡◌, inl, inr, ℕ, ◌+◌, ◌<◌, Bool, true, ◌&&◌, List, [], ◌∷◌, ◌++◌, length, slice_get, Option, Some, None, Result, Err, option_map, refl, sym, ◌∙◌, ap, subst, arith, append-nil}
use Rattle.std.specs.Prelude.{IsTrue}
use Rattle.std.specs.Option.{option_to_list, is_some}
use Rattle.sf_disk.specs.Moments.{Moment, Since, Becomes}
use Rattle.sf_disk.proofs.Onward.{since_as}
use Rattle.address_routing.specs.Routing.{is_routable}
use Rattle.folder_form.specs.Folders.{Checkpoint, Contents, egress_in, with_checkpoint}
use Rattle.snapshot_files.specs.Stores.{newest}
use Rattle.egress_commit.specs.Epochs.{Epoch}
use Rattle.egress_commit.specs.Outlets.{last_epoch}
use Rattle.store_faults.specs.declared.fault.StoreFault.{StoreFault}
use Rattle.store_faults.specs.Faults.{HasStoreCause}
use Rattle.store_faults.specs.declared.fault.StoreFault.TheVariants.{DiskFault, NotAStore, StoreOfOther, OutOfMemory}
use Rattle.checkpoint_storage.specs.Folders.{Leaves, Turns, with_next}
use Rattle.checkpoint_storage.proofs.Saves.{even_lengths}
use Rattle.statefun_driver.specs.declared.progress.Progress.{Progress}
use Rattle.statefun_driver.specs.Seen.{Event, Seen}
use Rattle.statefun_driver.specs.Turns.{Plan, Control, Origin, Asking, first_control, is_done, origin_of}
use Rattle.statefun_driver.specs.Traces.{Trace, Leads, turns}
use Rattle.statefun_driver.specs.Laws.{TracesAreStretches}
use Rattle.statefun_driver.specs.Runs.{AreModest}
use Rattle.statefun_driver.specs.Stretches.{IsStretch}
use Rattle.statefun_driver.specs.Work.{here, plan_of, splits_of}
use Rattle.statefun_driver.proofs.Tracing.{leads_none, leads_then}
use Rattle.checkpoint_drive.specs.declared.run.Run.{Run}
use Rattle.checkpoint_drive.specs.declared.end.DriveEnd.{DriveEnd}
use Rattle.checkpoint_drive.specs.declared.end.DriveEnd.TheVariants.{Refused}
use Rattle.checkpoint_drive.specs.Drives.{Rest, Leg, IsLeg, IsTaken, behind, behind_with, is_asked, is_held}
use Rattle.checkpoint_drive.specs.Laws.{after}
use Rattle.checkpoint_drive.specs.Images.{Reaches, egress_by}
use Rattle.checkpoint_drive.specs.Begins.{IsReady, rest_of}
use Rattle.checkpoint_drive.specs.Driven.{HasDiskCause, IsUnderway}
use Rattle.checkpoint_drive.specs.OneLeg.{Gains, IsClosed, IsLeftOpen, HasLeg, FailsLeg, MakesLeg, counted, epoch_of}

-- ---- what a checkpoint may leave

last_there : {X : Type 0} (xs : List X) (x : X) → slice_get (xs ++ x ∷ []) (length xs) ≡ Some x
last_there [] x = refl
last_there (y ∷ xs) x = last_there xs x

-- where each epoch is committed, the next is that of the new checkpoint
next_is : (checkpoint : Checkpoint) (contents : Contents) (epochs : List Epoch) → length epochs ≡ length contents.checkpoints
    → with_next (with_checkpoint checkpoint.mark checkpoint.parts contents) epochs ≡ epochs ++ egress_in checkpoint ∷ []
next_is checkpoint contents epochs even =
    ap (λ (o : Option Checkpoint). epochs ++ option_to_list (option_map egress_in o))
    (ap (slice_get (contents.checkpoints ++ checkpoint ∷ [])) even ∙ last_there contents.checkpoints checkpoint)

abbrev leg_with : List Event → Control → Option Checkpoint → Leg
leg_with events control taken = record { events = events; control = control; taken = taken }

-- what may come of a leg's checkpoint, the leg may reach
gains_reach : (events : List Event) (control : Control) (taken : Option Checkpoint) (contents now : Contents) (epochs committed : List Epoch) → length epochs ≡ length contents.checkpoints
    → Gains taken contents epochs now committed → Reaches (leg_with events control taken ∷ []) contents epochs now committed
gains_reach events control None contents now epochs committed even g =
    record { front = []; is_front = (leg_with events control None ∷ [], refl); contents_are = g.0; committed_are = inl (g.1 ∙ sym (append-nil epochs)) }
gains_reach events control (Some checkpoint) contents now epochs committed even (inl (inl same, given)) =
    record { front = []; is_front = (leg_with events control (Some checkpoint) ∷ [], refl); contents_are = same; committed_are = inl (given ∙ sym (append-nil epochs)) }
gains_reach events control (Some checkpoint) contents now epochs committed even (inl (inr new, given)) = record {
  front = leg_with events control (Some checkpoint) ∷ [];
  is_front = ([], refl);
  contents_are = new;
  committed_are = inr ([], egress_in checkpoint, refl, given ∙ sym (append-nil epochs));
}
gains_reach events control (Some checkpoint) contents now epochs committed even (inr (new, given)) = record {
  front = leg_with events control (Some checkpoint) ∷ [];
  is_front = ([], refl);
  contents_are = new;
  committed_are = inl (given ∙ ap (λ (c : Contents). with_next c epochs) new ∙ next_is checkpoint contents epochs even);
}

-- a leg gives what its checkpoint gives
leg_gives : (events : List Event) (control : Control) (taken : Option Checkpoint) → epoch_of taken ≡ egress_by (leg_with events control taken ∷ [])
leg_gives events control None = refl
leg_gives events control (Some checkpoint) = refl

-- ---- behind the turn

pub ready_counted : (run : Run) (progress : Progress) → IsReady run → run.legs < run.most → splits_of progress ≡ splits_of run.progress
    → (here progress).turn ≡ (here run.progress).turn + 1 → IsReady (counted (record run { progress = progress }))
ready_counted run progress ready more splits one = record {
  rests = ready.rests;
  turns = ready.turns;
  routable = ready.routable;
  modest = ready.modest;
  counted = splits ∙ ready.counted;
  shape = ready.shape;
  usable = ready.usable;
  committing = ready.committing;
  even = ready.even;
  numbered = let n = ready.numbered in omega (arith, n, one);
  every = ready.every;
  legs = omega (arith, more);
  room = let r = ready.room in omega (arith, r, one, more);
}

module _ (run : Run) (origin : Origin) (progress : Progress) (before after_leg : Seen) (events : List Event)
    (trace : Trace (plan_of run.job) (here run.progress) before events (here progress) after_leg) (one : (here progress).turn ≡ (here run.progress).turn + 1)
    (asked : Bool) (asked_is : asked ≡ is_asked run.options (rest_of origin run)) (even : last_epoch run.storage.outlet ≡ newest run.storage.store) where
  abbrev plan : Plan
  plan = plan_of run.job

  abbrev mid : Run
  mid = record run { progress = progress }

  abbrev leg_of : Option Checkpoint → Leg
  leg_of taken = record { events = events; control = here progress; taken = taken }

  taken_same : (taken : Option Checkpoint) → IsTaken plan (rest_of origin mid) (here progress) taken → IsTaken plan (rest_of origin run) (here progress) taken
  taken_same None h = h
  taken_same (Some checkpoint) h = h

  behind_same : (taken : Option Checkpoint) → behind_with plan run.options (rest_of origin mid) (here progress) taken ≡ behind_with plan run.options (rest_of origin run) (here progress) taken
  behind_same None = refl
  behind_same (Some checkpoint) = refl

  asking : (here progress).phase ≡ Asking
  unfolding here
  asking = refl

  is_leg : (taken : Option Checkpoint) → is_some taken ≡ asked → IsTaken plan (rest_of origin mid) (here progress) taken → IsLeg plan run.options (rest_of origin run) before (leg_of taken) after_leg
  is_leg taken as_asked is = record { trace = trace; one = one; rests = asking; asked = as_asked ∙ asked_is; taken = taken_same taken is }

  leaves_leg : (taken : Option Checkpoint) (m n : Moment) → Leaves run.storage (Gains taken) m n → Leaves run.storage (Reaches (leg_of taken ∷ [])) m n
  leaves_leg taken m n leaves contents epochs is folder image =
      let r = leaves contents epochs is folder image in
      (r.0, r.1, gains_reach events (here progress) taken contents r.0 epochs r.1 (even_lengths run.storage even contents epochs m is) r.2, r.3)

  since_leg : (taken : Option Checkpoint) (old new : List Moment) → Since old new (Leaves run.storage (Gains taken)) → Since old new (Leaves run.storage (Reaches (leg_of taken ∷ [])))
  since_leg taken old new h = since_as old new (Leaves run.storage (Gains taken)) (Leaves run.storage (Reaches (leg_of taken ∷ []))) h (λ m n at l. leaves_leg taken m n l)

  pub leg_closed : (now : Run) (old new : List Moment) (over : Bool) → IsClosed mid now origin asked old new
      → over ≡ (run.options.drain && is_done (here progress) && is_held (newest now.storage.store) (here now.progress)) → HasLeg run now origin before after_leg old new over
  leg_closed now old new over h is_over_so = record {
    leg = leg_of h.taken;
    is = is_leg h.taken h.as_asked h.is_taken;
    next = (h.rest).0;
    rest = rest_is;
    over_is = is_over_so ∙ ap (λ (r : Rest). run.options.drain && is_done (here progress) && is_held r.newest r.control) rest_is;
    meanwhile = since_leg h.taken old new h.meanwhile;
    became = subst (λ (e : List Epoch). Becomes old new (Turns run.storage now.storage (λ contents epochs. after contents h.taken) (λ contents epochs. epochs ++ e)))
        (leg_gives events (here progress) h.taken) h.became;
  }
    where
      rest_is : rest_of (h.rest).0 now ≡ behind plan run.options (rest_of origin run) (leg_of h.taken)
      rest_is = (h.rest).1 ∙ behind_same h.taken

  pub leg_left_open : (old new : List Moment) (fault : StoreFault) → IsLeftOpen mid origin asked old new fault → FailsLeg run origin before after_leg old new fault
  leg_left_open old new fault h = by h.taken h.is_taken h.meanwhile
    where
      is_it : is_asked run.options (rest_of origin run) ≡ true
      is_it = sym asked_is ∙ h.was_asked

      by : (taken : Option Checkpoint) → IsTaken plan (rest_of origin mid) (here progress) taken → Since old new (Leaves run.storage (Gains taken)) → FailsLeg run origin before after_leg old new fault
      by None is since = record {
        saving = [];
        unsaved = (events, here progress, trace, one, is_it);
        cause = h.cause;
        meanwhile = since_as old new (Leaves run.storage (Gains None)) (Leaves run.storage (Reaches [])) since (λ m n at leaves contents epochs is folder image.
            let r = leaves contents epochs is folder image in
            (r.0, r.1, record { front = []; is_front = ([], refl); contents_are = (r.2).0; committed_are = inl ((r.2).1 ∙ sym (append-nil epochs)) }, r.3));
      }
      by (Some checkpoint) is since = record {
        saving = leg_of (Some checkpoint) ∷ [];
        unsaved = (is_leg (Some checkpoint) (sym h.was_asked) is, is_it);
        cause = h.cause;
        meanwhile = since_leg (Some checkpoint) old new since;
      }

-- ---- underway

module _ (run : Run) (law : TracesAreStretches) (routable : IsTrue (is_routable run.job.routes)) (modest : AreModest run.job.routes.endpoints)
    (before after_leg : Seen) (origin : Origin) (underway : IsUnderway (plan_of run.job) origin (here run.progress) before) (progress : Progress)
    (leads : Leads (plan_of run.job) (here run.progress) before (here progress) after_leg) where
  abbrev now_leads : Leads (plan_of run.job) (first_control (plan_of run.job) origin) underway.from (here progress) after_leg
  now_leads = leads_then (turns (plan_of run.job)) (first_control (plan_of run.job) origin) underway.from (here run.progress) before (here progress) after_leg underway.leads leads

  pub stretch : IsStretch (plan_of run.job) origin underway.from after_leg now_leads.0 (here progress)
  stretch = law (plan_of run.job) origin underway.from after_leg now_leads.0 (here progress) routable modest underway.sound now_leads.1

  still_asking : (here progress).phase ≡ Asking
  unfolding here
  still_asking = refl

  pub underway_on : (now : Run) (asked : Bool) (old new : List Moment) → IsClosed (record run { progress = progress }) now origin asked old new
      → (next : Origin) × IsUnderway (plan_of run.job) next (here now.progress) after_leg
  underway_on now asked old new h = by h.taken (h.rest).1
    where
      by : (taken : Option Checkpoint) → rest_of (h.rest).0 now ≡ behind_with (plan_of run.job) run.options (rest_of origin (record run { progress = progress })) (here progress) taken
          → (next : Origin) × IsUnderway (plan_of run.job) next (here now.progress) after_leg
      by None is = (
        origin,
        record {
          from = underway.from;
          leads = subst (λ (c : Control). Leads (plan_of run.job) (first_control (plan_of run.job) origin) underway.from c after_leg) (sym (ap (λ (r : Rest). r.control) is)) now_leads;
          sound = underway.sound;
        },
      )
      by (Some checkpoint) is = (
        origin_of (here progress),
        record {
          from = after_leg;
          leads = subst (λ (c : Control). Leads (plan_of run.job) (first_control (plan_of run.job) (origin_of (here progress))) after_leg c after_leg) (sym (ap (λ (r : Rest). r.control) is))
              (leads_none (turns (plan_of run.job)) (first_control (plan_of run.job) (origin_of (here progress))) after_leg);
          sound = stretch.still still_asking;
        },
      )

-- ---- causes

pub store_cause : (before now : ℕ) (fault : StoreFault) → HasStoreCause {T = Unit {0}} before now (Err fault) → HasDiskCause before now (Refused fault)
store_cause before now DiskFault h = h.1
store_cause before now (NotAStore file place) h = h
store_cause before now (StoreOfOther kept given) h = h
store_cause before now OutOfMemory h = h

pub fails_by : (run now : Run) (origin : Origin) (before after_leg : Seen) (old new : List Moment) (fault : StoreFault) (r : Result Bool DriveEnd)
    → (y : DriveEnd) × (r ≡ Err y) × (y ≡ Refused fault) → FailsLeg run origin before after_leg old new fault → MakesLeg run now origin before after_leg old new r
fails_by run now origin before after_leg old new fault r p fails = subst (MakesLeg run now origin before after_leg old new) (sym (p.1 ∙ ap Err p.2)) fails

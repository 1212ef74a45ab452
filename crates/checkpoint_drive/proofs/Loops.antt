-- The legs of a run so far, and how they go on and end.
use Rattle.std.proofs.Common.{◌≡◌, ℕ, ◌<◌, Bool, true, false, List, [], ◌∷◌, ◌++◌, Err, refl, sym, ◌∙◌, ap, subst, append-nil}
use Rattle.sf_disk.specs.Moments.{Moment, Since, Becomes}
use Rattle.sf_disk.proofs.Onward.{since_now, becomes_now}
use Rattle.run_record.specs.declared.entry.Entry.{Entry}
use Rattle.egress_commit.specs.Epochs.{Epoch}
use Rattle.snapshot_files.specs.Stores.{newest}
use Rattle.store_faults.specs.declared.fault.StoreFault.{StoreFault}
use Rattle.checkpoint_storage.specs.Folders.{IsStorage, Leaves, Turns}
use Rattle.statefun_driver.specs.declared.end.End.{End}
use Rattle.statefun_driver.specs.Seen.{Seen}
use Rattle.statefun_driver.specs.Turns.{Plan, Origin}
use Rattle.statefun_driver.specs.Traces.{Ends}
use Rattle.statefun_driver.specs.Work.{here, plan_of}
use Rattle.checkpoint_drive.specs.declared.end.DriveEnd.{DriveEnd}
use Rattle.checkpoint_drive.specs.declared.end.DriveEnd.TheVariants.{Done, TurnsSpent, Refused, Stopped}
use Rattle.checkpoint_drive.specs.declared.options.Options.{Options}
use Rattle.checkpoint_drive.specs.declared.run.Run.{Run}
use Rattle.checkpoint_drive.specs.Drives.{Rest, Leg, AreLegs, IsLeg, behind, is_over}
use Rattle.checkpoint_drive.specs.Laws.{after_all}
use Rattle.checkpoint_drive.specs.Images.{Reaches, egress_by}
use Rattle.checkpoint_drive.specs.Begins.{rest_of}
use Rattle.checkpoint_drive.specs.Driven.{IsUnsaved, MakesLegs, NoneIsLast}
use Rattle.checkpoint_drive.specs.OneLeg.{FailsLeg, HasLeg, IsSame, MakesLeg}
use Rattle.checkpoint_drive.proofs.Growing.{becomes_more, legs_then, none_last_then, one_leg, since_more}
use Rattle.checkpoint_drive.proofs.Stops.{driven_stops}

pub same_itself : (run : Run) → IsSame run run
same_itself run = record { job = refl; options = refl; most = refl; text = refl }

pub same_then : (a b c : Run) → IsSame a b → IsSame b c → IsSame a c
same_then a b c one two = record { job = two.job ∙ one.job; options = two.options ∙ one.options; most = two.most ∙ one.most; text = two.text ∙ one.text }

-- what was made from an entry on
pub record SoFar (run now : Run) (origin : Origin) (before seen : Seen) (old new : List Moment) : Type 0 where
  pub legs : List Leg
  pub next : Origin
  pub are : AreLegs (plan_of run.job) run.options (rest_of origin run) before legs (rest_of next now) seen
  pub goes_on : NoneIsLast (plan_of run.job) run.options (rest_of origin run) legs
  pub meanwhile : Since old new (Leaves run.storage (Reaches legs))
  pub became : Becomes old new (Turns run.storage now.storage (λ contents epochs. after_all contents legs) (λ contents epochs. epochs ++ egress_by legs))

pub none_so_far : (run : Run) (origin : Origin) (seen : Seen) (old : List Moment) → SoFar run run origin seen seen old old
none_so_far run origin seen old = record {
  legs = [];
  next = origin;
  are = (refl, refl);
  goes_on = tt;
  meanwhile = since_now old old _ refl;
  became = becomes_now old old _ refl (λ m at contents epochs is. subst (λ (e : List Epoch). IsStorage run.storage contents e m) (sym (append-nil epochs)) is);
}

module _ (run mid : Run) (origin : Origin) (before seen : Seen) (old here_moments : List Moment) (same : IsSame run mid) (so : SoFar run mid origin before seen old here_moments) where
  abbrev plan : Plan
  plan = plan_of run.job

  abbrev rest : Rest
  rest = rest_of origin run

  abbrev between : Rest
  between = rest_of so.next mid

  -- what is said with the job and options then is said with those at first
  said : (P : Plan → Options → Type 0) → P (plan_of mid.job) mid.options → P plan run.options
  said P h = subst (λ (p : Plan). P p run.options) (ap plan_of same.job) (subst (P (plan_of mid.job)) same.options h)

  -- nothing more is saved
  whole : (legs : List Leg) (new : List Moment) → Since old new (Leaves run.storage (Reaches legs)) → Since old new (Leaves run.storage (Reaches (legs ++ [])))
  whole legs new h = subst (λ (ls : List Leg). Since old new (Leaves run.storage (Reaches ls))) (sym (append-nil legs)) h

  module _ (now : Run) (after_leg : Seen) (new : List Moment) (over : Bool) (has : HasLeg mid now so.next seen after_leg here_moments new over) where
    is_leg : IsLeg plan run.options between seen has.leg after_leg
    is_leg = said (λ p options. IsLeg p options between seen has.leg after_leg) has.is

    rest_is : rest_of has.next now ≡ behind plan run.options between has.leg
    rest_is = said (λ p options. rest_of has.next now ≡ behind p options between has.leg) has.rest

    over_is : over ≡ is_over run.options has.leg.control (rest_of has.next now)
    over_is = subst (λ (r : Rest). over ≡ is_over run.options has.leg.control r) (sym rest_is) (said (λ p options. over ≡ is_over options has.leg.control (behind p options between has.leg)) has.over_is)

    are_more : AreLegs plan run.options rest before (so.legs ++ has.leg ∷ []) (rest_of has.next now) after_leg
    are_more =
        legs_then plan run.options rest between (rest_of has.next now) before seen after_leg so.legs (has.leg ∷ []) so.are
        (subst (λ (r : Rest). AreLegs plan run.options between seen (has.leg ∷ []) r after_leg) (sym rest_is) (one_leg plan run.options between seen after_leg has.leg is_leg))

    more_since : Since old new (Leaves run.storage (Reaches (so.legs ++ has.leg ∷ [])))
    more_since = since_more run.storage mid.storage same.text old here_moments so.legs so.meanwhile so.became new (has.leg ∷ []) has.meanwhile

    more_became : Becomes old new (Turns run.storage now.storage (λ contents epochs. after_all contents (so.legs ++ has.leg ∷ [])) (λ contents epochs. epochs ++ egress_by (so.legs ++ has.leg ∷ [])))
    more_became = becomes_more run.storage mid.storage same.text old here_moments so.legs so.meanwhile so.became new now.storage has.leg has.became

    -- the run goes on
    pub leg_on : over ≡ false → SoFar run now origin before after_leg old new
    leg_on not_over = record {
      legs = so.legs ++ has.leg ∷ [];
      next = has.next;
      are = are_more;
      goes_on = none_last_then plan run.options rest between before seen so.legs has.leg so.are so.goes_on
          (subst (λ (r : Rest). is_over run.options has.leg.control r ≡ false) rest_is (sym over_is ∙ not_over));
      meanwhile = more_since;
      became = more_became;
    }

    -- it is over
    pub leg_over : (checkpoint : ℕ) → over ≡ true → checkpoint ≡ newest now.storage.store → MakesLegs run now origin before after_leg old new (Done checkpoint)
    leg_over checkpoint is_it number = record {
      comes = record {
        legs = so.legs ++ has.leg ∷ [];
        last = rest_of has.next now;
        between = after_leg;
        are = are_more;
        saving = [];
        ends = (refl, refl, number, record { before = so.legs; leg = has.leg; are = refl; goes_on = so.goes_on; over = sym over_is ∙ is_it });
      };
      meanwhile = whole (so.legs ++ has.leg ∷ []) new more_since;
      became = more_became;
    }

  -- all legs were made
  pub legs_spent : (checkpoint made : ℕ) → mid.legs ≡ run.most → checkpoint ≡ newest mid.storage.store → made ≡ mid.legs → MakesLegs run mid origin before seen old here_moments (TurnsSpent checkpoint made)
  legs_spent checkpoint made all number is_made = record {
    comes = record {
      legs = so.legs;
      last = between;
      between = seen;
      are = so.are;
      saving = [];
      ends = (refl, refl, number, so.goes_on, is_made, all);
    };
    meanwhile = whole so.legs here_moments so.meanwhile;
    became = so.became;
  }

  -- a checkpoint was not saved
  pub leg_fails : (now : Run) (after_leg : Seen) (new : List Moment) (fault : StoreFault) → mid.legs < run.most → FailsLeg mid so.next seen after_leg here_moments new fault → MakesLegs run now origin before after_leg old new (Refused fault)
  leg_fails now after_leg new fault less fails = record {
    comes = record {
      legs = so.legs;
      last = between;
      between = seen;
      are = so.are;
      saving = fails.saving;
      ends = (said (λ p options. IsUnsaved p options between seen fails.saving after_leg) fails.unsaved, so.goes_on, less, fails.cause);
    };
    meanwhile = since_more run.storage mid.storage same.text old here_moments so.legs so.meanwhile so.became new fails.saving fails.meanwhile;
    became = tt;
  }

  -- its turn ended the run
  pub leg_stops : plan.rests ≡ true → (now : Run) (after_leg : Seen) (new : List Moment) (end : End) → mid.legs < run.most → ((entries : List Entry) × Ends (plan_of mid.job) (here mid.progress) seen entries end after_leg) × (new ≡ here_moments) → MakesLegs run now origin before after_leg old new (Stopped end)
  unfolding here
  leg_stops rests now after_leg new end less stops = record {
    comes = record {
      legs = so.legs;
      last = between;
      between = seen;
      are = so.are;
      saving = [];
      ends = (refl, so.goes_on, less, driven_stops plan rests (here mid.progress) seen stops.0.0 end after_leg refl (said (λ p options. Ends p (here mid.progress) seen stops.0.0 end after_leg) stops.0.1), (stops.0.0, said (λ p options. Ends p (here mid.progress) seen stops.0.0 end after_leg) stops.0.1));
    };
    meanwhile = subst (λ (ms : List Moment). Since old ms (Leaves run.storage (Reaches (so.legs ++ [])))) (sym stops.1) (whole so.legs here_moments so.meanwhile);
    became = tt;
  }

-- where nothing more is known than which end it is
pub leg_ends : (run mid now : Run) (origin : Origin) (before seen after_leg : Seen) (old here_moments new : List Moment) (same : IsSame run mid) (so : SoFar run mid origin before seen old here_moments) (end : DriveEnd)
    → run.job.rests ≡ true → mid.legs < run.most → MakesLeg mid now so.next seen after_leg here_moments new (Err end) → MakesLegs run now origin before after_leg old new end
leg_ends run mid now origin before seen after_leg old here_moments new same so (Done checkpoint) rests less h = absurd h
leg_ends run mid now origin before seen after_leg old here_moments new same so (TurnsSpent checkpoint legs) rests less h = absurd h
leg_ends run mid now origin before seen after_leg old here_moments new same so (Refused fault) rests less h = leg_fails run mid origin before seen old here_moments same so now after_leg new fault less h
leg_ends run mid now origin before seen after_leg old here_moments new same so (Stopped end) rests less h = leg_stops run mid origin before seen old here_moments same so rests now after_leg new end less h

-- What closes a leg: the checkpoint that was asked for, and the count.
use Rattle.std.proofs.Common.{◌≡◌, inl, inr, ◌+◌, ◌-◌, ◌^◌, ◌<◌, ◌≤◌, true, false, List, Some, None, Result, Ok, Err, refl, sym, ◌∙◌, ap, subst, arith, append-nil}
use Rattle.std.specs.Prelude.{IsTrue, IsFalse}
use Rattle.sf_disk.specs.Moments.{Moment}
use Rattle.sf_disk.proofs.Onward.{since_now, becomes_now, told_now}
use Rattle.snapshot_files.specs.Stores.{newest}
use Rattle.egress_commit.specs.Epochs.{Epoch}
use Rattle.egress_commit.specs.Outlets.{last_epoch}
use Rattle.store_faults.specs.declared.fault.StoreFault.{StoreFault}
use Rattle.checkpoint_storage.specs.Folders.{IsKnown, IsStorage}
use Rattle.address_routing.specs.Routing.{is_routable}
use Rattle.statefun_driver.specs.declared.job.Job.{Job}
use Rattle.statefun_driver.specs.Runs.{AreModest}
use Rattle.statefun_driver.specs.Turns.{Control, Origin, first_control, origin_of, rested as rests_at}
use Rattle.statefun_driver.specs.Work.{here, plan_of, splits_of}
use Rattle.checkpoint_drive.specs.declared.options.Options.{Options}
use Rattle.checkpoint_drive.specs.declared.run.Run.{Run}
use Rattle.checkpoint_drive.specs.Drives.{checkpoint_of, rested}
use Rattle.checkpoint_drive.specs.Laws.{after}
use Rattle.checkpoint_drive.specs.Begins.{IsReady, rest_of, shape_of}
use Rattle.checkpoint_drive.specs.OneLeg.{AreBeside, Closes, IsClosed, IsLeftOpen, IsSame, Saves, counted}
use Rattle.checkpoint_drive.proofs.Whole.{first_is}

-- ---- without a checkpoint

pub closed_without : (run : Run) (origin : Origin) (old : List Moment) → IsClosed run (counted run) origin false old old
closed_without run origin old = record {
  taken = None;
  as_asked = refl;
  is_taken = tt;
  rest = (origin, refl);
  meanwhile = since_now old old _ refl;
  became = becomes_now old old _ refl (λ m at contents epochs is. subst (λ (e : List Epoch). IsStorage run.storage contents e m) (sym (append-nil epochs)) is);
}

-- ---- with one

module _ (run mid : Run) (old new : List Moment) (rests : run.job.rests ≡ true) (beside : AreBeside run mid)
    (here_is : here mid.progress ≡ rests_at (origin_of (here run.progress))) (number : newest mid.storage.store ≡ newest run.storage.store + 1) where
  abbrev next : Origin
  next = origin_of (here run.progress)

  control_is : here mid.progress ≡ first_control (plan_of run.job) next
  control_is = here_is ∙ sym (first_is (plan_of run.job) next rests)

  rest_is : rest_of next (counted mid) ≡ rested run.options next (first_control (plan_of run.job) next) (run.legs + 1) (newest run.storage.store + 1)
  rest_is = λ i. rested (beside.options i) next (control_is i) (beside.legs i + 1) (number i)

  pub closed_with : (origin : Origin) → Saves run mid old new (Ok tt) → IsClosed run (counted mid) origin true old new
  closed_with origin (mark, piece, saving, became) = record {
    taken = Some (checkpoint_of mark piece);
    as_asked = refl;
    is_taken = (mark, piece, saving.is, refl);
    rest = (next, rest_is);
    meanwhile = saving.meanwhile;
    became = became;
  }

  pub known_with : IsKnown run.storage old → Saves run mid old new (Ok tt) → IsKnown mid.storage new
  known_with known (mark, piece, saving, became) = told_now old new _ _ _ saving.meanwhile became
      (λ first last at turns. let s = known first at in (after s.0 (Some (checkpoint_of mark piece)), _, turns s.0 s.1 s.2))

  pub ready_with : IsReady (counted run) → splits_of mid.progress ≡ splits_of run.progress → newest run.storage.store < (here run.progress).turn
      → last_epoch mid.storage.outlet ≡ newest mid.storage.store → mid.storage.store.shape ≡ run.storage.store.shape
      → IsFalse mid.storage.store.spent → IsFalse mid.storage.outlet.spent → IsReady (counted mid)
  ready_with ready splits less even shape usable committing = record {
    rests = beside_job (λ job. job.rests ≡ true) ready.rests;
    turns = beside_job (λ job. job.turns ≡ 0) ready.turns;
    routable = beside_job (λ job. IsTrue (is_routable job.routes)) ready.routable;
    modest = beside_job (λ job. AreModest job.routes.endpoints) ready.modest;
    counted = splits ∙ beside_job (λ job. splits_of run.progress ≡ job.splits) ready.counted;
    shape = shape ∙ beside_job (λ job. run.storage.store.shape ≡ shape_of job.routes) ready.shape;
    usable = usable;
    committing = committing;
    even = even;
    numbered = let n : newest mid.storage.store ≡ newest run.storage.store + 1 = number in
        let t : (here mid.progress).turn ≡ (here run.progress).turn = ap (λ (c : Control). c.turn) here_is in
        let l : newest run.storage.store < (here run.progress).turn = less in
        omega (arith, n, t, l);
    every = subst (λ (o : Options). 1 ≤ o.every) (sym beside.options) ready.every;
    legs = let l : run.legs + 1 ≤ run.most = ready.legs in let n : mid.legs ≡ run.legs = beside.legs in let m : mid.most ≡ run.most = beside.most in omega (arith, l, n, m);
    room = let r : (here run.progress).turn + (run.most - (run.legs + 1)) < 2 ^ 64 = ready.room in
        let t : (here mid.progress).turn ≡ (here run.progress).turn = ap (λ (c : Control). c.turn) here_is in
        let n : mid.legs ≡ run.legs = beside.legs in let m : mid.most ≡ run.most = beside.most in omega (arith, r, t, n, m);
  }
    where
      beside_job : (P : Job → Type 0) → P run.job → P mid.job
      beside_job P = subst P (sym beside.job)

  pub same_with : mid.storage.store.text ≡ run.storage.store.text → IsSame run (counted mid)
  same_with text = record { job = beside.job; options = beside.options; most = beside.most; text = text }

-- ---- not saved

left_open : (run now : Run) (origin : Origin) (old new : List Moment) (fault : StoreFault) → Saves run now old new (Err fault) → IsLeftOpen run origin true old new fault
left_open run now origin old new fault (cause, inl same) = record { was_asked = refl; cause = cause; taken = None; is_taken = tt; meanwhile = since_now old new _ same }
left_open run now origin old new fault (cause, inr (mark, piece, saving)) = record {
  was_asked = refl;
  cause = cause;
  taken = Some (checkpoint_of mark piece);
  is_taken = (mark, piece, saving.is, refl);
  meanwhile = saving.meanwhile;
}

pub closes_not : (run now last : Run) (origin : Origin) (old new : List Moment) (r : Result (Unit {0}) StoreFault) (fault : StoreFault) → (y : StoreFault) × (r ≡ Err y) × (y ≡ fault)
    → Saves run now old new (Err fault) → Closes run last origin true old new r
closes_not run now last origin old new r fault p saves = subst (Closes run last origin true old new) (sym (p.1 ∙ ap Err p.2)) (left_open run now origin old new fault saves)

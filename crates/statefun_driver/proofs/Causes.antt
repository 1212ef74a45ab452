-- Why a run ends, and that it is complete.
use Rattle.std.proofs.Common.{◌≡◌, ◌↔◌, ◌∙◌, refl, sym, subst, ℕ, ◌+◌, ◌≤◌, List, length, false, Option, Some, None, arith, nat_le, leb-false}
use Rattle.sf_outside.specs.Told.{Rose}
use Rattle.sf_outside.specs.declared.call.Answered.{Answered}
use Rattle.request_reply.specs.declared.flaw.Reason.{Reason}
use Rattle.address_routing.specs.declared.module.Module.{Module}
use Rattle.run_record.specs.declared.entry.Entry.{Entry}
use Rattle.statefun_driver.specs.declared.end.Broken.{Broken}
use Rattle.statefun_driver.specs.declared.end.Broken.TheVariants.{Ingress, Link, Memory}
use Rattle.statefun_driver.specs.declared.end.End.{End}
use Rattle.statefun_driver.specs.declared.end.End.TheVariants.{Done, TurnsSpent, RecordTooLarge, BatchTooLarge, EndpointFailed, Broke}
use Rattle.statefun_driver.specs.Seen.{Event, Seen, Hears, HearsFail}
use Rattle.statefun_driver.specs.Turns.{Plan, Control, Phase, Reading, Asking, Opening, Waiting, Stopped, Came, Answers, Failed, IsAsked, goes_on, begun, take_record, size_of, longest}
use Rattle.statefun_driver.specs.Turns.{own_part, came, with_reason, patience_at}
use Rattle.statefun_driver.specs.Traces.{Trace, IsEnd, IsUnbroken}
use Rattle.statefun_driver.specs.Runs.{AreCalm, IsCauseOf, IsServedBy, IsServed, IsRoomy, AreServed, IsComplete, NoneRose}
use Rattle.statefun_driver.proofs.Resting.{Rests, unbroken_rests, tried_unbroken, rest_finish, rest_open, rest_read, rest_read_on}
use Rattle.statefun_driver.proofs.Moving.{Moved, BrokeOff, ReadNone, ReadLarge, Took, SawMoment, Began, PolledNone, FailedBy, Accepts, Misses, accepted, missed}
use Rattle.statefun_driver.proofs.Standing.{Laws, IsFit, IsSound, Stands}
use Rattle.statefun_driver.proofs.Ways.{sound_next, backwards}

-- ---- the counts of faults

abbrev pub Caused : Seen → Seen → Phase → Type 0
Caused before now (Stopped end) = IsCauseOf before now end
Caused before now phase = AreCalm before now

calm_then : (a b c : Seen) → AreCalm a b → AreCalm b c → AreCalm a c
calm_then a b c h k = (k.0 ∙ h.0, k.1 ∙ h.1)

-- where no object broke the run off both counts stand, and no more is said
calm_caused : (before now : Seen) (phase : Phase) → IsUnbroken phase → Caused before now phase ↔ AreCalm before now
calm_caused before now Asking u = (λ h. h, λ h. h)
calm_caused before now (Reading split count) u = (λ h. h, λ h. h)
calm_caused before now (Opening batch) u = (λ h. h, λ h. h)
calm_caused before now (Waiting batch call k) u = (λ h. h, λ h. h)
calm_caused before now (Stopped (Done taken)) u = (λ h. h, λ h. h)
calm_caused before now (Stopped (TurnsSpent taken)) u = (λ h. h, λ h. h)
calm_caused before now (Stopped (RecordTooLarge split offset size)) u = (λ h. h, λ h. h)
calm_caused before now (Stopped (BatchTooLarge address size limit)) u = (λ h. h, λ h. h)
calm_caused before now (Stopped (EndpointFailed address reasons)) u = (λ h. h, λ h. h)
calm_caused before now (Stopped (Broke Ingress)) u = absurd u
calm_caused before now (Stopped (Broke Link)) u = absurd u
calm_caused before now (Stopped (Broke Memory)) u = (λ h. h, λ h. h)

asked_unbroken : (m : Module) (phase : Phase) (c : Control) (event : Event) → IsAsked m phase c event → IsUnbroken phase
asked_unbroken m Asking c event asked = tt
asked_unbroken m (Reading split count) c event asked = tt
asked_unbroken m (Opening batch) c event asked = tt
asked_unbroken m (Waiting batch call k) c event asked = tt
asked_unbroken m (Stopped end) c event asked = absurd asked

broke_caused : (before o p : Seen) (by : Broken) → AreCalm before o → HearsFail by o p → IsCauseOf before p (Broke by)
broke_caused before o p Ingress h k = (subst (λ (n : ℕ). n ≤ p.ingress_faults) h.0 (k.cause).0, subst (λ (n : ℕ). Rose n p.ingress_faults) h.0 (k.cause).1, (k.cause).2 ∙ h.1)
broke_caused before o p Link h k = ((k.cause).0 ∙ h.0, subst (λ (n : ℕ). n ≤ p.link_faults) h.1 (k.cause).1, subst (λ (n : ℕ). Rose n p.link_faults) h.1 (k.cause).2)
broke_caused before o p Memory h k = calm_then before o p h k.cause

-- where what is seen is as it was, but for what does not count faults
calm_on : (before o p r : Seen) → AreCalm before o → p ≡ r → AreCalm o r → AreCalm before p
calm_on before o p r h e k = calm_then before o p h (subst (AreCalm o) (sym e) k)

still : (before p : Seen) (phase : Phase) → IsUnbroken phase → AreCalm before p → Caused before p phase
still before p phase u h = (calm_caused before p phase u).1 h

moved_caused : (plan : Plan) (before : Seen) (c : Control) (o : Seen) (event : Event) (x : Control) (p : Seen) → Moved plan c event x → Hears event o p → AreCalm before o → Caused before p x.phase
moved_caused plan before c o _ _ p (BrokeOff by) k h = broke_caused before o p by h k
moved_caused plan before c o _ _ p (ReadNone split count offset e is) k h = still before p _ (rest_read IsUnbroken unbroken_rests plan (split + 1) c) (calm_on before o p _ h k.others (refl, refl))
moved_caused plan before c o _ _ p (ReadLarge split count offset found e large) k h = calm_on before o p _ h k.others (refl, refl)
moved_caused plan before c o _ _ p (Took split count offset found e is) k h =
    still before p _ (rest_read_on IsUnbroken unbroken_rests plan split (count + 1) (take_record plan.routes split found c)) (calm_on before o p _ h k.others (refl, refl))
moved_caused plan before c o _ _ p (SawMoment moment e) k h = still before p _ (rest_read IsUnbroken unbroken_rests plan 0 (begun moment c)) (calm_on before o p _ h k.others (refl, refl))
moved_caused plan before c o _ _ p (Began batch url request e place is) k h = calm_on before o p _ h k.others (refl, refl)
moved_caused plan before c o _ _ p (PolledNone batch call n outcome e) k h = calm_on before o p _ h k.others (refl, refl)
moved_caused plan before c o _ _ p (FailedBy batch call n outcome why e is late) k h = still before p _ (tried_unbroken plan.routes (with_reason batch why)) (calm_on before o p _ h k.others (refl, refl))
moved_caused plan before c o _ _ p (Accepts batch call n outcome answer effects e own is) k h = still before p _ (rest_finish IsUnbroken unbroken_rests plan (accepted plan batch call answer effects c)) (calm_on before o p _ h k.others (refl, refl))
moved_caused plan before c o _ _ p (Misses batch call n outcome answer specs e own is) k h =
    still before p _ (rest_open IsUnbroken unbroken_rests plan batch.address (length batch.letters) (missed plan batch call answer specs c)) (calm_on before o p _ h k.others (refl, refl))

pub caused_one : (plan : Plan) (before : Seen) (c : Control) (o : Seen) (event : Event) (x : Control) (p : Seen) → IsAsked plan.routes c.phase c event → Moved plan c event x → Hears event o p → Caused before o c.phase → Caused before p x.phase
caused_one plan before c o event x p asked m heard h = moved_caused plan before c o event x p m heard ((calm_caused before o c.phase (asked_unbroken plan.routes c.phase c event asked)).0 h)

-- ---- completeness

-- no end for want of service
abbrev pub IsFine : Phase → Type 0
IsFine (Stopped (RecordTooLarge split offset size)) = ⊥
IsFine (Stopped (BatchTooLarge address size limit)) = ⊥
IsFine (Stopped (EndpointFailed address reasons)) = ⊥
IsFine phase = Unit {0}

-- beside a batch that is too large
abbrev IsPassed : Phase → Type 0
IsPassed (Stopped (RecordTooLarge split offset size)) = ⊥
IsPassed (Stopped (EndpointFailed address reasons)) = ⊥
IsPassed phase = Unit {0}

passed_rests : Rests IsPassed
passed_rests = record { asking = tt; reading = λ split count. tt; opening = λ batch. tt; done = λ taken. tt; spent = λ taken. tt; large = λ address size limit. tt }

too_large : (a b : ℕ) → a ≤ b → nat_le a b ≡ false → ⊥
too_large a b h e = absurd (let k = leb-false a b e in omega (arith, k, h))

served_not : (k patience : ℕ) (came : Came) (told : Option Answered) (why : Reason) → IsServedBy k patience came told → came ≡ Failed why → (told ≡ None → patience ≤ k + 1) → ⊥
served_not k patience came None why h s late = let n = late refl in absurd (omega (arith, h, n))
served_not k patience (Answers answer judged) (Some what) why h s late = absurd cc
served_not k patience (Failed other) (Some what) why h s late = h

served_in : (m : Module) (c : Control) (phase : Phase) (event : Event) → c.phase ≡ phase → IsServed m c.phase c event → IsServed m phase c event
served_in m c phase event e h = subst (λ (x : Phase). IsServed m x c event) e h

passed_one : (plan : Plan) (c : Control) (event : Event) (d : Control) → Moved plan c event d → IsServed plan.routes c.phase c event → IsPassed d.phase
passed_one plan c _ _ (BrokeOff by) h = tt
passed_one plan c _ _ (ReadNone split count offset e is) h = rest_read IsPassed passed_rests plan (split + 1) c
passed_one plan c _ _ (ReadLarge split count offset found e large) h = absurd (too_large (size_of found) longest (served_in plan.routes c (Reading split count) _ e h) large)
passed_one plan c _ _ (Took split count offset found e is) h = rest_read_on IsPassed passed_rests plan split (count + 1) (take_record plan.routes split found c)
passed_one plan c _ _ (SawMoment moment e) h = rest_read IsPassed passed_rests plan 0 (begun moment c)
passed_one plan c _ _ (Began batch url request e place is) h = tt
passed_one plan c _ _ (PolledNone batch call k outcome e) h = tt
passed_one plan c _ _ (FailedBy batch call k outcome why e is late) h =
    absurd (served_not k (patience_at plan.routes batch.address) (came plan.routes c batch.address (own_part call outcome)) (own_part call outcome) why (served_in plan.routes c (Waiting batch call k) _ e h) is late)
passed_one plan c _ _ (Accepts batch call k outcome answer effects e own is) h = rest_finish IsPassed passed_rests plan (accepted plan batch call answer effects c)
passed_one plan c _ _ (Misses batch call k outcome answer specs e own is) h = rest_open IsPassed passed_rests plan batch.address (length batch.letters) (missed plan batch call answer specs c)

fine_roomy : (plan : Plan) (c : Control) (phase : Phase) → IsPassed phase → IsRoomy phase → Stands plan phase c → IsFine phase
fine_roomy plan c Asking p r s = tt
fine_roomy plan c (Reading split count) p r s = tt
fine_roomy plan c (Opening batch) p r s = tt
fine_roomy plan c (Waiting batch call k) p r s = tt
fine_roomy plan c (Stopped (Done taken)) p r s = tt
fine_roomy plan c (Stopped (TurnsSpent taken)) p r s = tt
fine_roomy plan c (Stopped (RecordTooLarge split offset size)) p r s = p
fine_roomy plan c (Stopped (BatchTooLarge address size limit)) p r s = let k = s.0 in absurd (omega (arith, k, r))
fine_roomy plan c (Stopped (EndpointFailed address reasons)) p r s = p
fine_roomy plan c (Stopped (Broke by)) p r s = tt

pub fine_along : (laws : Laws) (plan : Plan) → IsFit plan.routes → (c : Control) (o : Seen) (events : List Event) (d : Control) (q : Seen) → Trace plan c o events d q → IsSound plan c → AreServed plan c events → IsFine c.phase → IsFine d.phase
fine_along laws plan fit c o events d q t s =
    backwards laws plan fit d q (λ c o events. AreServed plan c events → IsFine c.phase → IsFine d.phase) (λ h f. f)
    (λ c o event p events s asked m heard more h f.
    let next = goes_on plan c.phase c event in
    more h.2 (fine_roomy plan next next.phase (passed_one plan c event next m h.0) h.1 (sound_next laws plan fit c event s asked).stands))
    c o events t s

-- ---- ends

caused_end : (before now : Seen) (phase : Phase) (end : End) → phase ≡ Stopped end → Caused before now phase → IsCauseOf before now end
caused_end before now phase end e h = subst (Caused before now) e h

pub cause_is : (before now : Seen) (last : Control) (entries : List Entry) (end : End) → IsEnd last entries end → Caused before now last.phase → IsCauseOf before now end
cause_is before now last entries (Broke Memory) e h = (calm_caused before now last.phase e.0).0 h
cause_is before now last entries (Broke Ingress) e h = caused_end before now last.phase (Broke Ingress) e.0 h
cause_is before now last entries (Broke Link) e h = caused_end before now last.phase (Broke Link) e.0 h
cause_is before now last entries (Done taken) e h = caused_end before now last.phase (Done taken) e.0 h
cause_is before now last entries (TurnsSpent taken) e h = caused_end before now last.phase (TurnsSpent taken) e.0 h
cause_is before now last entries (RecordTooLarge split offset size) e h = caused_end before now last.phase (RecordTooLarge split offset size) e.0 h
cause_is before now last entries (BatchTooLarge address size limit) e h = caused_end before now last.phase (BatchTooLarge address size limit) e.0 h
cause_is before now last entries (EndpointFailed address reasons) e h = caused_end before now last.phase (EndpointFailed address reasons) e.0 h

pub fine_end : (before now : Seen) (last : Control) (entries : List Entry) (end : End) → IsFine last.phase → IsEnd last entries end → IsCauseOf before now end → NoneRose before now → IsComplete end
fine_end before now last entries (Done taken) f e k n = tt
fine_end before now last entries (TurnsSpent taken) f e k n = tt
fine_end before now last entries (Broke Memory) f e k n = tt
fine_end before now last entries (Broke Ingress) f e k n = n.ingress k.1
fine_end before now last entries (Broke Link) f e k n = n.link k.2
fine_end before now last entries (RecordTooLarge split offset size) f e k n = let h : IsFine (Stopped (RecordTooLarge split offset size)) = subst IsFine e.0 f in h
fine_end before now last entries (BatchTooLarge address size limit) f e k n = let h : IsFine (Stopped (BatchTooLarge address size limit)) = subst IsFine e.0 f in h
fine_end before now last entries (EndpointFailed address reasons) f e k n = let h : IsFine (Stopped (EndpointFailed address reasons)) = subst IsFine e.0 f in h

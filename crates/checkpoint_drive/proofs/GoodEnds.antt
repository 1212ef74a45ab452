-- How a run ends that made all its legs: the folder has all their checkpoints, and where it is over nothing is left to do.
use Rattle.std.proofs.Common.{◌≡◌, ℕ, ◌<◌, ◌≤◌, true, false, List, [], ◌∷◌, ◌++◌, length, filter, Option, Some, None, IfSome, refl, sym, ◌∙◌, ap, subst, arith, length-append}
use Rattle.std.specs.Prelude.{IsTrue, ◌&&◌}
use Rattle.std.proofs.lemmas.Bool.{and_parts}
use Rattle.typed_values.specs.declared.address.Address.{Address}
use Rattle.typed_values.specs.declared.letter.Letter.{Letter}
use Rattle.typed_values.specs.declared.letter.Sender.{Sender}
use Rattle.typed_values.specs.declared.record.Delay.{Delay}
use Rattle.typed_values.specs.declared.record.EgressRecord.{EgressRecord}
use Rattle.sf_outside.specs.Splits.{Lists, GrowTo, split_of}
use Rattle.sf_outside.specs.declared.ingress.IngressRecord.{IngressRecord}
use Rattle.sf_disk.specs.Moments.{Folder}
use Rattle.address_routing.specs.declared.module.Module.{Module}
use Rattle.address_routing.specs.Routing.{is_routable}
use Rattle.run_record.specs.declared.entry.Entry.{Entry}
use Rattle.run_record.specs.Egress.{egress_of}
use Rattle.run_record.specs.Machine.{State, arguments_at, arguments_of}
use Rattle.run_record.specs.Record.{replayed}
use Rattle.folder_form.specs.Folders.{Checkpoint, Contents}
use Rattle.egress_commit.specs.Epochs.{Epoch}
use Rattle.checkpoint_storage.specs.Folders.{Stands, with_next}
use Rattle.checkpoint_state.specs.Meaning.{state_in, given_by, IsGood}
use Rattle.partition_core.specs.Work.{Work, is_empty, is_from, is_idle, state_of}
use Rattle.statefun_driver.specs.Seen.{Seen}
use Rattle.statefun_driver.specs.Turns.{Plan, Control, Origin, first_control, is_done}
use Rattle.statefun_driver.specs.Traces.{Trace}
use Rattle.statefun_driver.specs.Runs.{AreModest, IsDelivered}
use Rattle.statefun_driver.specs.Stretches.{AreUpTo, IsStretch}
use Rattle.checkpoint_drive.specs.declared.options.Options.{Options}
use Rattle.checkpoint_drive.specs.Drives.{Rest, Leg, AreLegs, behind, behind_with, completed_by, first_rest, is_held, is_over}
use Rattle.checkpoint_drive.specs.Laws.{BeginsAt, after, after_all}
use Rattle.checkpoint_drive.specs.Images.{begun_run, egress_by}
use Rattle.checkpoint_drive.specs.Driven.{IsOverBehind}
use Rattle.checkpoint_drive.specs.Good.{AreCommitted, HasAll, IsAllDone}
use Rattle.checkpoint_drive.proofs.GoodLegs.{IsHere, Laws, at_first, legs_lead, leg_leads, told_some, told_then, trace_then}
use Rattle.checkpoint_drive.proofs.Growing.{after_append}
use Rattle.checkpoint_drive.proofs.Fronts.{LastLeg, checkpoints_behind, last_leg, numbered}
use Rattle.checkpoint_drive.proofs.Committed.{all_behind}

-- ---- nothing is left

empty_list : {X : Type 0} (xs : List X) → is_empty xs ≡ true → xs ≡ []
empty_list [] e = refl
empty_list (x ∷ xs) e = absurd (let k : false ≡ true = e in cc)

no_delays : (work : Work) → is_idle work ≡ true → work.delays ≡ []
unfolding is_idle
no_delays work idle = empty_list work.delays (and_parts (is_empty work.post.ready) (is_empty work.delays) idle).1

no_arguments : (sender : Sender) (target : Address) (letters : List Letter) → letters ≡ [] → arguments_of sender target letters ≡ []
unfolding arguments_of
no_arguments sender target [] e = refl
no_arguments sender target (letter ∷ letters) e = absurd cc

none_of : (address : Address) (delays : List Delay) → delays ≡ [] → filter (is_from address) delays ≡ []
none_of address [] e = refl
none_of address (delay ∷ delays) e = absurd cc

all_done : (m : Module) (told : Lists) (control : Control) (given : List EgressRecord) → IsDelivered m told control → IsAllDone m told (state_of control.counts given control.work)
unfolding state_of
all_done m told control given d = record {
  taken = d.taken;
  letters = λ sender target. no_arguments sender target (control.work.post.letters target) (d.letters target);
  delays = λ address. none_of address control.work.delays (no_delays control.work d.idle);
}

-- ---- the same work, whatever was given

abbrev with_given : List EgressRecord → State → State
with_given given st = record st { egress = λ address name. arguments_at address name given }

given_so : (counts : ℕ → ℕ) (before given : List EgressRecord) (work : Work) → with_given given (state_of counts before work) ≡ state_of counts given work
unfolding state_of
given_so counts before given work = refl

same_work : (m : Module) (told : Lists) (counts others : ℕ → ℕ) (before given out : List EgressRecord) (work left : Work) (entries : List Entry) → is_empty entries ≡ true
    → replayed m told (state_of counts before work) entries ≡ Some (state_of others out left) → state_of counts given work ≡ state_of others given left
same_work m told counts others before given out work left [] none replays =
    let both : Some (state_of counts before work) ≡ Some (state_of others out left) = replays in
    let same : state_of counts before work ≡ state_of others out left = cc in
    sym (given_so counts before given work) ∙ ap (with_given given) same ∙ given_so others out given left
same_work m told counts others before given out work left (entry ∷ entries) none replays = absurd (let k : false ≡ true = none in cc)

shorter : (told later : Lists) (split : ℕ) → GrowTo told later → length (split_of told split) ≤ length (split_of later split)
shorter told later split grow =
    let same = ap (λ (l : List IngressRecord). length l) (grow split).1 in
    let both = length-append (split_of told split) (grow split).0 in
    omega (arith, same, both)

le_le : (a b c : ℕ) → a ≤ b → b ≤ c → a ≤ c
le_le a b c h k = omega (arith, h, k)

still_delivered : (m : Module) (told later : Lists) (control : Control) → GrowTo told later → IsDelivered m later control → IsDelivered m told control
still_delivered m told later control grow d = record {
  idle = d.idle;
  letters = d.letters;
  taken = λ split less. le_le (length (split_of told split)) (length (split_of later split)) (control.counts split) (shorter told later split grow) (d.taken split less);
}

-- ---- over

module _ (laws : Laws) (plan : Plan) (options : Options) (contents : Contents) (origin : Origin) (number : ℕ) (told : Lists) (before : Seen)
    (routable : IsTrue (is_routable plan.routes)) (modest : AreModest plan.routes.endpoints) (lists : before.lists ≡ Some told)
    (good : IsGood plan.routes told contents) (begins : BeginsAt contents origin) (fresh : IfSome before.journal (AreUpTo origin.turn))
    (legs : List Leg) (last : Rest) (after_legs : Seen) (are : AreLegs plan options (first_rest plan origin number) before legs last after_legs)
    (over : IsOverBehind plan options (first_rest plan origin number) legs last) where
  abbrev start : Rest
  start = first_rest plan origin number

  abbrev leg : Leg
  leg = over.leg

  abbrev cut : LastLeg plan options start last before after_legs over.before over.leg
  cut = last_leg plan options start last before after_legs over.before over.leg (subst (λ (l : List Leg). AreLegs plan options start before l last after_legs) over.are are)

  abbrev middle : Rest
  middle = cut.middle

  abbrev reached : (later : Lists) × IsHere laws plan options routable modest [] told contents before (after_all contents over.before) middle later cut.there
  reached = legs_lead laws plan options routable modest [] told contents before contents start middle told before cut.there over.before
      (at_first laws plan options contents origin number told before routable modest lists good begins fresh []) cut.are

  abbrev here : IsHere laws plan options routable modest [] told contents before (after_all contents over.before) middle reached.0 cut.there
  here = reached.1

  joined : Trace plan (first_control plan middle.origin) here.from (here.events ++ leg.events) leg.control after_legs
  joined = trace_then plan (first_control plan middle.origin) middle.control leg.control here.from cut.there after_legs here.events leg.events here.trace (cut.is).trace

  stretch : IsStretch plan middle.origin here.from after_legs (here.events ++ leg.events) leg.control
  stretch = laws.stretches plan middle.origin here.from after_legs (here.events ++ leg.events) leg.control routable modest here.begun.sound joined

  up_to_here : IsStretch plan middle.origin here.from cut.there here.events middle.control
  up_to_here = laws.stretches plan middle.origin here.from cut.there here.events middle.control routable modest here.begun.sound here.trace

  later_turn : middle.origin.turn < leg.control.turn
  later_turn = let a = up_to_here.turn in let b = (cut.is).one in omega (arith, a, b)

  delivered : is_done leg.control ≡ true → IsDelivered plan.routes told leg.control
  delivered done =
      let t = told_then before.lists (here.from).lists told lists here.since in
      let d = told_some (here.from).lists t.0 (λ (l : Lists). IsDelivered plan.routes l leg.control) t.1 (stretch.done (cut.is).rests later_turn done) in
      still_delivered plan.routes told t.0 leg.control t.2 d

  abbrev next : (later : Lists) × IsHere laws plan options routable modest [] told contents before (after (after_all contents over.before) leg.taken) (behind plan options middle leg) later after_legs
  next = leg_leads laws plan options routable modest [] told contents before (after_all contents over.before) middle reached.0 cut.there here leg after_legs cut.is

  held_state : (taken : Option Checkpoint) (now : Contents)
      → is_held (behind_with plan options middle leg.control taken).newest (behind_with plan options middle leg.control taken).control ≡ true
      → BeginsAt now (behind_with plan options middle leg.control taken).origin → state_in now ≡ state_of leg.control.counts (given_by now) leg.control.work
  held_state (Some checkpoint) now held b = b.work
  held_state None now held b =
      b.work ∙ same_work plan.routes next.0 middle.origin.counts leg.control.counts [] (given_by now) (egress_of leg.control.entries) middle.origin.work leg.control.work leg.control.entries
      (and_parts _ (is_empty leg.control.entries) held).1
      (told_some after_legs.lists next.0 _ (next.1).lists stretch.replays)

  over_parts : is_over options leg.control (behind plan options middle leg) ≡ true
  over_parts = subst (λ (r : Rest). is_over options leg.control r ≡ true) (sym cut.last_is) over.over

  is_done_there : is_done leg.control ≡ true
  is_done_there = (and_parts options.drain (is_done leg.control) (and_parts (options.drain && is_done leg.control) (is_held (behind plan options middle leg).newest (behind plan options middle leg).control) over_parts).0).1

  is_held_there : is_held (behind plan options middle leg).newest (behind plan options middle leg).control ≡ true
  is_held_there = (and_parts (options.drain && is_done leg.control) (is_held (behind plan options middle leg).newest (behind plan options middle leg).control) over_parts).1

  now_is : after_all contents legs ≡ after (after_all contents over.before) leg.taken
  now_is = ap (after_all contents) over.are ∙ after_append contents over.before (leg ∷ [])

  pub over_all_done : IsAllDone plan.routes told (state_in (after_all contents legs))
  over_all_done =
      let now = after (after_all contents over.before) leg.taken in
      subst (λ (c : Contents). IsAllDone plan.routes told (state_in c)) (sym now_is)
      (subst (IsAllDone plan.routes told) (sym (held_state leg.taken now is_held_there (next.1).begun))
      (all_done plan.routes told leg.control (given_by now) (delivered is_done_there)))

-- ---- all checkpoints stand

module _ (plan : Plan) (options : Options) (text : List ℕ) (contents : Contents) (epochs : List Epoch) (a : AreCommitted contents epochs) (legs : List Leg) where
  abbrev grown : Contents
  grown = after_all (begun_run options contents) legs

  pub number_so : (number : ℕ) (rest last : Rest) (o p : Seen) → AreLegs plan options rest o legs last p → length contents.checkpoints ≡ rest.newest → number ≡ last.newest → length grown.checkpoints ≡ number
  number_so number rest last o p are first is =
      let made = numbered plan options rest last o p legs are in
      let checkpoints = ap (λ (l : List Checkpoint). length l) (checkpoints_behind (begun_run options contents) legs) in
      let both = length-append contents.checkpoints (completed_by legs) in
      omega (arith, made, checkpoints, both, first, is)

  abbrev pub has_all : (number : ℕ) (rest last : Rest) (o p : Seen) → AreLegs plan options rest o legs last p → length contents.checkpoints ≡ rest.newest → number ≡ last.newest
      → (folder : Folder) → Stands text folder grown (with_next contents epochs ++ egress_by legs) → HasAll text number folder
  has_all number rest last o p are first is folder stands = record {
    contents = grown;
    stands = subst (Stands text folder grown) (sym (all_behind options contents epochs a legs)) stands;
    number_is = number_so number rest last o p are first is;
  }

-- The fronts of the legs of a run: each is legs too, behind which lists and exchanges grew up to the end.
use Rattle.std.proofs.Common.{◌≡◌, ℕ, ◌+◌, List, [], ◌∷◌, ◌++◌, length, Option, Some, None, refl, sym, ◌∙◌, ap, subst, arith, append_assoc, append-nil, length-append}
use Rattle.std.specs.Option.{option_to_list}
use Rattle.sf_outside.specs.Splits.{Grows}
use Rattle.sf_outside.specs.Answers.{Extends, Extends-none, Extends-then}
use Rattle.folder_form.specs.Folders.{Checkpoint, Contents}
use Rattle.statefun_driver.specs.Seen.{Event, Seen}
use Rattle.statefun_driver.specs.Turns.{Plan, Control}
use Rattle.statefun_driver.specs.Traces.{Trace}
use Rattle.statefun_driver.proofs.Journal.{grows_itself, grows_then}
use Rattle.checkpoint_drive.specs.declared.end.DriveEnd.{DriveEnd}
use Rattle.checkpoint_drive.specs.declared.end.DriveEnd.TheVariants.{Done, TurnsSpent, Refused, Stopped}
use Rattle.checkpoint_drive.specs.declared.options.Options.{Options}
use Rattle.checkpoint_drive.specs.Drives.{Rest, Leg, AreLegs, IsLeg, behind, behind_with, completed_by}
use Rattle.checkpoint_drive.specs.Laws.{after, after_all}
use Rattle.checkpoint_drive.specs.Driven.{ComesTo, EndBy, IsUnsaved}
use Rattle.checkpoint_drive.proofs.GoodLegs.{lists_grow, exchanges_grow}
use Rattle.checkpoint_drive.proofs.Growing.{legs_then, one_leg}

-- ---- what was seen grew

-- lists and exchanges only grow
pub record Went (o p : Seen) : Type 0 where
  pub lists : Grows o.lists p.lists
  pub exchanges : Extends o.exchanges p.exchanges

pub went_none : (o : Seen) → Went o o
went_none o = record { lists = grows_itself o.lists; exchanges = Extends-none o.exchanges }

pub went_to : (o p : Seen) → o ≡ p → Went o p
went_to o p same = subst (Went o) same (went_none o)

pub went_then : (o p q : Seen) → Went o p → Went p q → Went o q
went_then o p q first second = record {
  lists = grows_then o.lists p.lists q.lists first.lists second.lists;
  exchanges = Extends-then o.exchanges p.exchanges q.exchanges first.exchanges second.exchanges;
}

pub went_by : (plan : Plan) (c d : Control) (o p : Seen) (events : List Event) → Trace plan c o events d p → Went o p
went_by plan c d o p events trace = record { lists = lists_grow plan c d o p events trace; exchanges = exchanges_grow plan c d o p events trace }

-- ---- fronts

module _ (plan : Plan) (options : Options) where
  pub went_legs : (rest last : Rest) (o p : Seen) (legs : List Leg) → AreLegs plan options rest o legs last p → Went o p
  went_legs rest last o p [] are = went_to o p are.1
  went_legs rest last o p (leg ∷ legs) are =
      went_then o are.0 p (went_by plan rest.control leg.control o are.0 leg.events are.1.trace)
      (went_legs (behind plan options rest leg) last are.0 p legs are.2)

  -- these legs were made, and then it went on to what is seen in the end
  pub record Fronts (rest : Rest) (before after : Seen) (legs : List Leg) : Type 0 where
    pub last : Rest
    pub there : Seen
    pub are : AreLegs plan options rest before legs last there
    pub went : Went there after

  front_by : (rest last : Rest) (before now after : Seen) (front more : List Leg) → AreLegs plan options rest before (front ++ more) last now → Went now after → Fronts rest before after front
  front_by rest last before now after [] more are went = record {
    last = rest;
    there = before;
    are = (refl, refl);
    went = went_then before now after (went_legs rest last before now more are) went;
  }
  front_by rest last before now after (leg ∷ front) more are went =
      let r = front_by (behind plan options rest leg) last are.0 now after front more are.2 went in
      record { last = r.last; there = r.there; are = (are.0, are.1, r.are); went = r.went }

  -- so it is with each front
  pub front_of : (rest : Rest) (before after : Seen) (legs front more : List Leg) → legs ≡ front ++ more → Fronts rest before after legs → Fronts rest before after front
  front_of rest before after legs front more is f = front_by rest f.last before f.there after front more (subst (λ (l : List Leg). AreLegs plan options rest before l f.last f.there) is f.are) f.went

  module _ (most : ℕ) (rest : Rest) (before after : Seen) (legs : List Leg) (last : Rest) (between : Seen) (are : AreLegs plan options rest before legs last between) where
    none_saved : (saving : List Leg) → saving ≡ [] → Went between after → Fronts rest before after (legs ++ saving)
    none_saved saving none went =
        subst (λ (more : List Leg). Fronts rest before after (legs ++ more)) (sym none)
        (subst (Fronts rest before after) (sym (append-nil legs)) (record { last = last; there = between; are = are; went = went }))

    unsaved : (saving : List Leg) → IsUnsaved plan options last between saving after → Fronts rest before after (legs ++ saving)
    unsaved [] u = none_saved [] refl (went_by plan last.control u.1 between after u.0 u.2)
    unsaved (leg ∷ []) u = record {
      last = behind plan options last leg;
      there = after;
      are = legs_then plan options rest last (behind plan options last leg) before between after legs (leg ∷ []) are (one_leg plan options last between after leg u.0);
      went = went_none after;
    }
    unsaved (leg ∷ other ∷ more) u = absurd u

    ended : (saving : List Leg) (end : DriveEnd) → EndBy plan options most rest legs last between saving after end → Fronts rest before after (legs ++ saving)
    ended saving (Done checkpoint) e = none_saved saving e.0 (went_to between after e.1)
    ended saving (TurnsSpent checkpoint made) e = none_saved saving e.0 (went_to between after e.1)
    ended saving (Refused fault) e = unsaved saving e.0
    ended saving (Stopped end) e =
        let ends = e.4.1 in none_saved saving e.0 (went_by plan last.control ends.last between after (ends.leads).0 (ends.leads).1)

  pub all_legs : (most : ℕ) (rest : Rest) (before after : Seen) (end : DriveEnd) (comes : ComesTo plan options most rest before after end) → Fronts rest before after (comes.legs ++ comes.saving)
  all_legs most rest before after end comes = ended most rest before after comes.legs comes.last comes.between comes.are comes.saving end comes.ends

  -- ---- the last leg

  pub record LastLeg (rest last : Rest) (before after : Seen) (front : List Leg) (leg : Leg) : Type 0 where
    pub middle : Rest
    pub there : Seen
    pub are : AreLegs plan options rest before front middle there
    pub is : IsLeg plan options middle there leg after
    pub last_is : behind plan options middle leg ≡ last

  pub last_leg : (rest last : Rest) (before after : Seen) (front : List Leg) (leg : Leg) → AreLegs plan options rest before (front ++ leg ∷ []) last after → LastLeg rest last before after front leg
  last_leg rest last before after [] leg are = record {
    middle = rest;
    there = before;
    are = (refl, refl);
    is = subst (IsLeg plan options rest before leg) are.2.1 are.1;
    last_is = are.2.0;
  }
  last_leg rest last before after (first ∷ front) leg are =
      let r = last_leg (behind plan options rest first) last are.0 after front leg are.2 in
      record { middle = r.middle; there = r.there; are = (are.0, are.1, r.are); is = r.is; last_is = r.last_is }

  -- ---- the number of the newest checkpoint

  number_behind : (rest : Rest) (control : Control) (taken : Option Checkpoint) → (behind_with plan options rest control taken).newest ≡ rest.newest + length (option_to_list taken)
  number_behind rest control None = omega arith
  number_behind rest control (Some checkpoint) = omega arith

  pub numbered : (rest last : Rest) (o p : Seen) (legs : List Leg) → AreLegs plan options rest o legs last p → last.newest ≡ rest.newest + length (completed_by legs)
  numbered rest last o p [] are = let same = ap (λ (r : Rest). r.newest) are.0 in omega (arith, same)
  numbered rest last o p (leg ∷ legs) are =
      let later = numbered (behind plan options rest leg) last are.0 p legs are.2 in
      let here = number_behind rest leg.control leg.taken in
      let both = length-append (option_to_list leg.taken) (completed_by legs) in
      omega (arith, later, here, both)

-- ---- contents behind legs

one_more : (contents : Contents) (taken : Option Checkpoint) → (after contents taken).checkpoints ≡ contents.checkpoints ++ option_to_list taken
one_more contents None = sym (append-nil contents.checkpoints)
one_more contents (Some checkpoint) = refl

pub checkpoints_behind : (contents : Contents) (legs : List Leg) → (after_all contents legs).checkpoints ≡ contents.checkpoints ++ completed_by legs
checkpoints_behind contents [] = sym (append-nil contents.checkpoints)
checkpoints_behind contents (leg ∷ legs) =
    checkpoints_behind (after contents leg.taken) legs
    ∙ ap (λ (xs : List Checkpoint). xs ++ completed_by legs) (one_more contents leg.taken)
    ∙ append_assoc contents.checkpoints (option_to_list leg.taken) (completed_by legs)

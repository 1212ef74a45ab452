-- Legs keep what checkpoints mean: each checkpoint that they complete is what the machine gives on the record up to it.
use Rattle.std.proofs.Common.{◌≡◌, ℕ, suc, ◌+◌, ◌≤◌, List, [], ◌∷◌, ◌++◌, Option, Some, None, IfSome, refl, sym, ◌∙◌, ap, subst, arith, append_assoc, append-nil, length-append}
use Rattle.std.specs.Prelude.{IsTrue, Contains}
use Rattle.std.proofs.lemmas.List.{get_or_append_left}
use Rattle.std.specs.List.{AllByRecursion}
use Rattle.sf_outside.specs.Told.{more}
use Rattle.sf_outside.specs.Splits.{Lists, GrowTo, Grows}
use Rattle.sf_outside.specs.Answers.{Extends, Extends-none, Extends-then}
use Rattle.sf_outside.specs.declared.call.Call.{Call}
use Rattle.sf_outside.specs.declared.call.Exchange.{Exchange}
use Rattle.sf_outside.specs.declared.call.LinkEvent.{LinkEvent}
use Rattle.address_routing.specs.declared.module.Module.{Module}
use Rattle.address_routing.specs.Routing.{is_routable}
use Rattle.run_record.specs.declared.entry.Entry.{Entry}
use Rattle.run_record.specs.declared.entry.Reply.{Reply}
use Rattle.run_record.specs.declared.entry.Step.{Step}
use Rattle.run_record.specs.declared.entry.Step.TheVariants.{Take, Batch, Register, Due}
use Rattle.run_record.specs.Machine.{State, first_state, reply_of}
use Rattle.run_record.specs.Record.{key_before, replayed, step_after}
use Rattle.actor_rules.specs.Keys.{Rises}
use Rattle.run_record.specs.Backed.{AreBacked, IsBackedReply, calls_of}
use Rattle.run_record.specs.Egress.{egress_of}
use Rattle.piece_messages.specs.declared.piece.Piece.{Piece}
use Rattle.folder_form.specs.declared.mark.Mark.{Mark}
use Rattle.folder_form.specs.declared.loaded.Loaded.{Loaded}
use Rattle.folder_form.specs.Folders.{Part, Checkpoint, Contents, loaded_of, loaded_from, loaded_checkpoint, nothing_loaded, record_of, with_checkpoint}
use Rattle.partition_core.specs.Work.{state_of}
use Rattle.statefun_driver.specs.Seen.{Event, Read, Now, Start as Starts, Poll, Fails, Seen, Hears}
use Rattle.statefun_driver.specs.Turns.{Plan, Control, Origin, first_control, goes_on, origin_of}
use Rattle.statefun_driver.specs.Traces.{Trace, IsFront}
use Rattle.statefun_driver.specs.Runs.{AreModest, link_events}
use Rattle.statefun_driver.specs.Stretches.{IsStretch, AreRising, AreUpTo, IsBackedBehind, IsEntryOf, IsBetween, IsInTime}
use Rattle.statefun_driver.specs.Laws.{TracesAreStretches}
use Rattle.statefun_driver.proofs.Journal.{grows_itself, grows_then, grows_one}
use Rattle.checkpoint_state.specs.Meaning.{given_by, state_in, moment_of, IsGood}
use Rattle.checkpoint_state.specs.Laws.{IsNext, IsFrom, HaveGrown, NextKeepsGood, ListsKeepGood, BackingGrows, EntriesLeadToTheNext, EgressBacksNoStep, IsOf}
use Rattle.checkpoint_drive.specs.declared.options.Options.{Options}
use Rattle.checkpoint_drive.specs.Laws.{BeginsAt, IsBackedBy, LegsCompleteWhatIsGood, after, after_all}
use Rattle.checkpoint_drive.specs.Drives.{Rest, Leg, IsLeg, first_rest, AreLegs, IsTaken, IsCheckpointOf, behind, behind_with, rested}

-- ---- what lower crates say

pub record Laws : Type 0 where
  pub stretches : TracesAreStretches
  pub next : NextKeepsGood
  pub lists : ListsKeepGood
  pub backing : BackingGrows
  pub leads : EntriesLeadToTheNext
  pub egress : EgressBacksNoStep

-- ---- traces

pub trace_then : (plan : Plan) (c d e : Control) (o p q : Seen) (events others : List Event) → Trace plan c o events d p → Trace plan d p others e q → Trace plan c o (events ++ others) e q
trace_then plan c d e o p q [] others first second = subst (λ (x : Control). Trace plan x o others e q) (sym first.0) (subst (λ (x : Seen). Trace plan d x others e q) (sym first.1) second)
trace_then plan c d e o p q (event ∷ events) others first second = (first.0, first.1, first.2, trace_then plan (goes_on plan c.phase c event) d e first.0 p q events others first.3 second)

pub lists_grow : (plan : Plan) (c d : Control) (o p : Seen) (events : List Event) → Trace plan c o events d p → Grows o.lists p.lists
lists_grow plan c d o p [] t = subst (λ (x : Seen). Grows o.lists x.lists) t.1 (grows_itself o.lists)
lists_grow plan c d o p (event ∷ events) t = grows_then o.lists (t.0).lists p.lists (grows_one event o t.0 t.2) (lists_grow plan (goes_on plan c.phase c event) d t.0 p events t.3)

pub told_then : (a b : Option Lists) (told : Lists) → a ≡ Some told → Grows a b → (now : Lists) × (b ≡ Some now) × GrowTo told now
told_then (Some a) (Some b) told is g = (b, refl, let same : a ≡ told = cc in subst (λ (x : Lists). GrowTo x b) same g)
told_then (Some a) None told is g = absurd g
told_then None b told is g = absurd cc

same_exchanges : (o p : Seen) → p.exchanges ≡ o.exchanges → Extends o.exchanges p.exchanges
same_exchanges o p e = subst (Extends o.exchanges) (sym e) (Extends-none o.exchanges)

extends : (event : Event) (o p : Seen) → Hears event o p → Extends o.exchanges p.exchanges
extends (Read split offset found) o p h = same_exchanges o p (ap (λ (x : Seen). x.exchanges) h.others)
extends (Now moment) o p h = same_exchanges o p (ap (λ (x : Seen). x.exchanges) h.others)
extends (Starts call url request) o p h = h.exchanges
extends (Poll outcome) o p h = h.exchanges
extends (Fails by) o p h = h.exchanges

pub exchanges_grow : (plan : Plan) (c d : Control) (o p : Seen) (events : List Event) → Trace plan c o events d p → Extends o.exchanges p.exchanges
exchanges_grow plan c d o p [] t = subst (λ (x : Seen). Extends o.exchanges x.exchanges) t.1 (Extends-none o.exchanges)
exchanges_grow plan c d o p (event ∷ events) t = Extends-then o.exchanges (t.0).exchanges p.exchanges (extends event o t.0 t.2) (exchanges_grow plan (goes_on plan c.phase c event) d t.0 p events t.3)

pub behind_others : (others old new : List Exchange) → Extends old new → Extends (others ++ old) (others ++ new)
behind_others others old new e = (e.0, ap (λ (l : List Exchange). others ++ l) e.1 ∙ sym (append_assoc others old e.0))

some_of : {X : Type 0} {P : Type 0} (o : Option X) → P → IfSome o (λ _. P)
some_of None p = tt
some_of (Some x) p = p

pub some_then : {X : Type 0} {P Q : X → Type 0} (o : Option X) → ((x : X) → P x → Q x) → IfSome o P → IfSome o Q
some_then None f h = h
some_then (Some x) f h = f x h

if_some : {X : Type 0} {P : X → Type 0} (o : Option X) (Q : X → Type 0) → ((x : X) → o ≡ Some x → P x → Q x) → IfSome o P → IfSome o Q
if_some None Q f h = h
if_some (Some x) Q f h = f x refl h

-- ---- lists

all_then : {X : Type 0} (P Q : X → Type 0) → ((x : X) → P x → Q x) → (xs : List X) → AllByRecursion P xs → AllByRecursion Q xs
all_then P Q f [] h = tt
all_then P Q f (x ∷ xs) h = (f x h.0, all_then P Q f xs h.1)

all_both : {X : Type 0} (P : X → Type 0) (xs ys : List X) → AllByRecursion P xs → AllByRecursion P ys → AllByRecursion P (xs ++ ys)
all_both P [] ys h k = k
all_both P (x ∷ xs) ys h k = (h.0, all_both P xs ys h.1 k)

loaded_last : (first : Loaded) (checkpoints : List Checkpoint) (checkpoint : Checkpoint) → loaded_from first (checkpoints ++ checkpoint ∷ []) ≡ loaded_checkpoint checkpoint
loaded_last first [] checkpoint = refl
loaded_last first (c ∷ checkpoints) checkpoint = loaded_last (loaded_checkpoint c) checkpoints checkpoint

pub loaded_next : (contents : Contents) (mark : Mark) (parts : List Part) → loaded_of (with_checkpoint mark parts contents) ≡ loaded_checkpoint (record { mark = mark; parts = parts })
unfolding loaded_of
loaded_next contents mark parts = loaded_last nothing_loaded contents.checkpoints (record { mark = mark; parts = parts })

-- ---- exchanges

-- all that the one list has the other has
abbrev Has : List Exchange → List Exchange → Type 0
Has fewer all = (x : Exchange) → Contains fewer x → Contains all x

reply_over : (fewer all : List Exchange) (m : Module) (st : State) (reply : Reply) → Has fewer all → IsBackedReply fewer m st reply → IsBackedReply all m st reply
reply_over fewer all m st reply has is = record { request = is.request; asked = is.asked; url = is.url; at_url = is.at_url; exchanged = has _ is.exchanged }

backed_over : (fewer all : List Exchange) (m : Module) (told : Lists) (st : State) (entries : List Entry) → Has fewer all → AreBacked fewer m told st entries → AreBacked all m told st entries
backed_over fewer all m told st [] has h = tt
backed_over fewer all m told st (entry ∷ entries) has h =
    (some_then (reply_of entry.step) (λ reply. reply_over fewer all m st reply has) h.0, some_then (step_after m told st entry.step) (λ next. backed_over fewer all m told next entries has) h.1)

-- what stands in a list stands in one that has it behind others
there_behind : (others list : List Exchange) → Has list (others ++ list)
there_behind [] list x at = at
there_behind (o ∷ others) list x at = let r = there_behind others list x at in (suc r.0, omega (arith, r.1), r.2)

-- and in one that has it before others
there_before : (list others : List Exchange) → Has list (list ++ others)
there_before list others x at = (at.0, let longer = length-append list others in omega (arith, longer, at.1), get_or_append_left list others x at.0 at.1 ∙ at.2)

-- ---- keys and moments

rises_as : (entries : List Entry) → AreRising entries → Rises key_before entries
rises_as [] h = tt
rises_as (entry ∷ entries) h = (h.0, rises_as entries h.1)

in_time : (moment : ℕ) (step : Step) → IsInTime moment step → moment_of step ≤ moment
in_time moment (Take split) h = omega arith
in_time moment (Batch reply) h = h
in_time moment (Register reply) h = h
in_time moment (Due address at) h = h

front_then : (a b c : List Entry) → IsFront a b → IsFront b c → IsFront a c
front_then a b c first second = (first.0 ++ second.0, second.1 ∙ ap (λ (l : List Entry). l ++ second.0) first.1 ∙ append_assoc a first.0 second.0)

pub told_some : {X : Type 0} (o : Option X) (x : X) (P : X → Type 0) → o ≡ Some x → IfSome o P → P x
told_some None x P is h = absurd cc
told_some (Some y) x P is h = let same : y ≡ x = cc in subst P same h

-- ---- what a run knows of a folder's contents

module _ (laws : Laws) (plan : Plan) (options : Options) (routable : IsTrue (is_routable plan.routes)) (modest : AreModest plan.routes.endpoints) (others : List Exchange) (base : Lists) (first : Contents) (root : Seen) where
  -- a run came to a rest behind these contents, which grew out of the first ones
  pub record IsHere (contents : Contents) (rest : Rest) (told : Lists) (now : Seen) : Type 0 where
    pub begun : BeginsAt contents rest.origin
    pub from : Seen
    pub events : List Event
    pub trace : Trace plan (first_control plan rest.origin) from events rest.control now
    pub fresh : IfSome from.journal (AreUpTo rest.origin.turn)
    pub lists : now.lists ≡ Some told
    pub since : Grows root.lists from.lists
    pub good : IsGood plan.routes told contents
    pub grown : IsFront (record_of first) (record_of contents)
    -- a link that tells goes on to do so
    pub tells : (done : List LinkEvent) → root.journal ≡ Some done → (then_done : List LinkEvent) × (from.journal ≡ Some then_done)
    pub backed : IfSome root.journal (λ done. IsBackedBy others plan.routes base first → IsBackedBy (others ++ now.exchanges) plan.routes told contents)

  -- one leg more
  module _ (contents : Contents) (rest : Rest) (told : Lists) (now : Seen) (h : IsHere contents rest told now) (leg : Leg) (next : Seen) (is : IsLeg plan options rest now leg next) where
    abbrev joined : Trace plan (first_control plan rest.origin) h.from (h.events ++ leg.events) leg.control next
    joined = trace_then plan (first_control plan rest.origin) rest.control leg.control h.from now next h.events leg.events h.trace is.trace

    abbrev then_told : (later : Lists) × (next.lists ≡ Some later) × GrowTo told later
    then_told = told_then now.lists next.lists told h.lists (lists_grow plan rest.control leg.control now next leg.events is.trace)

    still_good : IsGood plan.routes then_told.0 contents
    still_good = laws.lists plan.routes told then_told.0 contents then_told.2 h.good

    exchanged : Extends (others ++ now.exchanges) (others ++ next.exchanges)
    exchanged = behind_others others now.exchanges next.exchanges (exchanges_grow plan rest.control leg.control now next leg.events is.trace)

    -- what was backed stays so
    still_backed : IsBackedBy (others ++ now.exchanges) plan.routes told contents → IsBackedBy (others ++ next.exchanges) plan.routes then_told.0 contents
    still_backed b =
        let all = h.good.each contents.checkpoints [] (sym (append-nil contents.checkpoints)) in
        subst (λ (entries : List Entry). AreBacked (others ++ next.exchanges) plan.routes then_told.0 first_state entries) (append-nil (record_of contents))
        (laws.backing (others ++ now.exchanges) (others ++ next.exchanges) plan.routes told then_told.0 first_state (state_in contents) (record_of contents) [] exchanged then_told.2 b all.replays tt)

    rests_on : IsHere contents (rested options rest.origin leg.control (rest.legs + 1) rest.newest) then_told.0 next
    rests_on = record {
      begun = h.begun;
      from = h.from;
      events = h.events ++ leg.events;
      trace = joined;
      fresh = h.fresh;
      lists = then_told.1;
      since = h.since;
      good = still_good;
      grown = h.grown;
      tells = h.tells;
      backed = some_then root.journal (λ done f b. still_backed (f b)) h.backed;
    }

    -- behind which a checkpoint was taken
    module _ (mark : Mark) (piece : Piece) (of : IsCheckpointOf plan rest.newest leg.control mark piece) where
      abbrev part : Part
      part = record { piece = piece; letters = [] }

      abbrev grown_by : Contents
      grown_by = with_checkpoint mark (part ∷ []) contents

      abbrev entries : List Entry
      entries = leg.control.entries

      stretch : IsStretch plan rest.origin h.from next (h.events ++ leg.events) leg.control
      stretch = laws.stretches plan rest.origin h.from next (h.events ++ leg.events) leg.control routable modest h.begun.sound joined

      is_of : IsOf mark part leg.control.counts leg.control.work
      is_of = record {
        taken = (of.taken).each;
        kept = record { letters = (of.piece).letters; cells = (of.piece).cells; seen = (of.piece).seen; delays = (of.piece).delays };
        letters = refl;
      }

      replays : replayed plan.routes then_told.0 (state_of rest.origin.counts [] rest.origin.work) entries ≡ Some (state_of leg.control.counts (egress_of entries) leg.control.work)
      replays = told_some next.lists then_told.0 _ then_told.1 stretch.replays

      abbrev leads : (replayed plan.routes then_told.0 (state_in contents) entries ≡ Some (state_in grown_by)) × (state_in grown_by ≡ state_of leg.control.counts (given_by grown_by) leg.control.work)
      leads = laws.leads plan.routes then_told.0 contents rest.origin.counts leg.control.counts rest.origin.work leg.control.work entries mark part h.begun.work replays is_of (of.piece).egress

      legs_from : AllByRecursion (λ (entry : Entry). IsFrom rest.origin.turn mark.leg entry.leg) entries
      legs_from = all_then (IsEntryOf rest.origin leg.control) (λ (entry : Entry). IsFrom rest.origin.turn mark.leg entry.leg) (λ entry e. (e.leg.0, subst (λ (n : ℕ). entry.leg ≤ n) (sym of.leg) e.leg.1)) entries stretch.entries

      calls_from : AllByRecursion (λ (call : Call). IsFrom rest.origin.turn mark.leg call.leg) (calls_of entries)
      calls_from = all_then (λ (call : Call). IsBetween rest.origin.turn leg.control.turn call.leg) (λ (call : Call). IsFrom rest.origin.turn mark.leg call.leg) (λ call e. (e.0, subst (λ (n : ℕ). call.leg ≤ n) (sym of.leg) e.1)) (calls_of entries) stretch.calls

      is_next : IsNext plan.routes then_told.0 contents rest.origin.turn entries mark part
      is_next = record {
        parted = record { in_mark = of.takes; in_piece = (of.piece).entries };
        rises = rises_as entries stretch.rising;
        loaded = h.begun.loaded;
        later = subst (λ (n : ℕ). rest.origin.turn ≤ n) (sym of.leg) stretch.turn;
        legs = legs_from;
        moment = subst (λ (n : ℕ). (loaded_of contents).moment ≤ n) (sym of.moment) (let a = h.begun.moment in let b = stretch.moment in omega (arith, a, b));
        moments = all_then (IsEntryOf rest.origin leg.control) (λ (entry : Entry). moment_of entry.step ≤ mark.moment) (λ entry e. subst (λ (n : ℕ). moment_of entry.step ≤ n) (sym of.moment) (in_time leg.control.moment entry.step e.moment)) entries stretch.entries;
        called = h.begun.calls;
        calls = calls_from;
        distinct = stretch.distinct;
        replays = leads.0;
      }

      have : HaveGrown plan.routes then_told.0 contents entries mark grown_by
      have = laws.next plan.routes then_told.0 contents rest.origin.turn entries mark part still_good is_next

      begun_next : BeginsAt grown_by (origin_of leg.control)
      begun_next = record {
        work = leads.1;
        sound = stretch.still is.rests;
        legs =
            subst (AllByRecursion (λ (entry : Entry). entry.leg ≤ leg.control.turn)) (sym have.behind)
            (all_both (λ (entry : Entry). entry.leg ≤ leg.control.turn) (record_of contents) entries
            (all_then (λ (entry : Entry). entry.leg ≤ rest.origin.turn) (λ (entry : Entry). entry.leg ≤ leg.control.turn) (λ entry l. let t = stretch.turn in omega (arith, l, t)) (record_of contents) h.begun.legs)
            (all_then (IsEntryOf rest.origin leg.control) (λ (entry : Entry). entry.leg ≤ leg.control.turn) (λ entry e. e.leg.1) entries stretch.entries));
        calls = all_then (λ (call : Call). call.leg ≤ mark.leg) (λ (call : Call). call.leg ≤ leg.control.turn) (λ call l. subst (λ (n : ℕ). call.leg ≤ n) of.leg l) (calls_of (record_of grown_by)) have.calls;
        loaded = let l = ap (λ (x : Loaded). x.leg) (loaded_next contents mark (part ∷ [])) in let t = of.leg in omega (arith, l, t);
        moment = let l = ap (λ (x : Loaded). x.moment) (loaded_next contents mark (part ∷ [])) in let t = of.moment in omega (arith, l, t);
      }

      -- where the link tells
      module _ (done : List LinkEvent) (at : h.from.journal ≡ Some done) where
        abbrev answers : IsBackedBehind plan.routes then_told.0 rest.origin next leg.control
        answers = told_some h.from.journal done _ at (told_some next.lists then_told.0 _ then_told.1 stretch.backed) (told_some h.from.journal done (AreUpTo rest.origin.turn) at h.fresh)

        from_here : AreBacked (others ++ next.exchanges) plan.routes then_told.0 (state_in contents) entries
        from_here =
            subst (λ (st : State). AreBacked (others ++ next.exchanges) plan.routes then_told.0 st entries) (sym h.begun.work)
            (laws.egress (others ++ next.exchanges) plan.routes then_told.0 rest.origin.counts (given_by contents) rest.origin.work entries
            (backed_over next.exchanges (others ++ next.exchanges) plan.routes then_told.0 _ entries (there_behind others next.exchanges) answers.backed))

        all_backed : (IsBackedBy (others ++ now.exchanges) plan.routes told contents) → IsBackedBy (others ++ next.exchanges) plan.routes then_told.0 grown_by
        all_backed b =
            let all = h.good.each contents.checkpoints [] (sym (append-nil contents.checkpoints)) in
            subst (λ (entries : List Entry). AreBacked (others ++ next.exchanges) plan.routes then_told.0 first_state entries) (sym have.behind)
            (laws.backing (others ++ now.exchanges) (others ++ next.exchanges) plan.routes told then_told.0 first_state (state_in contents) (record_of contents) entries exchanged then_told.2 b all.replays from_here)

      -- a link that tells nothing at first tells nothing later
      journal_next : (P : List LinkEvent → Type 0) (o : Option (List LinkEvent)) → h.from.journal ≡ o → ((done : List LinkEvent) → h.from.journal ≡ Some done → IfSome next.journal P) → IfSome next.journal P
      journal_next P None at f = subst (λ (j : Option (List LinkEvent)). IfSome j P) (sym (stretch.journal ∙ ap (λ (j : Option (List LinkEvent)). more j (link_events (h.events ++ leg.events))) at)) tt
      journal_next P (Some done) at f = f done at

      tells_next : (done : List LinkEvent) → root.journal ≡ Some done → (then_done : List LinkEvent) × (next.journal ≡ Some then_done)
      tells_next done at = let r = h.tells done at in (r.0 ++ link_events (h.events ++ leg.events), stretch.journal ∙ ap (λ (j : Option (List LinkEvent)). more j (link_events (h.events ++ leg.events))) r.1)

      takes_on : IsHere grown_by (rested options (origin_of leg.control) (first_control plan (origin_of leg.control)) (rest.legs + 1) (rest.newest + 1)) then_told.0 next
      takes_on = record {
        begun = begun_next;
        from = next;
        events = [];
        trace = (refl, refl);
        fresh = journal_next _ h.from.journal refl (λ done at. (answers done at).journal);
        lists = then_told.1;
        since = grows_then root.lists h.from.lists next.lists h.since (lists_grow plan (first_control plan rest.origin) leg.control h.from next (h.events ++ leg.events) joined);
        good = have.good;
        grown = front_then (record_of first) (record_of contents) (record_of grown_by) h.grown (entries, have.behind);
        tells = tells_next;
        backed = if_some root.journal _ (λ done at f b. let r = h.tells done at in all_backed r.0 r.1 (f b)) h.backed;
      }

    -- a leg leads on, with its checkpoint or without
    leads_on : (taken : Option Checkpoint) → leg.taken ≡ taken → IsTaken plan rest leg.control taken → IsHere (after contents taken) (behind_with plan options rest leg.control taken) then_told.0 next
    leads_on None same t = rests_on
    leads_on (Some checkpoint) same t = subst (λ (c : Checkpoint). IsHere (with_checkpoint c.mark c.parts contents) (behind_with plan options rest leg.control (Some c)) then_told.0 next) (sym t.3) (takes_on t.0 t.1 t.2)

    pub leg_leads : (later : Lists) × IsHere (after contents leg.taken) (behind plan options rest leg) later next
    leg_leads = (then_told.0, leads_on leg.taken refl is.taken)

  -- and so do legs
  pub legs_lead : (contents : Contents) (rest last : Rest) (told : Lists) (now end : Seen) (legs : List Leg) → IsHere contents rest told now → AreLegs plan options rest now legs last end → (later : Lists) × IsHere (after_all contents legs) last later end
  legs_lead contents rest last told now end [] h are = (told, subst (λ (r : Rest). IsHere contents r told end) are.0 (subst (IsHere contents rest told) are.1 h))
  legs_lead contents rest last told now end (leg ∷ legs) h are =
      let r = leg_leads contents rest told now h leg are.0 are.1 in
      legs_lead (after contents leg.taken) (behind plan options rest leg) last r.0 are.0 end legs r.1 are.2

-- ---- from the beginning

pub one_later : (o : Option Lists) (a b : Lists) → o ≡ Some a → o ≡ Some b → a ≡ b
one_later o a b is_a is_b = cc

-- where the first leg begins
module _ (laws : Laws) (plan : Plan) (options : Options) (contents : Contents) (origin : Origin) (newest : ℕ) (told : Lists) (before : Seen)
    (routable : IsTrue (is_routable plan.routes)) (modest : AreModest plan.routes.endpoints) (lists : before.lists ≡ Some told)
    (good : IsGood plan.routes told contents) (begins : BeginsAt contents origin) (fresh : IfSome before.journal (AreUpTo origin.turn)) where
  pub at_first : (others : List Exchange) → IsHere laws plan options routable modest others told contents before contents (first_rest plan origin newest) told before
  at_first others = record {
    begun = begins;
    from = before;
    events = [];
    trace = (refl, refl);
    fresh = fresh;
    lists = lists;
    since = grows_itself before.lists;
    good = good;
    grown = ([], sym (append-nil (record_of contents)));
    tells = λ done at. (done, at);
    backed = some_of before.journal (λ b. backed_over others (others ++ before.exchanges) plan.routes told first_state (record_of contents) (λ x at. there_before others before.exchanges x at) b);
  }

pub legs_complete_what_is_good : Laws → LegsCompleteWhatIsGood
legs_complete_what_is_good laws plan options contents origin newest told before end legs last routable modest lists good begins fresh are = record {
  later = (reached []).0;
  lists = ((reached []).1).lists;
  good = ((reached []).1).good;
  grown = ((reached []).1).grown;
  backed = λ others. same_later others;
}
  where
    reached : (others : List Exchange) → (later : Lists) × IsHere laws plan options routable modest others told contents before (after_all contents legs) last later end
    reached others =
        legs_lead laws plan options routable modest others told contents before contents (first_rest plan origin newest) last told before end legs
        (at_first laws plan options contents origin newest told before routable modest lists good begins fresh others) are

    same_later : (others : List Exchange) → IfSome before.journal (λ done. IsBackedBy others plan.routes told contents → IsBackedBy (others ++ end.exchanges) plan.routes (reached []).0 (after_all contents legs))
    same_later others = subst (λ (l : Lists). IfSome before.journal (λ done. IsBackedBy others plan.routes told contents → IsBackedBy (others ++ end.exchanges) plan.routes l (after_all contents legs))) (one_later end.lists (reached others).0 (reached []).0 ((reached others).1).lists ((reached []).1).lists) (((reached others).1).backed)

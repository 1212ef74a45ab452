-- Turns that came to an end are a run, with all that is said of one.
use Rattle.std.proofs.Common.{◌≡◌, ◌∙◌, refl, sym, subst, List, [], ◌++◌, true, false, Option, Some, arith, append-nil}
use Rattle.std.specs.Prelude.{IfSome}
use Rattle.std.specs.List.{IsDistinct}
use Rattle.sf_outside.specs.Splits.{Lists}
use Rattle.sf_outside.specs.declared.call.LinkEvent.{LinkEvent}
use Rattle.address_routing.specs.declared.module.Module.{Module}
use Rattle.run_record.specs.declared.entry.Entry.{Entry}
use Rattle.run_record.specs.Machine.{State, first_state}
use Rattle.run_record.specs.Record.{replayed}
use Rattle.run_record.specs.Egress.{egress_of}
use Rattle.run_record.specs.Backed.{AreBacked, calls_of, same_call}
use Rattle.partition_core.specs.Work.{state_of}
use Rattle.statefun_driver.specs.declared.end.Broken.TheVariants.{Memory}
use Rattle.statefun_driver.specs.declared.end.End.TheVariants.{Broke}
use Rattle.statefun_driver.specs.Seen.{Seen}
use Rattle.statefun_driver.specs.Turns.{Plan, Control, no_origin, first_control}
use Rattle.statefun_driver.specs.Traces.{Ends, IsUnbroken, IsFront}
use Rattle.statefun_driver.specs.Runs.{Replays, HasState, IsFresh, IsBackedRun}
use Rattle.statefun_driver.specs.Origins.{IsSoundOrigin}
use Rattle.statefun_driver.specs.Stretches.{base_of, ReplaysBehind, AreUpTo, IsBackedBehind}
use Rattle.statefun_driver.specs.Laws.{EndsAreRuns, TracesAreStretches}
use Rattle.statefun_driver.proofs.Replays.{state_first, front_replays}
use Rattle.statefun_driver.proofs.Apart.{distinct_of_front}
use Rattle.statefun_driver.proofs.Backed.{backed_front}
use Rattle.statefun_driver.proofs.Stretching.{first_phase, front_end, where_told}

-- nothing was done yet
sound_none : IsSoundOrigin no_origin
sound_none = record {
  held = record { owned = λ address. tt; seen = λ address. omega arith; stamps = λ address. tt; line = tt };
  lined = λ address e. absurd (let k : false ≡ true = e in cc);
  none = λ address. refl;
}

told_at : {A : Type 0} (o : Option A) (P : A → Type 0) (x : A) → o ≡ Some x → IfSome o P → P x
told_at o P x e h = subst (λ (told : Option _). IfSome told P) e h

-- ---- what holds behind nothing

replays_whole : (m : Module) (told : Lists) (last : Control) → ReplaysBehind m told no_origin last → Replays m told last
replays_whole m told last h = subst (λ (st : State). replayed m told st last.entries ≡ Some (state_of last.counts (egress_of last.entries) last.work)) (sym state_first) h

replays_front : (m : Module) (told : Lists) (last : Control) (entries : List Entry) → IsFront entries last.entries → ReplaysBehind m told no_origin last → HasState m told entries
replays_front m told last entries front h =
    let got = front_replays m told no_origin last entries front h in
    (got.0, subst (λ (st : State). replayed m told st entries ≡ Some got.0) (sym state_first) got.1)

up_to_none : (done : List LinkEvent) → IsFresh done → AreUpTo 0 done
up_to_none done fresh call url request x = let none = fresh call url request x in omega (arith, none)

backed_run : (m : Module) (told : Lists) (now : Seen) (last : Control) (entries : List Entry) → IsFront entries last.entries → IsDistinct same_call (calls_of last.entries) → IsBackedBehind m told no_origin now last → IsBackedRun m told now.exchanges entries
backed_run m told now last entries front apart h = record {
  backed = backed_front now.exchanges m told first_state entries front.0
      (subst (λ (st : State). AreBacked now.exchanges m told st (entries ++ front.0)) (sym state_first) (subst (AreBacked now.exchanges m told (base_of no_origin)) front.1 h.backed));
  distinct = distinct_of_front entries last.entries front apart;
}

-- memory may run out before anything is done
pub at_once : (plan : Plan) (o : Seen) (entries : List Entry) → entries ≡ [] → Ends plan (first_control plan no_origin) o entries (Broke Memory) o
at_once plan o entries none = record { last = first_control plan no_origin; leads = ([], (refl, refl)); is_end = (first_phase IsUnbroken plan no_origin tt (λ taken. tt), ([], sym (append-nil entries ∙ none))) }

pub ends_are_runs : TracesAreStretches → EndsAreRuns
ends_are_runs stretches plan before now entries end routable modest ends =
    let last = ends.last in
    let st = stretches plan no_origin before now (ends.leads).0 last routable modest sound_none (ends.leads).1 in
    let front = front_end last entries end ends.is_end in
    let truly = st.ends entries end ends.is_end in
    record {
      events = (ends.leads).0;
      last = last;
      trace = (ends.leads).1;
      is_end = ends.is_end;
      journal = st.journal;
      reads = st.reads;
      replays = where_told now.lists (λ (told : Lists). Replays plan.routes told last × HasState plan.routes told entries)
          (λ told e. (let k = told_at now.lists (λ (told : Lists). ReplaysBehind plan.routes told no_origin last) told e st.replays in
          (replays_whole plan.routes told last k, replays_front plan.routes told last entries front k)));
      backed = where_told now.lists (λ (told : Lists). IfSome before.journal (λ done. IsFresh done → IsBackedRun plan.routes told now.exchanges entries))
          (λ told e. where_told before.journal (λ (done : List LinkEvent). IsFresh done → IsBackedRun plan.routes told now.exchanges entries)
          (λ done j fresh.
          let k = told_at now.lists (λ (told : Lists). IfSome before.journal (λ done. AreUpTo 0 done → IsBackedBehind plan.routes told no_origin now last)) told e st.backed in
          backed_run plan.routes told now last entries front st.distinct (told_at before.journal (λ (done : List LinkEvent). AreUpTo 0 done → IsBackedBehind plan.routes told no_origin now last) done j k (up_to_none done fresh))));
      bounded = st.bounded;
      cause = truly.cause;
      tried = truly.tried;
      large = truly.large;
      done = truly.done;
      complete = truly.complete;
    }

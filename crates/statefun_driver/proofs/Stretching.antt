-- Turns that begin behind others are a stretch, with all that is said of one.
use Rattle.std.proofs.Common.{◌≡◌, ◌∙◌, refl, sym, ap, subst, ℕ, ◌<◌, ◌≤◌, List, [], ◌∷◌, length, Bool, true, false, cond, Option, Some, None, nat_lt, map, append-nil}
use Rattle.std.specs.Prelude.{find}
use Rattle.std.specs.Prelude.{IfSome, IsTrue, ◌&&◌, nat_le}
use Rattle.std.specs.List.{AllByRecursion, list_all}
use Rattle.std.specs.Cmp.{first_so, second_so}
use Rattle.sf_outside.specs.Splits.{Lists, Grows}
use Rattle.sf_outside.specs.declared.call.LinkEvent.{LinkEvent}
use Rattle.typed_values.specs.declared.name.TypeName.{TypeName}
use Rattle.typed_values.specs.Sameness.{same_name}
use Rattle.typed_values.specs.Pattern.{same_pattern}
use Rattle.address_routing.specs.declared.module.Module.{Module}
use Rattle.address_routing.specs.declared.module.Endpoint.{Endpoint}
use Rattle.address_routing.specs.declared.module.IngressSpec.{IngressSpec}
use Rattle.address_routing.specs.Routing.{endpoint_of, is_exact, is_wide, is_usable, is_served, is_routable, all_apart, splits_in, or_else}
use Rattle.run_record.specs.declared.entry.Entry.{Entry}
use Rattle.statefun_driver.specs.declared.end.Broken.TheVariants.{Ingress, Link, Memory}
use Rattle.statefun_driver.specs.declared.end.End.{End}
use Rattle.statefun_driver.specs.declared.end.End.TheVariants.{Done, TurnsSpent, RecordTooLarge, BatchTooLarge, EndpointFailed, Broke}
use Rattle.statefun_driver.specs.Seen.{Event, Read, Now, Start as Starts, Poll, Fails, Seen}
use Rattle.statefun_driver.specs.Turns.{Plan, Control, Origin, Phase, Asking, Reading, Opening, Waiting, Stopped, IsAsked, first_control, goes_on_behind, is_done, taken_in}
use Rattle.statefun_driver.specs.Traces.{Trace, IsEnd, IsFront}
use Rattle.statefun_driver.specs.Runs.{AreRead, AreTried, IsTooLarge, IsDelivered, IfDone, IsModest, AreModest, IsBoundedIn, AreBounded}
use Rattle.statefun_driver.specs.Origins.{IsHeld, IsStill, IsSoundOrigin}
use Rattle.statefun_driver.specs.Stretches.{base_of, ReplaysBehind, AreUpTo, IsBackedBehind, IsToldTruly, IsStretch}
use Rattle.statefun_driver.specs.Laws.{TracesAreStretches}
use Rattle.statefun_driver.proofs.Journal.{journal_is, are_read, read_one, grows_itself, grows_then, grows_one}
use Rattle.statefun_driver.proofs.Standing.{Laws, IsFit, IsSound, Stands, done_parts}
use Rattle.statefun_driver.proofs.Ways.{sound_along, backwards, along}
use Rattle.statefun_driver.proofs.Causes.{Caused, caused_one, cause_is, IsFine, fine_along, fine_end}
use Rattle.statefun_driver.proofs.Delivered.{WasRead, read_event, first_read, delivered, delivered_at_rest}
use Rattle.statefun_driver.proofs.Emptied.{AreKept, kept_event, kept_first, none_left, none_at_done, none_at_rest, idle_empty}
use Rattle.statefun_driver.proofs.Replays.{IsReplayed, replays_event, replays_first, replays_given}
use Rattle.statefun_driver.proofs.Backed.{KnownBy, known_event, known_first, backed_behind}
use Rattle.statefun_driver.proofs.Apart.{AreApart, apart_event, apart_first, apart_calls}
use Rattle.statefun_driver.proofs.Numbered.{AreOrdered, ordered_event, ordered_first, ordered_turn, ordered_entries, ordered_calls}

-- ---- the module

all_of : (endpoints : List Endpoint) → list_all is_usable endpoints ≡ true → AllByRecursion (λ (e : Endpoint). is_usable e ≡ true) endpoints
all_of [] h = tt
all_of (endpoint ∷ endpoints) h = (first_so (is_usable endpoint) (list_all is_usable endpoints) h, all_of endpoints (second_so (is_usable endpoint) (list_all is_usable endpoints) h))

found_all : (P : Endpoint → Type 0) (test : Endpoint → Bool) (endpoints : List Endpoint) (endpoint : Endpoint) → AllByRecursion P endpoints → find test endpoints ≡ Some endpoint → P endpoint
found_all P test [] endpoint h e = absurd cc
found_all P test (other ∷ endpoints) endpoint h e = by (test other) e (found_all P test endpoints endpoint h.1)
  where
    by : (t : Bool) → cond t (Some other) (find test endpoints) ≡ Some endpoint → (find test endpoints ≡ Some endpoint → P endpoint) → P endpoint
    by true f more = let same : other ≡ endpoint = cc in subst P same h.0
    by false f more = more f

endpoint_all : (P : Endpoint → Type 0) (m : Module) → AllByRecursion P m.endpoints → (kind : TypeName) (endpoint : Endpoint) → endpoint_of m kind ≡ Some endpoint → P endpoint
unfolding endpoint_of
endpoint_all P m h kind endpoint e = by (find (is_exact kind) m.endpoints) refl e
  where
    by : (o : Option Endpoint) → find (is_exact kind) m.endpoints ≡ o → or_else o (find (is_wide kind) m.endpoints) ≡ Some endpoint → P endpoint
    by None f k = found_all P (is_wide kind) m.endpoints endpoint h k
    by (Some other) f k = found_all P (is_exact kind) m.endpoints endpoint h (f ∙ k)

fourth : (a b c d e f g : Bool) → (a && b && c && d && e && f && g) ≡ true → d ≡ true
fourth a b c d e f g h =
    second_so (a && b && c) d (first_so (a && b && c && d) e (first_so (a && b && c && d && e) f (first_so (a && b && c && d && e && f) g h)))

pub fit_of : (m : Module) → IsTrue (is_routable m) → AreModest m.endpoints → IsFit m
fit_of m routable modest = record {
  usable = endpoint_all (λ (e : Endpoint). is_usable e ≡ true) m
      (all_of m.endpoints (fourth (all_apart same_pattern (map (λ (e : Endpoint). e.pattern) m.endpoints)) (all_apart same_name (map (λ (ingress : IngressSpec). ingress.id) m.ingresses)) (all_apart same_name m.egresses)
      (list_all is_usable m.endpoints) (list_all (is_served m) m.ingresses) (nat_lt 0 (splits_in m.ingresses)) (nat_le (splits_in m.ingresses) 32) routable));
  modest = λ kind endpoint e. (endpoint_all IsModest m modest kind endpoint e).1;
}

-- ---- the first control

sound_first : (plan : Plan) (start : Origin) → IsHeld start.work start.moment → IsSound plan (first_control plan start)
sound_first plan start held = record { held = held; stands = by (goes_on_behind plan start.turn) }
  where
    by : (t : Bool) → Stands plan (cond t Asking (Stopped (TurnsSpent (taken_in [])))) (first_control plan start)
    by true = tt
    by false = tt

-- it is no end of its own but that no turn is to be made
pub first_phase : (P : Phase → Type 0) (plan : Plan) (start : Origin) → P Asking → ((taken : ℕ) → P (Stopped (TurnsSpent taken))) → P (first_control plan start).phase
first_phase P plan start asking spent = by (goes_on_behind plan start.turn)
  where
    by : (t : Bool) → P (cond t Asking (Stopped (TurnsSpent (taken_in []))))
    by true = asking
    by false = spent (taken_in [])

-- ---- ends

tried_end : (plan : Plan) (last : Control) (entries : List Entry) (end : End) → IsEnd last entries end → IsSound plan last → AreTried plan.routes end
tried_end plan last entries (EndpointFailed address reasons) e s = subst (λ (x : Phase). Stands plan x last) e.0 s.stands
tried_end plan last entries (Done taken) e s = tt
tried_end plan last entries (TurnsSpent taken) e s = tt
tried_end plan last entries (RecordTooLarge split offset size) e s = tt
tried_end plan last entries (BatchTooLarge address size limit) e s = tt
tried_end plan last entries (Broke by) e s = tt

large_end : (plan : Plan) (last : Control) (entries : List Entry) (end : End) → IsEnd last entries end → IsSound plan last → IsTooLarge plan.routes last end
large_end plan last entries (EndpointFailed address reasons) e s = tt
large_end plan last entries (Done taken) e s = tt
large_end plan last entries (TurnsSpent taken) e s = tt
large_end plan last entries (RecordTooLarge split offset size) e s = subst (λ (x : Phase). Stands plan x last) e.0 s.stands
large_end plan last entries (BatchTooLarge address size limit) e s = subst (λ (x : Phase). Stands plan x last) e.0 s.stands
large_end plan last entries (Broke by) e s = tt

pub front_end : (last : Control) (entries : List Entry) (end : End) → IsEnd last entries end → IsFront entries last.entries
front_end last entries (Broke Memory) e = e.1
front_end last entries (Broke Ingress) e = ([], sym e.1 ∙ sym (append-nil entries))
front_end last entries (Broke Link) e = ([], sym e.1 ∙ sym (append-nil entries))
front_end last entries (Done taken) e = ([], sym e.1 ∙ sym (append-nil entries))
front_end last entries (TurnsSpent taken) e = ([], sym e.1 ∙ sym (append-nil entries))
front_end last entries (RecordTooLarge split offset size) e = ([], sym e.1 ∙ sym (append-nil entries))
front_end last entries (BatchTooLarge address size limit) e = ([], sym e.1 ∙ sym (append-nil entries))
front_end last entries (EndpointFailed address reasons) e = ([], sym e.1 ∙ sym (append-nil entries))

pub where_told : {A : Type 0} (o : Option A) (P : A → Type 0) → ((x : A) → o ≡ Some x → P x) → IfSome o P
where_told None P h = tt
where_told (Some x) P h = h x refl

-- ---- requests

bounded_one : (laws : Laws) (plan : Plan) (c : Control) (phase : Phase) (event : Event) → Stands plan phase c → IsAsked plan.routes phase c event → IsBoundedIn plan.routes phase event
bounded_one laws plan c Asking event s asked = tt
bounded_one laws plan c (Reading split count) event s asked = tt
bounded_one laws plan c (Waiting batch call polls) event s asked = tt
bounded_one laws plan c (Stopped end) event s asked = tt
bounded_one laws plan c (Opening batch) (Starts call url request) s asked = subst (λ (o : Option Endpoint). IfSome o (λ (e : Endpoint). length request ≤ e.max_bytes)) (sym s.route) small
  where
    small : length request ≤ s.endpoint.max_bytes
    small = subst (λ n. n ≤ s.endpoint.max_bytes) (sym (ap length asked.2 ∙ laws.size batch.address (c.work.cells batch.address) c.moment batch.letters)) s.small
bounded_one laws plan c (Opening batch) (Read split offset found) s asked = absurd asked
bounded_one laws plan c (Opening batch) (Now moment) s asked = absurd asked
bounded_one laws plan c (Opening batch) (Poll outcome) s asked = absurd asked
bounded_one laws plan c (Opening batch) (Fails by) s asked = where_told (endpoint_of plan.routes batch.address.kind) (λ (e : Endpoint). Unit {0}) (λ e is. tt)

bounded : (laws : Laws) (plan : Plan) → IsFit plan.routes → (c : Control) (o : Seen) (events : List Event) (d : Control) (q : Seen) → Trace plan c o events d q → IsSound plan c → AreBounded plan c events
bounded laws plan fit c o events d q t s =
    backwards laws plan fit d q (λ c o events. AreBounded plan c events) tt (λ c o event p events s asked m heard more. (bounded_one laws plan c c.phase event s.stands asked, more)) c o events t s

-- ---- all of it

module _ (laws : Laws) (plan : Plan) (fit : IsFit plan.routes) (start : Origin) (begins : IsSoundOrigin start) (o q : Seen) (events : List Event) (last : Control) (t : Trace plan (first_control plan start) o events last q) where
  abbrev first : Control
  first = first_control plan start

  sound_at : IsSound plan first
  sound_at = sound_first plan start begins.held

  sound : IsSound plan last
  sound = sound_along laws plan fit first o events last q t sound_at

  caused : Caused o q last.phase
  caused =
      along laws plan fit q (λ c p. Caused o p c.phase) (λ c p event x r s asked m heard grows h. caused_one plan o c p event x r asked m heard h) first o events last t sound_at
      (first_phase (Caused o o) plan start (refl, refl) (λ taken. (refl, refl)))

  ordered : AreOrdered start last
  ordered = along laws plan fit q (λ c p. AreOrdered start c) (λ c p event x r s asked m heard grows h. ordered_event laws plan start c event x s m h) first o events last t sound_at (ordered_first plan start)

  apart : AreApart last
  apart = along laws plan fit q (λ c p. AreApart c) (λ c p event x r s asked m heard grows h. apart_event laws plan c event x s m h) first o events last t sound_at (apart_first plan start)

  replay : (told : Lists) → q.lists ≡ Some told → ReplaysBehind plan.routes told start last
  replay told e =
      replays_given plan.routes told start last
      (along laws plan fit q (λ c p. IsReplayed plan.routes told (base_of start) c.counts c.work c.entries)
      (λ c p event x r s asked m heard grows h. replays_event laws plan told (base_of start) c event x s (read_one event p r told heard (subst (Grows r.lists) e grows)) m h)
      first o events last t sound_at (replays_first plan.routes told start))

  known : (told : Lists) → q.lists ≡ Some told → (done : List LinkEvent) → o.journal ≡ Some done → AreUpTo start.turn done → KnownBy laws plan told (base_of start) last q
  known told e done journal fresh =
      along laws plan fit q (KnownBy laws plan told (base_of start))
      (λ c p event x r s asked m heard grows h. known_event laws plan told (base_of start) c p event x r s (read_one event p r told heard (subst (Grows r.lists) e grows)) m heard h)
      first o events last t sound_at (done, known_first plan told start o done journal fresh)

  read : (lists : Lists) → o.lists ≡ Some lists → WasRead plan start lists last
  read lists e =
      (along laws plan fit q (λ c p. Grows (Some lists) p.lists × WasRead plan start lists c)
      (λ c p event x r s asked m heard grows h. (grows_then (Some lists) p.lists r.lists h.0 (grows_one event p r heard), read_event plan start lists c p event x r h.0 m heard h.1))
      first o events last t sound_at (subst (Grows (Some lists)) (sym e) (grows_itself (Some lists)), first_read plan start lists)).1

  kept : AreKept last.phase last.work.post
  kept = along laws plan fit q (λ c p. AreKept c.phase c.work.post) (λ c p event x r s asked m heard grows h. kept_event plan c event x m h) first o events last t sound_at (kept_first plan start begins.lined begins.none)

  -- ---- ends

  done_end : (entries : List Entry) (end : End) → IsEnd last entries end → IfDone plan.routes o.lists last end
  done_end entries (Done taken) e =
      let stands : Stands plan (Stopped (Done taken)) last = subst (λ (x : Phase). Stands plan x last) e.0 sound.stands in
      where_told o.lists (λ (lists : Lists). IsDelivered plan.routes lists last) (λ lists is. delivered plan start lists last taken e.0 stands.0 stands.1 (none_at_done last taken e.0 stands.0 kept) (read lists is))
  done_end entries (TurnsSpent taken) e = tt
  done_end entries (RecordTooLarge split offset size) e = tt
  done_end entries (BatchTooLarge address size limit) e = tt
  done_end entries (EndpointFailed address reasons) e = tt
  done_end entries (Broke by) e = tt

  ends_truly : (entries : List Entry) (end : End) → IsEnd last entries end → IsToldTruly plan start o q events last end
  ends_truly entries end is_end =
      let cause = cause_is o q last entries end is_end caused in
      record {
        cause = cause;
        tried = tried_end plan last entries end is_end sound;
        large = large_end plan last entries end is_end sound;
        done = done_end entries end is_end;
        complete = λ none served. fine_end o q last entries end (fine_along laws plan fit first o events last q t sound_at served (first_phase IsFine plan start tt (λ taken. tt))) is_end cause none;
      }

  -- ---- at rest

  still : last.phase ≡ Asking → IsStill last.work last.moment
  still e = record { held = sound.held; lined = kept.lined; none = none_at_rest last e kept }

  done_at_rest : last.phase ≡ Asking → start.turn < last.turn → is_done last ≡ true → IfSome o.lists (λ lists. IsDelivered plan.routes lists last)
  done_at_rest e made done =
      let parts = done_parts last done in
      where_told o.lists (λ (lists : Lists). IsDelivered plan.routes lists last)
      (λ lists is. delivered_at_rest plan start lists last e made parts.0 parts.1 (none_left last.work.post (idle_empty last parts.0) kept.lined (none_at_rest last e kept)) (read lists is))

  pub stretch_of : IsStretch plan start o q events last
  stretch_of = record {
    journal = journal_is plan first o events last q t;
    reads = where_told q.lists (λ (told : Lists). AreRead told events) (λ told e. are_read plan first o events last q told e t);
    replays = where_told q.lists (λ (told : Lists). ReplaysBehind plan.routes told start last) replay;
    backed = where_told q.lists (λ (told : Lists). IfSome o.journal (λ done. AreUpTo start.turn done → IsBackedBehind plan.routes told start q last))
        (λ told e. where_told o.journal (λ (done : List LinkEvent). AreUpTo start.turn done → IsBackedBehind plan.routes told start q last)
        (λ done j fresh. let k = known told e done j fresh in backed_behind plan.routes told start last q k.0 k.1));
    entries = ordered_entries start last ordered;
    calls = ordered_calls start last ordered;
    distinct = apart_calls last apart;
    rising = (ordered.order).rising;
    turn = ordered_turn start last ordered;
    moment = (ordered.order).moment;
    held = sound.held;
    still = still;
    done = done_at_rest;
    bounded = bounded laws plan fit first o events last q t sound_at;
    ends = ends_truly;
  }

pub traces_are_stretches : Laws → TracesAreStretches
traces_are_stretches laws plan start before now events last routable modest begins t = stretch_of laws plan (fit_of plan.routes routable modest) start begins before now events last t

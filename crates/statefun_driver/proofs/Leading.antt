-- What leads on: the parts of a run, one after the other.
use Rattle.std.proofs.Common.{◌≡◌, refl, sym, subst, List, [], Result, Ok, Err, append-nil}
use Rattle.run_record.specs.declared.entry.Entry.{Entry}
use Rattle.statefun_driver.specs.declared.end.Broken.{Broken}
use Rattle.statefun_driver.specs.declared.end.Broken.TheVariants.{Ingress, Link, Memory}
use Rattle.statefun_driver.specs.declared.end.End.{End}
use Rattle.statefun_driver.specs.declared.end.End.TheVariants.{Broke}
use Rattle.statefun_driver.specs.Seen.{Event, Fails, Seen, Hears, HearsFail}
use Rattle.statefun_driver.specs.Turns.{Plan, Control, Phase, Reading, Asking, Opening, Waiting, Stopped, IsAsked, goes_on, at}
use Rattle.statefun_driver.specs.Traces.{Leads, Ends, IsEnd, turns}
use Rattle.statefun_driver.specs.Work.{Led}
use Rattle.statefun_driver.proofs.Tracing as tracing

pub leads_none : (plan : Plan) (a : Control) (o : Seen) → Leads plan a o a o
leads_none plan = tracing.leads_none (turns plan)

pub leads_then : (plan : Plan) (a : Control) (o : Seen) (b : Control) (p : Seen) (c : Control) (q : Seen) → Leads plan a o b p → Leads plan b p c q → Leads plan a o c q
leads_then plan = tracing.leads_then (turns plan)

-- one more event
pub leads_on : (plan : Plan) (a : Control) (o : Seen) (b : Control) (p : Seen) (event : Event) (q : Seen) → Leads plan a o b p → IsAsked plan.routes b.phase b event → Hears event p q → Leads plan a o (goes_on plan b.phase b event) q
leads_on plan = tracing.leads_on (turns plan)

pub ends_then : (plan : Plan) (a : Control) (o : Seen) (b : Control) (p : Seen) (entries : List Entry) (end : End) (q : Seen) → Leads plan a o b p → Ends plan b p entries end q → Ends plan a o entries end q
ends_then plan a o b p entries end q h k = record { last = k.last; leads = leads_then plan a o b p k.last q h k.leads; is_end = k.is_end }

-- what a phase is, if it is no end
abbrev pub IsOn : Phase → Type 0
IsOn (Stopped end) = ⊥
IsOn phase = Unit {0}

on_asked : (plan : Plan) (phase : Phase) (c : Control) (by : Broken) → IsOn phase → IsAsked plan.routes phase c (Fails by)
on_asked plan (Stopped end) c by h = absurd h
on_asked plan (Reading split count) c by h = tt
on_asked plan Asking c by h = tt
on_asked plan (Opening batch) c by h = tt
on_asked plan (Waiting batch call polls) c by h = tt

on_goes : (plan : Plan) (phase : Phase) (c : Control) (by : Broken) → IsOn phase → goes_on plan phase c (Fails by) ≡ at (Stopped (Broke by)) c
on_goes plan (Stopped end) c by h = absurd h
on_goes plan (Reading split count) c by h = refl
on_goes plan Asking c by h = refl
on_goes plan (Opening batch) c by h = refl
on_goes plan (Waiting batch call polls) c by h = refl

broken_end : (c : Control) (by : Broken) → IsEnd (at (Stopped (Broke by)) c) c.entries (Broke by)
broken_end c Ingress = (refl, refl)
broken_end c Link = (refl, refl)
broken_end c Memory = (tt, ([], sym (append-nil c.entries)))

-- an object failed
pub ends_failing : (plan : Plan) (a : Control) (o : Seen) (c : Control) (p : Seen) (by : Broken) (q : Seen) → Leads plan a o c p → IsOn c.phase → HearsFail by p q → Ends plan a o c.entries (Broke by) q
ends_failing plan a o c p by q h on heard = record {
  last = at (Stopped (Broke by)) c;
  leads = subst (λ (d : Control). Leads plan a o d q) (on_goes plan c.phase c by on) (leads_on plan a o c p (Fails by) q h (on_asked plan c.phase c by on) heard);
  is_end = broken_end c by;
}

-- memory ran out
pub ends_wanting : (plan : Plan) (a : Control) (o : Seen) (c : Control) (entries : List Entry) (p : Seen) → Leads plan a o c p → IsEnd c entries (Broke Memory) → Ends plan a o entries (Broke Memory) p
ends_wanting plan a o c entries p h is_end = record { last = c; leads = h; is_end = is_end }

pub led_then : {A : Type 0} (plan : Plan) (a : Control) (o : Seen) (b : Control) (p : Seen) (r : Result A End) (c : Control) (entries : List Entry) (q : Seen) → Leads plan a o b p → Led plan b p r c entries q → Led plan a o r c entries q
led_then plan a o b p (Ok x) c entries q h k = leads_then plan a o b p c q h k
led_then plan a o b p (Err end) c entries q h k = ends_then plan a o b p entries end q h k

-- What who drives turns needs: where they begin, how legs are joined, and where they may begin anew.
use Rattle.std.proofs.Common.{◌≡◌, ◌∙◌, refl, sym, subst, true, List}
use Rattle.run_record.specs.declared.entry.Entry.{Entry}
use Rattle.statefun_driver.specs.declared.progress.Progress.{Progress}
use Rattle.statefun_driver.specs.declared.end.End.{End}
use Rattle.statefun_driver.specs.Seen.{Seen, Event}
use Rattle.statefun_driver.specs.Turns.{Plan, Control, Origin, Asking, rested, first_control, origin_of}
use Rattle.statefun_driver.specs.Traces.{Leads, Ends}
use Rattle.statefun_driver.specs.Origins.{IsSoundOrigin}
use Rattle.statefun_driver.specs.Stretches.{IsStretch}
use Rattle.statefun_driver.specs.Work.{here}
use Rattle.statefun_driver.proofs.Leading.{leads_none, leads_then, ends_then}
use Rattle.statefun_driver.proofs.Turning.{driven_first}

-- turns that are driven begin at rest
pub begins_at_rest : (plan : Plan) (start : Origin) → plan.rests ≡ true → first_control plan start ≡ rested start
begins_at_rest = driven_first

pub here_rests : (p : Progress) → (here p).phase ≡ Asking
unfolding here
here_rests p = refl

-- no leg was made yet
pub no_legs : (plan : Plan) (start : Origin) (c : Control) (o : Seen) → plan.rests ≡ true → c ≡ rested start → Leads plan (first_control plan start) o c o
no_legs plan start c o drives e =
    subst (λ (x : Control). Leads plan (first_control plan start) o x o) (driven_first plan start drives ∙ sym e) (leads_none plan (first_control plan start) o)

-- one leg more
pub leg_then : (plan : Plan) (a : Control) (o : Seen) (b : Control) (p : Seen) (c : Control) (q : Seen) → Leads plan a o b p → Leads plan b p c q → Leads plan a o c q
leg_then = leads_then

-- the last leg ended the turns
pub leg_ends : (plan : Plan) (a : Control) (o : Seen) (b : Control) (p : Seen) (entries : List Entry) (end : End) (q : Seen) → Leads plan a o b p → Ends plan b p entries end q → Ends plan a o entries end q
leg_ends = ends_then

-- behind a stretch turns may begin anew
pub begins_anew : (plan : Plan) (start : Origin) (before now : Seen) (events : List Event) (last : Control) → last.phase ≡ Asking → IsStretch plan start before now events last → IsSoundOrigin (origin_of last)
begins_anew plan start before now events last e h = h.still e

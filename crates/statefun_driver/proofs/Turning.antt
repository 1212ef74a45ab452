-- What a whole turn leads to.
use Rattle.std.proofs.Common.{◌≡◌, ℕ, ◌+◌, ◌<◌, ◌≤◌, refl, sym, ◌∙◌, ap, subst, List, [], Bool, true, false, cond, nat_lt, Result, lt-ltb, le-ltb}
use Rattle.std.specs.Prelude.{not, ◌&&◌, ◌||◌}
use Rattle.run_record.specs.declared.entry.Entry.{Entry}
use Rattle.statefun_driver.specs.declared.end.End.{End}
use Rattle.statefun_driver.specs.declared.end.End.TheVariants.{Done, TurnsSpent}
use Rattle.statefun_driver.specs.Seen.{Seen, Now, HearsNow}
use Rattle.statefun_driver.specs.Turns.{Plan, Control, Origin, Phase, Asking, Stopped, at, begun, read_from, goes_on_behind, turns_phase, finish, is_done, ends_done, taken_in, rested, no_origin, first_control}
use Rattle.statefun_driver.specs.Traces.{Leads, Ends}
use Rattle.statefun_driver.specs.Work.{Led}
use Rattle.statefun_driver.proofs.Leading.{leads_none, leads_on}

-- the moment of a turn is told
pub turn_asked : (plan : Plan) (c : Control) (o : Seen) (moment : ℕ) (p : Seen) (d : Control) → HearsNow moment o p → d ≡ at Asking (begun moment c) → Leads plan (at Asking c) o (read_from plan 0 d) p
turn_asked plan c o moment p d heard e = subst (λ (x : Control). Leads plan (at Asking c) o (read_from plan 0 x) p) (sym e) (leads_on plan (at Asking c) o (at Asking c) o (Now moment) p (leads_none plan (at Asking c) o) tt heard)

-- ---- turn by turn

-- of turns that none drives
alone : (plan : Plan) → plan.rests ≡ false → (turns : ℕ) (t : Bool) → nat_lt turns plan.turns ≡ t → goes_on_behind plan turns ≡ t
alone plan none turns t e = λ i. none i || e i

pub first_turn : (plan : Plan) (c : Control) (o : Seen) → c ≡ rested no_origin → Leads plan (first_control plan no_origin) o (at (turns_phase plan 0 c.entries) c) o
first_turn plan c o e = subst (λ (x : Control). Leads plan (first_control plan no_origin) o (at (turns_phase plan 0 x.entries) x) o) (sym e) (leads_none plan (first_control plan no_origin) o)

pub turn_on : (plan : Plan) (a : Control) (o : Seen) (k : ℕ) (c : Control) (p : Seen) → plan.rests ≡ false → k < plan.turns → Leads plan a o (at (turns_phase plan k c.entries) c) p → Leads plan a o (at Asking c) p
turn_on plan a o k c p none h leads = subst (λ (x : Phase). Leads plan a o (at x c) p) (ap (λ b. cond b Asking (Stopped (TurnsSpent (taken_in c.entries)))) (alone plan none k true (lt-ltb k plan.turns h))) leads

done_ends : (plan : Plan) → plan.rests ≡ false → (c : Control) (t : Bool) → is_done c ≡ t → ends_done plan c ≡ t
done_ends plan none c t e = λ i. not (none i) && e i

pub turns_done : (plan : Plan) (a : Control) (o : Seen) (c : Control) (p : Seen) (taken : ℕ) → plan.rests ≡ false → Leads plan a o (finish plan c) p → is_done c ≡ true → taken ≡ taken_in c.entries → Ends plan a o c.entries (Done taken) p
turns_done plan a o c p taken none leads h is = record {
  last = finish plan c;
  leads = leads;
  is_end = (ap (λ b. cond b (Stopped (Done (taken_in c.entries))) (turns_phase plan c.turn c.entries)) (done_ends plan none c true h) ∙ ap (λ (n : ℕ). Stopped (Done n)) (sym is), refl);
}

pub turns_spent : (plan : Plan) (a : Control) (o : Seen) (k : ℕ) (c : Control) (p : Seen) (taken : ℕ) → plan.rests ≡ false → plan.turns ≤ k → Leads plan a o (at (turns_phase plan k c.entries) c) p → taken ≡ taken_in c.entries → Ends plan a o c.entries (TurnsSpent taken) p
turns_spent plan a o k c p taken none h leads is = record {
  last = at (turns_phase plan k c.entries) c;
  leads = leads;
  is_end = (ap (λ b. cond b Asking (Stopped (TurnsSpent (taken_in c.entries)))) (alone plan none k false (le-ltb k plan.turns h)) ∙ ap (λ (n : ℕ). Stopped (TurnsSpent n)) (sym is), refl);
}

pub turns_go_on : (plan : Plan) (a : Control) (o : Seen) (k : ℕ) (c : Control) (p : Seen) → plan.rests ≡ false → Leads plan a o (finish plan c) p → is_done c ≡ false → c.turn ≡ k + 1 → Leads plan a o (at (turns_phase plan (k + 1) c.entries) c) p
turns_go_on plan a o k c p none leads h turn =
    subst (λ (n : ℕ). Leads plan a o (at (turns_phase plan n c.entries) c) p) turn
    (subst (λ (x : Phase). Leads plan a o (at x c) p) (ap (λ b. cond b (Stopped (Done (taken_in c.entries))) (turns_phase plan c.turn c.entries)) (done_ends plan none c false h)) leads)

-- ---- turns that are driven

pub driven_rests : (plan : Plan) (c : Control) → plan.rests ≡ true → finish plan c ≡ at Asking c
driven_rests plan c drives = ap (λ (x : Phase). at x c) (ap (λ b. cond b (Stopped (Done (taken_in c.entries))) (turns_phase plan c.turn c.entries)) (λ i. not (drives i) && is_done c) ∙ ap (λ b. cond b Asking (Stopped (TurnsSpent (taken_in c.entries)))) (λ i. drives i || nat_lt c.turn plan.turns))

pub led_driven : {A : Type 0} (plan : Plan) (a : Control) (o : Seen) (r : Result A End) (c d : Control) (entries : List Entry) (p : Seen) → finish plan c ≡ d → Led plan a o r (finish plan c) entries p → Led plan a o r d entries p
led_driven {A} plan a o r c d entries p e led = subst (λ (x : Control). Led plan a o r x entries p) e led

-- a plan whose turns are driven begins at rest
pub driven_first : (plan : Plan) (start : Origin) → plan.rests ≡ true → first_control plan start ≡ rested start
driven_first plan start drives = ap (λ b. at (cond b Asking (Stopped (TurnsSpent (taken_in [])))) (rested start)) (λ i. drives i || nat_lt start.turn plan.turns)

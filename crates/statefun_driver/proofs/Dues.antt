-- What the delayed letters that are due lead to.
use Rattle.std.proofs.Common.{◌≡◌, ◌∙◌, sym, ap, subst, refl, ℕ, suc, ◌+◌, ◌-◌, ◌<◌, ◌≤◌, List, [], ◌∷◌, ◌++◌, length, Option, Some, None, arith}
use Rattle.typed_values.specs.declared.address.Address.{Address}
use Rattle.typed_values.specs.declared.record.Delay.{Delay}
use Rattle.typed_values.specs.Delays.{due_at}
use Rattle.address_routing.specs.declared.module.Module.{Module}
use Rattle.address_routing.specs.Routing.{splits_in}
use Rattle.run_record.specs.declared.entry.Entry.{Entry}
use Rattle.run_record.specs.declared.entry.Step.TheVariants as step
use Rattle.partition_core.specs.Work.{Work, IsSent, IsSentBy, sent}
use Rattle.statefun_driver.specs.declared.end.End.TheVariants.{Broke}
use Rattle.statefun_driver.specs.declared.end.Broken.TheVariants.{Memory}
use Rattle.statefun_driver.specs.Seen.{Seen}
use Rattle.statefun_driver.specs.Turns.{Plan, Control, dues, due_recorded, send_due, serve}
use Rattle.statefun_driver.specs.Traces.{Leads, Ends, IsFront, IsUnbroken}
use Rattle.statefun_driver.specs.Work.{IsSentFront}
use Rattle.statefun_driver.proofs.Leading.{ends_wanting}
use Rattle.statefun_driver.proofs.Resting.{unbroken_rests, rest_serve}
use Rattle.statefun_driver.proofs.Fronts.{send_due_front, serve_entries}
use Rattle.statefun_driver.proofs.Recorded.{due_is, sent_more, sent_none}

dues_are : dues ≡ 1024
unfolding dues
dues_are = refl

-- memory ran out among them
pub sent_front : (plan : Plan) (n : ℕ) (c d : Control) (entries : List Entry) → send_due plan.routes n d ≡ send_due plan.routes dues c → entries ≡ d.entries → IsSentFront plan c entries
sent_front plan n c d entries e same =
    subst (λ (xs : List Entry). IsFront xs (send_due plan.routes dues c).entries) (sym same)
    (subst (λ (x : Control). IsFront d.entries x.entries) e (send_due_front plan.routes n d))

-- none is due
none_by : (due : Option (Delay × List Delay)) (moment : ℕ) (old new : Work) → IsSentBy moment due old None new → (due ≡ None) × (new ≡ old)
none_by None moment old new h = (refl, h.1)
none_by (Some due) moment old new h = absurd (cc (h.0))

pub none_sent : (m : Module) (n : ℕ) (c : Control) (work : Work) (d : Control) → IsSent c.moment c.work None work → send_due m n c ≡ d → record c { work = work } ≡ d
none_sent m n c work d h e =
    let is = none_by (due_at c.moment c.work.delays) c.moment c.work work h in
    ap (λ (w : Work). record c { work = w }) is.1 ∙ sym (sent_none m n c is.0) ∙ e

-- one more is sent
one_by : (due : Option (Delay × List Delay)) (moment : ℕ) (old new : Work) (address : Address) → IsSentBy moment due old (Some address) new → (d : Delay × List Delay) × (due ≡ Some d) × (address ≡ d.0.sender) × (new ≡ sent moment d old)
one_by None moment old new address h = absurd (cc (h.0))
one_by (Some due) moment old new address h = (due, refl, cc (h.0), h.1)

left_is : (k : ℕ) → k < 1024 → 1024 - k ≡ suc (1024 - (k + 1))
left_is k less = omega arith

-- the entry of a delayed letter
abbrev pub due_entry : Control → ℕ → Address → ℕ → Entry
due_entry c node address moment = record { leg = c.turn; stamp = length c.entries - c.before + 1; node = node; step = step.Due address moment }

pub one_sent : (m : Module) (k : ℕ) (c : Control) (address : Address) (node : ℕ) (work : Work) (e : Control) → k < 1024 → IsSent c.moment c.work (Some address) work → node ≡ splits_in m.ingresses → send_due m (dues - k) c ≡ e → send_due m (dues - (k + 1)) (record c { work = work; entries = c.entries ++ due_entry c node address c.moment ∷ [] }) ≡ e
one_sent m k c address node work e less h place same =
    let due = one_by (due_at c.moment c.work.delays) c.moment c.work work address h in
    let next : Control = record c { work = work; entries = c.entries ++ due_entry c node address c.moment ∷ [] } in
    let made : next ≡ due_recorded m due.0 c = due_is m due.0 c work (c.entries ++ due_entry c node address c.moment ∷ []) due.3 (λ i. c.entries ++ due_entry c (place i) (due.2 i) c.moment ∷ []) in
    let left : dues - k ≡ suc (dues - (k + 1)) = subst (λ (n : ℕ). n - k ≡ suc (n - (k + 1))) (sym dues_are) (left_is k less) in
    ap (send_due m (dues - (k + 1))) made ∙ sym (sent_more m (dues - (k + 1)) due.0 c due.1) ∙ ap (λ (n : ℕ). send_due m n c) (sym left) ∙ same

none_left : (k : ℕ) → 1024 ≤ k → 1024 - k ≡ 0
none_left k h = omega arith

-- as many as may be were sent
pub all_sent : (m : Module) (k : ℕ) (c d : Control) → 1024 ≤ k → send_due m (dues - k) c ≡ d → c ≡ d
all_sent m k c d h e = ap (λ (n : ℕ). send_due m n c) (sym (subst (λ (n : ℕ). n - k ≡ 0) (sym dues_are) (none_left k h))) ∙ e

-- ---- in a turn

pub dues_sent : (plan : Plan) (a : Control) (o : Seen) (c d : Control) (p : Seen) → d ≡ send_due plan.routes dues c → Leads plan a o (serve plan (send_due plan.routes dues c)) p → Leads plan a o (serve plan d) p
dues_sent plan a o c d p e leads = subst (λ (x : Control). Leads plan a o (serve plan x) p) (sym e) leads

pub dues_wanting : (plan : Plan) (a : Control) (o : Seen) (c : Control) (p : Seen) (entries : List Entry) → Leads plan a o (serve plan (send_due plan.routes dues c)) p → IsSentFront plan c entries → Ends plan a o entries (Broke Memory) p
dues_wanting plan a o c p entries leads front =
    ends_wanting plan a o (serve plan (send_due plan.routes dues c)) entries p leads
    (rest_serve IsUnbroken unbroken_rests plan (send_due plan.routes dues c), subst (λ (xs : List Entry). IsFront entries xs) (sym (serve_entries plan (send_due plan.routes dues c))) front)

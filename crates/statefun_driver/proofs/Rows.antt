-- What a read of a split leads to.
use Rattle.std.proofs.Common.{◌≡◌, ℕ, ◌+◌, ◌<◌, ◌≤◌, refl, sym, ◌∙◌, ap, subst, List, Bool, true, false, cond, Option, Some, None, lt-ltb, le-leb, le-ltb, arith}
use Rattle.std.specs.Prelude.{nat_lt, nat_le}
use Rattle.std.proofs.lemmas.Bool.{false_from_ne_true, leb-true}
use Rattle.sf_outside.specs.declared.ingress.IngressRecord.{IngressRecord}
use Rattle.run_record.specs.declared.entry.Entry.{Entry}
use Rattle.address_routing.specs.Routing.{splits_in}
use Rattle.statefun_driver.specs.declared.end.Broken.{Broken}
use Rattle.statefun_driver.specs.declared.end.Broken.TheVariants.{Memory}
use Rattle.statefun_driver.specs.declared.end.End.TheVariants.{Broke, RecordTooLarge}
use Rattle.statefun_driver.specs.Seen.{Seen, Read, HearsRead, HearsFail}
use Rattle.statefun_driver.specs.Turns.{Plan, Control, Reading, Stopped, at, quota, longest, dues, size_of, read_on, read, read_from, send_due, serve, take_record, recorded}
use Rattle.statefun_driver.specs.Traces.{Leads, Ends, IsFront, IsUnbroken}
use Rattle.statefun_driver.proofs.Leading.{leads_on, ends_failing, ends_wanting}
use Rattle.statefun_driver.proofs.Phases.{read_phase}
use Rattle.statefun_driver.proofs.Fronts.{front_then, read_on_front}
use Rattle.statefun_driver.proofs.Resting.{unbroken_rests, rest_read_on}

-- so many records were taken of the split, and it is read on
pub record Ready (plan : Plan) (a : Control) (o : Seen) (split k : ℕ) (c : Control) (p : Seen) : Type 0 where
  pub leads : Leads plan a o (read_on plan split k c) p
  pub few : k < quota

on_split : (plan : Plan) (split k : ℕ) (c : Control) → k < quota → read_on plan split k c ≡ at (Reading split k) c
on_split plan split k c h = ap (λ b. cond b (at (Reading split k) c) (read_from plan (split + 1) (record c { left = true }))) (lt-ltb k quota h)

reads : (plan : Plan) (a : Control) (o : Seen) (split k : ℕ) (c : Control) (p : Seen) → Ready plan a o split k c p → Leads plan a o (at (Reading split k) c) p
reads plan a o split k c p h = subst (λ (x : Control). Leads plan a o x p) (on_split plan split k c h.few) h.leads

pub row_failed : (plan : Plan) (a : Control) (o : Seen) (split k : ℕ) (c : Control) (p : Seen) (by : Broken) (q : Seen) → Ready plan a o split k c p → HearsFail by p q → Ends plan a o c.entries (Broke by) q
row_failed plan a o split k c p by q h heard = ends_failing plan a o (at (Reading split k) c) p by q (reads plan a o split k c p h) tt heard

-- one more read, of the split's next record, and what it came to
pub record IsRead (split : ℕ) (c : Control) (found : Option IngressRecord) (p q : Seen) : Type 0 where
  pub offset : ℕ
  pub next : offset ≡ c.counts split
  pub answer : Option IngressRecord
  pub answer_is : answer ≡ found
  pub heard : HearsRead split offset answer p q

row_read : (plan : Plan) (a : Control) (o : Seen) (split k : ℕ) (c : Control) (p : Seen) (found : Option IngressRecord) (q : Seen) → Ready plan a o split k c p → IsRead split c found p q → Leads plan a o (read plan split k (at (Reading split k) c) found) q
row_read plan a o split k c p found q h r =
    leads_on plan a o (at (Reading split k) c) p (Read split r.offset found) q (reads plan a o split k c p h) (refl, r.next) (subst (λ (x : Option IngressRecord). HearsRead split r.offset x p q) r.answer_is r.heard)

pub row_none : (plan : Plan) (a : Control) (o : Seen) (split k : ℕ) (c : Control) (p q : Seen) → Ready plan a o split k c p → IsRead split c None p q → Leads plan a o (read_from plan (split + 1) c) q
row_none plan a o split k c p q h r = subst (λ (x : Control). Leads plan a o x q) (read_phase plan (split + 1) (Reading split k) c) (row_read plan a o split k c p None q h r)

beyond : (a b : ℕ) → b < a → nat_le a b ≡ false
beyond a b h = false_from_ne_true (nat_le a b) (λ e. let le = leb-true a b e in absurd (omega (arith, le, h)))

row_beyond : (plan : Plan) (a : Control) (o : Seen) (split k : ℕ) (c : Control) (p : Seen) (found : IngressRecord) (q : Seen) → Ready plan a o split k c p → IsRead split c (Some found) p q → longest < size_of found → Ends plan a o c.entries (RecordTooLarge split (c.counts split) (size_of found)) q
row_beyond plan a o split k c p found q h r e =
    let end : Control = at (Stopped (RecordTooLarge split (c.counts split) (size_of found))) c in
    record {
      last = end;
      leads = subst (λ (x : Control). Leads plan a o x q)
          (ap (λ b. cond b (read_on plan split (k + 1) (take_record plan.routes split found (at (Reading split k) c))) end) (beyond (size_of found) longest e))
          (row_read plan a o split k c p (Some found) q h r);
      is_end = (refl, refl);
    }

pub row_large : (plan : Plan) (a : Control) (o : Seen) (split k : ℕ) (c : Control) (p : Seen) (found : IngressRecord) (q : Seen) → Ready plan a o split k c p → (r : IsRead split c (Some found) p q) (size : ℕ) → size ≡ size_of found → longest < size → Ends plan a o c.entries (RecordTooLarge split r.offset size) q
row_large plan a o split k c p found q h r size is e =
    subst (λ (n : ℕ). Ends plan a o c.entries (RecordTooLarge split n size) q) (sym r.next)
    (subst (λ (n : ℕ). Ends plan a o c.entries (RecordTooLarge split (c.counts split) n) q) (sym is) (row_beyond plan a o split k c p found q h r (subst (λ (n : ℕ). longest < n) is e)))

on_phase : (plan : Plan) (split k j : ℕ) (found : IngressRecord) (c : Control) → read_on plan split j (take_record plan.routes split found (at (Reading split k) c)) ≡ read_on plan split j (take_record plan.routes split found c)
unfolding recorded
on_phase plan split k j found c = by (nat_lt j quota)
  where
    next : Control
    next = take_record plan.routes split found c

    by : (t : Bool) → cond t (at (Reading split j) (at (Reading split k) next)) (read_from plan (split + 1) (record (at (Reading split k) next) { left = true })) ≡ cond t (at (Reading split j) next) (read_from plan (split + 1) (record next { left = true }))
    by true = refl
    by false = read_phase plan (split + 1) (Reading split k) (record next { left = true })

row_within : (plan : Plan) (a : Control) (o : Seen) (split k : ℕ) (c : Control) (p : Seen) (found : IngressRecord) (q : Seen) → Ready plan a o split k c p → IsRead split c (Some found) p q → (size : ℕ) → size ≡ size_of found → size ≤ longest → Leads plan a o (read_on plan split (k + 1) (take_record plan.routes split found c)) q
row_within plan a o split k c p found q h r size is small =
    subst (λ (x : Control). Leads plan a o x q)
    (ap (λ b. cond b (read_on plan split (k + 1) (take_record plan.routes split found (at (Reading split k) c))) (at (Stopped (RecordTooLarge split (c.counts split) (size_of found))) c)) (le-leb (size_of found) longest (subst (λ (n : ℕ). n ≤ longest) is small))
    ∙ on_phase plan split k (k + 1) found c)
    (row_read plan a o split k c p (Some found) q h r)

pub row_taken : (plan : Plan) (a : Control) (o : Seen) (split k : ℕ) (c : Control) (p : Seen) (found : IngressRecord) (q : Seen) → Ready plan a o split k c p → IsRead split c (Some found) p q → (size : ℕ) → size ≡ size_of found → size ≤ longest → (d : Control) → d ≡ take_record plan.routes split found c → Leads plan a o (read_on plan split (k + 1) d) q
row_taken plan a o split k c p found q h r size is small d e =
    subst (λ (x : Control). Leads plan a o (read_on plan split (k + 1) x) q) (sym e) (row_within plan a o split k c p found q h r size is small)

taken_front : (plan : Plan) (split : ℕ) (found : IngressRecord) (c : Control) → IsFront c.entries (take_record plan.routes split found c).entries
unfolding recorded
taken_front plan split found c = (_, refl)

pub row_wanting : (plan : Plan) (a : Control) (o : Seen) (split k : ℕ) (c : Control) (p : Seen) (found : IngressRecord) (q : Seen) → Ready plan a o split k c p → IsRead split c (Some found) p q → (size : ℕ) → size ≡ size_of found → size ≤ longest → (entries : List Entry) → entries ≡ c.entries → Ends plan a o entries (Broke Memory) q
row_wanting plan a o split k c p found q h r size is small entries e =
    let next : Control = take_record plan.routes split found c in
    ends_wanting plan a o (read_on plan split (k + 1) next) entries q (row_within plan a o split k c p found q h r size is small) (
      rest_read_on IsUnbroken unbroken_rests plan split (k + 1) next,
      subst (λ (xs : List Entry). IsFront xs (read_on plan split (k + 1) next).entries) (sym e)
          (front_then c.entries next.entries (read_on plan split (k + 1) next).entries (taken_front plan split found c) (read_on_front plan split (k + 1) next)),
    )

-- the quota is spent
pub rows_spent : (plan : Plan) (a : Control) (o : Seen) (split k : ℕ) (c : Control) (p : Seen) → quota ≤ k → Leads plan a o (read_on plan split k c) p → Leads plan a o (read_from plan (split + 1) (record c { left = true })) p
rows_spent plan a o split k c p h leads =
    subst (λ (x : Control). Leads plan a o x p) (ap (λ b. cond b (at (Reading split k) c) (read_from plan (split + 1) (record c { left = true }))) (le-ltb k quota h)) leads

-- ---- all splits

pub reads_on : (plan : Plan) (a : Control) (o : Seen) (split : ℕ) (c : Control) (p : Seen) → split < splits_in plan.routes.ingresses → Leads plan a o (read_from plan split c) p → Leads plan a o (at (Reading split 0) c) p
reads_on plan a o split c p h leads =
    subst (λ (x : Control). Leads plan a o x p) (ap (λ b. cond b (at (Reading split 0) c) (serve plan (send_due plan.routes dues c))) (lt-ltb split (splits_in plan.routes.ingresses) h)) leads

pub reads_done : (plan : Plan) (a : Control) (o : Seen) (split : ℕ) (c : Control) (p : Seen) → splits_in plan.routes.ingresses ≤ split → Leads plan a o (read_from plan split c) p → Leads plan a o (serve plan (send_due plan.routes dues c)) p
reads_done plan a o split c p h leads =
    subst (λ (x : Control). Leads plan a o x p) (ap (λ b. cond b (at (Reading split 0) c) (serve plan (send_due plan.routes dues c))) (le-ltb split (splits_in plan.routes.ingresses) h)) leads

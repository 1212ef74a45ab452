-- Done means that all was taken that stood in the lists at the run's beginning.
use Rattle.std.proofs.Common.{◌≡◌, refl, sym, ap, subst, ℕ, zero, suc, ◌+◌, ◌<◌, ◌≤◌, List, [], ◌∷◌, length, length-append, Bool, true, false, cond, slice_get, Option, Some, None, arith, nat_lt, nat_eq, ltb-true, ltb-false, lt-ltb, eqb-true}
use Rattle.std.specs.Prelude.{◌^◌}
use Rattle.std.specs.Option.{option_map_or}
use Rattle.typed_values.specs.declared.address.Address.{Address}
use Rattle.typed_values.specs.declared.letter.Letter.{Letter}
use Rattle.typed_values.specs.declared.record.Delay.{Delay}
use Rattle.typed_values.specs.Delays.{due_at}
use Rattle.sf_outside.specs.declared.ingress.IngressRecord.{IngressRecord}
use Rattle.sf_outside.specs.Splits.{Lists, split_of, Grows, Reads}
use Rattle.address_routing.specs.declared.module.Module.{Module}
use Rattle.address_routing.specs.declared.module.Endpoint.{Endpoint}
use Rattle.address_routing.specs.Routing.{splits_in, endpoint_of}
use Rattle.partition_core.specs.Batches.{batch_at}
use Rattle.partition_core.specs.declared.bounds.Bounds.{Bounds}
use Rattle.partition_core.specs.Work.{is_idle}
use Rattle.statefun_driver.specs.declared.end.End.TheVariants.{Done, TurnsSpent, EndpointFailed}
use Rattle.statefun_driver.specs.Seen.{Event, Seen, Hears}
use Rattle.statefun_driver.specs.Turns.{Plan, Control, Phase, Reading, Asking, Opening, Waiting, Stopped, Asked, Origin, first_control, begun, at, recorded, quota, dues}
use Rattle.statefun_driver.specs.Turns.{taken_in, ends_done, goes_on_behind, finish, opening, bounds_of, opened_by, open_batch, serve_first, serve, due_recorded, send_due, read_from, take_record, read_on}
use Rattle.statefun_driver.specs.Turns.{attempts_at, with_reason}
use Rattle.statefun_driver.specs.Runs.{IsDelivered}
use Rattle.statefun_driver.proofs.Moving.{Moved, BrokeOff, ReadNone, ReadLarge, Took, SawMoment, Began, PolledNone, FailedBy, Accepts, Misses, accepted, missed}
use Rattle.statefun_driver.proofs.Journal.{grows_then}

-- ---- which splits answered nothing in this turn

abbrev pub upto : Plan → Origin → ℕ → Phase → ℕ
upto plan start turn Asking = cond (nat_lt start.turn turn) (splits_in plan.routes.ingresses) 0
upto plan start turn (Reading split count) = split
upto plan start turn (Opening batch) = splits_in plan.routes.ingresses
upto plan start turn (Waiting batch call polls) = splits_in plan.routes.ingresses
upto plan start turn (Stopped (Done taken)) = splits_in plan.routes.ingresses
upto plan start turn (Stopped end) = 0

abbrev pub AllTaken : Lists → ℕ → (ℕ → ℕ) → Type 0
AllTaken first n counts = (split : ℕ) → split < n → length (split_of first split) ≤ counts split

-- unless a split may have more
abbrev pub WasRead : Plan → Origin → Lists → Control → Type 0
WasRead plan start first c = c.left ≡ false → AllTaken first (upto plan start c.turn c.phase) c.counts

nothing : (first : Lists) (counts : ℕ → ℕ) → AllTaken first 0 counts
nothing first counts split h = absurd (omega (arith, h))

less_taken : (first : Lists) (m n : ℕ) (counts : ℕ → ℕ) → m ≤ n → AllTaken first n counts → AllTaken first m counts
less_taken first m n counts h k split l = k split (omega (arith, h, l))

some_of : (t : Bool) (n : ℕ) → cond t n 0 ≤ n
some_of true n = omega arith
some_of false n = omega arith

-- ---- one read that answered nothing

none_left : (xs : List IngressRecord) (n : ℕ) → slice_get xs n ≡ None → length xs ≤ n
none_left [] n h = omega arith
none_left (x ∷ xs) zero h = absurd cc
none_left (x ∷ xs) (suc n) h = let k = none_left xs n h in omega (arith, k)

read_all : (first : Lists) (now : Option Lists) (split offset : ℕ) → Grows (Some first) now → Reads now split offset None → length (split_of first split) ≤ offset
read_all first None split offset h k = absurd h
read_all first (Some now) split offset h k =
    let n = none_left (split_of now split) offset (sym k) in
    omega (arith, n, ap length (h split).1, length-append (split_of first split) (h split).0)

one_split : (first : Lists) (split : ℕ) (counts : ℕ → ℕ) → AllTaken first split counts → length (split_of first split) ≤ counts split → AllTaken first (split + 1) counts
one_split first split counts h k other l = by (nat_lt other split) refl
  where
    by : (t : Bool) → nat_lt other split ≡ t → length (split_of first other) ≤ counts other
    by true e = h other (ltb-true other split e)
    by false e = let no = ltb-false other split e in let same : split ≡ other = omega (arith, no, l) in subst (λ (x : ℕ). length (split_of first x) ≤ counts x) same k

-- ---- where the turns go by themselves

finish_read : (plan : Plan) (start : Origin) (first : Lists) (c : Control) → (c.left ≡ false → AllTaken first (splits_in plan.routes.ingresses) c.counts) → WasRead plan start first (finish plan c)
finish_read plan start first c h = λ l. by l (ends_done plan c) (goes_on_behind plan c.turn)
  where
    by : c.left ≡ false → (t u : Bool) → AllTaken first (upto plan start c.turn (cond t (Stopped (Done (taken_in c.entries))) (cond u Asking (Stopped (TurnsSpent (taken_in c.entries)))))) c.counts
    by l true u = h l
    by l false true = less_taken first (cond (nat_lt start.turn c.turn) (splits_in plan.routes.ingresses) 0) (splits_in plan.routes.ingresses) c.counts (some_of (nat_lt start.turn c.turn) (splits_in plan.routes.ingresses)) (h l)
    by l false false = nothing first c.counts

opening_read : (plan : Plan) (start : Origin) (first : Lists) (bounds : Bounds) (address : Address) (batch : List Letter) (c : Control) → (c.left ≡ false → AllTaken first (splits_in plan.routes.ingresses) c.counts) → WasRead plan start first (opening bounds address batch c)
opening_read plan start first bounds address [] c h = λ l. nothing first c.counts
opening_read plan start first bounds address (letter ∷ batch) c h = h

open_read : (plan : Plan) (start : Origin) (first : Lists) (address : Address) (most : ℕ) (c : Control) → (c.left ≡ false → AllTaken first (splits_in plan.routes.ingresses) c.counts) → WasRead plan start first (open_batch plan address most c)
open_read plan start first address most c h = by (endpoint_of plan.routes address.kind)
  where
    by : (o : Option Endpoint) → WasRead plan start first (opened_by plan address most c o)
    by None = finish_read plan start first c h
    by (Some endpoint) = opening_read plan start first (bounds_of endpoint most) address (batch_at (bounds_of endpoint most) c.moment address c.work) c h

serve_read : (plan : Plan) (start : Origin) (first : Lists) (c : Control) → (c.left ≡ false → AllTaken first (splits_in plan.routes.ingresses) c.counts) → WasRead plan start first (serve plan c)
serve_read plan start first c h = by (slice_get c.work.post.ready 0)
  where
    by : (o : Option Address) → WasRead plan start first (serve_first plan c o)
    by None = finish_read plan start first c h
    by (Some address) = open_read plan start first address (2 ^ 32) c h

due_read : (m : Module) (first : Lists) (n k : ℕ) (c : Control) → (c.left ≡ false → AllTaken first k c.counts) → (send_due m n c).left ≡ false → AllTaken first k (send_due m n c).counts
unfolding recorded
due_read m first zero k c h = h
due_read m first (suc n) k c h = by (due_at c.moment c.work.delays) (λ due. due_read m first n k (due_recorded m due c) h)
  where
    by : (o : Option (Delay × List Delay)) → ((due : Delay × List Delay) → (send_due m n (due_recorded m due c)).left ≡ false → AllTaken first k (send_due m n (due_recorded m due c)).counts)
        → (option_map_or (λ (due : Delay × List Delay). send_due m n (due_recorded m due c)) o c).left ≡ false → AllTaken first k (option_map_or (λ (due : Delay × List Delay). send_due m n (due_recorded m due c)) o c).counts
    by None more = h
    by (Some due) more = more due

reads_from : (plan : Plan) (start : Origin) (first : Lists) (split : ℕ) (c : Control) → (c.left ≡ false → AllTaken first split c.counts) → WasRead plan start first (read_from plan split c)
reads_from plan start first split c h = by (nat_lt split (splits_in plan.routes.ingresses)) refl
  where
    by : (t : Bool) → nat_lt split (splits_in plan.routes.ingresses) ≡ t → WasRead plan start first (cond t (at (Reading split 0) c) (serve plan (send_due plan.routes dues c)))
    by true e = h
    by false e = serve_read plan start first (send_due plan.routes dues c)
        (due_read plan.routes first dues (splits_in plan.routes.ingresses) c (λ l. less_taken first (splits_in plan.routes.ingresses) split c.counts (ltb-false split (splits_in plan.routes.ingresses) e) (h l)))

-- ---- a record that is taken

taken_more : (first : Lists) (n split : ℕ) (counts : ℕ → ℕ) → AllTaken first n counts → AllTaken first n (λ other. cond (nat_eq split other) (counts split + 1) (counts other))
taken_more first n split counts h other l = by (nat_eq split other) refl
  where
    by : (t : Bool) → nat_eq split other ≡ t → length (split_of first other) ≤ cond t (counts split + 1) (counts other)
    by true e = let k = h other l in let same = ap counts (eqb-true split other e) in omega (arith, k, same)
    by false e = h other l

takes_read : (plan : Plan) (start : Origin) (first : Lists) (split count : ℕ) (found : IngressRecord) (c : Control) → (c.left ≡ false → AllTaken first split c.counts) → WasRead plan start first (read_on plan split count (take_record plan.routes split found c))
unfolding recorded
takes_read plan start first split count found c h = by (nat_lt count quota)
  where
    next : Control
    next = take_record plan.routes split found c

    by : (t : Bool) → WasRead plan start first (cond t (at (Reading split count) next) (read_from plan (split + 1) (record next { left = true })))
    by true = λ l. taken_more first split split c.counts (h l)
    by false = reads_from plan start first (split + 1) (record next { left = true }) (λ l. absurd (let k : true ≡ false = l in cc))

-- ---- one event

-- what holds so far, in the phase that is known
so_far : (plan : Plan) (start : Origin) (first : Lists) (c : Control) (phase : Phase) → c.phase ≡ phase → WasRead plan start first c → c.left ≡ false → AllTaken first (upto plan start c.turn phase) c.counts
so_far plan start first c phase e h l = subst (λ (x : Phase). AllTaken first (upto plan start c.turn x) c.counts) e (h l)

tried_read : (plan : Plan) (start : Origin) (first : Lists) (batch : Asked) (turn : ℕ) (counts : ℕ → ℕ) (t : Bool) → AllTaken first (splits_in plan.routes.ingresses) counts → AllTaken first (upto plan start turn (cond t (Opening batch) (Stopped (EndpointFailed batch.address batch.reasons)))) counts
tried_read plan start first batch turn counts true h = h
tried_read plan start first batch turn counts false h = nothing first counts

pub read_event : (plan : Plan) (start : Origin) (first : Lists) (c : Control) (o : Seen) (event : Event) (x : Control) (p : Seen) → Grows (Some first) o.lists → Moved plan c event x → Hears event o p → WasRead plan start first c → WasRead plan start first x
unfolding recorded
read_event plan start first c o _ _ p g (BrokeOff by) heard h = λ l. nothing first c.counts
read_event plan start first c o _ _ p g (ReadNone split count offset e is) heard h =
    reads_from plan start first (split + 1) c (λ l. one_split first split c.counts (so_far plan start first c (Reading split count) e h l)
    (subst (λ (n : ℕ). length (split_of first split) ≤ n) is (read_all first p.lists split offset (grows_then (Some first) o.lists p.lists g heard.grows) heard.reads)))
read_event plan start first c o _ _ p g (ReadLarge split count offset found e large) heard h = λ l. nothing first c.counts
read_event plan start first c o _ _ p g (Took split count offset found e is) heard h = takes_read plan start first split (count + 1) found c (so_far plan start first c (Reading split count) e h)
read_event plan start first c o _ _ p g (SawMoment moment e) heard h = reads_from plan start first 0 (begun moment c) (λ l. nothing first c.counts)
read_event plan start first c o _ _ p g (Began batch url request e place is) heard h = so_far plan start first c (Opening batch) e h
read_event plan start first c o _ _ p g (PolledNone batch call k outcome e) heard h = so_far plan start first c (Waiting batch call k) e h
read_event plan start first c o _ _ p g (FailedBy batch call k outcome why e is late) heard h = λ l.
    tried_read plan start first (with_reason batch why) c.turn c.counts (nat_lt (length (with_reason batch why).reasons) (attempts_at plan.routes batch.address)) (so_far plan start first c (Waiting batch call k) e h l)
read_event plan start first c o _ _ p g (Accepts batch call k outcome answer effects e own is) heard h = finish_read plan start first (accepted plan batch call answer effects c) (so_far plan start first c (Waiting batch call k) e h)
read_event plan start first c o _ _ p g (Misses batch call k outcome answer specs e own is) heard h = open_read plan start first batch.address (length batch.letters) (missed plan batch call answer specs c) (so_far plan start first c (Waiting batch call k) e h)

-- nothing was read yet
pub first_read : (plan : Plan) (start : Origin) (first : Lists) → WasRead plan start first (first_control plan start)
first_read plan start first = λ l. by (goes_on_behind plan start.turn)
  where
    none : (t : Bool) → nat_lt start.turn start.turn ≡ t → AllTaken first (cond t (splits_in plan.routes.ingresses) 0) start.counts
    none true e = absurd (let less = ltb-true start.turn start.turn e in omega (arith, less))
    none false e = nothing first start.counts

    by : (t : Bool) → AllTaken first (upto plan start start.turn (cond t Asking (Stopped (TurnsSpent (taken_in []))))) start.counts
    by true = none (nat_lt start.turn start.turn) refl
    by false = nothing first start.counts

pub delivered : (plan : Plan) (start : Origin) (first : Lists) (last : Control) (taken : ℕ) → last.phase ≡ Stopped (Done taken) → is_idle last.work ≡ true → last.left ≡ false → ((address : Address) → last.work.post.letters address ≡ []) → WasRead plan start first last → IsDelivered plan.routes first last
delivered plan start first last taken e idle none letters h = record { idle = idle; letters = letters; taken = so_far plan start first last (Stopped (Done taken)) e h none }

-- between two turns, once one was made
pub delivered_at_rest : (plan : Plan) (start : Origin) (first : Lists) (last : Control) → last.phase ≡ Asking → start.turn < last.turn → is_idle last.work ≡ true → last.left ≡ false → ((address : Address) → last.work.post.letters address ≡ []) → WasRead plan start first last
    → IsDelivered plan.routes first last
delivered_at_rest plan start first last e made idle none letters h = record {
  idle = idle;
  letters = letters;
  taken = subst (λ (t : Bool). AllTaken first (cond t (splits_in plan.routes.ingresses) 0) last.counts) (lt-ltb start.turn last.turn made) (so_far plan start first last Asking e h none);
}

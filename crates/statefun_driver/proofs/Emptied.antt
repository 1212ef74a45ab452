-- At Done no letter is left: who has letters is in line, unless some are in flight, and none are between two batches.
use Rattle.std.proofs.Common.{◌≡◌, ◌∙◌, refl, sym, ap, subst, ℕ, zero, suc, ◌+◌, List, [], ◌∷◌, ◌++◌, length, Bool, true, false, cond, filter, drop, slice_get, Option, Some, None, nat_lt}
use Rattle.std.specs.Prelude.{not, ◌||◌, ◌^◌}
use Rattle.std.specs.Option.{option_map_or}
use Rattle.std.specs.List.{list_any}
use Rattle.std.specs.Cmp.{first_so}
use Rattle.typed_values.specs.declared.address.Address.{Address}
use Rattle.typed_values.specs.declared.letter.Letter.{Letter}
use Rattle.typed_values.specs.declared.record.Delay.{Delay}
use Rattle.typed_values.specs.Delays.{due_at}
use Rattle.typed_values.specs.Sameness.{same_address}
use Rattle.typed_values.proofs.Sameness.{same_address-Decides}
use Rattle.batch_queue.specs.Post.{Post, waits, with_letters, put, taken}
use Rattle.address_routing.specs.declared.module.Module.{Module}
use Rattle.address_routing.specs.declared.module.Endpoint.{Endpoint}
use Rattle.address_routing.specs.Routing.{splits_in, endpoint_of}
use Rattle.run_record.specs.Letters.{letters_of}
use Rattle.run_record.specs.Machine.{later_letter}
use Rattle.partition_core.specs.declared.bounds.Bounds.{Bounds}
use Rattle.partition_core.specs.Batches.{batch_at}
use Rattle.partition_core.specs.Work.{put_all, done, is_empty, is_idle}
use Rattle.statefun_driver.specs.declared.end.End.TheVariants.{Done, TurnsSpent, EndpointFailed}
use Rattle.statefun_driver.specs.Seen.{Event}
use Rattle.statefun_driver.specs.Turns.{Plan, Control, Phase, Reading, Asking, Opening, Waiting, Stopped, Asked, Origin, first_control, at, recorded, quota, dues}
use Rattle.statefun_driver.specs.Turns.{taken_in, ends_done, goes_on_behind, begun, finish, opening, bounds_of, opened_by, open_batch, serve_first, serve, due_recorded, send_due, read_from, take_record, read_on}
use Rattle.statefun_driver.specs.Turns.{attempts_at, with_reason}
use Rattle.statefun_driver.specs.Origins.{AreLined, NoneFlies}
use Rattle.statefun_driver.proofs.Moving.{Moved, BrokeOff, ReadNone, ReadLarge, Took, SawMoment, Began, PolledNone, FailedBy, Accepts, Misses, accepted, missed}
use Rattle.statefun_driver.proofs.Lined.{same_itself}

any_left : (test : Address → Bool) (xs ys : List Address) → list_any test xs ≡ true → list_any test (xs ++ ys) ≡ true
any_left test [] ys e = absurd (let k : false ≡ true = e in cc)
any_left test (x ∷ xs) ys e = by (test x) e (any_left test xs ys)
  where
    by : (t : Bool) → (t || list_any test xs) ≡ true → (list_any test xs ≡ true → list_any test (xs ++ ys) ≡ true) → (t || list_any test (xs ++ ys)) ≡ true
    by true f more = refl
    by false f more = more f

any_last : (test : Address → Bool) (xs : List Address) (y : Address) → test y ≡ true → list_any test (xs ++ y ∷ []) ≡ true
any_last test [] y e = ap (λ t. t || false) e
any_last test (x ∷ xs) y e = by (test x) (any_last test xs y e)
  where
    by : (t : Bool) → list_any test (xs ++ y ∷ []) ≡ true → (t || list_any test (xs ++ y ∷ [])) ≡ true
    by true more = refl
    by false more = more

any_filter : (test keep : Address → Bool) (xs : List Address) → ((x : Address) → test x ≡ true → keep x ≡ true) → list_any test xs ≡ true → list_any test (filter keep xs) ≡ true
any_filter test keep [] f e = e
any_filter test keep (x ∷ xs) f e = by (test x) (keep x) refl refl e (any_filter test keep xs f)
  where
    by : (t k : Bool) → test x ≡ t → keep x ≡ k → (t || list_any test xs) ≡ true → (list_any test xs ≡ true → list_any test (filter keep xs) ≡ true) → list_any test (cond k (x ∷ filter keep xs) (filter keep xs)) ≡ true
    by true true a b e more = ap (λ t. t || list_any test (filter keep xs)) a
    by true false a b e more = absurd (let k : true ≡ false = sym (f x a) ∙ b in cc)
    by false true a b e more = ap (λ t. t || list_any test (filter keep xs)) a ∙ more e
    by false false a b e more = more e

-- whatever letters an address has now, and whoever of them is in flight
lined_with : (post : Post) (address : Address) (letters : List Letter) (count : ℕ) → AreLined post → AreLined (with_letters address letters count post)
lined_with post address letters count h other = by (same_address address other) (waits letters count) refl refl
  where
    Line : Bool → List Address
    Line w = cond w (cond (list_any (same_address address) post.ready) post.ready (post.ready ++ address ∷ [])) (filter (λ x. not (same_address address x)) post.ready)

    same_so : same_address address other ≡ true → (x : Address) → same_address other x ≡ same_address address x
    same_so e x = ap (λ (a : Address). same_address a x) (sym ((same_address-Decides address other).0 e))

    joined : (t : Bool) → list_any (same_address address) post.ready ≡ t → list_any (same_address address) (cond t post.ready (post.ready ++ address ∷ [])) ≡ true
    joined true e = e
    joined false e = any_last (same_address address) post.ready address (same_itself address)

    stays : (t : Bool) → list_any (same_address other) post.ready ≡ true → list_any (same_address other) (cond t post.ready (post.ready ++ address ∷ [])) ≡ true
    stays true e = e
    stays false e = any_left (same_address other) post.ready (address ∷ []) e

    another : same_address address other ≡ false → (x : Address) → same_address other x ≡ true → not (same_address address x) ≡ true
    another e x same = ap not (ap (same_address address) (sym ((same_address-Decides other x).0 same)) ∙ e)

    by : (s w : Bool) → same_address address other ≡ s → waits letters count ≡ w → waits (cond s letters (post.letters other)) (cond s count (post.in_flight other)) ≡ true
        → list_any (same_address other) (cond w (cond (list_any (same_address address) post.ready) post.ready (post.ready ++ address ∷ [])) (filter (λ x. not (same_address address x)) post.ready)) ≡ true
    by true true e f ready = subst (λ (a : Address). list_any (same_address a) (cond (list_any (same_address address) post.ready) post.ready (post.ready ++ address ∷ [])) ≡ true) ((same_address-Decides address other).0 e) (joined (list_any (same_address address) post.ready) refl)
    by true false e f ready = absurd (let k : false ≡ true = sym f ∙ ready in cc)
    by false true e f ready = stays (list_any (same_address address) post.ready) (h other ready)
    by false false e f ready = any_filter (same_address other) (λ x. not (same_address address x)) post.ready (another e) (h other ready)

-- ---- letters in flight

abbrev OthersRest : Address → Post → Type 0
OthersRest address post = (other : Address) → same_address address other ≡ false → post.in_flight other ≡ 0

abbrev Flights : Phase → Post → Type 0
Flights Asking post = NoneFlies post
Flights (Reading split count) post = NoneFlies post
Flights (Opening batch) post = OthersRest batch.address post
Flights (Waiting batch call polls) post = OthersRest batch.address post
Flights (Stopped (Done taken)) post = NoneFlies post
Flights (Stopped end) post = Unit {0}

pub record AreKept (phase : Phase) (post : Post) : Type 0 where
  pub lined : AreLined post
  pub flights : Flights phase post

flies_with : (post : Post) (address : Address) (letters : List Letter) (count : ℕ) → OthersRest address post → count ≡ 0 → NoneFlies (with_letters address letters count post)
flies_with post address letters count h e other = by (same_address address other) refl
  where
    by : (t : Bool) → same_address address other ≡ t → cond t count (post.in_flight other) ≡ 0
    by true same = e
    by false same = h other same

others_with : (post : Post) (address : Address) (letters : List Letter) (count : ℕ) → OthersRest address post → OthersRest address (with_letters address letters count post)
others_with post address letters count h other same = ap (λ t. cond t count (post.in_flight other)) same ∙ h other same

pub put_lined : (letters : List Letter) (post : Post) → AreLined post → AreLined (put_all letters post)
put_lined [] post h = h
put_lined (letter ∷ letters) post h = put_lined letters (put letter post) (lined_with post letter.target (post.letters letter.target ++ letter ∷ []) (post.in_flight letter.target) h)

pub put_flies : (letters : List Letter) (post : Post) → NoneFlies post → NoneFlies (put_all letters post)
put_flies [] post h = h
put_flies (letter ∷ letters) post h = put_flies letters (put letter post) (flies_with post letter.target (post.letters letter.target ++ letter ∷ []) (post.in_flight letter.target) (λ other same. h other) (h letter.target))

-- ---- where the turns go by themselves

-- between two batches
record AreStill (post : Post) : Type 0 where
  lined : AreLined post
  none : NoneFlies post

still_put : (letters : List Letter) (post : Post) → AreStill post → AreStill (put_all letters post)
still_put letters post h = record { lined = put_lined letters post h.lined; none = put_flies letters post h.none }

kept_finish : (plan : Plan) (c : Control) → AreStill c.work.post → AreKept (finish plan c).phase (finish plan c).work.post
kept_finish plan c h = record { lined = h.lined; flights = by (ends_done plan c) (goes_on_behind plan c.turn) }
  where
    by : (t u : Bool) → Flights (cond t (Stopped (Done (taken_in c.entries))) (cond u Asking (Stopped (TurnsSpent (taken_in c.entries))))) c.work.post
    by true u = h.none
    by false true = h.none
    by false false = tt

kept_opening : (plan : Plan) (bounds : Bounds) (address : Address) (batch : List Letter) (c : Control) → AreStill c.work.post → AreKept (opening bounds address batch c).phase (opening bounds address batch c).work.post
kept_opening plan bounds address [] c h = record { lined = h.lined; flights = tt }
kept_opening plan bounds address (letter ∷ batch) c h = record {
  lined = lined_with c.work.post address (c.work.post.letters address) (length (letter ∷ batch)) h.lined;
  flights = others_with c.work.post address (c.work.post.letters address) (length (letter ∷ batch)) (λ other same. h.none other);
}

kept_open : (plan : Plan) (address : Address) (most : ℕ) (c : Control) → AreStill c.work.post → AreKept (open_batch plan address most c).phase (open_batch plan address most c).work.post
kept_open plan address most c h = by (endpoint_of plan.routes address.kind)
  where
    by : (o : Option Endpoint) → AreKept (opened_by plan address most c o).phase (opened_by plan address most c o).work.post
    by None = kept_finish plan c h
    by (Some endpoint) = kept_opening plan (bounds_of endpoint most) address (batch_at (bounds_of endpoint most) c.moment address c.work) c h

kept_serve : (plan : Plan) (c : Control) → AreStill c.work.post → AreKept (serve plan c).phase (serve plan c).work.post
kept_serve plan c h = by (slice_get c.work.post.ready 0)
  where
    by : (o : Option Address) → AreKept (serve_first plan c o).phase (serve_first plan c o).work.post
    by None = kept_finish plan c h
    by (Some address) = kept_open plan address (2 ^ 32) c h

still_due : (m : Module) (n : ℕ) (c : Control) → AreStill c.work.post → AreStill (send_due m n c).work.post
unfolding recorded done
still_due m zero c h = h
still_due m (suc n) c h = by (due_at c.moment c.work.delays) (λ due. still_due m n (due_recorded m due c) (still_put (later_letter due.0.sender due ∷ []) c.work.post h))
  where
    by : (o : Option (Delay × List Delay)) → ((due : Delay × List Delay) → AreStill (send_due m n (due_recorded m due c)).work.post) → AreStill (option_map_or (λ (due : Delay × List Delay). send_due m n (due_recorded m due c)) o c).work.post
    by None more = h
    by (Some due) more = more due

kept_read : (plan : Plan) (split : ℕ) (c : Control) → AreStill c.work.post → AreKept (read_from plan split c).phase (read_from plan split c).work.post
kept_read plan split c h = by (nat_lt split (splits_in plan.routes.ingresses))
  where
    by : (t : Bool) → AreKept (cond t (at (Reading split 0) c) (serve plan (send_due plan.routes dues c))).phase (cond t (at (Reading split 0) c) (serve plan (send_due plan.routes dues c))).work.post
    by true = record { lined = h.lined; flights = h.none }
    by false = kept_serve plan (send_due plan.routes dues c) (still_due plan.routes dues c h)

kept_read_on : (plan : Plan) (split count : ℕ) (c : Control) → AreStill c.work.post → AreKept (read_on plan split count c).phase (read_on plan split count c).work.post
kept_read_on plan split count c h = by (nat_lt count quota)
  where
    by : (t : Bool) → AreKept (cond t (at (Reading split count) c) (read_from plan (split + 1) (record c { left = true }))).phase (cond t (at (Reading split count) c) (read_from plan (split + 1) (record c { left = true }))).work.post
    by true = record { lined = h.lined; flights = h.none }
    by false = kept_read plan (split + 1) (record c { left = true }) h

-- ---- one event

flights_in : (c : Control) (phase : Phase) → c.phase ≡ phase → AreKept c.phase c.work.post → Flights phase c.work.post
flights_in c phase e h = subst (λ (x : Phase). Flights x c.work.post) e h.flights

tried_kept : (batch : Asked) (post : Post) (t : Bool) → OthersRest batch.address post → Flights (cond t (Opening batch) (Stopped (EndpointFailed batch.address batch.reasons))) post
tried_kept batch post true h = h
tried_kept batch post false h = tt

-- the letters in flight leave for good, or wait again
still_settled : (post : Post) (address : Address) (letters : List Letter) → AreLined post → OthersRest address post → AreStill (with_letters address letters 0 post)
still_settled post address letters h k = record { lined = lined_with post address letters 0 h; none = flies_with post address letters 0 k refl }

pub kept_event : (plan : Plan) (c : Control) (event : Event) (d : Control) → Moved plan c event d → AreKept c.phase c.work.post → AreKept d.phase d.work.post
unfolding recorded done
kept_event plan c _ _ (BrokeOff by) h = record { lined = h.lined; flights = tt }
kept_event plan c _ _ (ReadNone split count offset e is) h = kept_read plan (split + 1) c (record { lined = h.lined; none = flights_in c (Reading split count) e h })
kept_event plan c _ _ (ReadLarge split count offset found e large) h = record { lined = h.lined; flights = tt }
kept_event plan c _ _ (Took split count offset found e is) h =
    kept_read_on plan split (count + 1) (take_record plan.routes split found c) (still_put (letters_of plan.routes split found) c.work.post (record { lined = h.lined; none = flights_in c (Reading split count) e h }))
kept_event plan c _ _ (SawMoment moment e) h = kept_read plan 0 (begun moment c) (record { lined = h.lined; none = flights_in c Asking e h })
kept_event plan c _ _ (Began batch url request e place is) h = record { lined = h.lined; flights = flights_in c (Opening batch) e h }
kept_event plan c _ _ (PolledNone batch call k outcome e) h = record { lined = h.lined; flights = flights_in c (Waiting batch call k) e h }
kept_event plan c _ _ (FailedBy batch call k outcome why e is late) h = record {
  lined = h.lined;
  flights = tried_kept (with_reason batch why) c.work.post (nat_lt (length (with_reason batch why).reasons) (attempts_at plan.routes batch.address)) (flights_in c (Waiting batch call k) e h);
}
kept_event plan c _ _ (Accepts batch call k outcome answer effects e own is) h =
    kept_finish plan (accepted plan batch call answer effects c) (still_put effects.letters (taken batch.address c.work.post)
    (still_settled c.work.post batch.address (drop (c.work.post.in_flight batch.address) (c.work.post.letters batch.address)) h.lined (flights_in c (Waiting batch call k) e h)))
kept_event plan c _ _ (Misses batch call k outcome answer specs e own is) h =
    kept_open plan batch.address (length batch.letters) (missed plan batch call answer specs c) (still_settled c.work.post batch.address (c.work.post.letters batch.address) h.lined (flights_in c (Waiting batch call k) e h))

pub kept_first : (plan : Plan) (start : Origin) → AreLined start.work.post → NoneFlies start.work.post → AreKept (first_control plan start).phase start.work.post
kept_first plan start lined none = record { lined = lined; flights = by (goes_on_behind plan start.turn) }
  where
    by : (t : Bool) → Flights (cond t Asking (Stopped (TurnsSpent (taken_in [])))) start.work.post
    by true = none
    by false = tt

-- ---- at Done

none_in_line : (line : List Address) → is_empty line ≡ true → (address : Address) → list_any (same_address address) line ≡ true → ⊥
none_in_line [] e address any = let k : false ≡ true = any in absurd cc
none_in_line (x ∷ line) e address any = let k : false ≡ true = e in absurd cc

pub none_left : (post : Post) → is_empty post.ready ≡ true → AreLined post → NoneFlies post → (address : Address) → post.letters address ≡ []
none_left post empty lined none address = by (post.letters address) refl
  where
    by : (letters : List Letter) → post.letters address ≡ letters → letters ≡ []
    by [] is = refl
    by (letter ∷ letters) is =
        absurd (none_in_line post.ready empty address (lined address ((λ i. waits (is i) (none address i)))))

pub idle_empty : (c : Control) → is_idle c.work ≡ true → is_empty c.work.post.ready ≡ true
unfolding is_idle
idle_empty c idle = first_so (is_empty c.work.post.ready) (is_empty c.work.delays) idle

pub none_at_done : (c : Control) (taken : ℕ) → c.phase ≡ Stopped (Done taken) → is_idle c.work ≡ true → AreKept c.phase c.work.post → (address : Address) → c.work.post.letters address ≡ []
none_at_done c taken e idle h = none_left c.work.post (idle_empty c idle) h.lined (flights_in c (Stopped (Done taken)) e h)

-- at rest
pub none_at_rest : (c : Control) → c.phase ≡ Asking → AreKept c.phase c.work.post → NoneFlies c.work.post
none_at_rest c e h = flights_in c Asking e h

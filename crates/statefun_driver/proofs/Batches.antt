-- How a batch is opened, and what the attempts at it and its valid answer lead to.
use Rattle.std.proofs.Common.{◌≡◌, ℕ, ◌<◌, ◌≤◌, refl, sym, ◌∙◌, ap, subst, List, [], ◌∷◌, ◌++◌, length, map, take, cond, Bool, true, false, Some, Result, Ok, Err, append-nil, arith}
use Rattle.std.specs.Prelude.{nat_le, min, IfOk, IfErr, OnOk}
use Rattle.std.specs.Cmp.{first_so, second_so}
use Rattle.std.proofs.lemmas.Bool.{leb-true, false_from_ne_true}
use Rattle.std.proofs.lemmas.List.{append_assoc, length-map}
use Rattle.std.proofs.Math.Seq.{take-append_seam}
use Rattle.typed_values.specs.declared.address.Address.{Address}
use Rattle.typed_values.specs.declared.letter.Letter.{Letter}
use Rattle.batch_queue.specs.Batches.{request_size}
use Rattle.batch_queue.specs.Post.{Post, opened as opened_post}
use Rattle.batch_queue.specs.declared.fault.BatchFault.TheVariants.{TooLarge}
use Rattle.batch_queue.proofs.Addresses.{same_itself}
use Rattle.address_routing.specs.declared.module.Endpoint.{Endpoint}
use Rattle.address_routing.specs.declared.module.Module.{Module}
use Rattle.address_routing.specs.Routing.{endpoint_of, url_of}
use Rattle.invocation.specs.Requests.{head_size}
use Rattle.partition_core.specs.declared.bounds.Bounds.{Bounds}
use Rattle.partition_core.specs.declared.opened.Opened.{Opened}
use Rattle.partition_core.specs.Work.{Work}
use Rattle.partition_core.specs.Batches.{keeps, fitting_behind, fitting, batch_at, opened_at, sender_of, request_bytes, Opens, IsTooLarge}
use Rattle.statefun_driver.specs.declared.attempts.Asked.{Asked}
use Rattle.run_record.specs.declared.entry.Entry.{Entry}
use Rattle.statefun_driver.specs.declared.end.Broken.TheVariants.{Memory}
use Rattle.statefun_driver.specs.declared.end.End.{End}
use Rattle.statefun_driver.specs.declared.end.End.TheVariants.{BatchTooLarge, Broke}
use Rattle.statefun_driver.specs.Seen.{Seen}
use Rattle.statefun_driver.specs.Traces.{Leads, Ends, IsFront, IsUnbroken}
use Rattle.statefun_driver.proofs.Leading.{leads_none, ends_wanting}
use Rattle.statefun_driver.proofs.Fronts.{front_same, open_entries}
use Rattle.statefun_driver.proofs.Resting.{unbroken_rests, rest_open}
use Rattle.statefun_driver.specs.Turns.{Plan, Control, Opening, Stopped, at, bounds_of, opening, opened, opened_by, open_batch}
use Rattle.statefun_driver.specs.Work.{Led, flying, opening_at, IsAskedIn}

-- ---- the front of the letters that goes into a batch

module _ (bounds : Bounds) (head : ℕ) where
  behind_front : (front letters : List Letter) → take (length (fitting_behind bounds head front letters)) (front ++ letters) ≡ fitting_behind bounds head front letters
  behind_front front [] = take-append_seam front []
  behind_front front (letter ∷ letters) =
      by (keeps bounds head (front ++ letter ∷ []))
      (ap (take (length (fitting_behind bounds head (front ++ letter ∷ []) letters))) (sym (append_assoc front (letter ∷ []) letters)) ∙ behind_front (front ++ letter ∷ []) letters)
    where
      by : (t : Bool) → take (length (fitting_behind bounds head (front ++ letter ∷ []) letters)) (front ++ letter ∷ letters) ≡ fitting_behind bounds head (front ++ letter ∷ []) letters
          → take (length (cond t (fitting_behind bounds head (front ++ letter ∷ []) letters) front)) (front ++ letter ∷ letters) ≡ cond t (fitting_behind bounds head (front ++ letter ∷ []) letters) front
      by true more = more
      by false more = take-append_seam front (letter ∷ letters)

  behind_few : (front letters : List Letter) → length front ≤ bounds.max_letters → length (fitting_behind bounds head front letters) ≤ bounds.max_letters
  behind_few front [] few = few
  behind_few front (letter ∷ letters) few = by (keeps bounds head (front ++ letter ∷ [])) refl (behind_few (front ++ letter ∷ []) letters)
    where
      by : (t : Bool) → keeps bounds head (front ++ letter ∷ []) ≡ t → (length (front ++ letter ∷ []) ≤ bounds.max_letters → length (fitting_behind bounds head (front ++ letter ∷ []) letters) ≤ bounds.max_letters)
          → length (cond t (fitting_behind bounds head (front ++ letter ∷ []) letters) front) ≤ bounds.max_letters
      by true so more =
          more (leb-true (length (front ++ letter ∷ [])) bounds.max_letters
          (first_so (nat_le (length (front ++ letter ∷ [])) bounds.max_letters) (nat_le (request_size head (front ++ letter ∷ [])) bounds.max_bytes) so))
      by false so more = few

  fitting_front : (letters : List Letter) → take (length (fitting bounds head letters)) letters ≡ fitting bounds head letters
  unfolding fitting
  fitting_front letters = behind_front [] letters

  fitting_few : (letters : List Letter) → length (fitting bounds head letters) ≤ bounds.max_letters
  unfolding fitting
  fitting_few letters = behind_few [] letters (omega arith)

  too_large : (letter : Letter) → bounds.max_bytes < request_size head (letter ∷ []) → keeps bounds head (letter ∷ []) ≡ false
  too_large letter large =
      false_from_ne_true (keeps bounds head (letter ∷ []))
      (λ so. let le = leb-true (request_size head (letter ∷ [])) bounds.max_bytes (second_so (nat_le (length (letter ∷ [])) bounds.max_letters) (nat_le (request_size head (letter ∷ [])) bounds.max_bytes) so) in
      absurd (omega (arith, le, large)))

  none_fits : (letters : List Letter) → bounds.max_bytes < request_size head (take 1 letters) → fitting bounds head letters ≡ []
  unfolding fitting
  none_fits [] large = refl
  none_fits (letter ∷ letters) large = ap (λ t. cond t (fitting_behind bounds head (letter ∷ []) letters) []) (too_large letter large)

-- ---- opening

-- the letters of an address that are in flight behind an opening
flight_at : (address : Address) (count : ℕ) (post : Post) → take ((opened_post address count post).in_flight address) ((opened_post address count post).letters address) ≡ take count (post.letters address)
flight_at address count post = ap (λ t. take (cond t count (post.in_flight address)) (cond t (post.letters address) (post.letters address))) (same_itself address)

abbrev pub asked_bounds : Endpoint → ℕ → Bounds
asked_bounds endpoint most = record { max_letters = most; max_bytes = endpoint.max_bytes }

least : (a b : ℕ) → b ≤ a → min a b ≡ b
least a b h = omega arith

bounds_is : (endpoint : Endpoint) (most : ℕ) → most ≤ endpoint.max_letters → bounds_of endpoint most ≡ asked_bounds endpoint most
bounds_is endpoint most few = ap (asked_bounds endpoint) (least endpoint.max_letters most few)

open_is : (plan : Plan) (address : Address) (most : ℕ) (endpoint : Endpoint) (c : Control) → endpoint_of plan.routes address.kind ≡ Some endpoint → most ≤ endpoint.max_letters → open_batch plan address most c ≡ opened (asked_bounds endpoint most) address c
open_is plan address most endpoint c is few = ap (opened_by plan address most c) is ∙ ap (λ b. opened b address c) (bounds_is endpoint most few)

abbrev pub with_work : Control → Work → Control
with_work c work = record c { work = work }

opened_one : (bounds : Bounds) (address : Address) (c : Control) (letters : List Letter) → 0 < length letters → take (length letters) (c.work.post.letters address) ≡ letters
    → opening bounds address letters c ≡ opening_at address [] (with_work c (opened_at address letters c.work))
opened_one bounds address c [] some front = absurd (omega (arith, some))
opened_one bounds address c (letter ∷ letters) some front =
    ap (λ ls. at (Opening (record { address = address; letters = ls; reasons = [] })) (with_work c (opened_at address (letter ∷ letters) c.work)))
    (sym (flight_at address (length (letter ∷ letters)) c.work.post ∙ front))

pub open_some : (plan : Plan) (address : Address) (most : ℕ) (endpoint : Endpoint) (c : Control) → endpoint_of plan.routes address.kind ≡ Some endpoint → most ≤ endpoint.max_letters → (batch : Opened) (work : Work)
    → Opens (asked_bounds endpoint most) c.moment address c.work (Some batch) work → open_batch plan address most c ≡ opening_at address [] (with_work c work)
open_some plan address most endpoint c is few batch work h =
    let bounds : Bounds = asked_bounds endpoint most in
    open_is plan address most endpoint c is few
    ∙ opened_one bounds address c (batch_at bounds c.moment address c.work) h.0 (fitting_front bounds (head_size address (c.work.cells address) c.moment) (c.work.post.letters address))
    ∙ ap (λ w. opening_at address [] (with_work c w)) (sym h.3)

pub open_large : (plan : Plan) (address : Address) (most : ℕ) (endpoint : Endpoint) (c : Control) → endpoint_of plan.routes address.kind ≡ Some endpoint → most ≤ endpoint.max_letters → (size limit : ℕ)
    → IsTooLarge (asked_bounds endpoint most) c.moment address c.work (TooLarge size limit) → open_batch plan address most c ≡ at (Stopped (BatchTooLarge address size limit)) c
open_large plan address most endpoint c is few size limit h =
    let bounds : Bounds = asked_bounds endpoint most in
    open_is plan address most endpoint c is few
    ∙ ap (λ ls. opening bounds address ls c) (none_fits bounds (head_size address (c.work.cells address) c.moment) (c.work.post.letters address) h.0)
    ∙ (λ i. at (Stopped (BatchTooLarge address (sym h.1 i) (sym h.2 i))) c)

flying_is : (bounds : Bounds) (address : Address) (c : Control) (batch : Opened) (work : Work) → Opens bounds c.moment address c.work (Some batch) work → (flying address [] (with_work c work)).letters ≡ batch_at bounds c.moment address c.work
flying_is bounds address c batch work h =
    ap (λ (w : Work). take (w.post.in_flight address) (w.post.letters address)) h.3
    ∙ flight_at address (length (batch_at bounds c.moment address c.work)) c.work.post
    ∙ fitting_front bounds (head_size address (c.work.cells address) c.moment) (c.work.post.letters address)

pub open_cells : (bounds : Bounds) (address : Address) (c : Control) (batch : Opened) (work : Work) → Opens bounds c.moment address c.work (Some batch) work → work.cells ≡ c.work.cells
open_cells bounds address c batch work h = ap (λ (w : Work). w.cells) h.3

-- ---- what it is asked for by

pub asked_led : (plan : Plan) (a : Control) (o : Seen) (r : Result Asked End) (d : Control) (entries : List Entry) → IsUnbroken a.phase → a ≡ d → entries ≡ a.entries → IfErr r (λ end. end ≡ Broke Memory) → Led plan a o r d entries o
asked_led plan a o (Ok asked) d entries u e f h = subst (λ (x : Control). Leads plan a o x o) e (leads_none plan a o)
asked_led plan a o (Err end) d entries u e f h =
    subst (λ (x : End). Ends plan a o entries x o) (sym h) (ends_wanting plan a o a entries o (leads_none plan a o) (u, ([], sym f ∙ sym (append-nil entries))))

one_asked : (m : Module) (bounds : Bounds) (address : Address) (c : Control) (batch : Opened) (work : Work) (asked : Asked) → Opens bounds c.moment address c.work (Some batch) work
    → asked.address ≡ address → url_of m address.kind ≡ Some asked.url → asked.batch ≡ batch → IsAskedIn m address (with_work c work) asked
one_asked m bounds address c batch work asked h whose url is =
    let letters : List Letter = batch_at bounds c.moment address c.work in
    let fly : letters ≡ (flying address [] (with_work c work)).letters = sym (flying_is bounds address c batch work h) in
    record {
      whose = whose;
      url = url;
      picks = ap (λ (b : Opened). b.picks) is ∙ h.1 ∙ ap (map sender_of) fly;
      request = ap (λ (b : Opened). b.request) is ∙ h.2
          ∙ (λ i. request_bytes address (sym (open_cells bounds address c batch work h) i address) c.moment (fly i));
    }

pub open_asked : (m : Module) (bounds : Bounds) (address : Address) (c : Control) (batch : Opened) (work : Work) (r : Result Asked End) → Opens bounds c.moment address c.work (Some batch) work
    → IfOk r (λ asked. asked.address ≡ address) → IfOk r (λ asked. url_of m address.kind ≡ Some asked.url) → IfOk r (λ asked. asked.batch ≡ batch) → IfOk r (λ asked. IsAskedIn m address (with_work c work) asked)
open_asked m bounds address c batch work (Ok asked) h whose url is = one_asked m bounds address c batch work asked h whose url is
open_asked m bounds address c batch work (Err end) h whose url is = tt

picks_are : (bounds : Bounds) (address : Address) (c : Control) (batch : Opened) (work : Work) (asked : Asked) → Opens bounds c.moment address c.work (Some batch) work → asked.batch ≡ batch
    → (0 < length asked.batch.picks) × (length asked.batch.picks ≤ bounds.max_letters)
picks_are bounds address c batch work asked h is =
    let letters : List Letter = batch_at bounds c.moment address c.work in
    let same : length asked.batch.picks ≡ length letters = ap (λ (b : Opened). length b.picks) is ∙ ap length h.1 ∙ length-map letters sender_of in
    let few = fitting_few bounds (head_size address (c.work.cells address) c.moment) (c.work.post.letters address) in
    (omega (arith, same, h.0), omega (arith, same, few))

pub open_some_picks : (bounds : Bounds) (address : Address) (c : Control) (batch : Opened) (work : Work) (r : Result Asked End) → Opens bounds c.moment address c.work (Some batch) work → IfOk r (λ asked. asked.batch ≡ batch) → IfOk r (λ asked. 0 < length asked.batch.picks)
open_some_picks bounds address c batch work (Ok asked) h is = (picks_are bounds address c batch work asked h is).0
open_some_picks bounds address c batch work (Err end) h is = tt

pub open_few_picks : (bounds : Bounds) (address : Address) (c : Control) (batch : Opened) (work : Work) (r : Result Asked End) → Opens bounds c.moment address c.work (Some batch) work → IfOk r (λ asked. asked.batch ≡ batch) → IfOk r (λ asked. length asked.batch.picks ≤ bounds.max_letters)
open_few_picks bounds address c batch work (Ok asked) h is = (picks_are bounds address c batch work asked h is).1
open_few_picks bounds address c batch work (Err end) h is = tt

-- ---- ends at the opening

pub opening_wants : (plan : Plan) (address : Address) (most : ℕ) (c : Control) (o : Seen) → Ends plan (open_batch plan address most c) o c.entries (Broke Memory) o
opening_wants plan address most c o =
    ends_wanting plan (open_batch plan address most c) o (open_batch plan address most c) c.entries o (leads_none plan (open_batch plan address most c) o)
    (rest_open IsUnbroken unbroken_rests plan address most c, subst (IsFront c.entries) (sym (open_entries plan address most c)) (front_same c.entries))

pub opening_fails : (plan : Plan) (address : Address) (most : ℕ) (endpoint : Endpoint) (c : Control) (o : Seen) → endpoint_of plan.routes address.kind ≡ Some endpoint → most ≤ endpoint.max_letters → (whose : Address) → whose ≡ address → (size limit : ℕ)
    → IsTooLarge (asked_bounds endpoint most) c.moment address c.work (TooLarge size limit) → Ends plan (open_batch plan address most c) o c.entries (BatchTooLarge whose size limit) o
opening_fails plan address most endpoint c o is few whose same size limit h =
    subst (λ (a : Address). Ends plan (open_batch plan address most c) o c.entries (BatchTooLarge a size limit) o) (sym same)
    (record {
      last = at (Stopped (BatchTooLarge address size limit)) c;
      leads = subst (λ (x : Control). Leads plan (open_batch plan address most c) o x o) (open_large plan address most endpoint c is few size limit h) (leads_none plan (open_batch plan address most c) o);
      is_end = (refl, refl);
    })

-- what holds anyway holds on an answer
pub on_ok_of : {P : Type 0} (r : Result Asked End) → P → OnOk r P
on_ok_of (Ok asked) h = h
on_ok_of (Err end) h = tt

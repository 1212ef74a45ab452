-- What the attempts at a batch lead to.
use Rattle.std.proofs.Common.{◌≡◌, ℕ, ◌<◌, ◌≤◌, refl, sym, ◌∙◌, ap, subst, List, [], ◌∷◌, ◌++◌, length, cond, Option, Some, Result, Ok, Err, lt-ltb, le-ltb}
use Rattle.std.specs.Option.{option_map_or}
use Rattle.typed_values.specs.declared.address.Address.{Address}
use Rattle.sf_outside.specs.declared.call.Call.{Call}
use Rattle.sf_outside.specs.declared.call.Answered.{Answered}
use Rattle.sf_outside.specs.declared.call.Answered.TheVariants as tells
use Rattle.request_reply.specs.declared.flaw.Reason.{Reason}
use Rattle.address_routing.specs.declared.module.Module.{Module}
use Rattle.address_routing.specs.declared.module.Endpoint.{Endpoint}
use Rattle.address_routing.specs.Routing.{endpoint_of}
use Rattle.invocation.specs.declared.judging.Judged.{Judged}
use Rattle.invocation.specs.declared.judging.Judged.TheVariants.{Accept, Register as Declare, Flaw}
use Rattle.invocation.specs.Judging.{judgement}
use Rattle.run_record.specs.declared.entry.Entry.{Entry}
use Rattle.run_record.specs.declared.entry.Step.TheVariants as step
use Rattle.run_record.specs.Machine.{served, declared}
use Rattle.typed_values.specs.declared.letter.Sender.TheVariants.{Function}
use Rattle.partition_core.specs.Kept.{work_of}
use Rattle.statefun_driver.specs.declared.attempts.Asked.{Asked as Batch}
use Rattle.statefun_driver.specs.declared.attempts.Answer.{Answer}
use Rattle.statefun_driver.specs.declared.progress.Progress.{Progress}
use Rattle.statefun_driver.specs.declared.settled.Valid.{Valid}
use Rattle.statefun_driver.specs.declared.settled.Valid.TheVariants.{Accepted, Missed}
use Rattle.statefun_driver.specs.declared.end.End.{End}
use Rattle.statefun_driver.specs.declared.end.End.TheVariants.{EndpointFailed, Broke}
use Rattle.statefun_driver.specs.declared.end.Broken.TheVariants.{Memory}
use Rattle.statefun_driver.specs.Seen.{Seen}
use Rattle.statefun_driver.specs.Turns.{Plan, Control, Opening, Stopped, Asked, Came, Answers, Failed, at, recorded, own_now, reply_to, came, came_of, settled, fated, attempts_at, patience_at, tried_phase, with_reason}
use Rattle.statefun_driver.specs.Traces.{Leads, Ends, IsEnd, IsFront, IsUnbroken}
use Rattle.statefun_driver.specs.Work.{LedBy, IsAskedIn, flying, here, opening_at, replied, valid_as}
use Rattle.statefun_driver.proofs.Leading.{leads_none, leads_then, ends_then, ends_wanting}
use Rattle.statefun_driver.proofs.Fronts.{front_same, open_entries}
use Rattle.statefun_driver.proofs.Resting.{unbroken_rests, tried_unbroken, rest_finish, rest_open}

-- ---- parts of a run whose answer says where it goes on

pub led_by_then : {A : Type 0} (plan : Plan) (a : Control) (o : Seen) (b : Control) (p : Seen) (r : Result A End) (there : A → Control) (entries : List Entry) (q : Seen) → Leads plan a o b p → LedBy plan b p r there entries q → LedBy plan a o r there entries q
led_by_then plan a o b p (Ok x) there entries q h k = leads_then plan a o b p (there x) q h k
led_by_then plan a o b p (Err end) there entries q h k = ends_then plan a o b p entries end q h k

-- ---- what an answer comes to

pub came_judged : (m : Module) (c : Control) (address : Address) (told : Option Answered) (what : Answered) (bytes : List ℕ) (judged : Judged) → told ≡ Some what → what ≡ tells.Answer bytes
    → judged ≡ judgement m (c.work.cells address) address c.moment bytes → came m c address told ≡ came_of bytes judged
came_judged m c address told what bytes judged e f h = ap (came m c address) (e ∙ ap Some f) ∙ ap (came_of bytes) (sym h)

-- ---- limits of the endpoint

pub attempts_is : (m : Module) (address : Address) (endpoint : Endpoint) → endpoint_of m address.kind ≡ Some endpoint → attempts_at m address ≡ endpoint.attempts
attempts_is m address endpoint is = ap (λ o. option_map_or (λ (e : Endpoint). e.attempts) o 0) is

pub patience_is : (m : Module) (address : Address) (endpoint : Endpoint) → endpoint_of m address.kind ≡ Some endpoint → endpoint.patience ≡ patience_at m address
patience_is m address endpoint is = sym (ap (λ o. option_map_or (λ (e : Endpoint). e.patience) o 0) is)

-- ---- attempts

-- an attempt is left
pub record Tries (plan : Plan) (a : Control) (o : Seen) (address : Address) (reasons : List Reason) (c : Control) (p : Seen) : Type 0 where
  pub leads : Leads plan a o (at (tried_phase plan.routes (flying address reasons c)) c) p
  pub few : length reasons < attempts_at plan.routes address

pub tries : (plan : Plan) (a : Control) (o : Seen) (address : Address) (reasons : List Reason) (c : Control) (p : Seen) → Tries plan a o address reasons c p → Leads plan a o (opening_at address reasons c) p
tries plan a o address reasons c p h =
    subst (λ (x : Control). Leads plan a o x p)
    (ap (λ b. at (cond b (Opening (flying address reasons c)) (Stopped (EndpointFailed address reasons))) c) (lt-ltb (length reasons) (attempts_at plan.routes address) h.few)) h.leads

-- an attempt was made, and this was told of it
pub record Attempted (plan : Plan) (address : Address) (reasons : List Reason) (call : Call) (c : Control) (p : Seen) (told : Option Answered) (d : Control) (q : Seen) : Type 0 where
  pub led : Leads plan (opening_at address reasons c) p (fated plan (flying address reasons d) call d told) q

pub attempt_made : (plan : Plan) (a : Control) (o : Seen) (address : Address) (reasons : List Reason) (call : Call) (c : Control) (p : Seen) (told : Option Answered) (d : Control) (q : Seen) → Tries plan a o address reasons c p → Attempted plan address reasons call c p told d q → Leads plan a o (fated plan (flying address reasons d) call d told) q
attempt_made plan a o address reasons call c p told d q h k = leads_then plan a o (opening_at address reasons c) p (fated plan (flying address reasons d) call d told) q (tries plan a o address reasons c p h) k.led

pub attempt_failed : (plan : Plan) (a : Control) (o : Seen) (address : Address) (reasons : List Reason) (call : Call) (c : Control) (p : Seen) (told : Option Answered) (d : Control) (q : Seen) (why : Reason)
    → Tries plan a o address reasons c p → Attempted plan address reasons call c p told d q → Failed why ≡ came plan.routes d address told
    → Leads plan a o (at (tried_phase plan.routes (flying address (reasons ++ why ∷ []) d)) d) q
attempt_failed plan a o address reasons call c p told d q why h k e =
    subst (λ (x : Came). Leads plan a o (settled plan (flying address reasons d) call d x) q) (sym e) (attempt_made plan a o address reasons call c p told d q h k)

-- what a valid answer leads to does not ask for the reasons
same_reply : (plan : Plan) (address : Address) (reasons : List Reason) (call : Call) (d : Control) (valid : Valid) → settled plan (flying address reasons d) call d (valid_as valid) ≡ settled plan (flying address [] d) call d (valid_as valid)
same_reply plan address reasons call d (Accepted answer effects) = refl
same_reply plan address reasons call d (Missed answer specs) = refl

pub attempt_answered : (plan : Plan) (a : Control) (o : Seen) (address : Address) (reasons : List Reason) (call : Call) (c : Control) (p : Seen) (told : Option Answered) (d : Control) (q : Seen) (valid : Valid)
    → Tries plan a o address reasons c p → Attempted plan address reasons call c p told d q → valid_as valid ≡ came plan.routes d address told
    → Leads plan a o (replied plan address (record { call = call; valid = valid }) d) q
attempt_answered plan a o address reasons call c p told d q valid h k e =
    subst (λ (x : Control). Leads plan a o x q) (ap (settled plan (flying address reasons d) call d) (sym e) ∙ same_reply plan address reasons call d valid) (attempt_made plan a o address reasons call c p told d q h k)

-- no attempt is left
pub tried_out : (plan : Plan) (a : Control) (o : Seen) (address : Address) (reasons : List Reason) (c : Control) (p : Seen) → Leads plan a o (at (tried_phase plan.routes (flying address reasons c)) c) p → attempts_at plan.routes address ≤ length reasons
    → Ends plan a o c.entries (EndpointFailed address reasons) p
tried_out plan a o address reasons c p leads none = record {
  last = at (Stopped (EndpointFailed address reasons)) c;
  leads = subst (λ (x : Control). Leads plan a o x p)
      (ap (λ b. at (cond b (Opening (flying address reasons c)) (Stopped (EndpointFailed address reasons))) c) (le-ltb (length reasons) (attempts_at plan.routes address) none)) leads;
  is_end = (refl, refl);
}

-- ---- memory may run out there, with the entries so far

settled_wants : (plan : Plan) (batch : Asked) (call : Call) (c : Control) (what : Came) → IsUnbroken c.phase → IsEnd (settled plan batch call c what) c.entries (Broke Memory)
unfolding recorded
settled_wants plan batch call c (Failed why) u = (tried_unbroken plan.routes (with_reason batch why), front_same c.entries)
settled_wants plan batch call c (Answers answer (Accept effects)) u =
    let reply = reply_to batch call c answer in
    (rest_finish IsUnbroken unbroken_rests plan (recorded plan.routes (step.Batch reply) (served reply effects (own_now c (Function reply.address))) c), (_, refl))
settled_wants plan batch call c (Answers answer (Declare specs)) u =
    let reply = reply_to batch call c answer in
    let next : Control = recorded plan.routes (step.Register reply) (declared reply specs (own_now c (Function reply.address))) c in (
      rest_open IsUnbroken unbroken_rests plan batch.address (length batch.letters) next,
      subst (IsFront c.entries) (sym (open_entries plan batch.address (length batch.letters) next)) (_, refl),
    )
settled_wants plan batch call c (Answers answer (Flaw flaw)) u = (u, front_same c.entries)

pub attempt_wants : (plan : Plan) (a : Control) (o : Seen) (address : Address) (reasons : List Reason) (call : Call) (c : Control) (p : Seen) (told : Option Answered) (d : Control) (q : Seen) → Tries plan a o address reasons c p → Attempted plan address reasons call c p told d q → IsUnbroken d.phase
    → Ends plan a o d.entries (Broke Memory) q
attempt_wants plan a o address reasons call c p told d q h k u =
    let batch = flying address reasons d in
    ends_wanting plan a o (fated plan batch call d told) d.entries q (attempt_made plan a o address reasons call c p told d q h k) (settled_wants plan batch call d (came plan.routes d address told) u)

pub replied_wants : (plan : Plan) (address : Address) (answer : Answer) (c : Control) (o : Seen) → IsUnbroken c.phase → Ends plan (replied plan address answer c) o c.entries (Broke Memory) o
replied_wants plan address answer c o u =
    let from = replied plan address answer c in
    ends_wanting plan from o from c.entries o (leads_none plan from o) (settled_wants plan (flying address [] c) answer.call c (valid_as answer.valid) u)

-- ---- only the number of calls changes

pub only_calls : (p q r : Progress) → q ≡ record p { calls = q.calls } → r ≡ record q { calls = r.calls } → r ≡ record p { calls = r.calls }
only_calls p q r h e = e ∙ ap (λ (x : Progress). record x { calls = r.calls }) h

asked_called : (m : Module) (address : Address) (p : Progress) (calls : ℕ) (asked : Batch) → IsAskedIn m address (here p) asked → IsAskedIn m address (here (record p { calls = calls })) asked
unfolding here
asked_called m address p calls asked h = record { whose = h.whose; url = h.url; picks = h.picks; request = h.request }

pub asked_still : (m : Module) (address : Address) (p q : Progress) (asked : Batch) → q ≡ record p { calls = q.calls } → IsAskedIn m address (here p) asked → IsAskedIn m address (here q) asked
asked_still m address p q asked e h = subst (λ (x : Progress). IsAskedIn m address (here x) asked) (sym e) (asked_called m address p q.calls asked h)

pub cells_still : (p q : Progress) → q ≡ record p { calls = q.calls } → (here q).work.cells ≡ (here p).work.cells
unfolding here
cells_still p q e = ap (λ (x : Progress). (work_of x.partition).cells) e

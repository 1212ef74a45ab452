-- What a valid answer does, and where the turns go on behind it.
use Rattle.std.proofs.Common.{◌≡◌, ℕ, ◌+◌, ◌-◌, ◌<◌, refl, sym, ◌∙◌, ap, subst, List, [], ◌∷◌, ◌++◌, length, map, take, cond, true, arith}
use Rattle.std.proofs.lemmas.List.{length-map, length-take}
use Rattle.typed_values.specs.declared.address.Address.{Address}
use Rattle.typed_values.specs.declared.cell.CellSpec.{CellSpec}
use Rattle.typed_values.specs.declared.letter.Letter.{Letter}
use Rattle.typed_values.specs.declared.letter.Sender.{Sender}
use Rattle.typed_values.specs.declared.letter.Sender.TheVariants.{Function}
use Rattle.sf_outside.specs.declared.call.Call.{Call}
use Rattle.state_cells.specs.Lifetimes.{Registers, after_all as cells_after}
use Rattle.batch_queue.specs.Post.{Post, waits, is_ready, returned}
use Rattle.batch_queue.proofs.Addresses.{same_itself}
use Rattle.address_routing.specs.declared.module.Module.{Module}
use Rattle.address_routing.specs.Routing.{splits_in}
use Rattle.invocation.specs.declared.effects.Effects.{Effects}
use Rattle.invocation.specs.Laws.{AreNew}
use Rattle.run_record.specs.declared.entry.Reply.{Reply}
use Rattle.run_record.specs.declared.entry.Step.TheVariants as step
use Rattle.run_record.specs.Machine.{Own, served, declared}
use Rattle.partition_core.specs.declared.partition.Partition.{Partition}
use Rattle.partition_core.specs.Work.{Work, own_of, done}
use Rattle.partition_core.specs.Batches.{sender_of}
use Rattle.partition_core.specs.Kept.{work_of}
use Rattle.statefun_driver.specs.declared.progress.Progress.{Progress}
use Rattle.statefun_driver.specs.declared.attempts.Asked.{Asked}
use Rattle.statefun_driver.specs.declared.settled.Valid.TheVariants.{Accepted, Missed}
use Rattle.statefun_driver.specs.Turns.{Plan, Control, finish, open_batch, recorded, own_now, reply_to}
use Rattle.statefun_driver.specs.Work.{here, flying, replied, GoesAgain, IsAskedIn}
use Rattle.statefun_driver.proofs.Taking.{more_cells}

-- ---- the letters in flight

pub picks_count : (m : Module) (address : Address) (c : Control) (asked : Asked) → IsAskedIn m address c asked → length (flying address [] c).letters ≡ length asked.batch.picks
picks_count m address c asked h = sym (ap length h.picks ∙ length-map (flying address [] c).letters sender_of)

pub some_flying : (m : Module) (address : Address) (c : Control) (asked : Asked) → IsAskedIn m address c asked → 0 < length asked.batch.picks → 0 < c.work.post.in_flight address
some_flying m address c asked h some =
    let count = picks_count m address c asked h in
    let least = length-take (c.work.post.in_flight address) (c.work.post.letters address) in
    omega (arith, count, least, some)

-- ---- the step is recorded

pub reply_is : (m : Module) (address : Address) (call : Call) (c : Control) (asked : Asked) (answer : List ℕ) (reply : Reply) → IsAskedIn m address c asked
    → reply ≡ record { call = call; address = address; moment = c.moment; picks = asked.batch.picks; answer = answer } → reply ≡ reply_to (flying address [] c) call c answer
reply_is m address call c asked answer reply h is = is ∙ ap (λ (picks : List Sender). record { call = call; address = address; moment = c.moment; picks = picks; answer = answer }) h.picks

pub batch_made : (m : Module) (p q : Progress) (partition : Partition) (reply : Reply) (effects : Effects) (node : ℕ) → node ≡ splits_in m.ingresses
    → work_of partition ≡ done (step.Batch reply) (served reply effects (own_of (work_of p.partition) reply.address)) (work_of p.partition)
    → q ≡ record p { partition = partition; entries = p.entries ++ record { leg = p.turn; stamp = length p.entries - p.before + 1; node = node; step = step.Batch reply } ∷ [] }
    → here q ≡ recorded m (step.Batch reply) (served reply effects (own_now (here p) (Function reply.address))) (here p)
unfolding here recorded
batch_made m p q partition reply effects node node_is work is =
    ap here is ∙ (λ i. record (here p) { work = work i; entries = p.entries ++ record { leg = p.turn; stamp = length p.entries - p.before + 1; node = node_is i; step = step.Batch reply } ∷ [] })

pub register_made : (m : Module) (p q : Progress) (partition : Partition) (reply : Reply) (specs : List CellSpec) (node : ℕ) → node ≡ splits_in m.ingresses
    → work_of partition ≡ done (step.Register reply) (declared reply specs (own_of (work_of p.partition) reply.address)) (work_of p.partition)
    → q ≡ record p { partition = partition; entries = p.entries ++ record { leg = p.turn; stamp = length p.entries - p.before + 1; node = node; step = step.Register reply } ∷ [] }
    → here q ≡ recorded m (step.Register reply) (declared reply specs (own_now (here p) (Function reply.address))) (here p)
unfolding here recorded
register_made m p q partition reply specs node node_is work is =
    ap here is ∙ (λ i. record (here p) { work = work i; entries = p.entries ++ record { leg = p.turn; stamp = length p.entries - p.before + 1; node = node_is i; step = step.Register reply } ∷ [] })

-- ---- where the turns go on

pub accepted_leads : (plan : Plan) (address : Address) (call : Call) (c d : Control) (answer : List ℕ) (effects : Effects) (reply : Reply) → reply ≡ reply_to (flying address [] c) call c answer
    → d ≡ recorded plan.routes (step.Batch reply) (served reply effects (own_now c (Function reply.address))) c
    → replied plan address (record { call = call; valid = Accepted answer effects }) c ≡ finish plan d
accepted_leads plan address call c d answer effects reply is made =
    ap (λ (r : Reply). finish plan (recorded plan.routes (step.Batch r) (served r effects (own_now c (Function r.address))) c)) (sym is) ∙ ap (finish plan) (sym made)

pub missed_leads : (plan : Plan) (address : Address) (call : Call) (c d : Control) (answer : List ℕ) (specs : List CellSpec) (reply : Reply) (count : ℕ) → reply ≡ reply_to (flying address [] c) call c answer
    → d ≡ recorded plan.routes (step.Register reply) (declared reply specs (own_now c (Function reply.address))) c → length (flying address [] c).letters ≡ count
    → replied plan address (record { call = call; valid = Missed answer specs }) c ≡ open_batch plan address count d
missed_leads plan address call c d answer specs reply count is made same =
    ap (λ (r : Reply). open_batch plan address (length (flying address [] c).letters) (recorded plan.routes (step.Register r) (declared r specs (own_now c (Function r.address))) c)) (sym is)
    ∙ (λ i. open_batch plan address (same i) (sym made i))

-- ---- an address whose letters go again

returned_ready : (address : Address) (post : Post) → 0 < length (take (post.in_flight address) (post.letters address)) → is_ready (returned address post) address ≡ true
returned_ready address post some =
    ap (λ t. waits (cond t (post.letters address) (post.letters address)) (cond t 0 (post.in_flight address))) (same_itself address) ∙ by (post.letters address) some
  where
    by : (letters : List Letter) → 0 < length (take (post.in_flight address) letters) → waits letters 0 ≡ true
    by [] some = let none = length-take {A = Letter} (post.in_flight address) [] in absurd (omega (arith, none, some))
    by (letter ∷ letters) some = refl

registered_ready : (reply : Reply) (specs : List CellSpec) (own : Own) (work : Work) → 0 < length (take (work.post.in_flight reply.address) (work.post.letters reply.address)) → is_ready (done (step.Register reply) (declared reply specs own) work).post reply.address ≡ true
unfolding done
registered_ready reply specs own work some = returned_ready reply.address work.post some

registered_cells : (reply : Reply) (specs : List CellSpec) (own : Own) (work : Work) → (done (step.Register reply) (declared reply specs own) work).cells reply.address ≡ cells_after (map Registers specs) (work.cells reply.address)
unfolding done
registered_cells reply specs own work = ap (λ t. cond t (cells_after (map Registers specs) (work.cells reply.address)) (work.cells reply.address)) (same_itself reply.address)

goes_at : (c d : Control) (reply : Reply) (specs : List CellSpec) (own : Own) (count : ℕ) → d.work ≡ done (step.Register reply) (declared reply specs own) c.work
    → AreNew (c.work.cells reply.address) specs → 0 < length specs → 0 < count → length (flying reply.address [] c).letters ≡ count → GoesAgain reply.address count c d count
goes_at c d reply specs own count made new some positive same =
    let cells = ap (λ (w : Work). w.cells reply.address) made ∙ registered_cells reply specs own c.work in
    let more = more_cells specs (c.work.cells reply.address) new some in
    let flight : 0 < length (flying reply.address [] c).letters = omega (arith, positive, same) in
    record {
      some = omega (arith, positive);
      fewer = omega arith;
      waits = ap (λ (w : Work). is_ready w.post reply.address) made ∙ registered_ready reply specs own c.work flight;
      more = let count = ap length cells in omega (arith, count, more.0);
      bound = let count = ap length cells in omega (arith, count, more.1);
    }

pub goes_again : (address : Address) (c d : Control) (reply : Reply) (specs : List CellSpec) (own : Own) (count : ℕ) → reply.address ≡ address → d.work ≡ done (step.Register reply) (declared reply specs own) c.work
    → AreNew (c.work.cells address) specs → 0 < length specs → 0 < count → length (flying address [] c).letters ≡ count → GoesAgain address count c d count
goes_again address c d reply specs own count whose made new some positive same =
    subst (λ (a : Address). GoesAgain a count c d count) whose
    (goes_at c d reply specs own count made (subst (λ (a : Address). AreNew (c.work.cells a) specs) (sym whose) new) some positive
    (subst (λ (a : Address). length (flying a [] c).letters ≡ count) (sym whose) same))

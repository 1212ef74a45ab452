use Rattle.std.proofs.Common.{◌≡◌, ◌≤◌, sym, subst, length, Some}
use Rattle.request_reply.specs.declared.request.ToFunction.{ToFunction}
use Rattle.request_reply.specs.declared.request.ToFunction.TheVariants.{Invocation}
use Rattle.request_reply.specs.Spelling.{to_spelling}
use Rattle.invocation.specs.Requests.{request_of}
use Rattle.invocation.proofs.Sizing.{request-kept}
use Rattle.invocation.proofs.request.Request.of_letters.Goals as goal

pub returns-clause-within : goal.returns-clause-within
unfolding request_of
returns-clause-within c = λ limits waiting small head batch.
    let letters = c.in_ok-invocations_of.ensures in
    let made : Invocation (record { target = Some c.in_ok-try_clone.field-0; state = c.in_ok-state_of.field-0; invocations = c.in_ok-invocations_of.field-0 })
    ≡ request_of c.args.address.now c.args.cells.now c.args.moment c.args.letters =
    (λ i. Invocation (record { target = Some (c.in_ok-try_clone.ensures i); state = c.in_ok-state_of.ensures i; invocations = letters i })) in
    subst (λ (request : ToFunction). length (to_spelling request) ≤ limits.max_bytes) (sym made)
    (request-kept c.args.address.now c.args.cells.now c.args.moment limits waiting c.args.letters small head batch)

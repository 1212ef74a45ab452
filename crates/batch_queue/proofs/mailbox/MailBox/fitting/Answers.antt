use Rattle.std.proofs.Common.{◌≡◌, ◌∙◌, ap, ◌+◌, length, arith, get_or}
use Rattle.std.proofs.lemmas.List.{length-take-le}
use Rattle.request_reply.specs.Letters.{letter_record}
use Rattle.batch_queue.specs.Boxes.{Waiting}
use Rattle.batch_queue.specs.Batches.{enclosed}
use Rattle.batch_queue.proofs.Sizing.{too_long}
use Rattle.batch_queue.proofs.mailbox.MailBox.fitting.Goals as goal

pub returns-in_default-clause-within : goal.returns-in_default-clause-within
returns-in_default-clause-within c = c.loop-count.invariant.0

pub returns-in_default-clause-fits : goal.returns-in_default-clause-fits
returns-in_default-clause-fits c = λ some. record {
  count = (let e = length-take-le c.loop-count.count c.args.self.now.letters c.loop-count.invariant.0 in omega (arith, e, c.loop-count.auto.count-end));
  bytes = c.loop-count.invariant.2 some;
}

pub returns-in_default-with_letter-clause-longest : goal.returns-in_default-with_letter-clause-longest
returns-in_default-with_letter-clause-longest c = λ more h most within.
    let long = c.in_default-with_letter.ensures in
    let count = c.loop-count.count in
    let letter = c.in-Some.letter.now in
    let read : letter ≡ get_or c.args.self.now.letters count letter = c.in-Some.ensures.lookup ∙ ap (λ (w : Waiting). get_or w.letters count letter) c.self.view_is in
    too_long c.args.limits c.args.self.now.letters count more letter c.loop-count.records read (omega (arith, h, most)) c.loop-count.invariant.1 (omega (arith, long)) h within

pub returns-then-size-max_bytes-clause-longest : goal.returns-then-size-max_bytes-clause-longest
returns-then-size-max_bytes-clause-longest c = λ more h most within.
    let count = c.loop-count.count in
    let letter = c.in-Some.letter.now in
    let read : letter ≡ get_or c.args.self.now.letters count letter = c.in-Some.ensures.lookup ∙ ap (λ (w : Waiting). get_or w.letters count letter) c.self.view_is in
    let passes = c.if-size-max_bytes.true in
    let is : c.in-Some-with_letter.size.message ≡ enclosed (c.loop-count.records + length (letter_record letter)) = c.in-Some-with_letter.ensures.1 ∙ ap enclosed c.in-Some-with_letter.ensures.0 in
    too_long c.args.limits c.args.self.now.letters count more letter c.loop-count.records read (omega (arith, h, most)) c.loop-count.invariant.1 (omega (arith, passes, is)) h within

use Rattle.std.proofs.Common.{◌∙◌, ◌+◌, sym, ap, List, option_map}
use Rattle.std.specs.Prelude.{◌&&◌, nat_lt, nat_le}
use Rattle.proto_wire.specs.Message.{capped}
use Rattle.typed_values.specs.declared.letter.Sender.{Sender}
use Rattle.typed_values.specs.declared.letter.Letter.{Letter}
use Rattle.batch_queue.specs.Batches.{records_size}
use Rattle.invocation.specs.Requests.{head_size}
use Rattle.run_record.specs.Machine.{picked}
use Rattle.run_record.specs.StateOf.{state_of, mail_of}
use Rattle.run_record.proofs.Requests.{no_endpoint, wrong_count, by_size}
use Rattle.run_record.proofs.requesting.has_request.Goals as goal

pub returns-in_default : goal.returns-in_default
unfolding state_of
returns-in_default c =
    no_endpoint c.args.routes.now c.args.part.now.cells (λ sender. mail_of c.args.machine.now.mail sender c.args.reply.now.address) c.args.reply.now.address c.args.reply.now.moment c.args.reply.now.picks c.in_default.ensures

pub returns-then-not-is_count : goal.returns-then-not-is_count
unfolding state_of
returns-then-not-is_count c =
    wrong_count c.args.routes.now c.args.part.now.cells (λ sender. mail_of c.args.machine.now.mail sender c.args.reply.now.address) c.args.reply.now.address c.args.reply.now.moment c.args.reply.now.picks c.in-Some.endpoint.now c.in-Some.ensures
    (ap (λ n. nat_lt 0 n && nat_le n c.in-Some.endpoint.now.max_letters) (sym c.len.ensures) ∙ sym c.is_count-is_count.ensures ∙ c.if-not-is_count.true)

pub returns-in-Some-2 : goal.returns-in-Some-2
unfolding state_of
returns-in-Some-2 c =
    by_size c.args.routes.now c.args.part.now.cells (λ sender. mail_of c.args.machine.now.mail sender c.args.reply.now.address) c.args.reply.now.address c.args.reply.now.moment c.args.reply.now.picks c.in-Some.endpoint.now c.in-Some-2.size c.is_within.result
    c.a_request_is_its_head_and_its_letters.ensures c.in-Some.ensures
    (ap (λ n. nat_lt 0 n && nat_le n c.in-Some.endpoint.now.max_letters) (sym c.len.ensures) ∙ sym c.is_count-is_count.ensures ∙ c.if-not-is_count.false)
    (sym c.in-Some-2.is ∙ c.in_ok-size.ensures (head_size c.args.reply.now.address c.args.part.now.cells c.args.reply.now.moment) c.of-head.ensures
    ∙ ap (λ picks. option_map (λ (letters : List Letter). capped (head_size c.args.reply.now.address c.args.part.now.cells c.args.reply.now.moment + records_size letters)) (picked c.args.reply.now.address (λ (sender : Sender). mail_of c.args.machine.now.mail sender c.args.reply.now.address) picks)) c.as_slice.ensures)
    c.is_within.ensures

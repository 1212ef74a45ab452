use Rattle.std.proofs.Common.{◌≡◌, ◌∙◌, ap, refl, subst, sym}
use Rattle.std.specs.Prelude.{Ok, Err}
use Rattle.proto_wire.specs.declared.fault.DecodeFault.{DecodeFault}
use Rattle.proto_wire.specs.Reads.{Fails}
use Rattle.request_reply.specs.declared.answer.FromFunction.{FromFunction}
use Rattle.request_reply.specs.Spelling.{from_value}
use Rattle.run_record.specs.Egress.{records_spelled}
use Rattle.statefun_cli.proofs.Egress.{nothing-spelled}
use Rattle.statefun_cli.proofs.egress_out.put_reply_text.Goals as goal

pub returns-in-Ok-Incomplete : goal.returns-in-Ok-Incomplete
returns-in-Ok-Incomplete c =
    nothing-spelled c.args.into.now c.args.reply.now _ (ap from_value (sym c.as_slice.ensures) ∙ c.in-Ok-Incomplete.ensures)
    (ap (λ (answer : FromFunction). records_spelled c.args.reply.now.address (Ok answer)) c.in-Ok-Incomplete.field-0-is)

pub returns-in-Err-Wire : goal.returns-in-Err-Wire
returns-in-Err-Wire c =
    let e : from_value c.as_slice.result.now ≡ Err c.in-Err-Wire.field-0-0 =
    subst (λ (fault : DecodeFault). Fails fault (from_value c.as_slice.result.now)) c.in-Err-Wire.field-0-is c.in-Err-Wire.ensures in
    nothing-spelled c.args.into.now c.args.reply.now (Err c.in-Err-Wire.field-0-0) (ap from_value (sym c.as_slice.ensures) ∙ e) refl

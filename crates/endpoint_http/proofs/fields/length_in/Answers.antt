use Rattle.std.proofs.Common.{sym, ◌∙◌}
use Rattle.endpoint_http.proofs.Lengths.{length-parsed}
use Rattle.endpoint_http.proofs.fields.length_in.Goals as goal

pub returns-in-Ok : goal.returns-in-Ok
returns-in-Ok c = let e = length-parsed c.args.digits.now c.parse.result c.parse.ensures.value.0 c.requires in c.below.ensures ∙ sym (rw c.in-Ok.is at e)

pub returns-in-Err : goal.returns-in-Err
returns-in-Err c = let e = length-parsed c.args.digits.now c.parse.result c.parse.ensures.value.0 c.requires in sym (rw c.in-Err.is at e)

use Rattle.std.proofs.Common.{rules, inl, inr}
use Rattle.httparse.specs.Grammar.{HasNoRequest, MayBecomeRequest, NeverHasRequest}
use Rattle.httparse.specs.Spans.{RequestExceeds}
use Rattle.endpoint_http.proofs.Heads.{no_request, may_request, never_request, too_long_request}
use Rattle.endpoint_http.proofs.part.request_at.Goals as goal

pub returns-in-Ok-Partial-clause-parsed : goal.returns-in-Ok-Partial-clause-parsed
returns-in-Ok-Partial-clause-parsed c =
    let none : HasNoRequest c.args.bytes.now = search rules in
    let may : MayBecomeRequest c.args.bytes.now = search rules in
    (no_request c.args.bytes.now none, may_request c.args.bytes.now may)

pub returns-in-Err-TooManyHeaders-clause-parsed : goal.returns-in-Err-TooManyHeaders-clause-parsed
returns-in-Err-TooManyHeaders-clause-parsed c =
    let exceeds : RequestExceeds 64 c.args.bytes.now = search rules in
    inr (too_long_request c.args.bytes.now exceeds)

pub returns-in-Err-clause-parsed : goal.returns-in-Err-clause-parsed
returns-in-Err-clause-parsed c =
    let never : NeverHasRequest c.args.bytes.now = search rules in
    inl (never_request c.args.bytes.now never)

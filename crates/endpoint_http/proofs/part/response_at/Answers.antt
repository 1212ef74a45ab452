use Rattle.std.proofs.Common.{rules, inl, inr}
use Rattle.httparse.specs.Grammar.{HasNoResponse, MayBecomeResponse, NeverHasResponse}
use Rattle.httparse.specs.Spans.{ResponseExceeds}
use Rattle.endpoint_http.proofs.Heads.{no_response, may_response, never_response, too_long_response}
use Rattle.endpoint_http.proofs.part.response_at.Goals as goal

pub returns-in-Ok-Partial-clause-parsed : goal.returns-in-Ok-Partial-clause-parsed
returns-in-Ok-Partial-clause-parsed c =
    let none : HasNoResponse c.args.bytes.now = search rules in
    let may : MayBecomeResponse c.args.bytes.now = search rules in
    (no_response c.args.bytes.now none, may_response c.args.bytes.now may)

pub returns-in-Err-TooManyHeaders-clause-parsed : goal.returns-in-Err-TooManyHeaders-clause-parsed
returns-in-Err-TooManyHeaders-clause-parsed c =
    let exceeds : ResponseExceeds 64 c.args.bytes.now = search rules in
    inr (too_long_response c.args.bytes.now exceeds)

pub returns-in-Err-clause-parsed : goal.returns-in-Err-clause-parsed
returns-in-Err-clause-parsed c =
    let never : NeverHasResponse c.args.bytes.now = search rules in
    inl (never_response c.args.bytes.now never)

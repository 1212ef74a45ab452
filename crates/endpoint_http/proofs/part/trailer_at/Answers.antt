use Rattle.std.proofs.Common.{rules, inl, inr}
use Rattle.httparse.specs.Grammar.{HasNoSection, MayBecomeSection, NeverHasSection}
use Rattle.httparse.specs.Spans.{SectionExceeds}
use Rattle.endpoint_http.proofs.Heads.{no_trailer, may_trailer, never_trailer, too_long_trailer}
use Rattle.endpoint_http.proofs.part.trailer_at.Goals as goal

pub returns-in-Ok-Partial-clause-parsed : goal.returns-in-Ok-Partial-clause-parsed
returns-in-Ok-Partial-clause-parsed c =
    let none : HasNoSection c.args.bytes.now = search rules in
    let may : MayBecomeSection c.args.bytes.now = search rules in
    (no_trailer c.args.bytes.now none, may_trailer c.args.bytes.now may)

pub returns-in-Err-TooManyHeaders-clause-parsed : goal.returns-in-Err-TooManyHeaders-clause-parsed
returns-in-Err-TooManyHeaders-clause-parsed c =
    let exceeds : SectionExceeds 64 c.args.bytes.now = search rules in
    inr (too_long_trailer c.args.bytes.now exceeds)

pub returns-in-Err-clause-parsed : goal.returns-in-Err-clause-parsed
returns-in-Err-clause-parsed c =
    let never : NeverHasSection c.args.bytes.now = search rules in
    inl (never_trailer c.args.bytes.now never)

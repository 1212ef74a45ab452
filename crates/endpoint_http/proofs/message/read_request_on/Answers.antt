use Rattle.std.proofs.Common.{drop, Ok, Err, refl, map, sym, ◌∙◌}
use Rattle.std.proofs.lemmas.Result.{err_from_is_err_and}
use Rattle.httparse.specs.Spans.{header_bytes}
use Rattle.sf_outside.specs.Left.{ahead}
use Rattle.endpoint_http.specs.Answers.{Answer, Told, Gives}
use Rattle.endpoint_http.specs.Framed.{IsRequest}
use Rattle.endpoint_http.specs.Parsed.{headers_at}
use Rattle.endpoint_http.proofs.Telling.{failed}
use Rattle.endpoint_http.proofs.Requesting.{request_refused, request_held, no_post, unframed_post, posted}
use Rattle.endpoint_http.proofs.Stating.{framing_cause, framing_held}
use Rattle.endpoint_http.proofs.message.read_request_on.Goals as goal

pub returns-in_err-head-clause-body : goal.returns-in_err-head-clause-body
returns-in_err-head-clause-body g c =
    let here = ahead c.args.held.now (g.S.Source.left c.args.source.now) in
    let r = c.from_residual.result in
    let e = c.in_err-head.field-0.0 in
    failed (λ (a : Answer). Told here (λ bytes. Gives (IsRequest c.args.limit bytes) a)) r e (err_from_is_err_and r c.from_residual.ensures.1)
    (request_refused c.args.limit here e c.in_err-head.ensures.refused)

pub returns-then-not-is_post-clause-body : goal.returns-then-not-is_post-clause-body
returns-then-not-is_post-clause-body g c =
    let held = c.read_part.new.held in
    let spans = c.read_part.new.headers in
    let left = g.S.Source.left c.read_part.new.source in
    let here = ahead c.args.held.now (g.S.Source.left c.args.source.now) in
    let found = c.in_ok-head.head in
    let headers = headers_at held spans found.headers in
    let now = drop found.len held in
    let taken = request_held held now spans found left here c.read_part.ensures.short c.in_ok-head.ensures.found c.read_part.ensures.known refl in
    no_post c.args.limit here (ahead now left) found.start headers taken (sym c.is_post.ensures ∙ c.if-not-is_post.true)

pub returns-in_err-framing-clause-body : goal.returns-in_err-framing-clause-body
returns-in_err-framing-clause-body g c =
    let held = c.read_part.new.held in
    let spans = c.read_part.new.headers in
    let left = g.S.Source.left c.read_part.new.source in
    let here = ahead c.args.held.now (g.S.Source.left c.args.source.now) in
    let found = c.in_ok-head.head in
    let headers = headers_at held spans found.headers in
    let now = drop found.len held in
    let taken = request_held held now spans found left here c.read_part.ensures.short c.in_ok-head.ensures.found c.read_part.ensures.known refl in
    let r = c.from_residual-in_err-framing.result in
    let e = c.in_err-framing.field-0.0 in
    let framed = framing_held held c.as_slice.result.now spans c.split_at.result.0.now found.headers (Err e) c.as_slice.ensures.bytes c.split_at.ensures.front c.in_err-framing.ensures in
    failed (λ (a : Answer). Told here (λ bytes. Gives (IsRequest c.args.limit bytes) a)) r e (err_from_is_err_and r c.from_residual-in_err-framing.ensures.1)
    (unframed_post c.args.limit here (ahead now left) found.start headers e taken (sym c.is_post.ensures ∙ c.if-not-is_post.false) framed)

pub returns-in_err-framing-clause-cause : goal.returns-in_err-framing-clause-cause
returns-in_err-framing-clause-cause g c =
    let r = c.from_residual-in_err-framing.result in
    let headers = map (header_bytes c.as_slice.result.now) c.split_at.result.0.now in
    framing_cause (g.S.Source.faults c.args.source.now) (g.S.Source.faults c.read_part.new.source) r c.in_err-framing.field-0.0 headers
    (err_from_is_err_and r c.from_residual-in_err-framing.ensures.1) c.in_err-framing.ensures c.in_ok-head.ensures.cause

pub returns-clause-body : goal.returns-clause-body
returns-clause-body g c =
    let held = c.read_part.new.held in
    let spans = c.read_part.new.headers in
    let left = g.S.Source.left c.read_part.new.source in
    let here = ahead c.args.held.now (g.S.Source.left c.args.source.now) in
    let found = c.in_ok-head.head in
    let headers = headers_at held spans found.headers in
    let now = c.take.new.self in
    let taken = request_held held now spans found left here c.read_part.ensures.short c.in_ok-head.ensures.found c.read_part.ensures.known c.take.ensures in
    let framing = c.in_ok-framing.framing in
    let framed = framing_held held c.as_slice.result.now spans c.split_at.result.0.now found.headers (Ok framing) c.as_slice.ensures.bytes c.split_at.ensures.front c.in_ok-framing.ensures in
    posted c.args.limit here (ahead now left) found.start headers framing c.read_body.result taken (sym c.is_post.ensures ∙ c.if-not-is_post.false) framed c.read_body.ensures.body

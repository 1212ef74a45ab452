use Rattle.std.proofs.Common.{◌≡◌, ◌-◌, ◌≤◌, ◌<◌, suc, drop, Ok, Err, arith, refl, map}
use Rattle.std.proofs.lemmas.Result.{err_from_is_err_and}
use Rattle.httparse.specs.Spans.{header_bytes}
use Rattle.sf_outside.specs.Left.{ahead}
use Rattle.endpoint_http.specs.Answers.{Answer, Told, Gives}
use Rattle.endpoint_http.specs.Framed.{IsResponse}
use Rattle.endpoint_http.specs.Parsed.{headers_at}
use Rattle.endpoint_http.proofs.Telling.{failed}
use Rattle.endpoint_http.proofs.Heading.{head_refused, head_held, too_many_interims, passed_over, no_success_told, unframed, emptied, answered, outside}
use Rattle.endpoint_http.proofs.Stating.{framing_cause, framing_held}
use Rattle.endpoint_http.proofs.message.+read_response_on.Goals as goal

pub returns-in_err-head-clause-body : goal.returns-in_err-head-clause-body
returns-in_err-head-clause-body g t c =
    let here = ahead c.args.held.now (g.S.Source.left c.args.source.now) in
    let r = c.from_residual.result in
    let e = c.in_err-head.field-0.0 in
    failed (λ (a : Answer). Told here (λ bytes. Gives (IsResponse c.args.limit c.args.interims bytes) a)) r e (err_from_is_err_and r c.from_residual.ensures.1)
    (head_refused c.args.limit c.args.interims here e c.in_err-head.ensures.refused)

pub returns-then-interims-eq0-clause-body : goal.returns-then-interims-eq0-clause-body
returns-then-interims-eq0-clause-body g t c =
    let held = c.read_part.new.held in
    let spans = c.read_part.new.headers in
    let left = g.S.Source.left c.read_part.new.source in
    let here = ahead c.args.held.now (g.S.Source.left c.args.source.now) in
    let found = c.in_ok-head.head in
    let headers = headers_at held spans found.headers in
    let code = c.status-status.result in
    let now = drop found.len held in
    let taken = head_held held now spans found left here code c.read_part.ensures.short c.in_ok-head.ensures.found c.read_part.ensures.known c.status-status.ensures refl in
    let inside = c.if-is_interim.ensures.0 refl in
    too_many_interims c.args.limit c.args.interims here (ahead now left) code headers taken inside.0 inside.1 c.if-interims-eq0.true

pub returns-then-is_interim-clause-body : goal.returns-then-is_interim-clause-body
returns-then-is_interim-clause-body g t c =
    let held = c.read_part.new.held in
    let spans = c.read_part.new.headers in
    let left = g.S.Source.left c.read_part.new.source in
    let here = ahead c.args.held.now (g.S.Source.left c.args.source.now) in
    let found = c.in_ok-head.head in
    let headers = headers_at held spans found.headers in
    let code = c.status-status.result in
    let now = c.take.new.self in
    let taken = head_held held now spans found left here code c.read_part.ensures.short c.in_ok-head.ensures.found c.read_part.ensures.known c.status-status.ensures c.take.ensures in
    let inside = c.if-is_interim.ensures.0 refl in
    let fewer = c.args.interims - 1 in
    let more : c.args.interims ≡ suc fewer = omega (arith, c.if-interims-eq0.false) in
    passed_over c.args.limit c.args.interims fewer here (ahead now left) code headers c.read_response_on.result taken inside.0 inside.1 more c.read_response_on.ensures.body

pub returns-then-not-is_success-clause-body : goal.returns-then-not-is_success-clause-body
returns-then-not-is_success-clause-body g t c =
    let held = c.read_part.new.held in
    let spans = c.read_part.new.headers in
    let left = g.S.Source.left c.read_part.new.source in
    let here = ahead c.args.held.now (g.S.Source.left c.args.source.now) in
    let found = c.in_ok-head.head in
    let headers = headers_at held spans found.headers in
    let code = c.status-status.result in
    let now = drop found.len held in
    let taken = head_held held now spans found left here code c.read_part.ensures.short c.in_ok-head.ensures.found c.read_part.ensures.known c.status-status.ensures refl in
    let interim : ¬ ((100 ≤ code) × (code < 200)) = λ h. let e = c.if-is_interim.ensures.1 h in cc in
    let success : ¬ ((200 ≤ code) × (code < 300)) = λ h. let e = c.if-not-is_success.ensures.1 h in cc in
    no_success_told c.args.limit c.args.interims here (ahead now left) code headers taken (outside code interim success)

pub returns-in_err-framing-clause-body : goal.returns-in_err-framing-clause-body
returns-in_err-framing-clause-body g t c =
    let held = c.read_part.new.held in
    let spans = c.read_part.new.headers in
    let left = g.S.Source.left c.read_part.new.source in
    let here = ahead c.args.held.now (g.S.Source.left c.args.source.now) in
    let found = c.in_ok-head.head in
    let headers = headers_at held spans found.headers in
    let code = c.status-status.result in
    let now = drop found.len held in
    let taken = head_held held now spans found left here code c.read_part.ensures.short c.in_ok-head.ensures.found c.read_part.ensures.known c.status-status.ensures refl in
    let inside = c.if-not-is_success.ensures.0 refl in
    let r = c.from_residual-in_err-framing.result in
    let e = c.in_err-framing.field-0.0 in
    let framed = framing_held held c.as_slice.result.now spans c.split_at.result.0.now found.headers (Err e) c.as_slice.ensures.bytes c.split_at.ensures.front c.in_err-framing.ensures in
    failed (λ (a : Answer). Told here (λ bytes. Gives (IsResponse c.args.limit c.args.interims bytes) a)) r e (err_from_is_err_and r c.from_residual-in_err-framing.ensures.1)
    (unframed c.args.limit c.args.interims here (ahead now left) code headers e taken inside.0 inside.1 framed)

pub returns-in_err-framing-clause-cause : goal.returns-in_err-framing-clause-cause
returns-in_err-framing-clause-cause g t c =
    let r = c.from_residual-in_err-framing.result in
    let headers = map (header_bytes c.as_slice.result.now) c.split_at.result.0.now in
    framing_cause (g.S.Source.faults c.args.source.now) (g.S.Source.faults c.read_part.new.source) r c.in_err-framing.field-0.0 headers
    (err_from_is_err_and r c.from_residual-in_err-framing.ensures.1) c.in_err-framing.ensures c.in_ok-head.ensures.cause

pub returns-then-status-eq204-clause-body : goal.returns-then-status-eq204-clause-body
returns-then-status-eq204-clause-body g t c =
    let held = c.read_part.new.held in
    let spans = c.read_part.new.headers in
    let left = g.S.Source.left c.read_part.new.source in
    let here = ahead c.args.held.now (g.S.Source.left c.args.source.now) in
    let found = c.in_ok-head.head in
    let headers = headers_at held spans found.headers in
    let code = c.status-status.result in
    let now = drop found.len held in
    let taken = head_held held now spans found left here code c.read_part.ensures.short c.in_ok-head.ensures.found c.read_part.ensures.known c.status-status.ensures refl in
    let framing = c.in_ok-framing.framing in
    let framed = framing_held held c.as_slice.result.now spans c.split_at.result.0.now found.headers (Ok framing) c.as_slice.ensures.bytes c.split_at.ensures.front c.in_ok-framing.ensures in
    rw c.new.ensures (emptied c.args.limit c.args.interims here (ahead now left) code headers framing taken c.if-status-eq204.true framed)

pub returns-clause-body : goal.returns-clause-body
returns-clause-body g t c =
    let held = c.read_part.new.held in
    let spans = c.read_part.new.headers in
    let left = g.S.Source.left c.read_part.new.source in
    let here = ahead c.args.held.now (g.S.Source.left c.args.source.now) in
    let found = c.in_ok-head.head in
    let headers = headers_at held spans found.headers in
    let code = c.status-status.result in
    let now = c.take-2.new.self in
    let taken = head_held held now spans found left here code c.read_part.ensures.short c.in_ok-head.ensures.found c.read_part.ensures.known c.status-status.ensures c.take-2.ensures in
    let inside = c.if-not-is_success.ensures.0 refl in
    let framing = c.in_ok-framing.framing in
    let framed = framing_held held c.as_slice.result.now spans c.split_at.result.0.now found.headers (Ok framing) c.as_slice.ensures.bytes c.split_at.ensures.front c.in_ok-framing.ensures in
    answered c.args.limit c.args.interims here (ahead now left) code headers framing c.read_body.result taken inside.0 inside.1 c.if-status-eq204.false framed c.read_body.ensures.body

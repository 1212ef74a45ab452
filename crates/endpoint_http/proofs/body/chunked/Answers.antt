use Rattle.std.proofs.Common.{◌+◌, ◌≤◌, ◌<◌, length, Ok, Err, arith, rules}
use Rattle.std.proofs.lemmas.Result.{err_from_is_err_and}
use Rattle.sf_outside.specs.Left.{ahead}
use Rattle.endpoint_http.specs.Answers.{Answer, Told, Gives}
use Rattle.endpoint_http.specs.Chunks.{IsChunked}
use Rattle.endpoint_http.specs.declared.fault.HttpFault.TheVariants.{OverLimit}
use Rattle.endpoint_http.proofs.Telling.{failed}
use Rattle.endpoint_http.proofs.Chunking.{from_here, line_refused, line_held, trailer_refused, trailer_read, past_limit, data_cut, end_refused, goes_on}
use Rattle.endpoint_http.proofs.body.chunked.Goals as goal

pub returns-in_err-line-clause-body : goal.returns-in_err-line-clause-body
returns-in_err-line-clause-body g c =
    let left = g.S.Source.left in
    let here = ahead c.loop-body.held (left c.loop-body.source) in
    let r = c.from_residual.result in
    let e = c.in_err-line.field-0.0 in
    let body = c.loop-body.body in
    from_here c.args.limit body _ here r c.loop-body.invariant.answers
    (failed (λ (a : Answer). Told here (λ bytes. Gives (IsChunked c.args.limit body bytes) a)) r e (err_from_is_err_and r c.from_residual.ensures.1)
    (line_refused c.args.limit body here e c.in_err-line.ensures.refused))

pub returns-in_err-read_part-clause-body : goal.returns-in_err-read_part-clause-body
returns-in_err-read_part-clause-body g c =
    let left = g.S.Source.left in
    let here = ahead c.loop-body.held (left c.loop-body.source) in
    let after = ahead c.take.new.self (left c.read_part.new.source) in
    let r = c.from_residual-in_err-read_part.result in
    let e = c.in_err-read_part.field-0.0 in
    let body = c.loop-body.body in
    let taken = line_held c.read_part.new.held c.take.new.self c.read_part.new.headers c.in_ok-line.line (left c.read_part.new.source) here c.size-size.result
    c.read_part.ensures.short c.in_ok-line.ensures.found c.read_part.ensures.known c.size-size.ensures c.take.ensures in
    from_here c.args.limit body _ here r c.loop-body.invariant.answers
    (failed (λ (a : Answer). Told here (λ bytes. Gives (IsChunked c.args.limit body bytes) a)) r e (err_from_is_err_and r c.from_residual-in_err-read_part.ensures.1)
    (trailer_refused c.args.limit body here after c.size-size.result e taken c.if-size-eq0.true c.in_err-read_part.ensures.refused))

pub returns-then-size-eq0-clause-body : goal.returns-then-size-eq0-clause-body
returns-then-size-eq0-clause-body g c =
    let left = g.S.Source.left in
    let here = ahead c.loop-body.held (left c.loop-body.source) in
    let after = ahead c.take.new.self (left c.read_part.new.source) in
    let body = c.loop-body.body in
    let taken = line_held c.read_part.new.held c.take.new.self c.read_part.new.headers c.in_ok-line.line (left c.read_part.new.source) here c.size-size.result
    c.read_part.ensures.short c.in_ok-line.ensures.found c.read_part.ensures.known c.size-size.ensures c.take.ensures in
    let trailer = c.read_part-then-size-eq0 in
    from_here c.args.limit body _ here (Ok body) c.loop-body.invariant.answers
    (trailer_read c.args.limit body here after c.size-size.result trailer.new.held trailer.new.headers c.in_ok-read_part.field-0 (left trailer.new.source) taken c.if-size-eq0.true
    trailer.ensures.short c.in_ok-read_part.ensures.found trailer.ensures.known)

pub returns-then-size-limit-clause-body : goal.returns-then-size-limit-clause-body
returns-then-size-limit-clause-body g c =
    let left = g.S.Source.left in
    let here = ahead c.loop-body.held (left c.loop-body.source) in
    let after = ahead c.take.new.self (left c.read_part.new.source) in
    let body = c.loop-body.body in
    let taken = line_held c.read_part.new.held c.take.new.self c.read_part.new.headers c.in_ok-line.line (left c.read_part.new.source) here c.size-size.result
    c.read_part.ensures.short c.in_ok-line.ensures.found c.read_part.ensures.known c.size-size.ensures c.take.ensures in
    let positive : 0 < c.size-size.result = omega (arith, c.if-size-eq0.false) in
    let past : c.args.limit < length body + c.size-size.result = omega (arith, c.if-size-limit.true, c.len.ensures, c.loop-body.invariant.within) in
    from_here c.args.limit body _ here (Err OverLimit) c.loop-body.invariant.answers
    (past_limit c.args.limit body here after c.size-size.result taken positive past)

pub returns-in_err-take_exact-clause-body : goal.returns-in_err-take_exact-clause-body
returns-in_err-take_exact-clause-body g c =
    let left = g.S.Source.left in
    let here = ahead c.loop-body.held (left c.loop-body.source) in
    let after = ahead c.take.new.self (left c.read_part.new.source) in
    let r = c.from_residual-in_err-take_exact.result in
    let e = c.in_err-take_exact.field-0.0 in
    let body = c.loop-body.body in
    let taken = line_held c.read_part.new.held c.take.new.self c.read_part.new.headers c.in_ok-line.line (left c.read_part.new.source) here c.size-size.result
    c.read_part.ensures.short c.in_ok-line.ensures.found c.read_part.ensures.known c.size-size.ensures c.take.ensures in
    let positive : 0 < c.size-size.result = omega (arith, c.if-size-eq0.false) in
    let room : length body + c.size-size.result ≤ c.args.limit = omega (arith, c.if-size-limit.false, c.len.ensures, c.loop-body.invariant.within) in
    from_here c.args.limit body _ here r c.loop-body.invariant.answers
    (failed (λ (a : Answer). Told here (λ bytes. Gives (IsChunked c.args.limit body bytes) a)) r e (err_from_is_err_and r c.from_residual-in_err-take_exact.ensures.1)
    (data_cut c.args.limit body here after c.size-size.result e taken positive room c.in_err-take_exact.ensures.cut))

pub returns-in_err-take_line_end-clause-body : goal.returns-in_err-take_line_end-clause-body
returns-in_err-take_line_end-clause-body g c =
    let left = g.S.Source.left in
    let here = ahead c.loop-body.held (left c.loop-body.source) in
    let after = ahead c.take.new.self (left c.read_part.new.source) in
    let third = ahead c.take_exact.new.held (left c.take_exact.new.source) in
    let r = c.from_residual-in_err-take_line_end.result in
    let e = c.in_err-take_line_end.field-0.0 in
    let body = c.loop-body.body in
    let taken = line_held c.read_part.new.held c.take.new.self c.read_part.new.headers c.in_ok-line.line (left c.read_part.new.source) here c.size-size.result
    c.read_part.ensures.short c.in_ok-line.ensures.found c.read_part.ensures.known c.size-size.ensures c.take.ensures in
    let positive : 0 < c.size-size.result = omega (arith, c.if-size-eq0.false) in
    let room : length body + c.size-size.result ≤ c.args.limit = omega (arith, c.if-size-limit.false, c.len.ensures, c.loop-body.invariant.within) in
    from_here c.args.limit body _ here r c.loop-body.invariant.answers
    (failed (λ (a : Answer). Told here (λ bytes. Gives (IsChunked c.args.limit body bytes) a)) r e (err_from_is_err_and r c.from_residual-in_err-take_line_end.ensures.1)
    (end_refused c.args.limit body c.take_exact.new.into here after third c.size-size.result e taken positive room c.in_ok-take_exact.ensures.took c.in_err-take_line_end.ensures.fault))

pub loop-body-preserved : goal.loop-body-preserved
loop-body-preserved g c =
    let left = g.S.Source.left in
    let here = ahead c.loop-body.held (left c.loop-body.source) in
    let after = ahead c.take.new.self (left c.read_part.new.source) in
    let third = ahead c.take_exact.new.held (left c.take_exact.new.source) in
    let fourth = ahead c.take_line_end.new.held (left c.take_line_end.new.source) in
    let body = c.loop-body.body in
    let taken = line_held c.read_part.new.held c.take.new.self c.read_part.new.headers c.in_ok-line.line (left c.read_part.new.source) here c.size-size.result
    c.read_part.ensures.short c.in_ok-line.ensures.found c.read_part.ensures.known c.size-size.ensures c.take.ensures in
    let positive : 0 < c.size-size.result = omega (arith, c.if-size-eq0.false) in
    let room : length body + c.size-size.result ≤ c.args.limit = omega (arith, c.if-size-limit.false, c.len.ensures, c.loop-body.invariant.within) in
    record {
      within = omega (arith, room, c.in_ok-take_exact.ensures.counted);
      room = c.read_part.ensures.room;
      faults = search (rules, c.in_ok-line.ensures.cause, c.in_ok-take_exact.ensures.cause, c.in_ok-take_line_end.ensures.cause, c.loop-body.invariant.faults);
      answers = goes_on c.args.limit body c.take_exact.new.into _ here after third fourth c.size-size.result c.loop-body.invariant.answers taken positive room
          c.in_ok-take_exact.ensures.took c.in_ok-take_line_end.ensures.took;
    }

use Rattle.std.proofs.Common.{subst, sym}
use Rattle.endpoint_http.specs.Parsed.{IsParsed}
use Rattle.endpoint_http.specs.declared.part.Part.{Part}
use Rattle.endpoint_http.proofs.part.Part.parse.Goals as goal

pub returns-in-Response-clause-parsed : goal.returns-in-Response-clause-parsed
returns-in-Response-clause-parsed c =
    subst (λ (part : Part). IsParsed part c.args.bytes.now c.response_at.new.headers c.response_at.result) (sym c.in-Response.is) c.response_at.ensures.parsed

pub returns-in-Request-clause-parsed : goal.returns-in-Request-clause-parsed
returns-in-Request-clause-parsed c =
    subst (λ (part : Part). IsParsed part c.args.bytes.now c.request_at.new.headers c.request_at.result) (sym c.in-Request.is) c.request_at.ensures.parsed

pub returns-in-ChunkLine-clause-parsed : goal.returns-in-ChunkLine-clause-parsed
returns-in-ChunkLine-clause-parsed c =
    subst (λ (part : Part). IsParsed part c.args.bytes.now c.chunk_line_at.new.headers c.chunk_line_at.result) (sym c.in-ChunkLine.is) c.chunk_line_at.ensures.parsed

pub returns-in-Trailer-clause-parsed : goal.returns-in-Trailer-clause-parsed
returns-in-Trailer-clause-parsed c =
    subst (λ (part : Part). IsParsed part c.args.bytes.now c.trailer_at.new.headers c.trailer_at.result) (sym c.in-Trailer.is) c.trailer_at.ensures.parsed

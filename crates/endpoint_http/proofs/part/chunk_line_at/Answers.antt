use Rattle.std.proofs.Common.{rules}
use Rattle.httparse.specs.Grammar.{HasNoChunkLine, MayBecomeChunkLine}
use Rattle.endpoint_http.proofs.Heads.{no_line, may_line}
use Rattle.endpoint_http.proofs.part.chunk_line_at.Goals as goal

pub returns-in-Ok-Partial-clause-parsed : goal.returns-in-Ok-Partial-clause-parsed
returns-in-Ok-Partial-clause-parsed c =
    let none : HasNoChunkLine c.args.bytes.now = search rules in
    let may : MayBecomeChunkLine c.args.bytes.now = search rules in
    (no_line c.args.bytes.now none, may_line c.args.bytes.now may)

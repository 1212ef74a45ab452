use Rattle.std.proofs.Common.{◌≡◌, map, drop}
use Rattle.httparse.specs.Spans.{header_bytes}
use Rattle.endpoint_http.specs.Fields.{has}
use Rattle.endpoint_http.proofs.fields.has.Given as goal

-- what holds of those left holds of all
abbrev pub invariant-loop-header : goal.invariant-loop-header
invariant-loop-header l = has l.name (map (header_bytes l.buffer) (drop l.header-index l.headers)) ≡ has l.name (map (header_bytes l.buffer) l.headers)

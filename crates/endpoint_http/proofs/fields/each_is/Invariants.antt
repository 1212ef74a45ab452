use Rattle.std.proofs.Common.{◌≡◌, map, drop}
use Rattle.httparse.specs.Spans.{header_bytes}
use Rattle.endpoint_http.specs.Fields.{each_is}
use Rattle.endpoint_http.proofs.fields.each_is.Given as goal

-- what holds of those left holds of all
abbrev pub invariant-loop-header : goal.invariant-loop-header
invariant-loop-header l = each_is l.name l.value (map (header_bytes l.buffer) (drop l.header-index l.headers)) ≡ each_is l.name l.value (map (header_bytes l.buffer) l.headers)

use Rattle.std.proofs.Common.{◌≡◌, map, drop, None}
use Rattle.httparse.specs.Spans.{header_bytes}
use Rattle.endpoint_http.specs.Fields.{stated_length}
use Rattle.endpoint_http.proofs.fields.stated_length.Given as goal

-- what those left state is what all state
abbrev pub invariant-loop-header : goal.invariant-loop-header
invariant-loop-header l =
    stated_length l.stated (map (header_bytes l.buffer) (drop l.header-index l.headers)) ≡ stated_length None (map (header_bytes l.buffer) l.headers)

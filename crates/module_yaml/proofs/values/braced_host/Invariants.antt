use Rattle.std.proofs.Common.{◌≡◌, drop}
use Rattle.module_yaml.specs.Values.{braced_host}
use Rattle.module_yaml.proofs.values.braced_host.Given as goal

-- the bytes so far are neither braces nor slashes
abbrev pub invariant-loop-byte : goal.invariant-loop-byte
invariant-loop-byte l = braced_host (drop l.byte-index l.bytes) ≡ braced_host l.bytes

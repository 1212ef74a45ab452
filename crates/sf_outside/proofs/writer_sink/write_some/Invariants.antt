use Rattle.std.specs.Io.KnownBytes.{Keeps}
use Rattle.sf_outside.proofs.writer_sink.write_some.Given as goal

-- what the writer holds stood so far
abbrev pub invariant-loop : goal.invariant-loop
invariant-loop g l = Keeps (g.W.Write.contents l.initial.writer) (g.W.Write.contents l.writer)

use Rattle.std.specs.Io.KnownBytes.{Keeps}
use Rattle.sf_outside.proofs.unread.read_some.Given as goal

-- nothing was read so far
abbrev pub invariant-loop : goal.invariant-loop
invariant-loop g l = Keeps (g.F.Read.remaining l.initial.file) (g.F.Read.remaining l.file)

use Rattle.std.proofs.Common.{◌≡◌}
use Rattle.request_reply.proofs.Declaring.{Reached}
use Rattle.request_reply.proofs.missing.declared_by.Given as goal

-- none of the values so far has a flaw, and the declarations are those of the cells that they add
abbrev pub invariant-loop-value : goal.invariant-loop-value
invariant-loop-value g l = Reached (g.K.Known.setting l.known).cells l.fn.values l.new l.index l.value-iterator.rest.items

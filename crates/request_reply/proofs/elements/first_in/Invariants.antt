use Rattle.std.proofs.Common.{◌≡◌, drop}
use Rattle.request_reply.specs.Flaws.{first_in}
use Rattle.request_reply.proofs.elements.first_in.Given as goal

-- none of the elements so far has a flaw
abbrev pub invariant-loop-place : goal.invariant-loop-place
invariant-loop-place g l = first_in (g.E.Element.flaw_in (g.K.Known.setting l.known)) l.place (drop l.place l.elements) ≡ first_in (g.E.Element.flaw_in (g.K.Known.setting l.known)) 0 l.elements

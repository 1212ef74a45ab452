use Rattle.std.proofs.Common.{◌≡◌, ◌++◌, length}
use Rattle.std.specs.Str.{IsUtf8}
use Rattle.address_routing.specs.Routing.{filled}
use Rattle.address_routing.proofs.routes.filled.Given as goal

-- what is made, and what the rest gives, are the whole
abbrev pub invariant-parts : goal.invariant-parts
invariant-parts l = record { whole : l.made ++ filled l.name l.rest ≡ filled l.name l.template; text : IsUtf8 l.rest }

abbrev pub decreases-parts : goal.decreases-parts
decreases-parts l = length l.rest

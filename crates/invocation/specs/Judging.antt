-- What an answer does to the address that gave it.
use Rattle.std.specs.Prelude.{ℕ, List, map}
use Rattle.typed_values.specs.declared.address.Address.{Address}
use Rattle.typed_values.specs.declared.cells.Cell.{Cell}
use Rattle.request_reply.specs.declared.judging.Judgement.{Judgement}
use Rattle.request_reply.specs.declared.judging.Judgement.TheVariants as judgements
use Rattle.request_reply.specs.Flaws.{Setting}
use Rattle.request_reply.specs.Valid.{verdict}
use Rattle.address_routing.specs.declared.module.Module.{Module}
use Rattle.address_routing.specs.declared.module.Endpoint.{Endpoint}
use Rattle.invocation.specs.declared.judging.Judged.{Judged}
use Rattle.invocation.specs.declared.judging.Judged.TheVariants.{Accept, Register, Flaw}
use Rattle.invocation.specs.Effects.{effects_of}

-- what an answer of an address with such cells is judged by
abbrev pub setting_of : Module → List Cell → Setting
setting_of m cells = record { endpoints = map (λ (endpoint : Endpoint). endpoint.pattern) m.endpoints; egresses = m.egresses; cells = cells }

-- what it asks for, done by an address at a moment
abbrev pub done_by : Address → ℕ → Judgement → Judged
done_by address moment (judgements.Accept response) = Accept (effects_of address moment response)
done_by address moment (judgements.Register specs) = Register specs
done_by address moment (judgements.Flaw flaw) = Flaw flaw

unfoldable pub judgement : Module → List Cell → Address → ℕ → List ℕ → Judged
judgement m cells address moment answer = done_by address moment (verdict (setting_of m cells) answer)

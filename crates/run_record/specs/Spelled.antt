-- What an answer spells is what its step does.
use Rattle.std.specs.Prelude.{◌≡◌, ◌≤◌, length, Option, Some, None, Ok}
use Rattle.typed_values.specs.declared.letter.Sender.TheVariants.{Function}
use Rattle.sf_outside.specs.declared.ingress.IngressRecord.{IngressRecord}
use Rattle.request_reply.specs.declared.answer.FromFunction.{FromFunction}
use Rattle.request_reply.specs.declared.answer.FromFunction.TheVariants.{Result, Incomplete}
use Rattle.request_reply.specs.declared.answer.InvocationResponse.{InvocationResponse}
use Rattle.request_reply.specs.declared.answer.IncompleteInvocationContext.{IncompleteInvocationContext}
use Rattle.request_reply.specs.Flaws.{added, answer_flaw}
use Rattle.request_reply.specs.Spelling.{from_value}
use Rattle.address_routing.specs.declared.module.Module.{Module}
use Rattle.invocation.specs.Effects.{effects_of}
use Rattle.invocation.specs.Judging.{setting_of}
use Rattle.run_record.specs.declared.entry.Step.TheVariants.{Batch, Register}
use Rattle.run_record.specs.declared.entry.Reply.{Reply}
use Rattle.run_record.specs.Machine.{Own, State, Act, served, declared, made}

-- the bytes of a reply are not too long and spell this answer, which has no flaw for an address with such cells
pub record IsValid (m : Module) (own : Own) (reply : Reply) (answer : FromFunction) : Type 0 where
  pub short : length reply.answer ≤ 4194304
  pub spells : from_value reply.answer ≡ Ok answer
  pub flawless : answer_flaw (setting_of m own.cells) answer ≡ None

abbrev pub IsServed : Module → Own → Reply → Act → Type 0
IsServed m own reply act =
    (response : InvocationResponse) × IsValid m own reply (Result response) × (act ≡ served reply (effects_of reply.address reply.moment response) own)

abbrev pub IsDeclared : Module → Own → Reply → Act → Type 0
IsDeclared m own reply act =
    (context : IncompleteInvocationContext) × IsValid m own reply (Incomplete context)
    × (act ≡ declared reply (added own.cells context.missing_values) own)

-- a batch that is made has a valid result, and does what this says; a registration has a valid list of missing values, and
-- declares those that are new
abbrev pub AnswersTakeEffect : Type 0
AnswersTakeEffect =
    (m : Module) (found : Option IngressRecord) (st : State) (reply : Reply) (act : Act)
    → let own = st.own (Function reply.address) in
    (made m found st (Batch reply) ≡ Some act → IsServed m own reply act) × (made m found st (Register reply) ≡ Some act → IsDeclared m own reply act)

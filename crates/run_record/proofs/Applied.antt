-- What becomes of each kind of step, by what its parts answered.
use Rattle.std.proofs.Common.{◌≡◌, ap, refl, ℕ, ◌<◌, nat_lt, Bool, true, false, cond, List, Option, Some, None, is_some, option_map}
use Rattle.std.specs.Prelude.{unwrap_or}
use Rattle.typed_values.specs.declared.cell.CellSpec.{CellSpec}
use Rattle.typed_values.specs.declared.letter.Sender.TheVariants.{Split, Function}
use Rattle.sf_outside.specs.declared.ingress.IngressRecord.{IngressRecord}
use Rattle.request_reply.specs.declared.flaw.Flaw.{Flaw}
use Rattle.address_routing.specs.declared.module.Module.{Module}
use Rattle.address_routing.specs.Routing.{splits_in}
use Rattle.invocation.specs.declared.effects.Effects.{Effects}
use Rattle.invocation.specs.declared.judging.Judged.TheVariants.{Accept, Register as Declare, Flaw as Refuse}
use Rattle.run_record.specs.declared.entry.Step.{Step}
use Rattle.run_record.specs.declared.entry.Step.TheVariants.{Take, Batch, Register}
use Rattle.run_record.specs.declared.entry.Reply.{Reply}
use Rattle.run_record.specs.Machine.{State, Act, took, served, declared, acted, made, step_with}
use Rattle.run_record.proofs.Steps.{answer_in, take-made}
use Rattle.run_record.proofs.Judged.{refused, done, batch_by, register_by}

-- what a step that is refused, and one that is made, leave
abbrev pub IsRefused : Module → Option IngressRecord → State → Step → Type 0
IsRefused m found st step = (false ≡ is_some (step_with m found st step)) × (st ≡ unwrap_or (step_with m found st step) st)

abbrev pub IsDone : Module → Option IngressRecord → State → State → Step → Type 0
IsDone m found st next step = (true ≡ is_some (step_with m found st step)) × (next ≡ unwrap_or (step_with m found st step) st)

-- ---- takes

-- a split that is not the module's
pub take_outside : (m : Module) (found : Option IngressRecord) (st : State) (split : ℕ) → nat_lt split (splits_in m.ingresses) ≡ false → IsRefused m found st (Take split)
unfolding made
take_outside m found st split e = refused m found st (Take split) (ap (λ b. cond b (option_map (took m split (st.own (Split split))) found) None) e)

-- a split that has no more records
pub take_none : (m : Module) (st : State) (split : ℕ) → IsRefused m None st (Take split)
unfolding made
take_none m st split = refused m None st (Take split) (by (nat_lt split (splits_in m.ingresses)))
  where
    by : (b : Bool) → cond {A = Option Act} b None None ≡ None
    by true = refl
    by false = refl

pub take_done : (m : Module) (found : IngressRecord) (st next : State) (split : ℕ) → split < splits_in m.ingresses → next ≡ acted (Take split) (took m split (st.own (Split split)) found) st → IsDone m (Some found) st next (Take split)
take_done m found st next split inside is = done m (Some found) st next (Take split) (took m split (st.own (Split split)) found) (take-made m st split found inside) is

-- ---- batches

module _ (m : Module) (found : Option IngressRecord) (st : State) (reply : Reply) where
  -- an answer that is not taken, registers, or has a flaw
  pub batch_unasked : None ≡ answer_in m st reply → IsRefused m found st (Batch reply)
  batch_unasked e = refused m found st (Batch reply) (batch_by m found st reply None e)

  pub batch_registers : (specs : List CellSpec) → Some (Declare specs) ≡ answer_in m st reply → IsRefused m found st (Batch reply)
  batch_registers specs e = refused m found st (Batch reply) (batch_by m found st reply (Some (Declare specs)) e)

  pub batch_flaw : (flaw : Flaw) → Some (Refuse flaw) ≡ answer_in m st reply → IsRefused m found st (Batch reply)
  batch_flaw flaw e = refused m found st (Batch reply) (batch_by m found st reply (Some (Refuse flaw)) e)

  pub batch_done : (next : State) (effects : Effects) → Some (Accept effects) ≡ answer_in m st reply → next ≡ acted (Batch reply) (served reply effects (st.own (Function reply.address))) st → IsDone m found st next (Batch reply)
  batch_done next effects e is = done m found st next (Batch reply) (served reply effects (st.own (Function reply.address))) (batch_by m found st reply (Some (Accept effects)) e) is

  -- ---- registrations

  pub register_unasked : None ≡ answer_in m st reply → IsRefused m found st (Register reply)
  register_unasked e = refused m found st (Register reply) (register_by m found st reply None e)

  pub register_accepts : (effects : Effects) → Some (Accept effects) ≡ answer_in m st reply → IsRefused m found st (Register reply)
  register_accepts effects e = refused m found st (Register reply) (register_by m found st reply (Some (Accept effects)) e)

  pub register_flaw : (flaw : Flaw) → Some (Refuse flaw) ≡ answer_in m st reply → IsRefused m found st (Register reply)
  register_flaw flaw e = refused m found st (Register reply) (register_by m found st reply (Some (Refuse flaw)) e)

  pub register_done : (next : State) (specs : List CellSpec) → Some (Declare specs) ≡ answer_in m st reply → next ≡ acted (Register reply) (declared reply specs (st.own (Function reply.address))) st → IsDone m found st next (Register reply)
  register_done next specs e is = done m found st next (Register reply) (declared reply specs (st.own (Function reply.address))) (register_by m found st reply (Some (Declare specs)) e) is

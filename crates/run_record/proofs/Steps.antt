-- What follows from the definition of a step, and of replay.
use Rattle.std.specs.Prelude.{◌≡◌, ℕ, ◌<◌, nat_lt, List, [], ◌∷◌, ◌++◌, Bool, true, false, cond, Option, Some, None, zero, suc, slice_get, option_and_then, refl}
use Rattle.std.specs.Option.{option_map}
use Rattle.std.proofs.Common.{◌∙◌, ap, lt-ltb}
use Rattle.typed_values.specs.declared.letter.Sender.TheVariants.{Split, Function}
use Rattle.sf_outside.specs.declared.ingress.IngressRecord.{IngressRecord}
use Rattle.sf_outside.specs.Splits.{Lists, record_at, split_of, GrowTo}
use Rattle.address_routing.specs.declared.module.Module.{Module}
use Rattle.address_routing.specs.Routing.{splits_in}
use Rattle.invocation.specs.declared.judging.Judged.{Judged}
use Rattle.run_record.specs.declared.entry.Entry.{Entry}
use Rattle.run_record.specs.declared.entry.Step.{Step}
use Rattle.run_record.specs.declared.entry.Step.TheVariants.{Take, Batch, Register, Due}
use Rattle.run_record.specs.declared.entry.Reply.{Reply}
use Rattle.run_record.specs.Machine.{State, Act, actor_of, took, judged, answer_by, batch_act, register_act, act_of, is_asked, may_act, acted, made, step_with}
use Rattle.run_record.specs.Record.{step_after, replayed}

-- ---- options

pub some_from_and_then : {A B : Type 0} (f : A → Option B) (o : Option A) (y : B) → option_and_then f o ≡ Some y → (x : A) × (o ≡ Some x) × (f x ≡ Some y)
some_from_and_then f None y h = absurd cc
some_from_and_then f (Some x) y h = (x, refl, h)

pub some_from_map : {A B : Type 0} (f : A → B) (o : Option A) (y : B) → option_map f o ≡ Some y → (x : A) × (o ≡ Some x) × (y ≡ f x)
some_from_map f None y h = absurd cc
some_from_map f (Some x) y h = (x, refl, cc)

pub some_from_if : {A : Type 0} (b : Bool) (o : Option A) (x : A) → cond b o None ≡ Some x → (b ≡ true) × (o ≡ Some x)
some_from_if true o x h = (refl, h)
some_from_if false o x h = absurd cc

-- ---- one step

-- a step that is made may be made, and does this
pub record IsMade (m : Module) (found : Option IngressRecord) (st : State) (step : Step) (act : Act) : Type 0 where
  pub may : may_act m (st.own (actor_of step)) st.mail step ≡ true
  pub does : act_of m found (st.own (actor_of step)) step ≡ Some act

pub made-some : (m : Module) (found : Option IngressRecord) (st : State) (step : Step) (act : Act) → made m found st step ≡ Some act → IsMade m found st step act
unfolding made
made-some m found st step act h = let got = some_from_if (may_act m (st.own (actor_of step)) st.mail step) (act_of m found (st.own (actor_of step)) step) act h in record { may = got.0; does = got.1 }

pub made-is : (m : Module) (found : Option IngressRecord) (st : State) (step : Step) (act : Act) → IsMade m found st step act → made m found st step ≡ Some act
unfolding made
made-is m found st step act is = rw is.may is.does

-- a step that is allowed is that of some act
pub step_with-some : (m : Module) (found : Option IngressRecord) (st next : State) (step : Step) → step_with m found st step ≡ Some next → (act : Act) × (made m found st step ≡ Some act) × (next ≡ acted step act st)
step_with-some m found st next step h = some_from_map (λ act. acted step act st) (made m found st step) next h

-- an answer that is taken, by what it is
abbrev pub answer_in : Module → State → Reply → Option Judged
answer_in m st reply = answer_by m (st.own (Function reply.address)) st.mail reply

pub batch-made : (m : Module) (found : Option IngressRecord) (st : State) (reply : Reply) → made m found st (Batch reply) ≡ option_and_then (λ j. batch_act reply j (st.own (Function reply.address))) (answer_in m st reply)
unfolding made
batch-made m found st reply = by (is_asked m (st.own (Function reply.address)) st.mail reply)
  where
    by : (b : Bool) → cond b (batch_act reply (judged m (st.own (Function reply.address)) reply) (st.own (Function reply.address))) None ≡ option_and_then (λ j. batch_act reply j (st.own (Function reply.address))) (cond b (Some (judged m (st.own (Function reply.address)) reply)) None)
    by true = refl
    by false = refl

pub register-made : (m : Module) (found : Option IngressRecord) (st : State) (reply : Reply) → made m found st (Register reply) ≡ option_and_then (λ j. register_act reply j (st.own (Function reply.address))) (answer_in m st reply)
unfolding made
register-made m found st reply = by (is_asked m (st.own (Function reply.address)) st.mail reply)
  where
    by : (b : Bool) → cond b (register_act reply (judged m (st.own (Function reply.address)) reply) (st.own (Function reply.address))) None ≡ option_and_then (λ j. register_act reply j (st.own (Function reply.address))) (cond b (Some (judged m (st.own (Function reply.address)) reply)) None)
    by true = refl
    by false = refl

pub take-made : (m : Module) (st : State) (split : ℕ) (found : IngressRecord) → split < splits_in m.ingresses → made m (Some found) st (Take split) ≡ Some (took m split (st.own (Split split)) found)
unfolding made
take-made m st split found inside = let e = lt-ltb split (splits_in m.ingresses) inside in rw e refl

-- ---- replay

and_then_twice : {A B : Type 0} (f g : A → Option B) (h : B → Option B) (o : Option A) → ((x : A) → f x ≡ option_and_then h (g x)) → option_and_then f o ≡ option_and_then h (option_and_then g o)
and_then_twice f g h None each = refl
and_then_twice f g h (Some x) each = each x

-- a record and another behind it replay one after the other
pub replayed-append : (m : Module) (lists : Lists) (st : State) (entries others : List Entry) → replayed m lists st (entries ++ others) ≡ option_and_then (λ next. replayed m lists next others) (replayed m lists st entries)
replayed-append m lists st [] others = refl
replayed-append m lists st (entry ∷ entries) others =
    and_then_twice (λ next. replayed m lists next (entries ++ others)) (λ next. replayed m lists next entries) (λ next. replayed m lists next others) (step_after m lists st entry.step) (λ next. replayed-append m lists next entries others)

-- one more entry
pub replayed-push : (m : Module) (lists : Lists) (st : State) (entries : List Entry) (last : Entry) → replayed m lists st (entries ++ last ∷ []) ≡ option_and_then (λ next. step_after m lists next last.step) (replayed m lists st entries)
replayed-push m lists st entries last = replayed-append m lists st entries (last ∷ []) ∙ ap (λ f. option_and_then f (replayed m lists st entries)) (λ i next. and_then_some (step_after m lists next last.step) i)
  where
    and_then_some : (o : Option State) → option_and_then (λ next. Some next) o ≡ o
    and_then_some None = refl
    and_then_some (Some x) = refl

pub replayed_push_on : (m : Module) (lists : Lists) (st next : State) (entries : List Entry) (last : Entry) → replayed m lists st entries ≡ Some next → replayed m lists st (entries ++ last ∷ []) ≡ step_after m lists next last.step
replayed_push_on m lists st next entries last e = replayed-push m lists st entries last ∙ ap (λ o. option_and_then (λ x. step_after m lists x last.step) o) e

-- ---- lists that grow

slice_get-append : {A : Type 0} (xs ys : List A) (i : ℕ) (x : A) → slice_get xs i ≡ Some x → slice_get (xs ++ ys) i ≡ Some x
slice_get-append [] ys i x h = absurd cc
slice_get-append (y ∷ xs) ys zero x h = h
slice_get-append (y ∷ xs) ys (suc i) x h = slice_get-append xs ys i x h

-- a record that is there stays there
pub record_at-grown : (old new : Lists) (split offset : ℕ) (found : IngressRecord) → GrowTo old new → record_at old split offset ≡ Some found → record_at new split offset ≡ Some found
record_at-grown old new split offset found grown h =
    let rest = grown split in
    ap (λ list. slice_get list offset) rest.1 ∙ slice_get-append (split_of old split) rest.0 offset found h

-- without a record a take is not allowed
pub take-nothing : (m : Module) (st : State) (split : ℕ) → step_with m None st (Take split) ≡ None
unfolding made
take-nothing m st split = by (nat_lt split (splits_in m.ingresses))
  where
    by : (b : Bool) → option_map (λ act. acted (Take split) act st) (cond b None None) ≡ None
    by true = refl
    by false = refl

-- a step that is allowed is the same over lists that have grown
pub step_after-grown : (m : Module) (old new : Lists) (st next : State) (step : Step) → GrowTo old new → step_after m old st step ≡ Some next → step_after m new st step ≡ Some next
unfolding made
step_after-grown m old new st next (Take split) grown h = by (record_at old split (st.own (Split split)).taken) refl h
  where
    by : (o : Option IngressRecord) → record_at old split (st.own (Split split)).taken ≡ o → step_with m o st (Take split) ≡ Some next → step_with m (record_at new split (st.own (Split split)).taken) st (Take split) ≡ Some next
    by None e f = absurd (let n = take-nothing m st split in cc)
    by (Some found) e f = ap (λ o. step_with m o st (Take split)) (record_at-grown old new split (st.own (Split split)).taken found grown e) ∙ f
step_after-grown m old new st next (Batch reply) grown h = h
step_after-grown m old new st next (Register reply) grown h = h
step_after-grown m old new st next (Due address moment) grown h = h

-- and so is the replay of a record
pub replayed-grown : (m : Module) (old new : Lists) (st last : State) (entries : List Entry) → GrowTo old new → replayed m old st entries ≡ Some last → replayed m new st entries ≡ Some last
replayed-grown m old new st last [] grown h = h
replayed-grown m old new st last (entry ∷ entries) grown h =
    let first = some_from_and_then (λ next. replayed m old next entries) (step_after m old st entry.step) last h in
    rw (step_after-grown m old new st first.0 entry.step grown first.1) (replayed-grown m old new first.0 last entries grown first.2)

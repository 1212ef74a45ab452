-- Questions and answers in step: what a run did with its outside.
use Rattle.std.specs.Prelude.{◌≡◌, List, [], ◌∷◌, ◌++◌}
use Rattle.run_record.specs.declared.entry.Entry.{Entry}
use Rattle.statefun_driver.specs.declared.end.End.{End}
use Rattle.statefun_driver.specs.declared.end.End.TheVariants.{Broke}
use Rattle.statefun_driver.specs.declared.end.Broken.TheVariants.{Ingress, Link, Memory}
use Rattle.statefun_driver.specs.Seen.{Event, Seen, Hears}
use Rattle.statefun_driver.specs.Turns.{Plan, Control, Phase, Stopped, IsAsked, goes_on}

-- A loop that asks its outside one thing at a time: which events it asks for, what each changes of what is seen, and where the
-- loop goes on. The turns are one; a loop that does more than they do has events, and sees things, of its own.
pub record Loop (C E S : Type 0) : Type 1 where
  pub asks : C → E → Type 0
  pub hears : E → S → S → Type 0
  pub goes_on : C → E → C

-- From c and o these events led to d and p: each was asked for, and each is what the outside did.
abbrev pub TraceBy : {C E S : Type 0} → Loop C E S → C → S → List E → C → S → Type 0
TraceBy loop c o [] d p = (c ≡ d) × (o ≡ p)
TraceBy {S = S} loop c o (event ∷ events) d p = (q : S) × loop.asks c event × loop.hears event o q × TraceBy loop (loop.goes_on c event) q events d p

abbrev pub LeadsBy : {C E S : Type 0} → Loop C E S → C → S → C → S → Type 0
LeadsBy {E = E} loop c o d p = (events : List E) × TraceBy loop c o events d p

-- ---- the turns

abbrev pub turns : Plan → Loop Control Event Seen
turns plan = record { asks = λ c event. IsAsked plan.routes c.phase c event; hears = Hears; goes_on = λ c event. goes_on plan c.phase c event }

abbrev pub Trace : Plan → Control → Seen → List Event → Control → Seen → Type 0
Trace plan c o events d p = TraceBy (turns plan) c o events d p

abbrev pub Leads : Plan → Control → Seen → Control → Seen → Type 0
Leads plan c o d p = LeadsBy (turns plan) c o d p

abbrev pub IsFront : {A : Type 0} → List A → List A → Type 0
IsFront {A} front whole = (rest : List A) × (whole ≡ front ++ rest)

-- no object broke the run off
abbrev pub IsUnbroken : Phase → Type 0
IsUnbroken (Stopped (Broke Ingress)) = ⊥
IsUnbroken (Stopped (Broke Link)) = ⊥
IsUnbroken phase = Unit {0}

-- The turns came to this end, with these entries. Memory may run out at any moment, but not once an object has failed; then the
-- entries are a front of theirs.
abbrev pub IsEnd : Control → List Entry → End → Type 0
IsEnd last entries (Broke Memory) = IsUnbroken last.phase × IsFront entries last.entries
IsEnd last entries end = (last.phase ≡ Stopped end) × (entries ≡ last.entries)

-- it led to this end with these entries
pub record Ends (plan : Plan) (c : Control) (o : Seen) (entries : List Entry) (end : End) (p : Seen) : Type 0 where
  pub last : Control
  pub leads : Leads plan c o last p
  pub is_end : IsEnd last entries end

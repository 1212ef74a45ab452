-- A valid answer fits the cells that it is judged by, and one that misses values misses new ones.
use Rattle.std.proofs.Common.{◌≡◌, ◌∙◌, ℕ, ◌+◌, ◌<◌, ◌≤◌, refl, sym, ap, subst, List, [], ◌∷◌, ◌++◌, length, map, cond, Bool, true, false, Option, Some, None, is_some, Result, Ok, Err, length-append, arith}
use Rattle.std.specs.Prelude.{nat_le, nat_lt}
use Rattle.std.proofs.lemmas.Bool.{leb-false}
use Rattle.typed_values.specs.declared.address.Address.{Address}
use Rattle.typed_values.specs.declared.cells.Cell.{Cell}
use Rattle.typed_values.specs.declared.cell.CellSpec.{CellSpec}
use Rattle.typed_values.specs.Cells.{found, registered, empty}
use Rattle.typed_values.specs.Sameness.{same_bytes}
use Rattle.proto_wire.specs.declared.fault.WireFault.{WireFault}
use Rattle.sf_outside.specs.declared.call.Answered.{Answered}
use Rattle.sf_outside.specs.declared.call.Answered.TheVariants as tells
use Rattle.request_reply.specs.declared.flaw.Flaw.{Flaw as FlawOf}
use Rattle.request_reply.specs.declared.answer.FromFunction.{FromFunction}
use Rattle.request_reply.specs.declared.answer.FromFunction.TheVariants as answers
use Rattle.request_reply.specs.declared.judging.Judgement.TheVariants as judgements
use Rattle.request_reply.specs.Spelling.{from_value}
use Rattle.request_reply.specs.Flaws.{added, answer_flaw, none_new, first_of_two, first_missing, incomplete_flaw, wire_flaw, too_long}
use Rattle.request_reply.specs.Valid.{asked, unless, read_verdict, verdict}
use Rattle.state_cells.specs.declared.fault.CellFault.{CellFault}
use Rattle.state_cells.specs.declared.fault.CellFault.TheVariants as faults
use Rattle.state_cells.specs.Answers.{registering, declared}
use Rattle.state_cells.specs.Lifetimes.{Registers, after_all as cells_after}
use Rattle.address_routing.specs.declared.module.Module.{Module}
use Rattle.invocation.specs.declared.effects.Effects.{Effects}
use Rattle.invocation.specs.declared.judging.Judged.{Judged}
use Rattle.invocation.specs.declared.judging.Judged.TheVariants.{Accept, Register as Declare, Flaw}
use Rattle.invocation.specs.Judging.{setting_of, done_by, judgement}
use Rattle.invocation.specs.Effects.{effects_of}
use Rattle.invocation.specs.Laws.{TakesAll, AreNew, Fits}
use Rattle.run_record.specs.Egress.{records_spelled}
use Rattle.invocation.proofs.Accepting.{judgement-fits}
use Rattle.statefun_driver.specs.declared.settled.Valid.{Valid}
use Rattle.statefun_driver.specs.declared.settled.Valid.TheVariants.{Accepted, Missed}
use Rattle.statefun_driver.specs.Turns.{Control, came, came_of}
use Rattle.statefun_driver.specs.Work.{IsSpelled, IsTaken, valid_as}

-- ---- an answer that misses values misses a new one

abbrev SomeNew : Judged → Type 0
SomeNew (Accept effects) = Unit {0}
SomeNew (Declare specs) = 0 < length specs
SomeNew (Flaw flaw) = Unit {0}

second_none : (a b : Option FlawOf) → first_of_two a b ≡ None → b ≡ None
second_none None b e = e
second_none (Some flaw) b e = absurd cc

some_added : (specs : List CellSpec) → none_new specs ≡ None → 0 < length specs
some_added [] e = absurd cc
some_added (spec ∷ specs) e = omega arith

new_asked : (m : Module) (cells : List Cell) (address : Address) (moment : ℕ) (answer : FromFunction) → SomeNew (done_by address moment (unless (answer_flaw (setting_of m cells) answer) (asked (setting_of m cells) answer)))
unfolding incomplete_flaw
new_asked m cells address moment (answers.Result response) = by (answer_flaw (setting_of m cells) (answers.Result response))
  where
    by : (o : Option FlawOf) → SomeNew (done_by address moment (unless o (judgements.Accept response)))
    by None = tt
    by (Some flaw) = tt
new_asked m cells address moment (answers.Incomplete context) = by (incomplete_flaw cells context.missing_values) refl
  where
    by : (o : Option FlawOf) → incomplete_flaw cells context.missing_values ≡ o → SomeNew (done_by address moment (unless o (judgements.Register (added cells context.missing_values))))
    by None e = some_added (added cells context.missing_values) (second_none (first_missing cells 0 context.missing_values) (none_new (added cells context.missing_values)) e)
    by (Some flaw) e = tt

new_judged : (m : Module) (cells : List Cell) (address : Address) (moment : ℕ) (answer : List ℕ) → SomeNew (judgement m cells address moment answer)
unfolding judgement verdict read_verdict
new_judged m cells address moment answer = by (nat_lt 4194304 (length answer)) (from_value answer)
  where
    by : (b : Bool) (read : Result FromFunction WireFault) → SomeNew (done_by address moment (cond b (judgements.Flaw (wire_flaw too_long)) (read_verdict (setting_of m cells) read)))
    by true read = tt
    by false (Err fault) = tt
    by false (Ok answer) = new_asked m cells address moment answer

-- ---- a valid answer fits

taken_by : (cells : List Cell) (bytes : List ℕ) (valid : Valid) (judged : Judged) → valid_as valid ≡ came_of bytes judged → Fits cells judged → SomeNew judged → IsTaken cells valid
taken_by cells bytes (Accepted answer effects) (Accept own) e fits new = let same : own ≡ effects = cc in subst (λ (x : Effects). TakesAll cells x.mutations) same fits
taken_by cells bytes (Accepted answer effects) (Declare specs) e fits new = absurd cc
taken_by cells bytes (Accepted answer effects) (Flaw flaw) e fits new = absurd cc
taken_by cells bytes (Missed answer specs) (Accept own) e fits new = absurd cc
taken_by cells bytes (Missed answer specs) (Declare own) e fits new = let same : own ≡ specs = cc in (subst (AreNew cells) same fits, subst (λ (x : List CellSpec). 0 < length x) same new)
taken_by cells bytes (Missed answer specs) (Flaw flaw) e fits new = absurd cc

pub is_taken : (m : Module) (c : Control) (address : Address) (told : Option Answered) (valid : Valid) → valid_as valid ≡ came m c address told → IsTaken (c.work.cells address) valid
is_taken m c address None (Accepted answer effects) e = absurd cc
is_taken m c address None (Missed answer specs) e = absurd cc
is_taken m c address (Some (tells.Lost note)) (Accepted answer effects) e = absurd cc
is_taken m c address (Some (tells.Lost note)) (Missed answer specs) e = absurd cc
is_taken m c address (Some (tells.Answer bytes)) valid e =
    taken_by (c.work.cells address) bytes valid (judgement m (c.work.cells address) address c.moment bytes) e
    (judgement-fits m (c.work.cells address) address c.moment bytes) (new_judged m (c.work.cells address) address c.moment bytes)

-- ---- a valid answer gives what it spells

abbrev SpelledAs : Address → Result FromFunction WireFault → Judged → Type 0
SpelledAs address read (Accept effects) = records_spelled address read ≡ effects.egress
SpelledAs address read (Declare specs) = records_spelled address read ≡ []
SpelledAs address read (Flaw flaw) = Unit {0}

judged_spelled : (m : Module) (cells : List Cell) (address : Address) (moment : ℕ) (answer : List ℕ) → SpelledAs address (from_value answer) (judgement m cells address moment answer)
unfolding judgement verdict read_verdict effects_of
judged_spelled m cells address moment answer = by (nat_lt 4194304 (length answer)) (from_value answer)
  where
    by_flaw : (o : Option FlawOf) (read : FromFunction) → SpelledAs address (Ok read) (done_by address moment (unless o (asked (setting_of m cells) read)))
    by_flaw None (answers.Result response) = refl
    by_flaw None (answers.Incomplete context) = refl
    by_flaw (Some flaw) read = tt

    by : (long : Bool) (read : Result FromFunction WireFault) → SpelledAs address read (done_by address moment (cond long (judgements.Flaw (wire_flaw too_long)) (read_verdict (setting_of m cells) read)))
    by true read = tt
    by false (Err fault) = tt
    by false (Ok read) = by_flaw (answer_flaw (setting_of m cells) read) read

spelled_by : (address : Address) (bytes : List ℕ) (valid : Valid) (judged : Judged) → valid_as valid ≡ came_of bytes judged → SpelledAs address (from_value bytes) judged → IsSpelled address valid
spelled_by address bytes (Accepted answer effects) (Accept own) e h = let same : own ≡ effects = cc in let read : bytes ≡ answer = cc in ap (λ (x : List ℕ). records_spelled address (from_value x)) (sym read) ∙ h ∙ ap (λ (x : Effects). x.egress) same
spelled_by address bytes (Accepted answer effects) (Declare specs) e h = absurd cc
spelled_by address bytes (Accepted answer effects) (Flaw flaw) e h = absurd cc
spelled_by address bytes (Missed answer specs) (Accept own) e h = absurd cc
spelled_by address bytes (Missed answer specs) (Declare own) e h = let read : bytes ≡ answer = cc in ap (λ (x : List ℕ). records_spelled address (from_value x)) (sym read) ∙ h
spelled_by address bytes (Missed answer specs) (Flaw flaw) e h = absurd cc

pub is_spelled : (m : Module) (c : Control) (address : Address) (told : Option Answered) (valid : Valid) → valid_as valid ≡ came m c address told → IsSpelled address valid
is_spelled m c address None (Accepted answer effects) e = absurd cc
is_spelled m c address None (Missed answer specs) e = absurd cc
is_spelled m c address (Some (tells.Lost note)) (Accepted answer effects) e = absurd cc
is_spelled m c address (Some (tells.Lost note)) (Missed answer specs) e = absurd cc
is_spelled m c address (Some (tells.Answer bytes)) valid e =
    spelled_by address bytes valid (judgement m (c.work.cells address) address c.moment bytes) e (judged_spelled m (c.work.cells address) address c.moment bytes)

-- ---- how many cells there are behind a registration

registered_one : (spec : CellSpec) (cells : List Cell) → registering spec cells ≡ Ok true → length (registered spec cells) ≡ length cells + 1
registered_one spec cells e = by (found spec.name cells) e
  where
    not_new : (b : Bool) → cond {A = Result Bool CellFault} b (Ok false) (Err faults.TypeDiffers) ≡ Ok true → ⊥
    not_new true e = cc
    not_new false e = cc

    by : (o : Option Cell) → declared spec o (length cells) ≡ Ok true → length (cond (is_some o) cells (cells ++ empty spec ∷ [])) ≡ length cells + 1
    by None e = length-append cells (empty spec ∷ [])
    by (Some cell) e = absurd (not_new (same_bytes spec.typename cell.spec.typename) e)

room_before : (spec : CellSpec) (cells : List Cell) → registering spec cells ≡ Ok true → length cells < 64
room_before spec cells e = by (found spec.name cells) e
  where
    not_new : (b : Bool) → cond {A = Result Bool CellFault} b (Ok false) (Err faults.TypeDiffers) ≡ Ok true → ⊥
    not_new true e = cc
    not_new false e = cc

    room : (b : Bool) → nat_le 64 (length cells) ≡ b → cond {A = Result Bool CellFault} b (Err faults.TooMany) (Ok true) ≡ Ok true → length cells < 64
    room true is e = absurd cc
    room false is e = let less = leb-false 64 (length cells) is in omega (arith, less)

    by : (o : Option Cell) → declared spec o (length cells) ≡ Ok true → length cells < 64
    by None e = room (nat_le 64 (length cells)) refl e
    by (Some cell) e = absurd (not_new (same_bytes spec.typename cell.spec.typename) e)

-- each is one more
all_more : (specs : List CellSpec) (cells : List Cell) → AreNew cells specs → length (cells_after (map Registers specs) cells) ≡ length cells + length specs
all_more [] cells new = omega arith
all_more (spec ∷ specs) cells new =
    let one = registered_one spec cells new.0 in
    let more = all_more specs (registered spec cells) new.1 in
    omega (arith, one, more)

all_few : (specs : List CellSpec) (cells : List Cell) → AreNew cells specs → length cells ≤ 64 → length (cells_after (map Registers specs) cells) ≤ 64
all_few [] cells new few = few
all_few (spec ∷ specs) cells new few =
    let one = registered_one spec cells new.0 in
    let room = room_before spec cells new.0 in
    all_few specs (registered spec cells) new.1 (omega (arith, one, room))

some_room : (specs : List CellSpec) (cells : List Cell) → AreNew cells specs → 0 < length specs → length cells ≤ 64
some_room [] cells new some = absurd (omega (arith, some))
some_room (spec ∷ specs) cells new some = let room = room_before spec cells new.0 in omega (arith, room)

pub more_cells : (specs : List CellSpec) (cells : List Cell) → AreNew cells specs → 0 < length specs
    → (length cells < length (cells_after (map Registers specs) cells)) × (length (cells_after (map Registers specs) cells) ≤ 64)
more_cells specs cells new some =
    let more = all_more specs cells new in
    (omega (arith, more, some), all_few specs cells new (some_room specs cells new some))

-- The cells take what an accepted answer asks of them.
use Rattle.std.proofs.Common.{◌≡◌, ◌∙◌, sym, ap, refl, subst, ℕ, ◌+◌, ◌≤◌, ◌<◌, Bool, true, false, cond, ltb, leb, List, [], ◌∷◌, ◌++◌, length, map, Option, Some, None, is_some, Result, Ok, Err, arith}
use Rattle.std.specs.Prelude.{IfOk}
use Rattle.std.proofs.lemmas.Bool.{ltb-true, leb-true}
use Rattle.std.specs.Bool.{Decides}
use Rattle.std.specs.Cmp.Lexicographic.{bytes_decides}
use Rattle.std.proofs.lemmas.Bool.Decides.{same_from_decides}
use Rattle.proto_wire.specs.declared.fault.WireFault.{WireFault}
use Rattle.typed_values.specs.Sameness.{same_bytes}
use Rattle.typed_values.specs.declared.address.Address.{Address}
use Rattle.typed_values.specs.declared.value.TypedValue.{TypedValue}
use Rattle.typed_values.specs.declared.cell.CellSpec.{CellSpec}
use Rattle.typed_values.specs.declared.cells.Cell.{Cell}
use Rattle.typed_values.specs.Cells.{found, registered, empty}
use Rattle.request_reply.specs.declared.answer.FromFunction.{FromFunction}
use Rattle.request_reply.specs.declared.answer.FromFunction.TheVariants as answers
use Rattle.request_reply.specs.declared.answer.InvocationResponse.{InvocationResponse}
use Rattle.request_reply.specs.declared.answer.PersistedValueMutation.{PersistedValueMutation}
use Rattle.request_reply.specs.declared.answer.PersistedValueSpec.{PersistedValueSpec}
use Rattle.request_reply.specs.declared.flaw.Flaw.{Flaw}
use Rattle.request_reply.specs.declared.flaw.FlawKind.{FlawKind}
use Rattle.request_reply.specs.declared.judging.Judgement.TheVariants as judgements
use Rattle.request_reply.specs.Flaws.{Setting, type_in, type_of, value_flaw, set_flaw, sets, known_flaw, is_mutation, mutation_flaw, declared, name_flaw, is_expiry, missing_flaw, added, first_of_two, placed, first_in, first_missing, none_new, result_flaw, incomplete_flaw, answer_flaw, wire_flaw, too_long}
use Rattle.request_reply.specs.Spelling.{from_value}
use Rattle.request_reply.specs.Valid.{asked, unless, read_verdict, verdict}
use Rattle.state_cells.specs.Answers.{taking, registering, modifying, deleting}
use Rattle.address_routing.specs.declared.module.Module.{Module}
use Rattle.request_reply.specs.declared.flaw.FlawKind.TheVariants as flaws
use Rattle.state_cells.specs.declared.fault.CellFault.TheVariants as faults
use Rattle.invocation.specs.declared.effects.Change.TheVariants.{Set, Clear}
use Rattle.invocation.specs.declared.judging.Judged.{Judged}
use Rattle.invocation.specs.declared.judging.Judged.TheVariants.{Accept, Register, Flaw as Flawed}
use Rattle.invocation.specs.declared.effects.Effects.{Effects}
use Rattle.invocation.specs.Effects.{set_to, change_of, effects_of}
use Rattle.invocation.specs.Judging.{setting_of, done_by, judgement}
use Rattle.invocation.specs.Laws.{Takes, TakesAll, AreNew, Fits}

turned : (a b : List ℕ) → same_bytes a b ≡ same_bytes b a
turned a b = same_from_decides (same_bytes a b) (same_bytes b a) (bytes_decides a b) (λ e. sym ((bytes_decides b a).0 e), λ e. (bytes_decides b a).1 (sym e))

-- ---- mutations

value-taken : (cell : Cell) (value : TypedValue) → value_flaw cell.spec.typename value ≡ None → taking value (Some cell) ≡ Ok tt
value-taken cell value e = rw (turned cell.spec.typename value.typename) (by_type (same_bytes value.typename cell.spec.typename) (ltb 1048576 (length value.value)) e)
  where
    done : Unit {0}
    done = tt

    by_type : (b long : Bool) → cond b (cond long (Some flaws.TooLarge) None) (Some flaws.TypeDiffers) ≡ None → cond b (cond long (Err faults.TooLarge) (Ok done)) (Err faults.TypeDiffers) ≡ Ok done
    by_type true true e = absurd cc
    by_type true false e = refl
    by_type false long e = absurd cc

-- what sets a value or clears it, of a cell that is there
set-taken : (name : List ℕ) (cells : List Cell) (cell : Cell) → found name cells ≡ Some cell → (value : Option TypedValue) → set_flaw cell.spec.typename value ≡ None → Takes cells (set_to name value)
set-taken name cells cell there None e = rw there refl
set-taken name cells cell there (Some value) e = by_value value.has_value refl e
  where
    by_value : (b : Bool) → value.has_value ≡ b → cond b (value_flaw cell.spec.typename value) None ≡ None → Takes cells (cond b (Set name value) (Clear name))
    by_value true has e = (has, rw there (value-taken cell value e))
    by_value false has e = rw there refl

mutation-taken : (setting : Setting) (mutation : PersistedValueMutation) → mutation_flaw setting mutation ≡ None → Takes setting.cells (change_of mutation)
mutation-taken setting mutation e = by_kind (is_mutation mutation.mutation_type) e
  where
    by_set : (cell : Cell) → found mutation.state_name setting.cells ≡ Some cell → (b : Bool) → cond b (set_flaw cell.spec.typename mutation.state_value) None ≡ None
        → Takes setting.cells (cond b (set_to mutation.state_name mutation.state_value) (Clear mutation.state_name))
    by_set cell there true e = set-taken mutation.state_name setting.cells cell there mutation.state_value e
    by_set cell there false e = rw there refl

    by_cell : (o : Option Cell) → found mutation.state_name setting.cells ≡ o → known_flaw (type_in o) mutation ≡ None → Takes setting.cells (change_of mutation)
    by_cell None there e = absurd cc
    by_cell (Some cell) there e = by_set cell there (sets mutation) e

    by_kind : (b : Bool) → cond b (known_flaw (type_of mutation.state_name setting.cells) mutation) (Some flaws.BadMutation) ≡ None → Takes setting.cells (change_of mutation)
    by_kind true e = by_cell (found mutation.state_name setting.cells) refl e
    by_kind false e = absurd cc

-- the first of two that are not there
neither : (a b : Option Flaw) → first_of_two a b ≡ None → (a ≡ None) × (b ≡ None)
neither None b e = (refl, e)
neither (Some flaw) b e = absurd cc

not-placed : (kind : Option FlawKind) (index : ℕ) → placed kind index ≡ None → kind ≡ None
not-placed None index e = refl
not-placed (Some kind) index e = absurd cc

all-taken : (setting : Setting) (at : ℕ) (mutations : List PersistedValueMutation) → first_in (mutation_flaw setting) at mutations ≡ None → TakesAll setting.cells (map change_of mutations)
all-taken setting at [] e = tt
all-taken setting at (mutation ∷ mutations) e =
    let both = neither (placed (mutation_flaw setting mutation) at) (first_in (mutation_flaw setting) (at + 1) mutations) e in
    (mutation-taken setting mutation (not-placed (mutation_flaw setting mutation) at both.0), all-taken setting (at + 1) mutations both.1)

-- ---- missing values

all-new : (cells : List Cell) (at : ℕ) (values : List PersistedValueSpec) → first_missing cells at values ≡ None → AreNew cells (added cells values)
all-new cells at [] e = tt
all-new cells at (value ∷ values) e =
    let both = neither (placed (missing_flaw cells value) at) (first_missing (registered (declared value) cells) (at + 1) values) e in
    by_expiry (is_expiry value.expiration_spec) (not-placed (missing_flaw cells value) at both.0) (all-new (registered (declared value) cells) (at + 1) values both.1)
  where
    few : (b : Bool) → ltb (length cells) 64 ≡ b → cond b None (Some flaws.TooMany) ≡ None → length cells < 64
    few true is e = ltb-true (length cells) 64 is
    few false is e = absurd cc

    room : (c : Bool) → leb 64 (length cells) ≡ c → length cells < 64 → cond c (Err faults.TooMany) (Ok true) ≡ Ok true
    room true is less = let more : 64 ≤ length cells = leb-true 64 (length cells) is in absurd (omega arith)
    room false is less = refl

    by_cell : (o : Option Cell) → found value.state_name cells ≡ o → name_flaw (length cells) value.type_typename (type_in o) ≡ None
        → AreNew (cond (is_some o) cells (cells ++ empty (declared value) ∷ [])) (added (cond (is_some o) cells (cells ++ empty (declared value) ∷ [])) values)
        → AreNew cells (cond (is_some o) (added (cond (is_some o) cells (cells ++ empty (declared value) ∷ [])) values) (declared value ∷ added (cond (is_some o) cells (cells ++ empty (declared value) ∷ [])) values))
    by_cell (Some cell) there e later = later
    by_cell None there e later = (rw there (room (leb 64 (length cells)) refl (few (ltb (length cells) 64) refl e)), rw there later)

    by_expiry : (b : Bool) → cond b (name_flaw (length cells) value.type_typename (type_of value.state_name cells)) (Some flaws.BadExpiry) ≡ None
        → AreNew (registered (declared value) cells) (added (registered (declared value) cells) values) → AreNew cells (added cells (value ∷ values))
    by_expiry true e later = by_cell (found value.state_name cells) refl e later
    by_expiry false e later = absurd cc

-- ---- the answer

judged-fits : (m : Module) (cells : List Cell) (address : Address) (moment : ℕ) (answer : FromFunction) → Fits cells (done_by address moment (unless (answer_flaw (setting_of m cells) answer) (asked (setting_of m cells) answer)))
unfolding result_flaw incomplete_flaw effects_of
judged-fits m cells address moment (answers.Result response) = by_flaw (result_flaw (setting_of m cells) response) refl
  where
    by_flaw : (o : Option Flaw) → result_flaw (setting_of m cells) response ≡ o → Fits cells (done_by address moment (unless o (judgements.Accept response)))
    by_flaw None e = all-taken (setting_of m cells) 0 response.state_mutations (neither (first_in (mutation_flaw (setting_of m cells)) 0 response.state_mutations) _ e).0
    by_flaw (Some flaw) e = tt
judged-fits m cells address moment (answers.Incomplete context) = by_flaw (incomplete_flaw cells context.missing_values) refl
  where
    by_flaw : (o : Option Flaw) → incomplete_flaw cells context.missing_values ≡ o → Fits cells (done_by address moment (unless o (judgements.Register (added cells context.missing_values))))
    by_flaw None e = all-new cells 0 context.missing_values (neither (first_missing cells 0 context.missing_values) _ e).0
    by_flaw (Some flaw) e = tt

pub judgement-fits : (m : Module) (cells : List Cell) (address : Address) (moment : ℕ) (answer : List ℕ) → Fits cells (judgement m cells address moment answer)
unfolding judgement verdict read_verdict
judgement-fits m cells address moment answer = by_length (ltb 4194304 (length answer)) (from_value answer)
  where
    by_length : (b : Bool) (read : Result FromFunction WireFault) → Fits cells (done_by address moment (cond b (judgements.Flaw (wire_flaw too_long)) (read_verdict (setting_of m cells) read)))
    by_length true read = tt
    by_length false (Err fault) = tt
    by_length false (Ok answer) = judged-fits m cells address moment answer

-- an accepted answer spells the result whose effects it has
pub accepted-spells : (m : Module) (cells : List Cell) (address : Address) (moment : ℕ) (answer : List ℕ) (effects : Effects) → judgement m cells address moment answer ≡ Accept effects
    → (response : InvocationResponse) × (from_value answer ≡ Ok (answers.Result response)) × (effects ≡ effects_of address moment response)
unfolding judgement verdict read_verdict
accepted-spells m cells address moment answer effects e = by_length (ltb 4194304 (length answer)) (from_value answer) refl e
  where
    Spells : Type 0
    Spells = (response : InvocationResponse) × (from_value answer ≡ Ok (answers.Result response)) × (effects ≡ effects_of address moment response)

    by_flaw : (own : FromFunction) → from_value answer ≡ Ok own → (o : Option Flaw) → done_by address moment (unless o (asked (setting_of m cells) own)) ≡ Accept effects → Spells
    by_flaw (answers.Result response) is None e = (response, is, sym cc)
    by_flaw (answers.Incomplete context) is None e = absurd cc
    by_flaw own is (Some flaw) e = absurd cc

    by_length : (b : Bool) (read : Result FromFunction WireFault) → from_value answer ≡ read → done_by address moment (cond b (judgements.Flaw (wire_flaw too_long)) (read_verdict (setting_of m cells) read)) ≡ Accept effects → Spells
    by_length true read is e = absurd cc
    by_length false (Err fault) is e = absurd cc
    by_length false (Ok own) is e = by_flaw own is (answer_flaw (setting_of m cells) own) e

-- so for one that was judged
pub made-fits : {E : Type 0} (m : Module) (cells : List Cell) (address : Address) (moment : ℕ) (answer : List ℕ) (made : Result Judged E) → IfOk made (λ judged. judged ≡ judgement m cells address moment answer) → IfOk made (Fits cells)
made-fits m cells address moment answer (Ok judged) is = subst (Fits cells) (sym is) (judgement-fits m cells address moment answer)
made-fits m cells address moment answer (Err e) is = tt

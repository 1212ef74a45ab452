-- Laws of requests and of judging.
use Rattle.std.specs.Prelude.{◌≡◌, ℕ, true, List, [], ◌∷◌, length, Ok}
use Rattle.typed_values.specs.declared.address.Address.{Address}
use Rattle.typed_values.specs.declared.letter.Letter.{Letter}
use Rattle.typed_values.specs.declared.cell.CellSpec.{CellSpec}
use Rattle.typed_values.specs.declared.cells.Cell.{Cell}
use Rattle.typed_values.specs.Cells.{registered}
use Rattle.request_reply.specs.Spelling.{to_spelling}
use Rattle.state_cells.specs.Answers.{registering, modifying, deleting}
use Rattle.batch_queue.specs.Batches.{request_size}
use Rattle.address_routing.specs.declared.module.Module.{Module}
use Rattle.invocation.specs.declared.effects.Change.{Change}
use Rattle.invocation.specs.declared.effects.Change.TheVariants.{Set, Clear}
use Rattle.invocation.specs.declared.judging.Judged.{Judged}
use Rattle.invocation.specs.declared.judging.Judged.TheVariants.{Accept, Register, Flaw}
use Rattle.invocation.specs.Requests.{request_of, head_size}
use Rattle.invocation.specs.Judging.{judgement}

-- the length of a request is that of its target and state and of its letters together
abbrev pub SizeIsOfParts : Type 0
SizeIsOfParts =
    (address : Address) (cells : List Cell) (moment : ℕ) (letters : List Letter) →
    length (to_spelling (request_of address cells moment letters)) ≡ request_size (head_size address cells moment) letters

-- ---- the cells take what an accepted answer asks of them

abbrev pub Takes : List Cell → Change → Type 0
Takes cells (Set name value) = (value.has_value ≡ true) × (modifying name value cells ≡ Ok tt)
Takes cells (Clear name) = deleting name cells ≡ Ok tt

abbrev pub TakesAll : List Cell → List Change → Type 0
TakesAll cells [] = Unit {0}
TakesAll cells (change ∷ changes) = Takes cells change × TakesAll cells changes

-- each is new behind those before it
abbrev pub AreNew : List Cell → List CellSpec → Type 0
AreNew cells [] = Unit {0}
AreNew cells (spec ∷ specs) = (registering spec cells ≡ Ok true) × AreNew (registered spec cells) specs

abbrev pub Fits : List Cell → Judged → Type 0
Fits cells (Accept effects) = TakesAll cells effects.mutations
Fits cells (Register specs) = AreNew cells specs
Fits cells (Flaw flaw) = Unit {0}

abbrev pub AcceptedFits : Type 0
AcceptedFits = (m : Module) (cells : List Cell) (address : Address) (moment : ℕ) (answer : List ℕ) → Fits cells (judgement m cells address moment answer)

-- The state that a machine keeps.
use Rattle.std.specs.Prelude.{◌≡◌, ℕ, ◌+◌, List, [], ◌∷◌, map, get_or, Option, Some, None}
use Rattle.std.specs.Option.{option_map_or}
use Rattle.std.specs.BTreeMap.{get}
use Rattle.typed_values.specs.declared.name.TypeName.{TypeName}
use Rattle.typed_values.specs.declared.address.Address.{Address}
use Rattle.typed_values.specs.declared.value.TypedValue.{TypedValue}
use Rattle.typed_values.specs.declared.letter.Sender.{Sender}
use Rattle.typed_values.specs.declared.letter.Sender.TheVariants.{Split, Function}
use Rattle.typed_values.specs.declared.letter.Letter.{Letter}
use Rattle.typed_values.specs.declared.record.EgressRecord.{EgressRecord}
use Rattle.keyed_queues.specs.declared.shelves.Shelves.{Shelves}
use Rattle.keyed_queues.specs.declared.shelves.Placed.{Placed}
use Rattle.keyed_queues.specs.Keys.{name_order, address_order, sender_order}
use Rattle.keyed_queues.specs.Queues.{list_in}
use Rattle.run_record.specs.declared.machine.Machine.{Machine}
use Rattle.run_record.specs.declared.part.Part.{Part}
use Rattle.run_record.specs.declared.parts.Parts.{Parts}
use Rattle.typed_values.specs.declared.cell.CellSpec.{CellSpec}
use Rattle.state_cells.specs.Lifetimes.{Registers, Invokes, after_all as cells_after}
use Rattle.delayed_messages.specs.Laws.{Asks, after_all as delays_after}
use Rattle.invocation.specs.declared.effects.Change.{Change}
use Rattle.invocation.specs.declared.effects.DelayChange.{DelayChange}
use Rattle.run_record.specs.Machine.{Own, State, Mail, nothing, cell_call, delay_call}

-- mail is kept by target, and then by sender
abbrev pub mail_of : Shelves Address Sender TypedValue → Mail
mail_of kept sender target = list_in address_order sender_order kept.shelves target sender

abbrev pub egress_in : Shelves Address TypeName TypedValue → Address → TypeName → List TypedValue
egress_in kept address egress = list_in address_order name_order kept.shelves address egress

-- what an address has of its own, by what is kept of it
abbrev pub own_of : Part → Own
own_of part = record { taken = 0; cells = part.cells; seen = part.seen; delays = part.delays.delays }

abbrev pub own_in : Parts → Address → Own
own_in kept address = option_map_or own_of (get address_order kept.parts address) nothing

-- an address has a part of which this is so
abbrev pub HasPart : (Part → Type 0) → Option Part → Type 0
HasPart P None = ⊥
HasPart P (Some part) = P part

-- ---- what becomes of what an address has

abbrev pub after_batch : Address → ℕ → List Change → List DelayChange → Own → Own
after_batch address moment mutations delays own = record own {
  cells = cells_after (Invokes moment ∷ map (cell_call moment) mutations) own.cells;
  seen = moment;
  delays = delays_after (map (delay_call address) delays) own.delays;
}

abbrev pub after_registration : ℕ → List CellSpec → Own → Own
after_registration moment specs own = record own { cells = cells_after (map Registers specs) own.cells; seen = moment }

abbrev pub after_due : ℕ → Own → Own
after_due moment own = record own { delays = delays_after (Asks moment ∷ []) own.delays }

-- a split has one more, and each other as many as before
pub record CountsOne (split : ℕ) (before after : ℕ → ℕ) : Type 0 where
  pub here : after split ≡ before split + 1
  pub others : (other : ℕ) → (other ≡ split → ⊥) → after other ≡ before other

-- ---- the state

-- of a split its count is kept, of an address the rest
abbrev pub own_by : List ℕ → Parts → Sender → Own
own_by taken parts (Split split) = record { taken = get_or taken split 0; cells = []; seen = 0; delays = [] }
own_by taken parts (Function address) = own_in parts address

unfoldable pub state_of : Machine → State
state_of machine = record {
  own = own_by machine.taken.items machine.parts;
  mail = mail_of machine.mail;
  egress = egress_in machine.egress;
}

-- a letter, and an egress record, where they are kept
abbrev pub placed_letter : Letter → Placed Address Sender TypedValue
placed_letter letter = record { outer = letter.target; inner = letter.sender; value = letter.argument }

abbrev pub placed_record : EgressRecord → Placed Address TypeName TypedValue
placed_record r = record { outer = r.sender; inner = r.egress; value = r.argument }

-- What is kept of an address and of its cells.
use Rattle.std.specs.Prelude.{◌≡◌, ℤ, pos, [], map, is_some, Ok}
use Rattle.std.specs.Option.{option_map_or}
use Rattle.typed_values.specs.declared.address.Address.{Address}
use Rattle.typed_values.specs.declared.value.TypedValue.{TypedValue}
use Rattle.typed_values.specs.declared.cell.Expiry.{Expiry}
use Rattle.typed_values.specs.declared.cell.Expiry.TheVariants.{Never, AfterWrite, AfterInvoke}
use Rattle.typed_values.specs.declared.cells.Cell.{Cell}
use Rattle.typed_values.specs.Spelling.{address_spelling, address_value}
use Rattle.state_cells.specs.Kept.{AreCells}
use Rattle.piece_messages.specs.declared.cell_state.CellState.{CellState}
use Rattle.piece_messages.specs.declared.address_state.AddressState.{AddressState}
use Rattle.typed_values.specs.declared.letter.Sender.TheVariants.{Function}
use Rattle.piece_messages.specs.Stands.{cell_of}
use Rattle.partition_core.specs.declared.actor.Actor.{Actor}
use Rattle.partition_core.specs.declared.actors.Actors.{Actors}
use Rattle.partition_core.specs.Work.{set_for}
use Rattle.partition_core.specs.Kept.{cells_in, seen_in}

abbrev pub mode_number : Expiry → ℤ
mode_number Never = pos 0
mode_number AfterWrite = pos 1
mode_number AfterInvoke = pos 2

abbrev pub kept_cell : Cell → CellState
kept_cell cell = record {
  name = cell.spec.name;
  typename = cell.spec.typename;
  mode = mode_number cell.spec.mode;
  millis = cell.spec.millis;
  has_value = is_some cell.value;
  stamp = cell.stamp;
  value = option_map_or (λ (value : TypedValue). value.value) cell.value [];
}

abbrev pub kept_state : Address → Actor → AddressState
kept_state address actor = record { address = address; seen = actor.seen; cells = map kept_cell actor.cells }

-- the address can be told from its encoding, and its cells are such as an address may have
abbrev pub IsSound : Address × Actor → Type 0
IsSound entry = (address_value (address_spelling entry.0) ≡ Ok entry.0) × AreCells entry.1.cells

-- an address has what its state stands for, and all others have what they had
abbrev pub IsRestored : AddressState → Actors → Actors → Type 0
IsRestored state old new = (cells_in new ≡ set_for (Function state.address) (map cell_of state.cells) (cells_in old))
    × (seen_in new ≡ set_for (Function state.address) state.seen (seen_in old))

-- What the states of addresses stand for: what each address has of its own in the sequential machine.
use Rattle.std.specs.Prelude.{ℕ, Bool, true, false, List, [], ◌∷◌, map, filter, if◌then◌else◌, Option, Some, None}
use Rattle.std.specs.Option.{option_map_or}
use Rattle.typed_values.specs.declared.address.Address.{Address}
use Rattle.typed_values.specs.declared.value.TypedValue.{TypedValue}
use Rattle.typed_values.specs.declared.cells.Cell.{Cell}
use Rattle.typed_values.specs.declared.record.Delay.{Delay}
use Rattle.typed_values.specs.Sameness.{same_address}
use Rattle.request_reply.specs.Flaws.{mode_of}
use Rattle.run_record.specs.Machine.{Own}
use Rattle.piece_messages.specs.declared.cell_state.CellState.{CellState}
use Rattle.piece_messages.specs.declared.address_state.AddressState.{AddressState}

-- a value of the cell's type; without one the stamp counts for nothing
abbrev pub value_of : CellState → Option TypedValue
value_of cell = if cell.has_value then Some (record { typename = cell.typename; has_value = true; value = cell.value }) else None

abbrev pub cell_of : CellState → Cell
cell_of cell = record {
  spec = record { name = cell.name; typename = cell.typename; mode = mode_of cell.mode; millis = cell.millis };
  value = value_of cell;
  stamp = if cell.has_value then cell.stamp else 0;
}

-- the state of an address: the first that is its own
abbrev pub state_at : List AddressState → Address → Option AddressState
state_at [] address = None
state_at (state ∷ states) address = if same_address state.address address then Some state else state_at states address

-- an address that has no state has no cells, and nothing was seen of it
abbrev pub cells_at : List AddressState → Address → List Cell
cells_at states address = option_map_or (λ (state : AddressState). map cell_of state.cells) (state_at states address) []

abbrev pub seen_at : List AddressState → Address → ℕ
seen_at states address = option_map_or (λ (state : AddressState). state.seen) (state_at states address) 0

abbrev pub delays_at : List Delay → Address → List Delay
delays_at delays address = filter (λ (delay : Delay). same_address delay.sender address) delays

abbrev pub own_at : List AddressState → List Delay → Address → Own
own_at states delays address = record {
  taken = 0;
  cells = cells_at states address;
  seen = seen_at states address;
  delays = delays_at delays address;
}

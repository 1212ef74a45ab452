-- What a machine that is filled with what was kept has.
use Rattle.std.specs.Prelude.{ℕ, List, [], ◌∷◌, ◌++◌, get_or, if◌then◌else◌, Option}
use Rattle.std.specs.Option.{option_map_or}
use Rattle.typed_values.specs.declared.address.Address.{Address}
use Rattle.typed_values.specs.declared.letter.Sender.{Sender}
use Rattle.typed_values.specs.declared.letter.Sender.TheVariants.{Split, Function}
use Rattle.typed_values.specs.declared.letter.Letter.{Letter}
use Rattle.typed_values.specs.declared.cells.Cell.{Cell}
use Rattle.typed_values.specs.declared.record.Delay.{Delay}
use Rattle.typed_values.specs.Sameness.{same_sender}
use Rattle.run_record.specs.declared.part.Part.{Part}
use Rattle.run_record.specs.Machine.{Own, State, nothing, first_state, posted}
use Rattle.run_record.specs.StateOf.{own_of}

-- what an address has, by its part
abbrev pub own_read : Option Part → Own
own_read part = option_map_or own_of part nothing

-- so many records of each split were taken, and nothing else has happened
abbrev pub counted : List ℕ → Sender → Own
counted taken (Split split) = record nothing { taken = get_or taken split 0 }
counted taken (Function address) = nothing

abbrev pub counted_state : List ℕ → State
counted_state taken = record first_state { own = counted taken }

-- a letter goes last in the mail of its pair
abbrev pub with_letter : Letter → State → State
with_letter letter st = record st { mail = posted st.mail (letter ∷ []) }

-- what an address has of its own is changed
abbrev pub own_with : Address → (Own → Own) → (Sender → Own) → Sender → Own
own_with address change own actor = if same_sender (Function address) actor then change (own actor) else own actor

abbrev pub with_own : Address → (Own → Own) → State → State
with_own address change st = record st { own = own_with address change st.own }

-- a delayed letter waits behind the others of its sender
abbrev pub waits_too : Delay → Own → Own
waits_too delay own = record own { delays = own.delays ++ delay ∷ [] }

abbrev pub with_delay : Delay → State → State
with_delay delay st = with_own delay.sender (waits_too delay) st

-- an address has these cells, and was last served at this moment
abbrev pub keeps : List Cell → ℕ → Own → Own
keeps cells seen own = record own { cells = cells; seen = seen }

abbrev pub with_cells : Address → List Cell → ℕ → State → State
with_cells address cells seen st = with_own address (keeps cells seen) st

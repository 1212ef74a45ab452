-- The fields of letters, delayed letters and egress records. While one is read, what it needs may still be absent.
use Rattle.std.specs.Prelude.{List, [], ◌∷◌, Option, Some, None}
use Rattle.proto_wire.specs.Message.{Row, texts, numbers, messages}
use Rattle.typed_values.specs.declared.letter.Letter.{Letter}
use Rattle.typed_values.specs.declared.record.Delay.{Delay}
use Rattle.typed_values.specs.declared.record.EgressRecord.{EgressRecord}
use Rattle.typed_values.specs.Tables.{empty_address, address_rows, empty_value, value_rows}
use Rattle.folder_messages.specs.Needs.{◌>>=◌}
use Rattle.folder_messages.specs.Entries.{empty_pick, pick_rows, pick_read}
use Rattle.piece_messages.specs.declared.stored.LetterRead.{LetterRead}
use Rattle.piece_messages.specs.declared.stored.DelayRead.{DelayRead}
use Rattle.piece_messages.specs.declared.stored.EgressRead.{EgressRead}

-- ---- letters

unfoldable pub empty_letter : LetterRead
empty_letter = record { sender = None; target = None; argument = None }

unfoldable pub letter_rows : List (Row LetterRead)
letter_rows =
    messages empty_pick pick_rows 1 (λ it. it.sender) (λ it new. record it { sender = new })
    ∷ messages empty_address address_rows 2 (λ it. it.target) (λ it new. record it { target = new })
    ∷ messages empty_value value_rows 3 (λ it. it.argument) (λ it new. record it { argument = new })
    ∷ []

abbrev pub letter_read : Letter → LetterRead
letter_read letter = record { sender = Some (pick_read letter.sender); target = Some letter.target; argument = Some letter.argument }

-- a letter needs a sender with its member, a target and an argument
unfoldable pub letter_of : LetterRead → Option Letter
letter_of it = do
  read ← it.sender
  sender ← read.member
  target ← it.target
  argument ← it.argument
  Some (record { sender = sender; target = target; argument = argument })

-- ---- delayed letters

unfoldable pub empty_delay : DelayRead
empty_delay = record { sender = None; due = 0; target = None; token = []; argument = None }

unfoldable pub delay_rows : List (Row DelayRead)
delay_rows =
    messages empty_address address_rows 1 (λ it. it.sender) (λ it new. record it { sender = new })
    ∷ numbers 2 (λ it. it.due) (λ it new. record it { due = new })
    ∷ messages empty_address address_rows 3 (λ it. it.target) (λ it new. record it { target = new })
    ∷ texts 4 (λ it. it.token) (λ it new. record it { token = new })
    ∷ messages empty_value value_rows 5 (λ it. it.argument) (λ it new. record it { argument = new })
    ∷ []

abbrev pub delay_read : Delay → DelayRead
delay_read delay = record { sender = Some delay.sender; due = delay.due; target = Some delay.target; token = delay.token; argument = Some delay.argument }

-- a delayed letter needs a sender, a target and an argument
unfoldable pub delay_of : DelayRead → Option Delay
delay_of it = do
  sender ← it.sender
  target ← it.target
  argument ← it.argument
  Some (record { sender = sender; due = it.due; target = target; token = it.token; argument = argument })

-- ---- egress records

unfoldable pub empty_egress : EgressRead
empty_egress = record { sender = None; namespace = []; name = []; argument = None }

unfoldable pub egress_rows : List (Row EgressRead)
egress_rows =
    messages empty_address address_rows 1 (λ it. it.sender) (λ it new. record it { sender = new })
    ∷ texts 2 (λ it. it.namespace) (λ it new. record it { namespace = new })
    ∷ texts 3 (λ it. it.name) (λ it new. record it { name = new })
    ∷ messages empty_value value_rows 4 (λ it. it.argument) (λ it new. record it { argument = new })
    ∷ []

abbrev pub egress_read : EgressRecord → EgressRead
egress_read egress = record { sender = Some egress.sender; namespace = egress.egress.namespace; name = egress.egress.name; argument = Some egress.argument }

-- an egress record needs a sender and an argument
unfoldable pub egress_of : EgressRead → Option EgressRecord
egress_of it = do
  sender ← it.sender
  argument ← it.argument
  Some (record { sender = sender; egress = record { namespace = it.namespace; name = it.name }; argument = argument })

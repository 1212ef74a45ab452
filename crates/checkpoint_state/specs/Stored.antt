-- What a checkpoint stands for, as a state of the sequential machine.
use Rattle.std.specs.Prelude.{List, ◌++◌, get_or}
use Rattle.std.specs.List.{flat_map}
use Rattle.typed_values.specs.declared.letter.Sender.{Sender}
use Rattle.typed_values.specs.declared.letter.Sender.TheVariants.{Split, Function}
use Rattle.typed_values.specs.declared.letter.Letter.{Letter}
use Rattle.typed_values.specs.declared.record.Delay.{Delay}
use Rattle.typed_values.specs.declared.record.EgressRecord.{EgressRecord}
use Rattle.run_record.specs.Machine.{State, Own, Mail, nothing, arguments_of, arguments_at}
use Rattle.piece_messages.specs.declared.address_state.AddressState.{AddressState}
use Rattle.piece_messages.specs.declared.piece.Piece.{Piece}
use Rattle.piece_messages.specs.Stands.{own_at}
use Rattle.folder_form.specs.declared.loaded.Loaded.{Loaded}

abbrev pub states_in : List Piece → List AddressState
states_in pieces = flat_map (λ (piece : Piece). piece.states) pieces

abbrev pub delays_in : List Piece → List Delay
delays_in pieces = flat_map (λ (piece : Piece). piece.delays) pieces

abbrev pub letters_in : List Piece → List Letter
letters_in pieces = flat_map (λ (piece : Piece). piece.letters) pieces

abbrev pub on_the_way : List (List Letter) → List Letter
on_the_way feedback = flat_map (λ (letters : List Letter). letters) feedback

-- a split has its count, an address the rest
abbrev pub stored_own : Loaded → Sender → Own
stored_own loaded (Split split) = record nothing { taken = get_or loaded.taken split 0 }
stored_own loaded (Function address) = own_at (states_in loaded.pieces) (delays_in loaded.pieces) address

-- of a pair first the letters of the pieces, and then those that were on the way
abbrev pub stored_mail : Loaded → Mail
stored_mail loaded sender target =
    arguments_of sender target (letters_in loaded.pieces) ++ arguments_of sender target (on_the_way loaded.feedback)

-- beside what was given to egresses up to then
unfoldable pub stored_state : Loaded → List EgressRecord → State
stored_state loaded given = record {
  own = stored_own loaded;
  mail = stored_mail loaded;
  egress = λ address name. arguments_at address name given;
}

-- What one record does to the fields of each message.
use Rattle.std.proofs.Common.{◌≡◌, ℕ, Bool, true, false, cond, eqb, List, [], ◌∷◌, Option, Some, None, Result, Ok, Err, refl, sym, ap, ◌∙◌, ◌&&◌}
use Rattle.std.proofs.lemmas.Bool.{eqb-true}
use Rattle.proto_wire.specs.Varint.{ItemFault, ◌>>=◌}
use Rattle.proto_wire.specs.Record.{Item}
use Rattle.proto_wire.specs.Message.{Row, belongs, accepted, text_of, bool_of, short_of, joined, entered}
use Rattle.proto_wire.specs.Encoding.{IsScalar, IsSingular, IsMember}
use Rattle.proto_wire.proofs.RoundTrip.{EnterBy, enter-all}
use Rattle.proto_wire.proofs.Tables.{Minds, is_own, is_other, leaves, keeps, scalar-field, singular-field, member-field, drops}
use Rattle.typed_values.specs.declared.address.Address.{Address}
use Rattle.typed_values.specs.declared.value.TypedValue.{TypedValue}
use Rattle.typed_values.specs.declared.letter.Sender.{Sender}
use Rattle.typed_values.specs.declared.letter.Sender.TheVariants.{Split, Function}
use Rattle.typed_values.specs.declared.reading.SenderRead.{SenderRead}
use Rattle.typed_values.specs.declared.reading.LetterRead.{LetterRead}
use Rattle.typed_values.specs.declared.reading.DelayRead.{DelayRead}
use Rattle.typed_values.specs.declared.reading.EgressRead.{EgressRead}
use Rattle.typed_values.specs.Tables.{empty_address, address_rows, empty_value, value_rows}
use Rattle.typed_values.specs.Stored.{split_of, function_of, empty_sender, sender_rows, letter_rows, delay_rows, egress_rows}
use Rattle.typed_values.specs.Fields.{AddressFields, ValueFields, LetterFields, DelayFields, EgressFields, SenderMember}

address-namespace : IsScalar address_rows 1 2 text_of (λ (it : Address). it.kind.namespace)
unfolding address_rows
address-namespace =
    let e : EnterBy address_rows address_rows = enter-all 0 address_rows refl in
    scalar-field address_rows 1 2 text_of (λ (it : Address). it.kind.namespace) (λ (it : Address) (x : List ℕ). record it { kind = record { namespace = x; name = it.kind.name } }) e.0 (λ it x. refl) (
      is_own refl refl,
      (
        leaves (keeps (λ (it : Address). it.kind.namespace) (λ (it : Address) (item : Item). text_of item) (λ (it : Address) (x : List ℕ). record it { kind = record { namespace = it.kind.namespace; name = x } }) (λ it x. refl)),
        (leaves (keeps (λ (it : Address). it.kind.namespace) (λ (it : Address) (item : Item). text_of item) (λ (it : Address) (x : List ℕ). record it { id = x }) (λ it x. refl)), tt),
      ),
    )

address-name : IsScalar address_rows 2 2 text_of (λ (it : Address). it.kind.name)
unfolding address_rows
address-name =
    let e : EnterBy address_rows address_rows = enter-all 0 address_rows refl in
    scalar-field address_rows 2 2 text_of (λ (it : Address). it.kind.name) (λ (it : Address) (x : List ℕ). record it { kind = record { namespace = it.kind.namespace; name = x } }) e.1.0 (λ it x. refl) (
      leaves (keeps (λ (it : Address). it.kind.name) (λ (it : Address) (item : Item). text_of item) (λ (it : Address) (x : List ℕ). record it { kind = record { namespace = x; name = it.kind.name } }) (λ it x. refl)),
      (
        is_own refl refl,
        (leaves (keeps (λ (it : Address). it.kind.name) (λ (it : Address) (item : Item). text_of item) (λ (it : Address) (x : List ℕ). record it { id = x }) (λ it x. refl)), tt),
      ),
    )

address-id : IsScalar address_rows 3 2 text_of (λ (it : Address). it.id)
unfolding address_rows
address-id =
    let e : EnterBy address_rows address_rows = enter-all 0 address_rows refl in
    scalar-field address_rows 3 2 text_of (λ (it : Address). it.id) (λ (it : Address) (x : List ℕ). record it { id = x }) e.1.1.0 (λ it x. refl) (
      leaves (keeps (λ (it : Address). it.id) (λ (it : Address) (item : Item). text_of item) (λ (it : Address) (x : List ℕ). record it { kind = record { namespace = x; name = it.kind.name } }) (λ it x. refl)),
      (
        leaves (keeps (λ (it : Address). it.id) (λ (it : Address) (item : Item). text_of item) (λ (it : Address) (x : List ℕ). record it { kind = record { namespace = it.kind.namespace; name = x } }) (λ it x. refl)),
        (is_own refl refl, tt),
      ),
    )

pub address-fields : AddressFields
address-fields = record { namespace = address-namespace; name = address-name; id = address-id }

value-typename : IsScalar value_rows 1 2 text_of (λ (it : TypedValue). it.typename)
unfolding value_rows
value-typename =
    let e : EnterBy value_rows value_rows = enter-all 0 value_rows refl in
    scalar-field value_rows 1 2 text_of (λ (it : TypedValue). it.typename) (λ (it : TypedValue) (x : List ℕ). record it { typename = x }) e.0 (λ it x. refl) (
      is_own refl refl,
      (
        leaves (keeps (λ (it : TypedValue). it.typename) (λ (it : TypedValue) (item : Item). Ok (bool_of item)) (λ (it : TypedValue) (x : Bool). record it { has_value = x }) (λ it x. refl)),
        (leaves (keeps (λ (it : TypedValue). it.typename) (λ (it : TypedValue) (item : Item). Ok item.payload) (λ (it : TypedValue) (x : List ℕ). record it { value = x }) (λ it x. refl)), tt),
      ),
    )

value-has_value : IsScalar value_rows 2 0 (λ item. Ok (bool_of item)) (λ (it : TypedValue). it.has_value)
unfolding value_rows
value-has_value =
    let e : EnterBy value_rows value_rows = enter-all 0 value_rows refl in
    scalar-field value_rows 2 0 (λ (item : Item). Ok (bool_of item)) (λ (it : TypedValue). it.has_value) (λ (it : TypedValue) (x : Bool). record it { has_value = x }) e.1.0 (λ it x. refl) (
      leaves (keeps (λ (it : TypedValue). it.has_value) (λ (it : TypedValue) (item : Item). text_of item) (λ (it : TypedValue) (x : List ℕ). record it { typename = x }) (λ it x. refl)),
      (
        is_own refl refl,
        (leaves (keeps (λ (it : TypedValue). it.has_value) (λ (it : TypedValue) (item : Item). Ok item.payload) (λ (it : TypedValue) (x : List ℕ). record it { value = x }) (λ it x. refl)), tt),
      ),
    )

value-value : IsScalar value_rows 3 2 (λ item. Ok item.payload) (λ (it : TypedValue). it.value)
unfolding value_rows
value-value =
    let e : EnterBy value_rows value_rows = enter-all 0 value_rows refl in
    scalar-field value_rows 3 2 (λ (item : Item). Ok item.payload) (λ (it : TypedValue). it.value) (λ (it : TypedValue) (x : List ℕ). record it { value = x }) e.1.1.0 (λ it x. refl) (
      leaves (keeps (λ (it : TypedValue). it.value) (λ (it : TypedValue) (item : Item). text_of item) (λ (it : TypedValue) (x : List ℕ). record it { typename = x }) (λ it x. refl)),
      (
        leaves (keeps (λ (it : TypedValue). it.value) (λ (it : TypedValue) (item : Item). Ok (bool_of item)) (λ (it : TypedValue) (x : Bool). record it { has_value = x }) (λ it x. refl)),
        (is_own refl refl, tt),
      ),
    )

pub value-fields : ValueFields
value-fields = record { typename = value-typename; has_value = value-has_value; value = value-value }

letter-sender : IsSingular letter_rows sender_rows empty_sender 1 2 (λ (it : LetterRead). it.sender)
unfolding letter_rows
letter-sender =
    let e : EnterBy letter_rows letter_rows = enter-all 0 letter_rows refl in
    singular-field letter_rows sender_rows empty_sender 1 2 (λ (it : LetterRead). it.sender) (λ (it : LetterRead) (x : Option SenderRead). record it { sender = x }) e.0 (λ it x. refl) (
      is_own refl refl,
      (
        leaves (keeps (λ (it : LetterRead). it.sender) (λ (it : LetterRead) (item : Item). entered empty_address address_rows (it.target) item) (λ (it : LetterRead) (x : Option Address). record it { target = x }) (λ it x. refl)),
        (leaves (keeps (λ (it : LetterRead). it.sender) (λ (it : LetterRead) (item : Item). entered empty_value value_rows (it.argument) item) (λ (it : LetterRead) (x : Option TypedValue). record it { argument = x }) (λ it x. refl)), tt),
      ),
    )

letter-target : IsSingular letter_rows address_rows empty_address 2 2 (λ (it : LetterRead). it.target)
unfolding letter_rows
letter-target =
    let e : EnterBy letter_rows letter_rows = enter-all 0 letter_rows refl in
    singular-field letter_rows address_rows empty_address 2 2 (λ (it : LetterRead). it.target) (λ (it : LetterRead) (x : Option Address). record it { target = x }) e.1.0 (λ it x. refl) (
      leaves (keeps (λ (it : LetterRead). it.target) (λ (it : LetterRead) (item : Item). entered empty_sender sender_rows (it.sender) item) (λ (it : LetterRead) (x : Option SenderRead). record it { sender = x }) (λ it x. refl)),
      (
        is_own refl refl,
        (leaves (keeps (λ (it : LetterRead). it.target) (λ (it : LetterRead) (item : Item). entered empty_value value_rows (it.argument) item) (λ (it : LetterRead) (x : Option TypedValue). record it { argument = x }) (λ it x. refl)), tt),
      ),
    )

letter-argument : IsSingular letter_rows value_rows empty_value 3 2 (λ (it : LetterRead). it.argument)
unfolding letter_rows
letter-argument =
    let e : EnterBy letter_rows letter_rows = enter-all 0 letter_rows refl in
    singular-field letter_rows value_rows empty_value 3 2 (λ (it : LetterRead). it.argument) (λ (it : LetterRead) (x : Option TypedValue). record it { argument = x }) e.1.1.0 (λ it x. refl) (
      leaves (keeps (λ (it : LetterRead). it.argument) (λ (it : LetterRead) (item : Item). entered empty_sender sender_rows (it.sender) item) (λ (it : LetterRead) (x : Option SenderRead). record it { sender = x }) (λ it x. refl)),
      (
        leaves (keeps (λ (it : LetterRead). it.argument) (λ (it : LetterRead) (item : Item). entered empty_address address_rows (it.target) item) (λ (it : LetterRead) (x : Option Address). record it { target = x }) (λ it x. refl)),
        (is_own refl refl, tt),
      ),
    )

pub letter-fields : LetterFields
letter-fields = record { sender = letter-sender; target = letter-target; argument = letter-argument }

delay-sender : IsSingular delay_rows address_rows empty_address 1 2 (λ (it : DelayRead). it.sender)
unfolding delay_rows
delay-sender =
    let e : EnterBy delay_rows delay_rows = enter-all 0 delay_rows refl in
    singular-field delay_rows address_rows empty_address 1 2 (λ (it : DelayRead). it.sender) (λ (it : DelayRead) (x : Option Address). record it { sender = x }) e.0 (λ it x. refl) (
      is_own refl refl,
      (
        leaves (keeps (λ (it : DelayRead). it.sender) (λ (it : DelayRead) (item : Item). Ok item.number) (λ (it : DelayRead) (x : ℕ). record it { due = x }) (λ it x. refl)),
        (
          leaves (keeps (λ (it : DelayRead). it.sender) (λ (it : DelayRead) (item : Item). entered empty_address address_rows (it.target) item) (λ (it : DelayRead) (x : Option Address). record it { target = x }) (λ it x. refl)),
          (
            leaves (keeps (λ (it : DelayRead). it.sender) (λ (it : DelayRead) (item : Item). text_of item) (λ (it : DelayRead) (x : List ℕ). record it { token = x }) (λ it x. refl)),
            (leaves (keeps (λ (it : DelayRead). it.sender) (λ (it : DelayRead) (item : Item). entered empty_value value_rows (it.argument) item) (λ (it : DelayRead) (x : Option TypedValue). record it { argument = x }) (λ it x. refl)), tt),
          ),
        ),
      ),
    )

delay-due : IsScalar delay_rows 2 0 (λ item. Ok item.number) (λ (it : DelayRead). it.due)
unfolding delay_rows
delay-due =
    let e : EnterBy delay_rows delay_rows = enter-all 0 delay_rows refl in
    scalar-field delay_rows 2 0 (λ (item : Item). Ok item.number) (λ (it : DelayRead). it.due) (λ (it : DelayRead) (x : ℕ). record it { due = x }) e.1.0 (λ it x. refl) (
      leaves (keeps (λ (it : DelayRead). it.due) (λ (it : DelayRead) (item : Item). entered empty_address address_rows (it.sender) item) (λ (it : DelayRead) (x : Option Address). record it { sender = x }) (λ it x. refl)),
      (
        is_own refl refl,
        (
          leaves (keeps (λ (it : DelayRead). it.due) (λ (it : DelayRead) (item : Item). entered empty_address address_rows (it.target) item) (λ (it : DelayRead) (x : Option Address). record it { target = x }) (λ it x. refl)),
          (
            leaves (keeps (λ (it : DelayRead). it.due) (λ (it : DelayRead) (item : Item). text_of item) (λ (it : DelayRead) (x : List ℕ). record it { token = x }) (λ it x. refl)),
            (leaves (keeps (λ (it : DelayRead). it.due) (λ (it : DelayRead) (item : Item). entered empty_value value_rows (it.argument) item) (λ (it : DelayRead) (x : Option TypedValue). record it { argument = x }) (λ it x. refl)), tt),
          ),
        ),
      ),
    )

delay-target : IsSingular delay_rows address_rows empty_address 3 2 (λ (it : DelayRead). it.target)
unfolding delay_rows
delay-target =
    let e : EnterBy delay_rows delay_rows = enter-all 0 delay_rows refl in
    singular-field delay_rows address_rows empty_address 3 2 (λ (it : DelayRead). it.target) (λ (it : DelayRead) (x : Option Address). record it { target = x }) e.1.1.0 (λ it x. refl) (
      leaves (keeps (λ (it : DelayRead). it.target) (λ (it : DelayRead) (item : Item). entered empty_address address_rows (it.sender) item) (λ (it : DelayRead) (x : Option Address). record it { sender = x }) (λ it x. refl)),
      (
        leaves (keeps (λ (it : DelayRead). it.target) (λ (it : DelayRead) (item : Item). Ok item.number) (λ (it : DelayRead) (x : ℕ). record it { due = x }) (λ it x. refl)),
        (
          is_own refl refl,
          (
            leaves (keeps (λ (it : DelayRead). it.target) (λ (it : DelayRead) (item : Item). text_of item) (λ (it : DelayRead) (x : List ℕ). record it { token = x }) (λ it x. refl)),
            (leaves (keeps (λ (it : DelayRead). it.target) (λ (it : DelayRead) (item : Item). entered empty_value value_rows (it.argument) item) (λ (it : DelayRead) (x : Option TypedValue). record it { argument = x }) (λ it x. refl)), tt),
          ),
        ),
      ),
    )

delay-token : IsScalar delay_rows 4 2 text_of (λ (it : DelayRead). it.token)
unfolding delay_rows
delay-token =
    let e : EnterBy delay_rows delay_rows = enter-all 0 delay_rows refl in
    scalar-field delay_rows 4 2 text_of (λ (it : DelayRead). it.token) (λ (it : DelayRead) (x : List ℕ). record it { token = x }) e.1.1.1.0 (λ it x. refl) (
      leaves (keeps (λ (it : DelayRead). it.token) (λ (it : DelayRead) (item : Item). entered empty_address address_rows (it.sender) item) (λ (it : DelayRead) (x : Option Address). record it { sender = x }) (λ it x. refl)),
      (
        leaves (keeps (λ (it : DelayRead). it.token) (λ (it : DelayRead) (item : Item). Ok item.number) (λ (it : DelayRead) (x : ℕ). record it { due = x }) (λ it x. refl)),
        (
          leaves (keeps (λ (it : DelayRead). it.token) (λ (it : DelayRead) (item : Item). entered empty_address address_rows (it.target) item) (λ (it : DelayRead) (x : Option Address). record it { target = x }) (λ it x. refl)),
          (
            is_own refl refl,
            (leaves (keeps (λ (it : DelayRead). it.token) (λ (it : DelayRead) (item : Item). entered empty_value value_rows (it.argument) item) (λ (it : DelayRead) (x : Option TypedValue). record it { argument = x }) (λ it x. refl)), tt),
          ),
        ),
      ),
    )

delay-argument : IsSingular delay_rows value_rows empty_value 5 2 (λ (it : DelayRead). it.argument)
unfolding delay_rows
delay-argument =
    let e : EnterBy delay_rows delay_rows = enter-all 0 delay_rows refl in
    singular-field delay_rows value_rows empty_value 5 2 (λ (it : DelayRead). it.argument) (λ (it : DelayRead) (x : Option TypedValue). record it { argument = x }) e.1.1.1.1.0 (λ it x. refl) (
      leaves (keeps (λ (it : DelayRead). it.argument) (λ (it : DelayRead) (item : Item). entered empty_address address_rows (it.sender) item) (λ (it : DelayRead) (x : Option Address). record it { sender = x }) (λ it x. refl)),
      (
        leaves (keeps (λ (it : DelayRead). it.argument) (λ (it : DelayRead) (item : Item). Ok item.number) (λ (it : DelayRead) (x : ℕ). record it { due = x }) (λ it x. refl)),
        (
          leaves (keeps (λ (it : DelayRead). it.argument) (λ (it : DelayRead) (item : Item). entered empty_address address_rows (it.target) item) (λ (it : DelayRead) (x : Option Address). record it { target = x }) (λ it x. refl)),
          (
            leaves (keeps (λ (it : DelayRead). it.argument) (λ (it : DelayRead) (item : Item). text_of item) (λ (it : DelayRead) (x : List ℕ). record it { token = x }) (λ it x. refl)),
            (is_own refl refl, tt),
          ),
        ),
      ),
    )

pub delay-fields : DelayFields
delay-fields = record { sender = delay-sender; due = delay-due; target = delay-target; token = delay-token; argument = delay-argument }

egress-sender : IsSingular egress_rows address_rows empty_address 1 2 (λ (it : EgressRead). it.sender)
unfolding egress_rows
egress-sender =
    let e : EnterBy egress_rows egress_rows = enter-all 0 egress_rows refl in
    singular-field egress_rows address_rows empty_address 1 2 (λ (it : EgressRead). it.sender) (λ (it : EgressRead) (x : Option Address). record it { sender = x }) e.0 (λ it x. refl) (
      is_own refl refl,
      (
        leaves (keeps (λ (it : EgressRead). it.sender) (λ (it : EgressRead) (item : Item). text_of item) (λ (it : EgressRead) (x : List ℕ). record it { namespace = x }) (λ it x. refl)),
        (
          leaves (keeps (λ (it : EgressRead). it.sender) (λ (it : EgressRead) (item : Item). text_of item) (λ (it : EgressRead) (x : List ℕ). record it { name = x }) (λ it x. refl)),
          (leaves (keeps (λ (it : EgressRead). it.sender) (λ (it : EgressRead) (item : Item). entered empty_value value_rows (it.argument) item) (λ (it : EgressRead) (x : Option TypedValue). record it { argument = x }) (λ it x. refl)), tt),
        ),
      ),
    )

egress-namespace : IsScalar egress_rows 2 2 text_of (λ (it : EgressRead). it.namespace)
unfolding egress_rows
egress-namespace =
    let e : EnterBy egress_rows egress_rows = enter-all 0 egress_rows refl in
    scalar-field egress_rows 2 2 text_of (λ (it : EgressRead). it.namespace) (λ (it : EgressRead) (x : List ℕ). record it { namespace = x }) e.1.0 (λ it x. refl) (
      leaves (keeps (λ (it : EgressRead). it.namespace) (λ (it : EgressRead) (item : Item). entered empty_address address_rows (it.sender) item) (λ (it : EgressRead) (x : Option Address). record it { sender = x }) (λ it x. refl)),
      (
        is_own refl refl,
        (
          leaves (keeps (λ (it : EgressRead). it.namespace) (λ (it : EgressRead) (item : Item). text_of item) (λ (it : EgressRead) (x : List ℕ). record it { name = x }) (λ it x. refl)),
          (leaves (keeps (λ (it : EgressRead). it.namespace) (λ (it : EgressRead) (item : Item). entered empty_value value_rows (it.argument) item) (λ (it : EgressRead) (x : Option TypedValue). record it { argument = x }) (λ it x. refl)), tt),
        ),
      ),
    )

egress-name : IsScalar egress_rows 3 2 text_of (λ (it : EgressRead). it.name)
unfolding egress_rows
egress-name =
    let e : EnterBy egress_rows egress_rows = enter-all 0 egress_rows refl in
    scalar-field egress_rows 3 2 text_of (λ (it : EgressRead). it.name) (λ (it : EgressRead) (x : List ℕ). record it { name = x }) e.1.1.0 (λ it x. refl) (
      leaves (keeps (λ (it : EgressRead). it.name) (λ (it : EgressRead) (item : Item). entered empty_address address_rows (it.sender) item) (λ (it : EgressRead) (x : Option Address). record it { sender = x }) (λ it x. refl)),
      (
        leaves (keeps (λ (it : EgressRead). it.name) (λ (it : EgressRead) (item : Item). text_of item) (λ (it : EgressRead) (x : List ℕ). record it { namespace = x }) (λ it x. refl)),
        (
          is_own refl refl,
          (leaves (keeps (λ (it : EgressRead). it.name) (λ (it : EgressRead) (item : Item). entered empty_value value_rows (it.argument) item) (λ (it : EgressRead) (x : Option TypedValue). record it { argument = x }) (λ it x. refl)), tt),
        ),
      ),
    )

egress-argument : IsSingular egress_rows value_rows empty_value 4 2 (λ (it : EgressRead). it.argument)
unfolding egress_rows
egress-argument =
    let e : EnterBy egress_rows egress_rows = enter-all 0 egress_rows refl in
    singular-field egress_rows value_rows empty_value 4 2 (λ (it : EgressRead). it.argument) (λ (it : EgressRead) (x : Option TypedValue). record it { argument = x }) e.1.1.1.0 (λ it x. refl) (
      leaves (keeps (λ (it : EgressRead). it.argument) (λ (it : EgressRead) (item : Item). entered empty_address address_rows (it.sender) item) (λ (it : EgressRead) (x : Option Address). record it { sender = x }) (λ it x. refl)),
      (
        leaves (keeps (λ (it : EgressRead). it.argument) (λ (it : EgressRead) (item : Item). text_of item) (λ (it : EgressRead) (x : List ℕ). record it { namespace = x }) (λ it x. refl)),
        (
          leaves (keeps (λ (it : EgressRead). it.argument) (λ (it : EgressRead) (item : Item). text_of item) (λ (it : EgressRead) (x : List ℕ). record it { name = x }) (λ it x. refl)),
          (is_own refl refl, tt),
        ),
      ),
    )

pub egress-fields : EgressFields
egress-fields = record { sender = egress-sender; namespace = egress-namespace; name = egress-name; argument = egress-argument }

sender-function : IsMember sender_rows address_rows empty_address 2 2 (belongs 1 0) (λ (it : SenderRead). function_of it.member)
unfolding sender_rows function_of
sender-function =
    let e : EnterBy sender_rows sender_rows = enter-all 0 sender_rows refl in
    let get = λ (it : SenderRead). function_of it.member in
    member-field sender_rows address_rows empty_address 2 2 (belongs 1 0) get (λ (it : SenderRead) (x : Address). record { member = Some (Function x) }) e.1.0 (λ it x. refl)
    (λ old new item h o. drops get (short_of item) (λ (it : SenderRead) (x : ℕ). record { member = Some (Split x) }) old new (λ it x. refl) (sym (e.0 old item o) ∙ h))
    (is_other (λ item b. b), (is_own refl refl, tt))

pub sender-member : SenderMember
sender-member = record { function = sender-function }

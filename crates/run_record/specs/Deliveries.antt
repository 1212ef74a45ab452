-- What a record takes, puts into the mail, and delivers.
use Rattle.std.specs.Prelude.{◌≡◌, ◌≤◌, count_by, ℕ, ◌+◌, ◌-◌, nat_eq, zero, suc, List, [], ◌∷◌, ◌++◌, if◌then◌else◌, Option, Some, unwrap_or, take}
use Rattle.std.specs.Option.{option_map_or}
use Rattle.std.specs.List.{flat_map}
use Rattle.typed_values.specs.declared.address.Address.{Address}
use Rattle.typed_values.specs.declared.value.TypedValue.{TypedValue}
use Rattle.typed_values.specs.declared.letter.Sender.{Sender}
use Rattle.typed_values.specs.declared.letter.Sender.TheVariants.{Split, Function}
use Rattle.typed_values.specs.declared.letter.Letter.{Letter}
use Rattle.typed_values.specs.Sameness.{same_sender}
use Rattle.sf_outside.specs.Splits.{Lists, split_of}
use Rattle.address_routing.specs.declared.module.Module.{Module}
use Rattle.run_record.specs.declared.entry.Entry.{Entry}
use Rattle.run_record.specs.declared.entry.Step.{Step}
use Rattle.run_record.specs.Machine.{Own, State, first_state, Act, actor_of, leaving, arguments_of, picked, made, acted}
use Rattle.run_record.specs.Letters.{letters_of}
use Rattle.run_record.specs.Record.{next_record, replayed}

-- what a step does over the lists of an ingress, where it is allowed
abbrev pub made_over : Module → Lists → State → Step → Option Act
made_over m lists st step = made m (next_record lists (actor_of step) (st.own (actor_of step))) st step

-- what each step of a record gives, by the state before it and what it does, joined in the record's order
abbrev pub over_acts : {A : Type 0} → (State → Step → Act → List A) → Module → Lists → State → List Entry → List A
over_acts gives m lists st [] = []
over_acts gives m lists st (entry ∷ entries) =
    option_map_or (λ act. gives st entry.step act ++ over_acts gives m lists (acted entry.step act st) entries) (made_over m lists st entry.step) []

-- what is so of the steps of one actor alone
abbrev pub of_actor : {A : Type 0} → Sender → (State → Act → List A) → State → Step → Act → List A
of_actor actor gives st step act = if same_sender (actor_of step) actor then gives st act else []

-- ---- takes

-- so many numbers from one on
abbrev pub counting : ℕ → ℕ → List ℕ
counting from zero = []
counting from (suc n) = from ∷ counting (from + 1) n

-- those that a count passes
abbrev pub passed : Own → Act → List ℕ
passed own act = counting own.taken (act.taken - own.taken)

-- the numbers of the records that a record takes of a split, in order
unfoldable pub numbers_taken : Module → Lists → State → List Entry → ℕ → List ℕ
numbers_taken m lists st entries split =
    over_acts (of_actor (Split split) (λ before act. passed (before.own (Split split)) act)) m lists st entries

-- ---- letters

-- what a record puts into the mail of a pair, in order
unfoldable pub put_in : Module → Lists → State → List Entry → Sender → Address → List TypedValue
put_in m lists st entries sender target = over_acts (λ before step act. arguments_of sender target act.letters) m lists st entries

-- the letters that a step delivers: those that its picks stand for, which stand in its request
abbrev pub delivered_to : Sender → List Sender → State → List Letter
delivered_to (Split split) picks st = []
delivered_to (Function address) picks st = unwrap_or (picked address (λ sender. st.mail sender address) picks) []

-- what a record delivers of a pair, in order
unfoldable pub delivered : Module → Lists → State → List Entry → Sender → Address → List TypedValue
delivered m lists st entries sender target =
    over_acts (λ before step act. arguments_of sender target (delivered_to (actor_of step) (leaving step) before)) m lists st entries

-- ---- laws

-- a record of a split is taken at most once in every replay
abbrev pub EachTakenOnce : Type 0
EachTakenOnce =
    (m : Module) (lists : Lists) (last : State) (entries : List Entry) → replayed m lists first_state entries ≡ Some last
    → (split number : ℕ) → count_by (nat_eq number) (numbers_taken m lists first_state entries split) ≤ 1

-- the records taken of a split are its first, in order, as many as the state says
abbrev pub TakenInOrder : Type 0
TakenInOrder =
    (m : Module) (lists : Lists) (last : State) (entries : List Entry) → replayed m lists first_state entries ≡ Some last
    → (split : ℕ) → numbers_taken m lists first_state entries split ≡ counting 0 (last.own (Split split)).taken

-- what a split puts into the mail of a target are the letters that the first records of its list become, in order
abbrev pub RecordsBecomeLetters : Type 0
RecordsBecomeLetters =
    (m : Module) (lists : Lists) (last : State) (entries : List Entry) → replayed m lists first_state entries ≡ Some last
    → (split : ℕ) (target : Address)
    → put_in m lists first_state entries (Split split) target
    ≡ arguments_of (Split split) target (flat_map (letters_of m split) (take (last.own (Split split)).taken (split_of lists split)))

-- what is put into the mail of a pair is, in order, what is delivered of it and then what waits there
abbrev pub DeliveredInOrder : Type 0
DeliveredInOrder =
    (m : Module) (lists : Lists) (last : State) (entries : List Entry) → replayed m lists first_state entries ≡ Some last
    → (sender : Sender) (target : Address)
    → put_in m lists first_state entries sender target ≡ delivered m lists first_state entries sender target ++ last.mail sender target

-- The spelling of each message is read as that message.
use Rattle.std.proofs.Common.{◌≡◌, ℕ, ◌^◌, ◌<◌, Bool, true, false, ℤ, pos, List, [], length, Option, Some, None, Result, Ok, ◌++◌, append-nil, refl, sym, ap, subst, ◌∙◌}
use Rattle.std.specs.Option.{option_map}
use Rattle.std.specs.Str.{is_utf8}
use Rattle.std.proofs.lemmas.Slice.Eq.{bytes_eq-Decides}
use Rattle.proto_wire.specs.declared.fault.WireFault.{WireFault}
use Rattle.proto_wire.specs.Varint.{◌>>=◌}
use Rattle.proto_wire.specs.Places.{present}
use Rattle.proto_wire.specs.Message.{Row, fit, spelling, fits_signed}
use Rattle.proto_wire.proofs.RoundTrip.{IsAgain, AllCopies, Fills, again, written-again, texts-copies, bytes-copies, bools-copies, numbers-copies, fours-copies, eights-copies, messages-copies, members-copies, choices-copies}
use Rattle.typed_values.specs.declared.address.Address.{Address}
use Rattle.typed_values.specs.declared.value.TypedValue.{TypedValue}
use Rattle.typed_values.specs.declared.letter.Sender.{Sender}
use Rattle.typed_values.specs.declared.letter.Sender.TheVariants.{Split, Function}
use Rattle.typed_values.specs.declared.letter.Letter.{Letter}
use Rattle.typed_values.specs.declared.record.Delay.{Delay}
use Rattle.typed_values.specs.declared.record.EgressRecord.{EgressRecord}
use Rattle.typed_values.specs.declared.reading.SenderRead.{SenderRead}
use Rattle.typed_values.specs.declared.reading.LetterRead.{LetterRead}
use Rattle.typed_values.specs.declared.reading.DelayRead.{DelayRead}
use Rattle.typed_values.specs.declared.reading.EgressRead.{EgressRead}
use Rattle.typed_values.specs.Tables.{empty_address, address_rows, empty_value, value_rows}
use Rattle.typed_values.specs.Stored.{split_of, function_of, empty_sender, sender_rows, empty_letter, letter_rows, letter_read, letter_of, empty_delay, delay_rows, delay_read, delay_of, empty_egress, egress_rows, egress_read, egress_of}
use Rattle.typed_values.specs.Spelling.{address_spelling, address_value, value_spelling, value_value, sender_spelling, sender_value, letter_spelling, letter_value, delay_spelling, delay_value, egress_spelling, egress_value}
use Rattle.typed_values.specs.Wrappers.{bool_rows, int_rows, long_rows, text_rows, empty_text, bool_name, int_name, long_name, text_name, wrapped, wrapping, bool_of, int_of, long_of, text_of}

pub address-again : IsAgain empty_address address_rows
unfolding address_rows empty_address
address-again = again empty_address address_rows refl (texts-copies 1 refl _ _, (texts-copies 2 refl _ _, (texts-copies 3 refl _ _, tt))) (λ v. (refl, (refl, (refl, refl))))

pub value-again : IsAgain empty_value value_rows
unfolding value_rows empty_value
value-again = again empty_value value_rows refl (texts-copies 1 refl _ _, (bools-copies 2 refl _ (λ it new. record it { has_value = new }), (bytes-copies 3 refl _ (λ it new. record it { value = new }), tt))) (λ v. (refl, (refl, (refl, refl))))

abbrev sender-copies : AllCopies sender_rows
unfolding sender_rows empty_sender split_of function_of
sender-copies = (choices-copies 1 refl _ _, (members-copies 2 refl empty_address address_rows address-again _ _ empty_sender refl, tt))

sender-fills : (member : Option Sender) → Fills sender_rows sender-copies (record { member = member }) empty_sender
unfolding sender_rows empty_sender split_of function_of sender-copies
sender-fills None = (refl, (refl, refl))
sender-fills (Some (Split split)) = (refl, (refl, refl))
sender-fills (Some (Function address)) = (refl, (refl, refl))

pub sender-again : IsAgain empty_sender sender_rows
unfolding sender_rows
sender-again = again empty_sender sender_rows refl sender-copies (λ v. sender-fills v.member)

pub letter-again : IsAgain empty_letter letter_rows
unfolding letter_rows empty_letter
letter-again = again empty_letter letter_rows refl (
  messages-copies 1 refl empty_sender sender_rows sender-again _ _ (λ into. refl),
  (
    messages-copies 2 refl empty_address address_rows address-again _ _ (λ into. refl),
    (messages-copies 3 refl empty_value value_rows value-again _ _ (λ into. refl), tt),
  ),
) (λ v. (refl, (refl, (refl, refl))))

pub delay-again : IsAgain empty_delay delay_rows
unfolding delay_rows empty_delay
delay-again = again empty_delay delay_rows refl (
  messages-copies 1 refl empty_address address_rows address-again _ _ (λ into. refl),
  (
    numbers-copies 2 refl _ (λ it new. record it { due = new }),
    (
      messages-copies 3 refl empty_address address_rows address-again _ _ (λ into. refl),
      (texts-copies 4 refl _ _, (messages-copies 5 refl empty_value value_rows value-again _ _ (λ into. refl), tt)),
    ),
  ),
) (λ v. (refl, (refl, (refl, (refl, (refl, refl))))))

pub egress-again : IsAgain empty_egress egress_rows
unfolding egress_rows empty_egress
egress-again = again empty_egress egress_rows refl (
  messages-copies 1 refl empty_address address_rows address-again _ _ (λ into. refl),
  (
    texts-copies 2 refl _ _,
    (
      texts-copies 3 refl _ _,
      (messages-copies 4 refl empty_value value_rows value-again _ _ (λ into. refl), tt),
    ),
  ),
) (λ v. (refl, (refl, (refl, (refl, refl)))))

-- ---- what was written is read again

pub address-written : (bytes : List ℕ) (address : Address) → bytes ≡ spelling address_rows address → fit address_rows address ≡ true → length bytes < 2 ^ 64 → address_value bytes ≡ Ok address
unfolding address_value
address-written bytes address spelled fits short = written-again empty_address address_rows address-again address bytes spelled fits short

pub value-written : (bytes : List ℕ) (value : TypedValue) → bytes ≡ spelling value_rows value → fit value_rows value ≡ true → length bytes < 2 ^ 64 → value_value bytes ≡ Ok value
unfolding value_value
value-written bytes value spelled fits short = written-again empty_value value_rows value-again value bytes spelled fits short

pub sender-written : (bytes : List ℕ) (sender : Sender) → bytes ≡ sender_spelling sender → fit sender_rows (record { member = Some sender }) ≡ true → length bytes < 2 ^ 64 → sender_value bytes ≡ Ok sender
unfolding sender_value sender_spelling
sender-written bytes sender spelled fits short =
    ap (λ (r : Result SenderRead WireFault). r >>= λ it. present (length bytes) it.member) (written-again empty_sender sender_rows sender-again (record { member = Some sender }) bytes spelled fits short)

pub letter-written : (bytes : List ℕ) (letter : Letter) → bytes ≡ letter_spelling letter → fit letter_rows (letter_read letter) ≡ true → length bytes < 2 ^ 64 → letter_value bytes ≡ Ok letter
unfolding letter_value letter_of letter_spelling
letter-written bytes letter spelled fits short =
    ap (λ (r : Result LetterRead WireFault). r >>= λ it. present (length bytes) (letter_of it)) (written-again empty_letter letter_rows letter-again (letter_read letter) bytes spelled fits short)

pub delay-written : (bytes : List ℕ) (delay : Delay) → bytes ≡ delay_spelling delay → fit delay_rows (delay_read delay) ≡ true → length bytes < 2 ^ 64 → delay_value bytes ≡ Ok delay
unfolding delay_value delay_of delay_spelling
delay-written bytes delay spelled fits short =
    ap (λ (r : Result DelayRead WireFault). r >>= λ it. present (length bytes) (delay_of it)) (written-again empty_delay delay_rows delay-again (delay_read delay) bytes spelled fits short)

pub egress-written : (bytes : List ℕ) (egress : EgressRecord) → bytes ≡ egress_spelling egress → fit egress_rows (egress_read egress) ≡ true → length bytes < 2 ^ 64 → egress_value bytes ≡ Ok egress
unfolding egress_value egress_of egress_spelling
egress-written bytes egress spelled fits short =
    ap (λ (r : Result EgressRead WireFault). r >>= λ it. present (length bytes) (egress_of it)) (written-again empty_egress egress_rows egress-again (egress_read egress) bytes spelled fits short)

-- ---- wrapped values

bool-again : IsAgain false bool_rows
unfolding bool_rows
bool-again = again false bool_rows refl (bools-copies 1 refl _ (λ held new. new), tt) (λ v. (refl, refl))

int-again : IsAgain (pos 0) int_rows
unfolding int_rows
int-again = again (pos 0) int_rows refl (fours-copies 1 refl _ (λ held new. new), tt) (λ v. (refl, refl))

long-again : IsAgain (pos 0) long_rows
unfolding long_rows
long-again = again (pos 0) long_rows refl (eights-copies 1 refl _ (λ held new. new), tt) (λ v. (refl, refl))

text-again : IsAgain empty_text text_rows
unfolding text_rows empty_text
text-again = again empty_text text_rows refl (texts-copies 1 refl _ _, tt) (λ v. (refl, refl))

-- a value that was wrapped holds what was wrapped
wrapped-again : {W : Type 0} (name : List ℕ) (blank : W) (rows : List (Row W)) → IsAgain blank rows → (made : TypedValue) (it : W) → made ≡ wrapping name rows it → fit rows it ≡ true
    → length made.value < 2 ^ 64 → wrapped name blank rows made ≡ Some it
unfolding wrapped
wrapped-again {W} name blank rows is made it e fits short =
    let P : TypedValue → Type 0 = λ v. length v.value < 2 ^ 64 in
    let again = is it fits (subst P e short) in
    ap (wrapped name blank rows) e ∙ rw ((bytes_eq-Decides name name).1 refl, again) refl

-- a value of what was written
pub made-is : (name : List ℕ) (made : TypedValue) (into bytes spelled : List ℕ) → made ≡ record { typename = name; has_value = true; value = bytes } → into ≡ [] → bytes ≡ into ++ spelled
    → made ≡ record { typename = name; has_value = true; value = spelled ++ [] }
made-is name made into bytes spelled is none written =
    is ∙ ap (λ (b : List ℕ). record { typename = name; has_value = true; value = b }) (written ∙ ap (λ (i : List ℕ). i ++ spelled) none ∙ sym (append-nil spelled))

pub bool-written : (made : TypedValue) (flag : Bool) → made ≡ wrapping bool_name bool_rows flag → length made.value < 2 ^ 64 → bool_of made ≡ Some flag
unfolding bool_of bool_rows
bool-written made flag e short = wrapped-again bool_name false bool_rows bool-again made flag e refl short

pub int-written : (made : TypedValue) (number : ℤ) → made ≡ wrapping int_name int_rows number → fits_signed 31 number ≡ true → length made.value < 2 ^ 64 → int_of made ≡ Some number
unfolding int_of int_rows
int-written made number e fits short = wrapped-again int_name (pos 0) int_rows int-again made number e (rw fits refl) short

pub long-written : (made : TypedValue) (number : ℤ) → made ≡ wrapping long_name long_rows number → fits_signed 63 number ≡ true → length made.value < 2 ^ 64 → long_of made ≡ Some number
unfolding long_of long_rows
long-written made number e fits short = wrapped-again long_name (pos 0) long_rows long-again made number e (rw fits refl) short

pub text-written : (made : TypedValue) (text : List ℕ) → made ≡ wrapping text_name text_rows (record { text = text }) → is_utf8 text ≡ true → length made.value < 2 ^ 64 → text_of made ≡ Some text
unfolding text_of text_rows
text-written made text e fits short = ap (option_map (λ it. it.text)) (wrapped-again text_name empty_text text_rows text-again made (record { text = text }) e (rw fits refl) short)

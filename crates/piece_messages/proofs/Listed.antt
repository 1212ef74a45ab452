-- Messages that are written by themselves, and read with parts that may be absent.
use Rattle.std.proofs.Common.{◌≡◌, ℕ, Bool, List, ◌++◌, map, refl, append_assoc, arith}
use Rattle.std.proofs.lemmas.List.{append-nil}
use Rattle.std.proofs.lemmas.Grind.{common_steps}
use Rattle.proto_wire.specs.Message.{spelling, fit, spelled_message, spelled_messages, fit_message, fit_messages}
use Rattle.typed_values.specs.declared.letter.Letter.{Letter}
use Rattle.typed_values.specs.declared.record.Delay.{Delay}
use Rattle.typed_values.specs.declared.record.EgressRecord.{EgressRecord}
use Rattle.typed_values.specs.Stored as typed
use Rattle.typed_values.specs.Spelling.{sender_spelling, letter_spelling, delay_spelling, egress_spelling}
use Rattle.folder_messages.proofs.Lists.{messages-spelled, messages-fit, pick-spelled, pick-fits, entries-spelled, entries-fit}
use Rattle.piece_messages.specs.declared.address_state.AddressState.{AddressState}
use Rattle.piece_messages.specs.Stored.{letter_rows, letter_read, delay_rows, delay_read, egress_rows, egress_read}
use Rattle.piece_messages.specs.States.{state_rows, state_read}
use Rattle.piece_messages.specs.Spelling.{state_spelling}

-- ---- letters

letter-spelled : (it : Letter) → spelling letter_rows (letter_read it) ≡ letter_spelling it
unfolding letter_rows letter_spelling typed.letter_rows sender_spelling spelled_message
letter-spelled it = rw (pick-spelled it.sender) refl

letter-fits : (it : Letter) → fit letter_rows (letter_read it) ≡ fit typed.letter_rows (typed.letter_read it)
unfolding letter_rows typed.letter_rows fit_message
letter-fits it = rw (pick-fits it.sender) refl

pub letters-spelled : (field : ℕ) (its : List Letter) → spelled_messages (spelling letter_rows) field (map letter_read its) ≡ spelled_messages letter_spelling field its
letters-spelled field its = messages-spelled letter_read letter_spelling (spelling letter_rows) letter-spelled field its

pub letters-fit : (its : List Letter) → fit_messages (fit letter_rows) (map letter_read its) ≡ fit_messages (λ it. fit typed.letter_rows (typed.letter_read it)) its
letters-fit its = messages-fit letter_read (λ it. fit typed.letter_rows (typed.letter_read it)) (fit letter_rows) letter-fits its

pub ruleset letter_steps = (common_steps, arith, append_assoc, append-nil, letters-spelled, letters-fit)

-- ---- delayed letters

delay-spelled : (it : Delay) → spelling delay_rows (delay_read it) ≡ delay_spelling it
unfolding delay_rows delay_spelling typed.delay_rows spelled_message
delay-spelled it = refl

delay-fits : (it : Delay) → fit delay_rows (delay_read it) ≡ fit typed.delay_rows (typed.delay_read it)
unfolding delay_rows typed.delay_rows fit_message
delay-fits it = refl

pub delays-spelled : (field : ℕ) (its : List Delay) → spelled_messages (spelling delay_rows) field (map delay_read its) ≡ spelled_messages delay_spelling field its
delays-spelled field its = messages-spelled delay_read delay_spelling (spelling delay_rows) delay-spelled field its

pub delays-fit : (its : List Delay) → fit_messages (fit delay_rows) (map delay_read its) ≡ fit_messages (λ it. fit typed.delay_rows (typed.delay_read it)) its
delays-fit its = messages-fit delay_read (λ it. fit typed.delay_rows (typed.delay_read it)) (fit delay_rows) delay-fits its

pub ruleset delay_steps = (common_steps, arith, append_assoc, append-nil, delays-spelled, delays-fit)

-- ---- egress records

egress-spelled : (it : EgressRecord) → spelling egress_rows (egress_read it) ≡ egress_spelling it
unfolding egress_rows egress_spelling typed.egress_rows spelled_message
egress-spelled it = refl

egress-fits : (it : EgressRecord) → fit egress_rows (egress_read it) ≡ fit typed.egress_rows (typed.egress_read it)
unfolding egress_rows typed.egress_rows fit_message
egress-fits it = refl

pub records-spelled : (field : ℕ) (its : List EgressRecord) → spelled_messages (spelling egress_rows) field (map egress_read its) ≡ spelled_messages egress_spelling field its
records-spelled field its = messages-spelled egress_read egress_spelling (spelling egress_rows) egress-spelled field its

pub records-fit : (its : List EgressRecord) → fit_messages (fit egress_rows) (map egress_read its) ≡ fit_messages (λ it. fit typed.egress_rows (typed.egress_read it)) its
records-fit its = messages-fit egress_read (λ it. fit typed.egress_rows (typed.egress_read it)) (fit egress_rows) egress-fits its

pub ruleset egress_steps = (common_steps, arith, append_assoc, append-nil, records-spelled, records-fit)

-- ---- states of addresses

pub states-spelled : (field : ℕ) (its : List AddressState) → spelled_messages (spelling state_rows) field (map state_read its) ≡ spelled_messages state_spelling field its
unfolding state_spelling
states-spelled field its = messages-spelled state_read (λ it. spelling state_rows (state_read it)) (spelling state_rows) (λ it. refl) field its

pub states-fit : (its : List AddressState) → fit_messages (fit state_rows) (map state_read its) ≡ fit_messages (λ it. fit state_rows (state_read it)) its
states-fit its = messages-fit state_read (λ it. fit state_rows (state_read it)) (fit state_rows) (λ it. refl) its

pub ruleset state_steps = (common_steps, arith, append_assoc, append-nil, states-spelled, states-fit)

-- ---- entries

pub ruleset entry_steps = (common_steps, arith, append_assoc, append-nil, entries-spelled, entries-fit)

-- The spelling of each message is read as that message.
use Rattle.std.proofs.Common.{◌≡◌, ℕ, ◌^◌, ◌<◌, true, List, length, Some, Ok, refl}
use Rattle.proto_wire.specs.Message.{fit, spelling}
use Rattle.proto_wire.proofs.RoundTrip.{IsAgain, again, written-again, texts-copies, bytes-copies, bools-copies, enums-copies, numbers-copies, messages-copies, lists-copies}
use Rattle.typed_values.specs.declared.letter.Letter.{Letter}
use Rattle.typed_values.specs.declared.record.Delay.{Delay}
use Rattle.typed_values.specs.declared.record.EgressRecord.{EgressRecord}
use Rattle.typed_values.specs.Tables.{empty_address, address_rows, empty_value, value_rows}
use Rattle.typed_values.proofs.RoundTrip.{address-again, value-again}
use Rattle.folder_messages.specs.Entries.{empty_pick, pick_rows, empty_entry, entry_rows, entry_read, entry_of}
use Rattle.folder_messages.proofs.Lists.{all-back}
use Rattle.folder_messages.proofs.RoundTrip.{shorts-copies, written-whole, pick-again, entry-again, entry-back}
use Rattle.piece_messages.specs.declared.cell_state.CellState.{CellState}
use Rattle.piece_messages.specs.declared.address_state.AddressState.{AddressState}
use Rattle.piece_messages.specs.declared.piece.Piece.{Piece}
use Rattle.piece_messages.specs.declared.feedback.Feedback.{Feedback}
use Rattle.piece_messages.specs.declared.commit.Commit.{Commit}
use Rattle.piece_messages.specs.Stored.{empty_letter, letter_rows, letter_read, letter_of, empty_delay, delay_rows, delay_read, delay_of, empty_egress, egress_rows, egress_read, egress_of}
use Rattle.piece_messages.specs.States.{empty_cell, cell_rows, empty_state, state_rows, state_read, state_of, empty_piece, piece_rows, piece_read, piece_of}
use Rattle.piece_messages.specs.States.{empty_feedback, feedback_rows, feedback_read, feedback_of, empty_commit, commit_rows, commit_read, commit_of}
use Rattle.piece_messages.specs.Spelling.{cell_value, state_spelling, state_value, piece_spelling, piece_value, feedback_spelling, feedback_value, commit_spelling, commit_value}

letter-again : IsAgain empty_letter letter_rows
unfolding letter_rows empty_letter
letter-again = again empty_letter letter_rows refl (
  messages-copies 1 refl empty_pick pick_rows pick-again _ _ (λ into. refl),
  (messages-copies 2 refl empty_address address_rows address-again _ _ (λ into. refl), (messages-copies 3 refl empty_value value_rows value-again _ _ (λ into. refl), tt)),
) (λ v. (refl, (refl, (refl, refl))))

delay-again : IsAgain empty_delay delay_rows
unfolding delay_rows empty_delay
delay-again = again empty_delay delay_rows refl (
  messages-copies 1 refl empty_address address_rows address-again _ _ (λ into. refl),
  (
    numbers-copies 2 refl _ (λ it new. record it { due = new }),
    (
      messages-copies 3 refl empty_address address_rows address-again _ _ (λ into. refl),
      (texts-copies 4 refl _ _, (messages-copies 5 refl empty_value value_rows value-again _ _ (λ into. refl), tt)),
    ),
  ),
) (λ v. (refl, (refl, (refl, (refl, (refl, refl))))))

egress-again : IsAgain empty_egress egress_rows
unfolding egress_rows empty_egress
egress-again = again empty_egress egress_rows refl (
  messages-copies 1 refl empty_address address_rows address-again _ _ (λ into. refl),
  (texts-copies 2 refl _ _, (texts-copies 3 refl _ _, (messages-copies 4 refl empty_value value_rows value-again _ _ (λ into. refl), tt))),
) (λ v. (refl, (refl, (refl, (refl, refl)))))

cell-again : IsAgain empty_cell cell_rows
unfolding cell_rows empty_cell
cell-again = again empty_cell cell_rows refl (
  texts-copies 1 refl _ _,
  (
    texts-copies 2 refl _ _,
    (
      enums-copies 3 refl _ (λ it new. record it { mode = new }),
      (
        numbers-copies 4 refl _ (λ it new. record it { millis = new }),
        (
          bools-copies 5 refl _ (λ it new. record it { has_value = new }),
          (numbers-copies 6 refl _ (λ it new. record it { stamp = new }), (bytes-copies 7 refl _ (λ it new. record it { value = new }), tt)),
        ),
      ),
    ),
  ),
) (λ v. (refl, (refl, (refl, (refl, (refl, (refl, (refl, refl))))))))

state-again : IsAgain empty_state state_rows
unfolding state_rows empty_state
state-again = again empty_state state_rows refl (
  messages-copies 1 refl empty_address address_rows address-again _ _ (λ into. refl),
  (
    numbers-copies 2 refl _ (λ it new. record it { seen = new }),
    (lists-copies 3 refl empty_cell cell_rows cell-again _ _ (record { there = λ into values. refl; last = λ into values others. refl }), tt),
  ),
) (λ v. (refl, (refl, (refl, refl))))

piece-again : IsAgain empty_piece piece_rows
unfolding piece_rows empty_piece
piece-again = again empty_piece piece_rows refl (
  shorts-copies 1 refl _ (λ it new. record it { partition = new }),
  (
    lists-copies 2 refl empty_entry entry_rows entry-again _ _ (record { there = λ into values. refl; last = λ into values others. refl }),
    (
      lists-copies 3 refl empty_egress egress_rows egress-again _ _ (record { there = λ into values. refl; last = λ into values others. refl }),
      (
        lists-copies 4 refl empty_letter letter_rows letter-again _ _ (record { there = λ into values. refl; last = λ into values others. refl }),
        (
          lists-copies 5 refl empty_state state_rows state-again _ _ (record { there = λ into values. refl; last = λ into values others. refl }),
          (lists-copies 6 refl empty_delay delay_rows delay-again _ _ (record { there = λ into values. refl; last = λ into values others. refl }), tt),
        ),
      ),
    ),
  ),
) (λ v. (refl, (refl, (refl, (refl, (refl, (refl, refl)))))))

feedback-again : IsAgain empty_feedback feedback_rows
unfolding feedback_rows empty_feedback
feedback-again = again empty_feedback feedback_rows refl
    (lists-copies 1 refl empty_letter letter_rows letter-again _ _ (record { there = λ into values. refl; last = λ into values others. refl }), tt) (λ v. (refl, refl))

commit-again : IsAgain empty_commit commit_rows
unfolding commit_rows empty_commit
commit-again = again empty_commit commit_rows refl (
  numbers-copies 1 refl _ (λ it new. record it { epoch = new }),
  (lists-copies 2 refl empty_egress egress_rows egress-again _ _ (record { there = λ into values. refl; last = λ into values others. refl }), tt),
) (λ v. (refl, (refl, refl)))

-- ---- nothing is absent of a message that was written

letter-back : (it : Letter) → letter_of (letter_read it) ≡ Some it
unfolding letter_of
letter-back it = refl

delay-back : (it : Delay) → delay_of (delay_read it) ≡ Some it
unfolding delay_of
delay-back it = refl

egress-back : (it : EgressRecord) → egress_of (egress_read it) ≡ Some it
unfolding egress_of
egress-back it = refl

state-back : (it : AddressState) → state_of (state_read it) ≡ Some it
unfolding state_of
state-back it = refl

piece-back : (it : Piece) → piece_of (piece_read it) ≡ Some it
unfolding piece_of
piece-back it =
    rw (
      all-back entry_of entry_read entry-back it.entries,
      all-back egress_of egress_read egress-back it.egress,
      all-back letter_of letter_read letter-back it.letters,
      all-back state_of state_read state-back it.states,
      all-back delay_of delay_read delay-back it.delays,
    ) refl

feedback-back : (it : Feedback) → feedback_of (feedback_read it) ≡ Some it
unfolding feedback_of
feedback-back it = rw (all-back letter_of letter_read letter-back it.letters) refl

commit-back : (it : Commit) → commit_of (commit_read it) ≡ Some it
unfolding commit_of
commit-back it = rw (all-back egress_of egress_read egress-back it.records) refl

-- ---- what was written is read again

pub cell-written : (bytes : List ℕ) (it : CellState) → bytes ≡ spelling cell_rows it → fit cell_rows it ≡ true → length bytes < 2 ^ 64 → cell_value bytes ≡ Ok it
unfolding cell_value
cell-written bytes it spelled fits short = written-again empty_cell cell_rows cell-again it bytes spelled fits short

pub state-written : (bytes : List ℕ) (it : AddressState) → bytes ≡ state_spelling it → fit state_rows (state_read it) ≡ true → length bytes < 2 ^ 64 → state_value bytes ≡ Ok it
unfolding state_value state_spelling
state-written bytes it spelled fits short = written-whole empty_state state_rows state_read state_of state-again state-back it bytes spelled fits short

pub piece-written : (bytes : List ℕ) (it : Piece) → bytes ≡ piece_spelling it → fit piece_rows (piece_read it) ≡ true → length bytes < 2 ^ 64 → piece_value bytes ≡ Ok it
unfolding piece_value piece_spelling
piece-written bytes it spelled fits short = written-whole empty_piece piece_rows piece_read piece_of piece-again piece-back it bytes spelled fits short

pub feedback-written : (bytes : List ℕ) (it : Feedback) → bytes ≡ feedback_spelling it → fit feedback_rows (feedback_read it) ≡ true → length bytes < 2 ^ 64 → feedback_value bytes ≡ Ok it
unfolding feedback_value feedback_spelling
feedback-written bytes it spelled fits short = written-whole empty_feedback feedback_rows feedback_read feedback_of feedback-again feedback-back it bytes spelled fits short

pub commit-written : (bytes : List ℕ) (it : Commit) → bytes ≡ commit_spelling it → fit commit_rows (commit_read it) ≡ true → length bytes < 2 ^ 64 → commit_value bytes ≡ Ok it
unfolding commit_value commit_spelling
commit-written bytes it spelled fits short = written-whole empty_commit commit_rows commit_read commit_of commit-again commit-back it bytes spelled fits short

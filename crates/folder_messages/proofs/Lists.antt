-- Lists of messages that are written by themselves, and read with parts that may be absent.
use Rattle.std.proofs.Common.{◌≡◌, ℕ, Bool, List, [], ◌∷◌, ◌++◌, map, Option, Some, None, refl, sym, ap, ◌∙◌, append_assoc, arith, ◌&&◌}
use Rattle.std.proofs.lemmas.List.{append-nil}
use Rattle.std.proofs.lemmas.Grind.{common_steps}
use Rattle.proto_wire.specs.Message.{spelling, fit, spelled_messages, fit_messages}
use Rattle.typed_values.specs.declared.letter.Sender.{Sender}
use Rattle.typed_values.specs.declared.letter.Sender.TheVariants.{Split, Function}
use Rattle.typed_values.specs.Stored.{split_of, function_of, sender_rows}
use Rattle.typed_values.specs.Spelling.{sender_spelling}
use Rattle.folder_messages.specs.Parts.{all_of}
use Rattle.folder_messages.specs.Entries.{pick_rows, pick_read, entry_rows, entry_read}
use Rattle.folder_messages.specs.Spelling.{entry_spelling}
use Rattle.run_record.specs.declared.entry.Entry.{Entry}

pub messages-spelled : {A B : Type 0} (f : A → B) (spells : A → List ℕ) (others : B → List ℕ) → ((x : A) → others (f x) ≡ spells x) → (field : ℕ) (xs : List A)
    → spelled_messages others field (map f xs) ≡ spelled_messages spells field xs
unfolding spelled_messages
messages-spelled f spells others same field [] = refl
messages-spelled f spells others same field (x ∷ xs) = rw (same x, messages-spelled f spells others same field xs) refl

pub messages-fit : {A B : Type 0} (f : A → B) (fits : A → Bool) (others : B → Bool) → ((x : A) → others (f x) ≡ fits x) → (xs : List A) → fit_messages others (map f xs) ≡ fit_messages fits xs
unfolding fit_messages
messages-fit f fits others same [] = refl
messages-fit f fits others same (x ∷ xs) = rw (same x, messages-fit f fits others same xs) refl

-- each is there again
pub all-back : {A B : Type 0} (f : A → Option B) (g : B → A) → ((y : B) → f (g y) ≡ Some y) → (ys : List B) → all_of f (map g ys) ≡ Some ys
all-back f g back [] = refl
all-back f g back (y ∷ ys) = rw (back y, all-back f g back ys) refl

pub pick-spelled : (sender : Sender) → spelling pick_rows (pick_read sender) ≡ sender_spelling sender
unfolding pick_rows sender_spelling sender_rows split_of function_of
pick-spelled (Split split) = refl
pick-spelled (Function address) = refl

pub pick-fits : (sender : Sender) → fit pick_rows (pick_read sender) ≡ fit sender_rows (record { member = Some sender })
unfolding pick_rows sender_rows split_of function_of
pick-fits (Split split) = refl
pick-fits (Function address) = refl

pub picks-spelled : (picks : List Sender) → spelled_messages (spelling pick_rows) 4 (map pick_read picks) ≡ spelled_messages sender_spelling 4 picks
picks-spelled picks = messages-spelled pick_read sender_spelling (spelling pick_rows) pick-spelled 4 picks

pub picks-fit : (picks : List Sender) → fit_messages (fit pick_rows) (map pick_read picks) ≡ fit_messages (λ sender. fit sender_rows (record { member = Some sender })) picks
picks-fit picks = messages-fit pick_read (λ sender. fit sender_rows (record { member = Some sender })) (fit pick_rows) pick-fits picks

pub ruleset list_steps = (common_steps, arith, append_assoc, append-nil, picks-spelled, picks-fit)

pub entries-spelled : (field : ℕ) (entries : List Entry) → spelled_messages (spelling entry_rows) field (map entry_read entries) ≡ spelled_messages entry_spelling field entries
unfolding entry_spelling
entries-spelled field entries = messages-spelled entry_read (λ entry. spelling entry_rows (entry_read entry)) (spelling entry_rows) (λ entry. refl) field entries

pub entries-fit : (entries : List Entry) → fit_messages (fit entry_rows) (map entry_read entries) ≡ fit_messages (λ entry. fit entry_rows (entry_read entry)) entries
entries-fit entries = messages-fit entry_read (λ entry. fit entry_rows (entry_read entry)) (fit entry_rows) (λ entry. refl) entries

pub ruleset entry_steps = (common_steps, arith, append_assoc, append-nil, entries-spelled, entries-fit)

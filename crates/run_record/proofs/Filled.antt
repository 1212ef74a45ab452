-- What filling a machine leaves in its state.
use Rattle.std.proofs.Common.{◌≡◌, ◌∙◌, sym, ap, subst, refl, ℕ, true≢false, List, [], ◌∷◌, ◌++◌, Bool, true, false, cond, map, append-nil}
use Rattle.std.specs.Prelude.{◌&&◌}
use Rattle.typed_values.specs.declared.address.Address.{Address}
use Rattle.typed_values.specs.declared.name.TypeName.{TypeName}
use Rattle.typed_values.specs.declared.value.TypedValue.{TypedValue}
use Rattle.typed_values.specs.declared.letter.Letter.{Letter}
use Rattle.typed_values.specs.declared.letter.Sender.{Sender}
use Rattle.typed_values.specs.declared.letter.Sender.TheVariants.{Split, Function}
use Rattle.typed_values.specs.Sameness.{same_address, same_sender}
use Rattle.typed_values.proofs.Sameness.{same_address-Decides, same_sender-Decides}
use Rattle.keyed_queues.specs.declared.shelves.Shelves.{Shelves}
use Rattle.keyed_queues.specs.Queues.{ChangesIn, SetsAt}
use Rattle.run_record.specs.declared.machine.Machine.{Machine}
use Rattle.run_record.specs.declared.parts.Parts.{Parts}
use Rattle.run_record.specs.Machine.{Own, posted, arguments_of}
use Rattle.run_record.specs.StateOf.{own_in, own_by, mail_of, egress_in, state_of}
use Rattle.run_record.specs.Filled.{own_with, with_own, with_letter}
use Rattle.run_record.proofs.Changing.{sets_same}
use Rattle.run_record.proofs.Kept.{not_split, same_state}
use Rattle.run_record.proofs.Picks.{same_function}

own_filled : (address : Address) (taken : List ℕ) (before after : Parts) (change : Own → Own) → SetsAt (own_in before) (own_in after) address (change (own_in before address)) → (actor : Sender) → own_by taken after actor ≡ own_with address change (own_by taken before) actor
own_filled address taken before after change sets (Split n) = sym (ap (λ t. cond t (change (own_by taken before (Split n))) (own_by taken before (Split n))) (not_split address n))
own_filled address taken before after change sets (Function b) = go (same_sender (Function address) (Function b)) refl
  where
    go : (t : Bool) → same_sender (Function address) (Function b) ≡ t → own_in after b ≡ cond t (change (own_in before b)) (own_in before b)
    go true e = subst (λ a. own_in after a ≡ change (own_in before a)) (same_function address b e) sets.here
    go false e = sets.others b (λ same. true≢false (sym ((same_sender-Decides (Function address) (Function b)).1 (ap Function (sym same))) ∙ e))

abbrev with_parts : Parts → Machine → Machine
with_parts parts machine = record machine { parts = parts }

pub own_changes : (machine : Machine) (parts : Parts) (address : Address) (change : Own → Own) → SetsAt (own_in machine.parts) (own_in parts) address (change (own_in machine.parts address)) → state_of (with_parts parts machine) ≡ with_own address change (state_of machine)
unfolding state_of
own_changes machine parts address change sets = λ i. record {
  own = λ actor. own_filled address machine.taken.items machine.parts parts change sets actor i;
  mail = mail_of machine.mail;
  egress = egress_in machine.egress;
}

own_stays : (taken : List ℕ) (before after : Parts) → ((address : Address) → own_in after address ≡ own_in before address) → (actor : Sender) → own_by taken after actor ≡ own_by taken before actor
own_stays taken before after same (Split n) = refl
own_stays taken before after same (Function address) = same address

pub state_stays : (machine : Machine) (parts : Parts) (address : Address) → SetsAt (own_in machine.parts) (own_in parts) address (own_in machine.parts address) → state_of (with_parts parts machine) ≡ state_of machine
state_stays machine parts address sets =
    same_state (with_parts parts machine) machine (own_stays machine.taken.items machine.parts parts (sets_same machine.parts parts address sets)) (λ sender target. refl) (λ address name. refl)

pub letter_put : (before after : Machine) (letter : Letter) → after.taken.items ≡ before.taken.items → ((address : Address) → own_in after.parts address ≡ own_in before.parts address) → ((address : Address) (name : TypeName) → egress_in after.egress address name ≡ egress_in before.egress address name)
    → ((sender : Sender) (target : Address) → mail_of after.mail sender target ≡ posted (mail_of before.mail) (letter ∷ []) sender target) → state_of after ≡ with_letter letter (state_of before)
unfolding state_of
letter_put before after letter taken own egress mail = λ i. record {
  own = λ actor. (ap (λ (counts : List ℕ). own_by counts after.parts actor) taken ∙ own_stays before.taken.items before.parts after.parts own actor) i;
  mail = λ sender target. mail sender target i;
  egress = λ address name. egress address name i;
}

abbrev lists_in : Shelves Address Sender TypedValue → Address → Sender → List TypedValue
lists_in kept target sender = mail_of kept sender target

abbrev Pushes : Shelves Address Sender TypedValue → Shelves Address Sender TypedValue → Letter → TypedValue → Type 0
Pushes before after letter argument = ChangesIn (lists_in before) (lists_in after) letter.target letter.sender (lists_in before letter.target letter.sender ++ argument ∷ [])

-- a letter that is pushed at its pair
mail_put : (before after : Shelves Address Sender TypedValue) (letter : Letter) → Pushes before after letter letter.argument → (sender : Sender) (target : Address) → mail_of after sender target ≡ posted (mail_of before) (letter ∷ []) sender target
unfolding arguments_of
mail_put before after letter changes sender target = by (same_sender letter.sender sender) (same_address letter.target target) refl refl
  where
    by : (s t : Bool) → same_sender letter.sender sender ≡ s → same_address letter.target target ≡ t → mail_of after sender target ≡ mail_of before sender target ++ map (λ (l : Letter). l.argument) (cond (s && t) (letter ∷ []) [])
    by true true e f =
        let p = (same_sender-Decides letter.sender sender).0 e in
        let q = (same_address-Decides letter.target target).0 f in
        sym (λ i. lists_in after (q i) (p i)) ∙ changes.here ∙ (λ i. lists_in before (q i) (p i) ++ letter.argument ∷ [])
    by true false e f = changes.others target (λ same. true≢false (sym ((same_address-Decides letter.target target).1 (sym same)) ∙ f)) sender ∙ sym (append-nil (lists_in before target sender))
    by false true e f =
        let q = (same_address-Decides letter.target target).0 f in
        sym (λ i. lists_in after (q i) sender) ∙ changes.beside sender (λ same. true≢false (sym ((same_sender-Decides letter.sender sender).1 (sym same)) ∙ e)) ∙ (λ i. lists_in before (q i) sender) ∙ sym (append-nil (lists_in before target sender))
    by false false e f = changes.others target (λ same. true≢false (sym ((same_address-Decides letter.target target).1 (sym same)) ∙ f)) sender ∙ sym (append-nil (lists_in before target sender))

abbrev with_mail : Shelves Address Sender TypedValue → Machine → Machine
with_mail mail machine = record machine { mail = mail }

pub letter_pushed : (machine : Machine) (mail : Shelves Address Sender TypedValue) (letter : Letter) (argument : TypedValue) → argument ≡ letter.argument → Pushes machine.mail mail letter argument → state_of (with_mail mail machine) ≡ with_letter letter (state_of machine)
letter_pushed machine mail letter argument same changes =
    letter_put machine (with_mail mail machine) letter refl (λ address. refl) (λ address name. refl)
    (mail_put machine.mail mail letter (subst (Pushes machine.mail mail letter) same changes))

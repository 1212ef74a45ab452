-- Two folders by hand. A split's one record was taken: it became a letter, which a checkpoint keeps; or keeps no more.
use mathlib.Core.Path.{fun_ext}
use Rattle.std.proofs.Common.{◌≡◌, ◌∙◌, sym, ap, refl, ℕ, zero, suc, List, [], ◌∷◌, true, false, cond, Some, arith, append-nil}
use Rattle.std.specs.List.{IsDistinct}
use Rattle.std.proofs.lemmas.Bool.{false_from_ne_true}
use Rattle.typed_values.specs.declared.name.TypeName.{TypeName}
use Rattle.typed_values.specs.declared.address.Address.{Address}
use Rattle.typed_values.specs.declared.value.TypedValue.{TypedValue}
use Rattle.typed_values.specs.declared.letter.Sender.{Sender}
use Rattle.typed_values.specs.declared.letter.Sender.TheVariants.{Split, Function}
use Rattle.typed_values.specs.declared.letter.Letter.{Letter}
use Rattle.typed_values.specs.Sameness.{same_sender, same_address}
use Rattle.typed_values.proofs.Sameness.{same_sender-Decides}
use Rattle.sf_outside.specs.Splits.{Lists}
use Rattle.address_routing.specs.declared.module.Module.{Module}
use Rattle.address_routing.specs.Routing.{ingress_of}
use Rattle.run_record.specs.declared.entry.Entry.{Entry}
use Rattle.run_record.specs.declared.entry.Step.TheVariants.{Take}
use Rattle.run_record.specs.Letters.{letters_of}
use Rattle.run_record.specs.Machine.{State, Act, first_state, arguments_of, arguments_at, nothing, left, took, acted, made}
use Rattle.run_record.specs.Record.{replayed, merged}
use Rattle.folder_form.specs.declared.mark.Mark.{Mark}
use Rattle.folder_form.specs.Folders.{Part, Contents, no_contents, with_checkpoint, loaded_of, record_of, egress_in}
use Rattle.checkpoint_state.specs.Stored.{stored_state}
use Rattle.checkpoint_state.specs.Meaning.{state_in, IsGood}
use Rattle.checkpoint_state.specs.Laws.{IsNext}
use Rattle.checkpoint_state.proofs.Good.{none_state, next_keeps_good, none_is_good}

abbrev kind : TypeName
kind = record { namespace = 97 ∷ []; name = 98 ∷ [] }

abbrev job : Module
job = record { endpoints = []; ingresses = record { id = record { namespace = 97 ∷ []; name = 99 ∷ [] }; splits = 1; value_type = 116 ∷ []; targets = kind ∷ [] } ∷ []; egresses = [] }

abbrev told : Lists
told = (record { key = 107 ∷ []; value = 1 ∷ [] } ∷ []) ∷ []

abbrev argument : TypedValue
argument = record { typename = 116 ∷ []; has_value = true; value = 1 ∷ [] }

abbrev letter : Letter
letter = record { sender = Split 0; target = record { kind = kind; id = 107 ∷ [] }; argument = argument }

abbrev entry : Entry
entry = record { leg = 1; stamp = 0; node = 0; step = Take 0 }

abbrev mark : Mark
mark = record { number = 1; leg = 1; moment = 5; taken = 1 ∷ []; takes = entry ∷ [] }

abbrev part : List Letter → Part
part letters = record { piece = record { partition = 0; entries = []; egress = []; letters = letters; states = []; delays = [] }; letters = [] }

abbrev folder : List Letter → Contents
folder letters = with_checkpoint mark (part letters ∷ []) no_contents

-- ---- the record

record_is : (letters : List Letter) → record_of (folder letters) ≡ entry ∷ []
unfolding record_of merged
record_is letters = refl

-- ---- what the checkpoint stands for

abbrev act : Act
act = took job 0 nothing (record { key = 107 ∷ []; value = 1 ∷ [] })

others_differ : (n : ℕ) → same_sender (Split 0) (Split (suc n)) ≡ false
others_differ n = false_from_ne_true (same_sender (Split 0) (Split (suc n))) (λ t. let e : Split 0 ≡ Split (suc n) = (same_sender-Decides (Split 0) (Split (suc n))).0 t in absurd cc)

own-taken : (actor : Sender) → (acted (Take 0) act first_state).own actor ≡ (state_in (folder (letter ∷ []))).own actor
unfolding loaded_of stored_state same_sender
own-taken (Split zero) = refl
own-taken (Split (suc n)) = ap (λ b. cond b (left act nothing) nothing) (others_differ n)
own-taken (Function address) = refl

mail-taken : (sender : Sender) (target : Address) → (acted (Take 0) act first_state).mail sender target ≡ (state_in (folder (letter ∷ []))).mail sender target
unfolding loaded_of stored_state same_sender arguments_of letters_of ingress_of
mail-taken (Split split) target = sym (append-nil (arguments_of (Split split) target (letter ∷ [])))
mail-taken (Function address) target = sym (append-nil (arguments_of (Function address) target (letter ∷ [])))

state-taken : acted (Take 0) act first_state ≡ state_in (folder (letter ∷ []))
unfolding loaded_of stored_state egress_in arguments_at
state-taken = λ i. record { own = fun_ext own-taken i; mail = fun_ext (λ sender. fun_ext (mail-taken sender)) i; egress = λ address name. [] }

-- the entry is allowed where nothing has happened, and does this
takes : replayed job told first_state (entry ∷ []) ≡ Some (acted (Take 0) act first_state)
unfolding made
takes = refl

is_next : IsNext job told no_contents 0 (entry ∷ []) mark (part (letter ∷ []))
unfolding loaded_of record_of merged IsDistinct
is_next = record {
  parted = record { in_mark = refl; in_piece = refl };
  rises = (tt, tt);
  loaded = omega arith;
  later = omega arith;
  legs = ((omega arith, omega arith), tt);
  moment = omega arith;
  moments = (omega arith, tt);
  called = tt;
  calls = tt;
  distinct = tt;
  replays = ap (λ st. replayed job told st (entry ∷ [])) (sym none_state) ∙ takes ∙ ap Some state-taken;
}

kept_is_good : IsGood job told (folder (letter ∷ []))
kept_is_good = (next_keeps_good job told no_contents 0 (entry ∷ []) mark (part (letter ∷ [])) (none_is_good job told) is_next).good

-- ---- the letter is lost

abbrev waits : State → List TypedValue
waits st = st.mail (Split 0) letter.target

waiting : waits (acted (Take 0) act first_state) ≡ argument ∷ []
unfolding arguments_of letters_of ingress_of same_sender same_address
waiting = refl

none_waits : waits (state_in (folder [])) ≡ []
unfolding loaded_of stored_state arguments_of
none_waits = refl

some_same : {X : Type 0} (x y : X) → Some x ≡ Some y → x ≡ y
some_same x y e = cc

lost_is_not_good : IsGood job told (folder []) → ⊥
lost_is_not_good good =
    let replays : replayed job told first_state (record_of (folder [])) ≡ Some (state_in (folder [])) = (good.each (folder []).checkpoints [] refl).replays in
    let same : acted (Take 0) act first_state ≡ state_in (folder []) = some_same _ _ (sym takes ∙ ap (replayed job told first_state) (sym (record_is [])) ∙ replays) in
    let both : argument ∷ [] ≡ [] = sym waiting ∙ ap waits same ∙ none_waits in
    absurd cc

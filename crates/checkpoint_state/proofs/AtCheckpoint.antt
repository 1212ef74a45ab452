-- A machine that is filled with what a checkpoint holds stands at it.
use mathlib.Core.Path.{fun_ext}
use Rattle.std.proofs.Common.{◌≡◌, ◌∙◌, sym, ap, refl, ℕ, ◌+◌, ◌<◌, List, [], ◌∷◌, ◌++◌, Bool, true, false, cond, map, drop, length, get_or, Option, Some, None, append_assoc, append-nil}
use Rattle.std.specs.Prelude.{◌↔◌, IsTrue}
use Rattle.std.specs.List.{list_all}
use Rattle.std.specs.Option.{option_map_or}
use Rattle.std.proofs.lemmas.List.{drop_more}
use Rattle.std.proofs.lemmas.List.Folds.{list_all-append}
use Rattle.std.proofs.lemmas.Bool.{and_parts}
use Rattle.std.proofs.lemmas.Grind.{flat_map-append}
use Rattle.typed_values.specs.declared.address.Address.{Address}
use Rattle.typed_values.specs.declared.letter.Sender.{Sender}
use Rattle.typed_values.specs.declared.letter.Sender.TheVariants.{Split, Function}
use Rattle.typed_values.specs.declared.letter.Letter.{Letter}
use Rattle.typed_values.specs.declared.record.Delay.{Delay}
use Rattle.typed_values.specs.Sameness.{same_sender, same_address}
use Rattle.run_record.specs.Machine.{Own, State, nothing, arguments_of}
use Rattle.run_record.specs.Filled.{counted_state, keeps, waits_too, own_with, with_letter, with_delay, with_cells}
use Rattle.run_record.proofs.Kept.{not_split}
use Rattle.run_record.proofs.Senders.{arguments_of-append}
use Rattle.piece_messages.specs.declared.address_state.AddressState.{AddressState}
use Rattle.piece_messages.specs.declared.piece.Piece.{Piece}
use Rattle.piece_messages.specs.Stands.{cell_of, state_at, delays_at}
use Rattle.folder_form.specs.declared.loaded.Loaded.{Loaded}
use Rattle.folder_form.specs.Pieces.{are_cells}
use Rattle.checkpoint_state.specs.Stored.{states_in, delays_in, letters_in, on_the_way, stored_own, stored_mail, stored_state}
use Rattle.checkpoint_state.specs.Matching.{StandsAt, HaveCells, has_cells, with_letters, with_delays, with_states}

-- ---- one after the other

-- what is left of a list leads to the same whole
pub one_less : {X : Type 0} (after : List X → State → State) (xs : List X) (n : ℕ) (x : X) (old new whole : State) → n < length xs → x ≡ get_or xs n x → after (x ∷ drop (n + 1) xs) old ≡ after (drop (n + 1) xs) new → after (drop n xs) old ≡ whole → after (drop (n + 1) xs) new ≡ whole
one_less after xs n x old new whole inside here step so_far =
    sym step ∙ ap (λ y. after (y ∷ drop (n + 1) xs) old) here ∙ sym (ap (λ ys. after ys old) (drop_more xs n x inside)) ∙ so_far

pub letters-append : (front behind : List Letter) (st : State) → with_letters (front ++ behind) st ≡ with_letters behind (with_letters front st)
letters-append [] behind st = refl
letters-append (letter ∷ front) behind st = letters-append front behind (with_letter letter st)

pub delays-append : (front behind : List Delay) (st : State) → with_delays (front ++ behind) st ≡ with_delays behind (with_delays front st)
delays-append [] behind st = refl
delays-append (delay ∷ front) behind st = delays-append front behind (with_delay delay st)

pub states-append : (front behind : List AddressState) (st : State) → with_states (front ++ behind) st ≡ with_states front (with_states behind st)
states-append [] behind st = refl
states-append (state ∷ front) behind st = ap (with_cells state.address (map cell_of state.cells) state.seen) (states-append front behind st)

-- states from the last on: those that are left lead to the same whole
pub record Left (rest : List AddressState) (now whole : State) : Type 0 where
  pub leads : with_states rest now ≡ whole
  pub sound : HaveCells rest

pub fewer_left : (rest others last : List AddressState) (old new whole : State) → rest ≡ others ++ last → new ≡ with_states last old → Left rest old whole → Left others new whole
fewer_left rest others last old new whole split step left = record {
  leads = ap (with_states others) step ∙ sym (states-append others last old) ∙ sym (ap (λ states. with_states states old) split) ∙ left.leads;
  sound = (and_parts (list_all has_cells others) (list_all has_cells last) (sym (list_all-append has_cells others last) ∙ sym (ap (list_all has_cells) split) ∙ left.sound)).0;
}

pub last_sound : (rest others last : List AddressState) (old whole : State) → rest ≡ others ++ last → Left rest old whole → HaveCells last
last_sound rest others last old whole split left =
    (and_parts (list_all has_cells others) (list_all has_cells last) (sym (list_all-append has_cells others last) ∙ sym (ap (list_all has_cells) split) ∙ left.sound)).1

pub one_cell : (state : AddressState) → HaveCells (state ∷ []) → are_cells state.cells ≡ true
one_cell state sound = (and_parts (are_cells state.cells) true sound).0

pub states_of_last : (others : List Piece) (piece : Piece) → states_in (others ++ piece ∷ []) ≡ states_in others ++ piece.states
states_of_last others piece = flat_map-append (λ (p : Piece). p.states) others (piece ∷ []) ∙ ap (λ states. states_in others ++ states) (append-nil piece.states)

-- ---- what each actor has of its own

own_of_letters : (letters : List Letter) (st : State) → (with_letters letters st).own ≡ st.own
own_of_letters [] st = refl
own_of_letters (letter ∷ letters) st = own_of_letters letters (with_letter letter st)

own_split : (address : Address) (change : Own → Own) (own : Sender → Own) (n : ℕ) → own_with address change own (Split n) ≡ own (Split n)
own_split address change own n = ap (λ t. cond t (change (own (Split n))) (own (Split n))) (not_split address n)

split_of_delays : (delays : List Delay) (st : State) (n : ℕ) → (with_delays delays st).own (Split n) ≡ st.own (Split n)
split_of_delays [] st n = refl
split_of_delays (delay ∷ delays) st n = split_of_delays delays (with_delay delay st) n ∙ own_split delay.sender (waits_too delay) st.own n

split_of_states : (states : List AddressState) (st : State) (n : ℕ) → (with_states states st).own (Split n) ≡ st.own (Split n)
split_of_states [] st n = refl
split_of_states (state ∷ states) st n = own_split state.address (keeps (map cell_of state.cells) state.seen) (with_states states st).own n ∙ split_of_states states st n

of_functions : (a b : Address) → same_sender (Function a) (Function b) ≡ same_address a b
unfolding same_sender same_address
of_functions a b = refl

abbrev waiting : List Delay → Own → Own
waiting delays own = record own { delays = own.delays ++ delays }

own_of_delays : (delays : List Delay) (st : State) (address : Address) → (with_delays delays st).own (Function address) ≡ waiting (delays_at delays address) (st.own (Function address))
own_of_delays [] st address = sym (ap (λ ds. record (st.own (Function address)) { delays = ds }) (append-nil (st.own (Function address)).delays))
own_of_delays (delay ∷ delays) st address =
    own_of_delays delays (with_delay delay st) address
    ∙ ap (λ t. waiting (delays_at delays address) (cond t (waits_too delay own) own)) (of_functions delay.sender address)
    ∙ by (same_address delay.sender address)
  where
    own : Own
    own = st.own (Function address)

    by : (t : Bool) → waiting (delays_at delays address) (cond t (waits_too delay own) own) ≡ waiting (cond t (delay ∷ delays_at delays address) (delays_at delays address)) own
    by true = ap (λ ds. record own { delays = ds }) (append_assoc own.delays (delay ∷ []) (delays_at delays address))
    by false = refl

abbrev kept_by : AddressState → Own → Own
kept_by state own = keeps (map cell_of state.cells) state.seen own

abbrev kept_as : Option AddressState → Own → Own
kept_as state own = option_map_or (λ (s : AddressState). kept_by s own) state own

own_of_states : (states : List AddressState) (st : State) (address : Address) → (with_states states st).own (Function address) ≡ kept_as (state_at states address) (st.own (Function address))
own_of_states [] st address = refl
own_of_states (state ∷ states) st address =
    ap (λ t. cond t (kept_by state ((with_states states st).own (Function address))) ((with_states states st).own (Function address))) (of_functions state.address address)
    ∙ ap (λ own. cond (same_address state.address address) (kept_by state own) own) (own_of_states states st address)
    ∙ by (same_address state.address address) (state_at states address)
  where
    by : (t : Bool) (rest : Option AddressState) → cond t (kept_by state (kept_as rest (st.own (Function address)))) (kept_as rest (st.own (Function address))) ≡ kept_as (cond t (Some state) rest) (st.own (Function address))
    by true None = refl
    by true (Some other) = refl
    by false rest = refl

-- ---- the mail

mail_of_delays : (delays : List Delay) (st : State) → (with_delays delays st).mail ≡ st.mail
mail_of_delays [] st = refl
mail_of_delays (delay ∷ delays) st = mail_of_delays delays (with_delay delay st)

mail_of_states : (states : List AddressState) (st : State) → (with_states states st).mail ≡ st.mail
mail_of_states [] st = refl
mail_of_states (state ∷ states) st = mail_of_states states st

no_arguments : (sender : Sender) (target : Address) → arguments_of sender target [] ≡ []
unfolding arguments_of
no_arguments sender target = refl

mail_of_letters : (letters : List Letter) (st : State) (sender : Sender) (target : Address) → (with_letters letters st).mail sender target ≡ st.mail sender target ++ arguments_of sender target letters
mail_of_letters [] st sender target = sym (ap (λ xs. st.mail sender target ++ xs) (no_arguments sender target) ∙ append-nil (st.mail sender target))
mail_of_letters (letter ∷ letters) st sender target =
    mail_of_letters letters (with_letter letter st) sender target
    ∙ append_assoc (st.mail sender target) (arguments_of sender target (letter ∷ [])) (arguments_of sender target letters)
    ∙ ap (λ xs. st.mail sender target ++ xs) (sym (arguments_of-append sender target (letter ∷ []) letters))

-- ---- the whole

module _ (loaded : Loaded) where
  abbrev with_mail : State
  with_mail = with_letters (on_the_way loaded.feedback) (with_letters (letters_in loaded.pieces) (counted_state loaded.taken))

  abbrev with_all : State
  with_all = with_states (states_in loaded.pieces) (with_delays (delays_in loaded.pieces) with_mail)

  own_of_mail : with_mail.own ≡ (counted_state loaded.taken).own
  own_of_mail = own_of_letters (on_the_way loaded.feedback) (with_letters (letters_in loaded.pieces) (counted_state loaded.taken)) ∙ own_of_letters (letters_in loaded.pieces) (counted_state loaded.taken)

  own_whole : (actor : Sender) → with_all.own actor ≡ stored_own loaded actor
  own_whole (Split n) =
      split_of_states (states_in loaded.pieces) (with_delays (delays_in loaded.pieces) with_mail) n
      ∙ split_of_delays (delays_in loaded.pieces) with_mail n ∙ ap (λ own. own (Split n)) own_of_mail
  own_whole (Function address) =
      own_of_states (states_in loaded.pieces) (with_delays (delays_in loaded.pieces) with_mail) address
      ∙ ap (kept_as (state_at (states_in loaded.pieces) address)) (own_of_delays (delays_in loaded.pieces) with_mail address ∙ ap (λ own. waiting (delays_at (delays_in loaded.pieces) address) (own (Function address))) own_of_mail)
      ∙ by (state_at (states_in loaded.pieces) address)
    where
      by : (state : Option AddressState) → kept_as state (record nothing { delays = delays_at (delays_in loaded.pieces) address }) ≡ record {
        taken = 0;
        cells = option_map_or (λ (s : AddressState). map cell_of s.cells) state [];
        seen = option_map_or (λ (s : AddressState). s.seen) state 0;
        delays = delays_at (delays_in loaded.pieces) address;
      }
      by None = refl
      by (Some state) = refl

  mail_whole : (sender : Sender) (target : Address) → with_all.mail sender target ≡ stored_mail loaded sender target
  mail_whole sender target =
      ap (λ mail. mail sender target) (mail_of_states (states_in loaded.pieces) (with_delays (delays_in loaded.pieces) with_mail) ∙ mail_of_delays (delays_in loaded.pieces) with_mail)
      ∙ mail_of_letters (on_the_way loaded.feedback) (with_letters (letters_in loaded.pieces) (counted_state loaded.taken)) sender target
      ∙ ap (λ xs. xs ++ arguments_of sender target (on_the_way loaded.feedback)) (mail_of_letters (letters_in loaded.pieces) (counted_state loaded.taken) sender target)

  pub stands_at : (st : State) → st ≡ with_all → StandsAt st loaded
  unfolding stored_state
  stands_at st is = (ap (λ (s : State). s.own) is ∙ fun_ext own_whole, ap (λ (s : State). s.mail) is ∙ fun_ext (λ sender. fun_ext (mail_whole sender)))

  -- a state that is compared with one that stands there
  pub told : (mine stored : State) → StandsAt stored loaded → (same : Bool) → (IsTrue same ↔ ((mine.own ≡ stored.own) × (mine.mail ≡ stored.mail))) → IsTrue same ↔ StandsAt mine loaded
  told mine stored stands same tells = (
    λ t. ((tells.0 t).0 ∙ stands.0, (tells.0 t).1 ∙ stands.1),
    λ at. tells.1 (at.0 ∙ sym stands.0, at.1 ∙ sym stands.1),
  )

-- what was put in turn makes the whole
pub filled : (loaded : Loaded) (taken : List ℕ) (pieces : List Piece) (feedback : List (List Letter)) → taken ≡ loaded.taken → pieces ≡ loaded.pieces → feedback ≡ loaded.feedback → (first letters on_way delays states : State)
    → first ≡ counted_state taken → letters ≡ with_letters (letters_in pieces) first → on_way ≡ with_letters (on_the_way feedback) letters → delays ≡ with_delays (delays_in pieces) on_way → states ≡ with_states (states_in pieces) delays → StandsAt states loaded
filled loaded taken pieces feedback t p f first letters on_way delays states e0 e1 e2 e3 e4 =
    stands_at loaded states
    (e4 ∙ ap (with_states (states_in pieces)) (e3 ∙ ap (with_delays (delays_in pieces)) (e2 ∙ ap (with_letters (on_the_way feedback)) (e1 ∙ ap (with_letters (letters_in pieces)) e0)))
    ∙ (λ i. with_states (states_in (p i)) (with_delays (delays_in (p i)) (with_letters (on_the_way (f i)) (with_letters (letters_in (p i)) (counted_state (t i)))))))

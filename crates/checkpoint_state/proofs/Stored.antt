-- A checkpoint stands for the work that it keeps.
use mathlib.Core.Path.{fun_ext}
use Rattle.std.proofs.Common.{◌≡◌, ◌∙◌, sym, ap, refl, ℕ, List, [], ◌∷◌, ◌++◌, Bool, true, false, cond, map, filter, append-nil}
use Rattle.std.proofs.lemmas.List.{map-append}
use Rattle.std.proofs.lemmas.List.Elements.{filter-append}
use Rattle.typed_values.specs.declared.name.TypeName.{TypeName}
use Rattle.typed_values.specs.declared.address.Address.{Address}
use Rattle.typed_values.specs.declared.letter.Sender.{Sender}
use Rattle.typed_values.specs.declared.letter.Sender.TheVariants.{Split, Function}
use Rattle.typed_values.specs.declared.letter.Letter.{Letter}
use Rattle.typed_values.specs.declared.record.EgressRecord.{EgressRecord}
use Rattle.typed_values.specs.Sameness.{same_sender, same_address}
use Rattle.typed_values.proofs.Sameness.{same_address-Decides}
use Rattle.std.proofs.lemmas.Bool.{and_parts}
use Rattle.std.proofs.lemmas.Grind.{flat_map-append}
use Rattle.batch_queue.specs.Post.{no_post}
use Rattle.run_record.specs.Machine.{is_of_pair, is_between, arguments_of, arguments_at}
use Rattle.run_record.proofs.Senders.{arguments_of-append}
use Rattle.piece_messages.specs.Stands.{own_at}
use Rattle.partition_core.specs.Work.{Work, is_from, own_in, mail_in, state_of, put_all}
use Rattle.partition_core.specs.KeptWork.{kept_work}
use Rattle.partition_core.proofs.Posting.{put_all_mail}
use Rattle.folder_form.specs.declared.loaded.Loaded.{Loaded}
use Rattle.folder_form.specs.declared.mark.Mark.{Mark}
use Rattle.folder_form.specs.Folders.{Part, Checkpoint, Contents, with_checkpoint, loaded_checkpoint, loaded_from, nothing_loaded, loaded_of, egress_in}
use Rattle.checkpoint_state.specs.Stored.{states_in, delays_in, letters_in, on_the_way, stored_own, stored_mail, stored_state}
use Rattle.checkpoint_state.specs.Meaning.{given_by}
use Rattle.checkpoint_state.specs.Laws.{TheLastIsLoaded, counts_in, IsOf, CheckpointsAreWork, WorkIsStored}

-- ---- arguments

pub arguments_at-append : (address : Address) (name : TypeName) (records others : List EgressRecord) → arguments_at address name (records ++ others) ≡ arguments_at address name records ++ arguments_at address name others
unfolding arguments_at
arguments_at-append address name records others =
    ap (map (λ (r : EgressRecord). r.argument)) (filter-append (is_between address name) records others)
    ∙ map-append (λ (r : EgressRecord). r.argument) (filter (is_between address name) records) (filter (is_between address name) others)

arguments_of-none : (sender : Sender) (target : Address) → arguments_of sender target [] ≡ []
unfolding arguments_of
arguments_of-none sender target = refl

-- ---- what is kept, as a state

-- letters that arrived where none were
kept_mail : (letters : List Letter) (sender : Sender) (target : Address) → arguments_of sender target ((put_all letters no_post).letters target) ≡ arguments_of sender target letters
kept_mail letters sender target = put_all_mail letters no_post sender target ∙ ap (λ xs. xs ++ arguments_of sender target letters) (arguments_of-none sender target)

own-stored : (loaded : Loaded) (letters : List Letter) (actor : Sender) → stored_own loaded actor ≡ own_in (counts_in loaded.taken) (kept_work letters (states_in loaded.pieces) (delays_in loaded.pieces)) actor
own-stored loaded letters (Split split) = refl
own-stored loaded letters (Function address) = refl

pub checkpoints_are_work : CheckpointsAreWork
unfolding stored_state state_of
checkpoints_are_work loaded given =
    let letters = letters_in loaded.pieces ++ on_the_way loaded.feedback in
    let mail : (sender : Sender) (target : Address) → stored_mail loaded sender target ≡ arguments_of sender target ((put_all letters no_post).letters target) =
    λ sender target. sym (kept_mail letters sender target ∙ arguments_of-append sender target (letters_in loaded.pieces) (on_the_way loaded.feedback)) in
    λ i. record {
      own = fun_ext (own-stored loaded letters) i;
      mail = fun_ext (λ sender. fun_ext (mail sender)) i;
      egress = λ address name. arguments_at address name given;
    }

-- ---- the newest checkpoint

loaded_last : (loaded : Loaded) (checkpoints : List Checkpoint) (last : Checkpoint) → loaded_from loaded (checkpoints ++ last ∷ []) ≡ loaded_checkpoint last
loaded_last loaded [] last = refl
loaded_last loaded (first ∷ checkpoints) last = loaded_last (loaded_checkpoint first) checkpoints last

pub newest_is_loaded : TheLastIsLoaded
unfolding loaded_of
newest_is_loaded mark parts contents = loaded_last nothing_loaded contents.checkpoints (record { mark = mark; parts = parts })

-- what its piece gave to egresses stands last
pub given-with : (mark : Mark) (part : Part) (contents : Contents) → given_by (with_checkpoint mark (part ∷ []) contents) ≡ given_by contents ++ part.piece.egress
unfolding egress_in
given-with mark part contents =
    flat_map-append egress_in contents.checkpoints (record { mark = mark; parts = part ∷ [] } ∷ [])
    ∙ ap (λ records. given_by contents ++ records) (append-nil (part.piece.egress ++ []) ∙ append-nil part.piece.egress)

-- ---- a work that is kept

filter-within : {A : Type 0} (p q : A → Bool) (xs : List A) → ((x : A) → p x ≡ true → q x ≡ true) → filter p (filter q xs) ≡ filter p xs
filter-within p q [] h = refl
filter-within p q (x ∷ xs) h = by (q x) (p x) refl (h x) (filter-within p q xs h)
  where
    by : (b t : Bool) → p x ≡ t → (t ≡ true → b ≡ true) → filter p (filter q xs) ≡ filter p xs → filter p (cond b (x ∷ filter q xs) (filter q xs)) ≡ cond t (x ∷ filter p xs) (filter p xs)
    by true true e h rest = rw e (ap (λ ys. x ∷ ys) rest)
    by true false e h rest = rw e rest
    by false true e h rest = absurd (let f = h refl in cc)
    by false false e h rest = rest

own_arguments : (sender : Sender) (target : Address) (letters : List Letter) → arguments_of sender target (filter (λ (letter : Letter). same_address target letter.target) letters) ≡ arguments_of sender target letters
unfolding arguments_of
own_arguments sender target letters =
    ap (map (λ (letter : Letter). letter.argument)) (filter-within (is_of_pair sender target) (λ (letter : Letter). same_address target letter.target) letters
    (λ letter h. (same_address-Decides target letter.target).1 (sym ((same_address-Decides letter.target target).0 (and_parts (same_sender letter.sender sender) (same_address letter.target target) h).1))))

stored_work : (mark : Mark) (part : Part) (counts : ℕ → ℕ) (work : Work) (given : List EgressRecord) → IsOf mark part counts work → stored_state (loaded_checkpoint (record { mark = mark; parts = part ∷ [] })) given ≡ state_of counts given work
unfolding stored_state state_of
stored_work mark part counts work given of =
    λ i. record { own = fun_ext own i; mail = fun_ext (λ sender. fun_ext (mail sender)) i; egress = λ address name. arguments_at address name given }
  where
    own : (actor : Sender) → stored_own (loaded_checkpoint (record { mark = mark; parts = part ∷ [] })) actor ≡ own_in counts work actor
    own (Split split) = λ i. record { taken = of.taken i split; cells = []; seen = 0; delays = [] }
    own (Function address) =
        (λ i. own_at (append-nil part.piece.states i) (append-nil part.piece.delays i) address)
        ∙ (λ i. record { taken = 0; cells = of.kept.cells i address; seen = of.kept.seen i address; delays = filter (is_from address) (of.kept.delays i) })

    mail : (sender : Sender) (target : Address) → stored_mail (loaded_checkpoint (record { mark = mark; parts = part ∷ [] })) sender target ≡ mail_in work sender target
    mail sender target =
        (λ i. arguments_of sender target (append-nil part.piece.letters i) ++ arguments_of sender target (append-nil part.letters i))
        ∙ (λ i. arguments_of sender target part.piece.letters ++ arguments_of sender target (of.letters i))
        ∙ ap (λ xs. arguments_of sender target part.piece.letters ++ xs) (arguments_of-none sender target)
        ∙ append-nil (arguments_of sender target part.piece.letters)
        ∙ sym (own_arguments sender target part.piece.letters)
        ∙ ap (arguments_of sender target) (of.kept.letters.of_each target)

pub work_is_stored : WorkIsStored
work_is_stored contents mark part counts work of =
    (λ i. stored_state (newest_is_loaded mark (part ∷ []) contents i) (given-with mark part contents i))
    ∙ stored_work mark part counts work (given_by contents ++ part.piece.egress) of

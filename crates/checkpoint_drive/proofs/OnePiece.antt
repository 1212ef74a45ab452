-- The piece of the only partition: all that it holds belongs to it.
use Rattle.std.proofs.Common.{◌≡◌, ℕ, ◌≤◌, ◌*◌, ◌/◌, ◌%◌, Bool, true, false, cond, not, ◌&&◌, nat_eq, List, [], ◌∷◌, filter, refl, ap, sym, subst, arith}
use Rattle.std.specs.List.{list_all}
use Rattle.typed_values.specs.declared.address.Address.{Address}
use Rattle.typed_values.specs.declared.letter.Letter.{Letter}
use Rattle.typed_values.specs.declared.record.Delay.{Delay}
use Rattle.typed_values.specs.declared.record.EgressRecord.{EgressRecord}
use Rattle.typed_values.specs.Spelling.{address_spelling}
use Rattle.address_routing.specs.Partitions.{fnv_1a, key_group, offset_basis}
use Rattle.run_record.specs.declared.entry.Entry.{Entry}
use Rattle.run_record.specs.declared.entry.Step.{Step}
use Rattle.run_record.specs.declared.entry.Step.TheVariants.{Take, Batch, Register, Due}
use Rattle.piece_messages.specs.declared.address_state.AddressState.{AddressState}
use Rattle.piece_messages.specs.declared.piece.Piece.{Piece}
use Rattle.folder_form.specs.declared.mark.Mark.{Mark}
use Rattle.folder_form.specs.Folders.{takes}
use Rattle.folder_form.specs.Pieces.{are_cells, latest_in, owns, owns_delay, owns_entry, owns_letter, owns_letters, owns_piece, owns_record, owns_state, owns_step}
use Rattle.checkpoint_storage.specs.Folders.{IsPart, only}
use Rattle.partition_core.specs.declared.kept_work.KeptWork.{KeptWork}
use Rattle.partition_core.specs.KeptWork.{IsKeptOf}
use Rattle.partition_core.specs.Work.{Work}
use Rattle.statefun_driver.specs.declared.steps.Cut.{Cut}
use Rattle.statefun_driver.specs.Origins.{IsHeld}
use Rattle.statefun_driver.specs.Parted.{IsParted, is_other}
use Rattle.statefun_driver.specs.Turns.{is_take, is_taking}

and_both : (a b : Bool) → a ≡ true → b ≡ true → (a && b) ≡ true
and_both a b is_a is_b = rw is_a is_b

and_then : (a b c : Bool) → (b ≡ true → c ≡ true) → (a && b) ≡ true → (a && c) ≡ true
and_then true b c f h = f h
and_then false b c f h = h

all_pass : {X : Type 0} (p : X → Bool) → ((x : X) → p x ≡ true) → (xs : List X) → list_all p xs ≡ true
all_pass p f [] = refl
all_pass p f (x ∷ xs) = and_both (p x) (list_all p xs) (f x) (all_pass p f xs)

kept_pass : {X : Type 0} (p q : X → Bool) → ((x : X) → q x ≡ true → p x ≡ true) → (xs : List X) → list_all p (filter q xs) ≡ true
kept_pass p q f [] = refl
kept_pass p q f (x ∷ xs) = by (q x) (f x) (kept_pass p q f xs)
  where
    by : (t : Bool) → (t ≡ true → p x ≡ true) → list_all p (filter q xs) ≡ true → list_all p (cond t (x ∷ filter q xs) (filter q xs)) ≡ true
    by true g rest = and_both (p x) (list_all p (filter q xs)) (g refl) rest
    by false g rest = rest

-- ---- addresses

first_group : (n : ℕ) → nat_eq (n % 128 * 1 / 128) 0 ≡ true
first_group n = let e : n % 128 * 1 / 128 ≡ 0 = omega arith in ap (λ (k : ℕ). nat_eq k 0) e

-- each address is in the only partition
owned_only : (address : Address) → owns only address ≡ true
unfolding key_group
owned_only address = first_group (fnv_1a offset_basis (address_spelling address))

owned_step : (made : Step) → not (is_taking made) ≡ true → owns_step only made ≡ true
owned_step (Take split) h = h
owned_step (Batch reply) h = owned_only reply.address
owned_step (Register reply) h = owned_only reply.address
owned_step (Due address moment) h = owned_only address

-- ---- parts of a piece

owned_others : (entries : List Entry) → list_all (owns_entry only) (filter is_other entries) ≡ true
owned_others entries = kept_pass (owns_entry only) is_other (λ entry h. owned_step entry.step h) entries

owned_states : (states : List AddressState) → list_all (λ (state : AddressState). are_cells state.cells) states ≡ true → list_all (owns_state only) states ≡ true
owned_states states sound = same_pass states sound
  where
    both : (state : AddressState) → owns_state only state ≡ are_cells state.cells
    both state = rw (owned_only state.address) refl

    same_pass : (ss : List AddressState) → list_all (λ (state : AddressState). are_cells state.cells) ss ≡ true → list_all (owns_state only) ss ≡ true
    same_pass [] h = refl
    same_pass (s ∷ ss) h = rw (both s) (and_then (are_cells s.cells) (list_all (λ (state : AddressState). are_cells state.cells) ss) (list_all (owns_state only) ss) (same_pass ss) h)

pub taking_all : (entries taken : List Entry) → taken ≡ filter is_take entries → list_all takes taken ≡ true
taking_all entries taken is = subst (λ (l : List Entry). list_all takes l ≡ true) (sym is) (kept_pass takes is_take (λ entry h. h) entries)

no_letters : owns_letters only [] ≡ true
unfolding owns_letters
no_letters = refl

module _ (work : Work) (moment : ℕ) (kept : KeptWork) (held : IsHeld work moment) (is_kept : IsKeptOf work kept) (entries : List Entry) (cut : Cut) (parted : IsParted entries cut) where
  abbrev the_piece : Piece
  the_piece = record { partition = 0; entries = cut.others; egress = cut.egress; letters = kept.letters; states = kept.states; delays = kept.delays }

  owned : owns_piece only the_piece ≡ true
  unfolding owns_piece owns_letters
  owned =
      rw (subst (λ (l : List Entry). list_all (owns_entry only) l ≡ true) (sym parted.others) (owned_others entries))
      (rw (all_pass (owns_record only) (λ (given : EgressRecord). owned_only given.sender) cut.egress)
      (rw (all_pass (owns_letter only) (λ (letter : Letter). owned_only letter.target) kept.letters)
      (rw (owned_states kept.states is_kept.states.sound)
      (rw is_kept.states.in_order
      (all_pass (owns_delay only) (λ (delay : Delay). owned_only delay.sender) kept.delays)))))

  latest : latest_in the_piece ≤ moment
  unfolding latest_in
  latest = (is_kept.states).moments moment (λ address. (held.seen address, held.stamps address))

  pub is_part : (mark : Mark) → mark.moment ≡ moment → IsPart mark the_piece []
  is_part mark same = record { owned = owned; letters_owned = no_letters; partition = refl; latest = subst (λ (m : ℕ). latest_in the_piece ≤ m) (sym same) latest }

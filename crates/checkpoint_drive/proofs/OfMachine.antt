-- What is committed in a good folder is what the sequential machine gave.
use Rattle.std.proofs.Common.{◌≡◌, List, [], ◌∷◌, ◌++◌, map, refl, ◌∙◌, ap}
use Rattle.std.specs.List.{flat_map}
use Rattle.typed_values.specs.declared.name.TypeName.{TypeName}
use Rattle.typed_values.specs.declared.address.Address.{Address}
use Rattle.run_record.specs.Machine.{arguments_at}
use Rattle.folder_form.specs.declared.loaded.Loaded.{Loaded}
use Rattle.folder_form.specs.Folders.{Contents, egress_in}
use Rattle.typed_values.specs.declared.record.EgressRecord.{EgressRecord}
use Rattle.egress_commit.specs.Epochs.{Epoch}
use Rattle.checkpoint_state.specs.Stored.{stored_state}
use Rattle.checkpoint_state.specs.Meaning.{given_by, state_in, with_only}
use Rattle.checkpoint_drive.specs.Good.{CommittedIsOfMachine}

-- ---- a front of what is made of a list is made of a front of it

record Made {A B : Type 0} (f : A → B) (xs : List A) (ys : List B) : Type 0 where
  front : List A
  behind : List A
  is : xs ≡ front ++ behind
  made : map f front ≡ ys

made_of : {A B : Type 0} (f : A → B) (xs : List A) (ys zs : List B) → map f xs ≡ ys ++ zs → Made f xs ys
made_of f xs [] zs e = record { front = []; behind = xs; is = refl; made = refl }
made_of f [] (y ∷ ys) zs e = absurd cc
made_of {A = A} {B = B} f (x ∷ xs) (y ∷ ys) zs e =
    let first : f x ≡ y = cc in
    let others : map f xs ≡ ys ++ zs = cc in
    let r = made_of f xs ys zs others in
    record {
      front = x ∷ r.front;
      behind = r.behind;
      is = ap (λ (l : List A). x ∷ l) r.is;
      made = ap (λ (l : List B). f x ∷ l) r.made ∙ ap (λ (b : B). b ∷ ys) first;
    }

flat_of : {A B : Type 0} (f : A → List B) (xs : List A) → flat_map f xs ≡ flat_map (λ (l : List B). l) (map f xs)
flat_of f [] = refl
flat_of f (x ∷ xs) = ap (λ (l : List _). f x ++ l) (flat_of f xs)

-- ---- what was given

gave : (loaded : Loaded) (given : List EgressRecord) (address : Address) (name : TypeName) → (stored_state loaded given).egress address name ≡ arguments_at address name given
unfolding stored_state
gave loaded given address name = refl

pub committed_is_of_machine : CommittedIsOfMachine
committed_is_of_machine m text told folder good =
    let r = made_of egress_in good.contents.checkpoints good.epochs (good.are.front).0 (good.are.front).1 in
    let contents : Contents = with_only r.front good.contents in
    record {
      front = r.front;
      is_front = (r.behind, r.is);
      last = state_in contents;
      replays = (good.good.each r.front r.behind r.is).replays;
      gave = λ address name.
          gave _ (given_by contents) address name
          ∙ ap (arguments_at address name) (flat_of egress_in r.front ∙ ap (flat_map (λ (epoch : Epoch). epoch)) r.made);
    }

-- The egress of all checkpoints is committed, but for the newest one's perhaps: so it stays.
use Rattle.std.proofs.Common.{◌≡◌, ◌⊎◌, inl, inr, ◌+◌, ◌≤◌, List, [], ◌∷◌, ◌++◌, length, map, option_map, refl, sym, ◌∙◌, ap, subst, arith, append_assoc, append-nil, length-append}
use Rattle.std.specs.Prelude.{slice_get}
use Rattle.std.specs.Option.{option_to_list}
use Rattle.std.proofs.lemmas.List.{length-map}
use Rattle.folder_form.specs.Folders.{Contents, egress_in}
use Rattle.egress_commit.specs.Epochs.{Epoch}
use Rattle.checkpoint_storage.specs.Folders.{MayCommit, with_next}
use Rattle.statefun_driver.specs.Traces.{IsFront}
use Rattle.checkpoint_drive.specs.declared.options.Options.{Options}
use Rattle.checkpoint_drive.specs.Drives.{Leg, completed_by}
use Rattle.checkpoint_drive.specs.Laws.{after_all}
use Rattle.checkpoint_drive.specs.Images.{IsCommittedUpTo, begun_run, egress_by}
use Rattle.checkpoint_drive.specs.Good.{AreCommitted, egress_of_all}
use Rattle.checkpoint_drive.proofs.Fronts.{checkpoints_behind}
use Rattle.checkpoint_drive.proofs.Growing.{map_append}

-- the next one behind a front that lacks one at most is all that it lacks
next_front : {A B : Type 0} (f : A → B) (xs : List A) (front rest : List B) → map f xs ≡ front ++ rest → length xs ≤ length front + 1
    → front ++ option_to_list (option_map f (slice_get xs (length front))) ≡ map f xs
next_front f [] [] rest e h = refl
next_front f (x ∷ []) [] rest e h = refl
next_front f (x ∷ y ∷ xs) [] rest e h = absurd (omega (arith, h))
next_front f [] (b ∷ front) rest e h = absurd cc
next_front {B = B} f (x ∷ xs) (b ∷ front) rest e h =
    let first : f x ≡ b = cc in
    let others : map f xs ≡ front ++ rest = cc in
    let rec = next_front f xs front rest others (omega (arith, h)) in
    ap (λ (l : List B). b ∷ l) rec ∙ ap (λ (y : B). y ∷ map f xs) (sym first)

pub next_is_all : (contents : Contents) (epochs : List Epoch) → AreCommitted contents epochs → with_next contents epochs ≡ egress_of_all contents
next_is_all contents epochs a = next_front egress_in contents.checkpoints epochs (a.front).0 (a.front).1 a.near

-- all but one at most
pub but_one : (contents : Contents) (committed rest : List Epoch) → egress_of_all contents ≡ committed ++ rest → length rest ≤ 1 → AreCommitted contents committed
but_one contents committed rest is few = record { front = (rest, is); near = near }
  where
    near : length contents.checkpoints ≤ length committed + 1
    near =
        let mapped = length-map contents.checkpoints egress_in in
        let same = ap (λ (l : List Epoch). length l) is in
        let both = length-append committed rest in
        omega (arith, mapped, same, both, few)

pub all_are : (contents : Contents) → AreCommitted contents (egress_of_all contents)
all_are contents = but_one contents (egress_of_all contents) [] (sym (append-nil (egress_of_all contents))) (omega arith)

-- ---- the next is committed

pub may_commit : (contents now : Contents) (epochs committed : List Epoch) → AreCommitted contents epochs → MayCommit contents epochs now committed → AreCommitted now committed
may_commit contents now epochs committed a (same, which) = subst (λ (c : Contents). AreCommitted c committed) (sym same) (by which)
  where
    by : (committed ≡ epochs) ⊎ (committed ≡ with_next contents epochs) → AreCommitted contents committed
    by (inl none) = subst (AreCommitted contents) (sym none) a
    by (inr all) = subst (AreCommitted contents) (sym (all ∙ next_is_all contents epochs a)) (all_are contents)

pub commit_keeps : (contents : Contents) (epochs committed : List Epoch) → (committed ≡ epochs) ⊎ (committed ≡ with_next contents epochs) → IsFront epochs committed
commit_keeps contents epochs committed (inl none) = ([], none ∙ sym (append-nil epochs))
commit_keeps contents epochs committed (inr all) = (_, all)

-- ---- behind legs

module _ (options : Options) (contents : Contents) (epochs : List Epoch) (a : AreCommitted contents epochs) (legs : List Leg) where
  abbrev grown : Contents
  grown = after_all (begun_run options contents) legs

  pub all_behind : egress_of_all grown ≡ with_next contents epochs ++ egress_by legs
  all_behind =
      ap (map egress_in) (checkpoints_behind (begun_run options contents) legs)
      ∙ map_append egress_in contents.checkpoints (completed_by legs)
      ∙ ap (λ (l : List Epoch). l ++ egress_by legs) (sym (next_is_all contents epochs a))

  pub still_committed : (committed : List Epoch) → IsCommittedUpTo (egress_by legs) (with_next contents epochs) committed → AreCommitted grown committed
  still_committed committed (inl all) = subst (AreCommitted grown) (all_behind ∙ sym all) (all_are grown)
  still_committed committed (inr (before, last, is, all)) =
      but_one grown committed (last ∷ [])
      (all_behind ∙ ap (λ (l : List Epoch). with_next contents epochs ++ l) is ∙ sym (append_assoc (with_next contents epochs) before (last ∷ []))
      ∙ ap (λ (l : List Epoch). l ++ last ∷ []) (sym all))
      (omega arith)

  behind_next : (more committed : List Epoch) → committed ≡ with_next contents epochs ++ more → IsFront epochs committed
  behind_next more committed is = (_, is ∙ append_assoc epochs _ more)

  pub legs_keep : (committed : List Epoch) → IsCommittedUpTo (egress_by legs) (with_next contents epochs) committed → IsFront epochs committed
  legs_keep committed (inl all) = behind_next (egress_by legs) committed all
  legs_keep committed (inr (before, last, is, all)) = behind_next before committed all

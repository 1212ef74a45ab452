-- Legs behind legs: what they complete together, and what a crash leaves while they are made.
use Rattle.std.proofs.Common.{◌≡◌, inl, inr, ℕ, false, List, [], ◌∷◌, ◌++◌, map, Some, refl, sym, ◌∙◌, ap, subst, append_assoc, append-nil}
use Rattle.std.specs.Option.{option_to_list}
use Rattle.sf_disk.specs.Moments.{Moment, Since, Becomes, newest}
use Rattle.sf_disk.proofs.Onward.{since_as, since_then, becomes_then, at_now}
use Rattle.folder_form.specs.Folders.{Checkpoint, Contents, egress_in}
use Rattle.egress_commit.specs.Epochs.{Epoch}
use Rattle.checkpoint_storage.specs.declared.storage.CheckpointStorage.{CheckpointStorage}
use Rattle.checkpoint_storage.specs.Folders.{IsStorage, Leaves, Stands, Turns}
use Rattle.statefun_driver.specs.Seen.{Seen}
use Rattle.statefun_driver.specs.Turns.{Plan}
use Rattle.checkpoint_drive.specs.declared.options.Options.{Options}
use Rattle.checkpoint_drive.specs.Drives.{Rest, Leg, AreLegs, IsLeg, behind, completed_by, is_over}
use Rattle.checkpoint_drive.specs.Laws.{after, after_all}
use Rattle.checkpoint_drive.specs.Images.{IsCommittedUpTo, Reaches, egress_by}
use Rattle.checkpoint_drive.specs.Driven.{NoneIsLast}

-- ---- lists of legs

pub map_append : {A B : Type 0} (f : A → B) (xs ys : List A) → map f (xs ++ ys) ≡ map f xs ++ map f ys
map_append f [] ys = refl
map_append f (x ∷ xs) ys = ap (λ (zs : List _). f x ∷ zs) (map_append f xs ys)

pub completed_append : (legs more : List Leg) → completed_by (legs ++ more) ≡ completed_by legs ++ completed_by more
completed_append [] more = refl
completed_append (leg ∷ legs) more =
    ap (λ (xs : List Checkpoint). option_to_list leg.taken ++ xs) (completed_append legs more)
    ∙ sym (append_assoc (option_to_list leg.taken) (completed_by legs) (completed_by more))

pub egress_append : (legs more : List Leg) → egress_by (legs ++ more) ≡ egress_by legs ++ egress_by more
egress_append legs more = ap (map egress_in) (completed_append legs more) ∙ map_append egress_in (completed_by legs) (completed_by more)

pub after_append : (contents : Contents) (legs more : List Leg) → after_all contents (legs ++ more) ≡ after_all (after_all contents legs) more
after_append contents [] more = refl
after_append contents (leg ∷ legs) more = after_append (after contents leg.taken) legs more

module _ (plan : Plan) (options : Options) where
  pub legs_then : (rest mid last : Rest) (before between end : Seen) (legs more : List Leg) → AreLegs plan options rest before legs mid between → AreLegs plan options mid between more last end → AreLegs plan options rest before (legs ++ more) last end
  legs_then rest mid last before between end [] more are others = subst (λ (r : Rest). AreLegs plan options r before more last end) (sym are.0) (subst (λ (s : Seen). AreLegs plan options mid s more last end) (sym are.1) others)
  legs_then rest mid last before between end (leg ∷ legs) more are others = (are.0, are.1, legs_then (behind plan options rest leg) mid last are.0 between end legs more are.2 others)

  pub one_leg : (rest : Rest) (before end : Seen) (leg : Leg) → IsLeg plan options rest before leg end → AreLegs plan options rest before (leg ∷ []) (behind plan options rest leg) end
  one_leg rest before end leg is = (end, is, (refl, refl))

  pub none_last_then : (rest mid : Rest) (before between : Seen) (legs : List Leg) (leg : Leg) → AreLegs plan options rest before legs mid between → NoneIsLast plan options rest legs → is_over options leg.control (behind plan options mid leg) ≡ false → NoneIsLast plan options rest (legs ++ leg ∷ [])
  none_last_then rest mid before between [] leg are none here = (subst (λ (r : Rest). is_over options leg.control (behind plan options r leg) ≡ false) (sym are.0) here, tt)
  none_last_then rest mid before between (first ∷ legs) leg are none here = (none.0, none_last_then (behind plan options rest first) mid are.0 between legs leg are.2 none.1 here)

-- ---- what a crash leaves

-- what more legs reach behind legs, all of them reach
reaches_on : (legs more : List Leg) (contents now : Contents) (epochs committed : List Epoch) → Reaches more (after_all contents legs) (epochs ++ egress_by legs) now committed → Reaches (legs ++ more) contents epochs now committed
reaches_on legs more contents now epochs committed r = record {
  front = legs ++ r.front;
  is_front = ((r.is_front).0, ap (λ (xs : List Leg). legs ++ xs) (r.is_front).1 ∙ sym (append_assoc legs r.front (r.is_front).0));
  contents_are = r.contents_are ∙ sym (after_append contents legs r.front);
  committed_are = committed_on r.committed_are;
}
  where
    committed_on : IsCommittedUpTo (egress_by r.front) (epochs ++ egress_by legs) committed → IsCommittedUpTo (egress_by (legs ++ r.front)) epochs committed
    committed_on (inl all) = inl (all ∙ append_assoc epochs (egress_by legs) (egress_by r.front) ∙ ap (λ (xs : List Epoch). epochs ++ xs) (sym (egress_append legs r.front)))
    committed_on (inr (before, last, is, all)) = inr (
      egress_by legs ++ before,
      last,
      egress_append legs r.front ∙ ap (λ (xs : List Epoch). egress_by legs ++ xs) is ∙ sym (append_assoc (egress_by legs) before (last ∷ [])),
      all ∙ append_assoc epochs (egress_by legs) before,
    )

-- what legs reach, more legs reach
pub reaches_less : (legs more : List Leg) (contents now : Contents) (epochs committed : List Epoch) → Reaches legs contents epochs now committed → Reaches (legs ++ more) contents epochs now committed
reaches_less legs more contents now epochs committed r = record {
  front = r.front;
  is_front = ((r.is_front).0 ++ more, ap (λ (xs : List Leg). xs ++ more) (r.is_front).1 ∙ append_assoc r.front (r.is_front).0 more);
  contents_are = r.contents_are;
  committed_are = r.committed_are;
}

-- nothing is reached at first
pub reaches_none : (legs : List Leg) (contents : Contents) (epochs : List Epoch) → Reaches legs contents epochs contents epochs
reaches_none legs contents epochs = record { front = []; is_front = (legs, refl); contents_are = refl; committed_are = inl (sym (append-nil epochs)) }

module _ (first middle : CheckpointStorage) (text : middle.store.text ≡ first.store.text) (old mid : List Moment) (legs : List Leg)
    (meanwhile : Since old mid (Leaves first (Reaches legs)))
    (became : Becomes old mid (Turns first middle (λ contents epochs. after_all contents legs) (λ contents epochs. epochs ++ egress_by legs))) where
  leaves_on : (more : List Leg) (m k n : Moment) → newest old ≡ Some m → newest mid ≡ Some k → Leaves middle (Reaches more) k n → Leaves first (Reaches (legs ++ more)) m n
  leaves_on more m k n at_first at_mid leaves contents epochs is folder image =
      let r = leaves (after_all contents legs) (epochs ++ egress_by legs) (at_now old mid _ became m k at_first at_mid contents epochs is) folder image in
      (r.0, r.1, reaches_on legs more contents r.0 epochs r.1 r.2, subst (λ (t : List ℕ). Stands t folder r.0 r.1) text r.3)

  leaves_less : (more : List Leg) (m n : Moment) → Leaves first (Reaches legs) m n → Leaves first (Reaches (legs ++ more)) m n
  leaves_less more m n leaves contents epochs is folder image =
      let r = leaves contents epochs is folder image in
      (r.0, r.1, reaches_less legs more contents r.0 epochs r.1 r.2, r.3)

  pub since_more : (new : List Moment) (more : List Leg) → Since mid new (Leaves middle (Reaches more)) → Since old new (Leaves first (Reaches (legs ++ more)))
  since_more new more later =
      since_then old mid new (Leaves first (Reaches (legs ++ more))) (Leaves middle (Reaches more))
      (since_as old mid (Leaves first (Reaches legs)) (Leaves first (Reaches (legs ++ more))) meanwhile (λ m n at leaves. leaves_less more m n leaves))
      later (leaves_on more)

  -- and what the storage stands for behind one more
  turns_on : (last : CheckpointStorage) (leg : Leg) (m k n : Moment) → Turns first middle (λ contents epochs. after_all contents legs) (λ contents epochs. epochs ++ egress_by legs) m k
      → Turns middle last (λ contents epochs. after contents leg.taken) (λ contents epochs. epochs ++ egress_by (leg ∷ [])) k n
      → Turns first last (λ contents epochs. after_all contents (legs ++ leg ∷ [])) (λ contents epochs. epochs ++ egress_by (legs ++ leg ∷ [])) m n
  turns_on last leg m k n one two contents epochs is =
      subst (λ (c : Contents). IsStorage last c (epochs ++ egress_by (legs ++ leg ∷ [])) n) (sym (after_append contents legs (leg ∷ [])))
      (subst (λ (e : List Epoch). IsStorage last (after (after_all contents legs) leg.taken) e n)
      (append_assoc epochs (egress_by legs) (egress_by (leg ∷ [])) ∙ ap (λ (xs : List Epoch). epochs ++ xs) (sym (egress_append legs (leg ∷ []))))
      (two (after_all contents legs) (epochs ++ egress_by legs) (one contents epochs is)))

  pub becomes_more : (new : List Moment) (last : CheckpointStorage) (leg : Leg)
      → Becomes mid new (Turns middle last (λ contents epochs. after contents leg.taken) (λ contents epochs. epochs ++ egress_by (leg ∷ [])))
      → Becomes old new (Turns first last (λ contents epochs. after_all contents (legs ++ leg ∷ [])) (λ contents epochs. epochs ++ egress_by (legs ++ leg ∷ [])))
  becomes_more new last leg later =
      becomes_then old mid new _ _ _ became later (λ m k n at one two. turns_on last leg m k n one two)

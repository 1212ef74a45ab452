-- What recorded steps gave, step by step, and how they are parted.
use Rattle.std.proofs.Common.{◌≡◌, ◌∙◌, sym, ap, List, [], ◌∷◌, ◌++◌, Bool, true, false, cond, filter, append_assoc, append-nil}
use Rattle.typed_values.specs.declared.record.EgressRecord.{EgressRecord}
use Rattle.run_record.specs.declared.entry.Entry.{Entry}
use Rattle.run_record.specs.Egress.{egress_of}
use Rattle.statefun_driver.specs.Parted.{given_by}

pub egress_push : (entries : List Entry) (entry : Entry) → egress_of (entries ++ entry ∷ []) ≡ egress_of entries ++ given_by entry.step
unfolding egress_of
egress_push [] entry = append-nil (given_by entry.step)
egress_push (other ∷ entries) entry = ap (λ (xs : List EgressRecord). given_by other.step ++ xs) (egress_push entries entry) ∙ sym (append_assoc (given_by other.step) (egress_of entries) (given_by entry.step))

-- one that gives nothing
pub egress_same : (entries : List Entry) (entry : Entry) → given_by entry.step ≡ [] → egress_of (entries ++ entry ∷ []) ≡ egress_of entries
egress_same entries entry none = egress_push entries entry ∙ ap (λ (xs : List EgressRecord). egress_of entries ++ xs) none ∙ append-nil (egress_of entries)

-- ---- parted

-- the next step is one of them, or it is not
pub part_yes : (test : Entry → Bool) (entry : Entry) (front rest whole : List Entry) → test entry ≡ true → front ++ filter test (entry ∷ rest) ≡ whole → (front ++ entry ∷ []) ++ filter test rest ≡ whole
part_yes test entry front rest whole e h =
    append_assoc front (entry ∷ []) (filter test rest) ∙ ap (λ (b : Bool). front ++ cond b (entry ∷ filter test rest) (filter test rest)) (sym e) ∙ h

pub part_no : (test : Entry → Bool) (entry : Entry) (front rest whole : List Entry) → test entry ≡ false → front ++ filter test (entry ∷ rest) ≡ whole → front ++ filter test rest ≡ whole
part_no test entry front rest whole e h = ap (λ (b : Bool). front ++ cond b (entry ∷ filter test rest) (filter test rest)) (sym e) ∙ h

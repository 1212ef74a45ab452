-- The part of one address is changed.
use Rattle.std.proofs.Common.{◌≡◌, ◌∙◌, sym, ap, subst, refl, Bool, true, false, true≢false, cond, Option, Some, None}
use Rattle.std.specs.Prelude.{IsSome}
use Rattle.std.specs.Option.{option_map_or}
use Rattle.std.specs.BTreeMap.{get, is_at}
use Rattle.std.proofs.lemmas.Bool.{false_from_ne_true}
use Rattle.typed_values.specs.declared.address.Address.{Address}
use Rattle.typed_values.specs.Sameness.{same_address}
use Rattle.typed_values.proofs.Sameness.{same_address-Decides}
use Rattle.keyed_queues.specs.Keys.{address_order}
use Rattle.keyed_queues.specs.Queues.{SetsAt}
use Rattle.run_record.specs.declared.part.Part.{Part}
use Rattle.run_record.specs.declared.parts.Parts.{Parts}
use Rattle.run_record.specs.Machine.{Own, nothing}
use Rattle.run_record.specs.StateOf.{own_of, own_in, HasPart}
use Rattle.run_record.proofs.Kept.{address_test}

abbrev own_at : Option Part → Own
own_at o = option_map_or own_of o nothing

module _ (before after : Parts) (a : Address) (now : Part) (writes : (b : Address) → get address_order after.parts b ≡ cond (is_at (address_order a) b) (Some now) (get address_order before.parts b)) where
  here : own_in after a ≡ own_of now
  here = ap own_at (writes a ∙ ap (λ t. cond t (Some now) (get address_order before.parts a)) (address_test a a ∙ (same_address-Decides a a).1 refl))

  beside : (b : Address) → (b ≡ a → ⊥) → own_in after b ≡ own_in before b
  beside b apart = ap own_at (writes b ∙ ap (λ t. cond t (Some now) (get address_order before.parts b)) (address_test a b ∙ false_from_ne_true (same_address a b) (λ e. apart (sym ((same_address-Decides a b).0 e)))))

  -- a part that is there
  pub part_set : (part : Part) → get address_order before.parts a ≡ Some part → (change : Own → Own) → own_of now ≡ change (own_of part) → SetsAt (own_in before) (own_in after) a (change (own_in before a))
  part_set part there change is = record { here = here ∙ is ∙ ap change (sym (ap own_at there)); others = beside }

  -- a new one
  pub part_added : get address_order before.parts a ≡ None → (change : Own → Own) → own_of now ≡ change nothing → SetsAt (own_in before) (own_in after) a (change (own_in before a))
  part_added none change is = record { here = here ∙ is ∙ ap change (sym (ap own_at none)); others = beside }

-- nothing but the same is set
pub sets_same : (before after : Parts) (a : Address) → SetsAt (own_in before) (own_in after) a (own_in before a) → (b : Address) → own_in after b ≡ own_in before b
sets_same before after a sets b = by (same_address a b) refl
  where
    by : (t : Bool) → same_address a b ≡ t → own_in after b ≡ own_in before b
    by true e = ap (own_in after) (sym ((same_address-Decides a b).0 e)) ∙ sets.here ∙ ap (own_in before) ((same_address-Decides a b).0 e)
    by false e = sets.others b (λ same. true≢false (sym ((same_address-Decides a b).1 (sym same)) ∙ e))

pub there_is : (P : Part → Type 0) (o : Option Part) → HasPart P o → IsSome o
there_is P None has = absurd has
there_is P (Some part) has = refl

-- the part of an address that has nothing is taken out
pub part_gone : (before after : Parts) (a : Address) → ((b : Address) → get address_order after.parts b ≡ cond (is_at (address_order a) b) None (get address_order before.parts b)) → own_in before a ≡ nothing → (b : Address) → own_in after b ≡ own_in before b
part_gone before after a writes none b = ap own_at (writes b) ∙ by (is_at (address_order a) b) refl
  where
    by : (t : Bool) → is_at (address_order a) b ≡ t → own_at (cond t None (get address_order before.parts b)) ≡ own_at (get address_order before.parts b)
    by true e = sym (subst (λ x. own_in before x ≡ nothing) ((same_address-Decides a b).0 (sym (address_test a b) ∙ e)) none)
    by false e = refl

-- What one address has is changed.
use mathlib.Core.Path.{fun_ext}
use Rattle.std.proofs.Common.{◌≡◌, ◌∙◌, sym, ap, refl, Bool, true, false, cond, Option, Some, None}
use Rattle.std.specs.BTreeMap.{get, is_at}
use Rattle.typed_values.specs.declared.address.Address.{Address}
use Rattle.typed_values.specs.declared.letter.Sender.TheVariants.{Function}
use Rattle.typed_values.specs.Sameness.{same_address}
use Rattle.typed_values.proofs.Sameness.{same_address-Decides}
use Rattle.keyed_queues.specs.Keys.{address_order}
use Rattle.run_record.proofs.Kept.{address_test}
use Rattle.partition_core.specs.declared.actor.Actor.{Actor}
use Rattle.partition_core.specs.declared.actors.Actors.{Actors}
use Rattle.partition_core.specs.Work.{set_for}

module _ {V : Type 0} (read : Option Actor → V) (before after : Actors) (a : Address) (now : Actor) (writes : (b : Address) → get address_order after.actors b ≡ cond (is_at (address_order a) b) (Some now) (get address_order before.actors b)) where
  abbrev of_before : Address → V
  of_before b = read (get address_order before.actors b)

  abbrev of_after : Address → V
  of_after b = read (get address_order after.actors b)

  written : (b : Address) → of_after b ≡ read (cond (same_address a b) (Some now) (get address_order before.actors b))
  written b = ap read (writes b) ∙ ap (λ t. read (cond t (Some now) (get address_order before.actors b))) (address_test a b)

  outside : (t : Bool) (b : Address) → read (cond t (Some now) (get address_order before.actors b)) ≡ cond t (read (Some now)) (of_before b)
  outside true b = refl
  outside false b = refl

  -- an actor that is there
  pub actor_set : (was : Actor) → get address_order before.actors a ≡ Some was → (change : V → V) → read (Some now) ≡ change (read (Some was)) → of_after ≡ set_for (Function a) (change (of_before a)) of_before
  actor_set was there change is =
      fun_ext (λ b. written b ∙ outside (same_address a b) b ∙ ap (λ v. cond (same_address a b) v (of_before b)) (is ∙ ap change (sym (ap read there))))

  -- a new one, of which nothing is read
  pub actor_added : get address_order before.actors a ≡ None → read (Some now) ≡ read None → of_after ≡ of_before
  actor_added none is = fun_ext (λ b. written b ∙ by b (same_address a b) refl)
    where
      by : (b : Address) (t : Bool) → same_address a b ≡ t → read (cond t (Some now) (get address_order before.actors b)) ≡ of_before b
      by b true e = is ∙ sym (ap read none) ∙ ap of_before ((same_address-Decides a b).0 e)
      by b false e = refl

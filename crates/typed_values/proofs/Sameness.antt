-- The tests of sameness decide equality.
use Rattle.std.specs.Prelude.{◌≡◌, ℕ, nat_eq, List, Bool, false, ◌&&◌}
use Rattle.std.specs.Bool.{Decides}
use Rattle.std.specs.Cmp.Lexicographic.{pointwise, bytes_decides}
use Rattle.std.specs.Cmp.{first_so, second_so, unsigned_Decides}
use Rattle.std.proofs.Common.{ap}
use Rattle.typed_values.specs.declared.name.TypeName.{TypeName}
use Rattle.typed_values.specs.declared.address.Address.{Address}
use Rattle.typed_values.specs.declared.letter.Sender.{Sender}
use Rattle.typed_values.specs.declared.letter.Sender.TheVariants.{Split, Function}
use Rattle.typed_values.specs.Sameness.{same_name, same_address, same_sender}

pub same_name-Decides : (a b : TypeName) → Decides (same_name a b) (a ≡ b)
unfolding same_name
same_name-Decides a b = (
  λ e. let h = (bytes_decides a.namespace b.namespace).0 (first_so (pointwise nat_eq a.namespace b.namespace) _ e) in
      let k = (bytes_decides a.name b.name).0 (second_so (pointwise nat_eq a.namespace b.namespace) _ e) in
      (λ i. record { namespace = h i; name = k i }),
  λ e i. (bytes_decides a.namespace b.namespace).1 (ap (λ (n : TypeName). n.namespace) e) i && (bytes_decides a.name b.name).1 (ap (λ (n : TypeName). n.name) e) i,
)

pub same_address-Decides : (a b : Address) → Decides (same_address a b) (a ≡ b)
unfolding same_address same_name
same_address-Decides a b = (
  λ e. let h = (same_name-Decides a.kind b.kind).0 (first_so (same_name a.kind b.kind) _ e) in
      let k = (bytes_decides a.id b.id).0 (second_so (same_name a.kind b.kind) _ e) in
      (λ i. record { kind = h i; id = k i }),
  λ e i. (same_name-Decides a.kind b.kind).1 (ap (λ (n : Address). n.kind) e) i && (bytes_decides a.id b.id).1 (ap (λ (n : Address). n.id) e) i,
)

pub same_sender-Decides : (a b : Sender) → Decides (same_sender a b) (a ≡ b)
unfolding same_sender same_address same_name
same_sender-Decides (Split s) (Split t) = (λ e. ap Split ((unsigned_Decides s t).0 e), λ e. (unsigned_Decides s t).1 cc)
same_sender-Decides (Function a) (Function b) = (λ e. ap Function ((same_address-Decides a b).0 e), λ e. (same_address-Decides a b).1 cc)
same_sender-Decides (Split s) (Function b) = (λ e. absurd cc, λ e. absurd cc)
same_sender-Decides (Function a) (Split t) = (λ e. absurd cc, λ e. absurd cc)

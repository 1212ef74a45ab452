-- The order of addresses tests sameness.
use Rattle.std.proofs.Common.{◌≡◌, subst, true}
use Rattle.std.specs.declared.cmp.Ordering.{Ordering}
use Rattle.std.specs.Ordering.{is_eq, nat_cmp}
use Rattle.std.specs.Cmp.{IsTotalOrder, eq_by_cmp_equiv}
use Rattle.std.specs.Cmp.Lexicographic.{slice_cmp}
use Rattle.std.proofs.lemmas.Cmp.{then_total, on_total, nat_list_cmp_total}
use Rattle.std.proofs.lemmas.Map.Lookups.{CmpEqualImpliesEq, exact_bytes, exact_pairs}
use Rattle.std.proofs.lemmas.Map.Views.{tells_apart}
use Rattle.std.proofs.lemmas.Bool.Decides.{same_from_decides}
use Rattle.typed_values.specs.declared.name.TypeName.{TypeName}
use Rattle.typed_values.specs.declared.address.Address.{Address}
use Rattle.typed_values.specs.contracts.name.TypeNameOrd.TheImpl as name_ord
use Rattle.typed_values.specs.Sameness.{same_address}
use Rattle.typed_values.proofs.Sameness.{same_address-Decides}
use Rattle.batch_queue.specs.Kept.{address_order}

abbrev name_order : TypeName → TypeName → Ordering
name_order = (name_ord.ghosts).cmp

exact_names : CmpEqualImpliesEq name_order
exact_names x y h =
    let p = exact_pairs (slice_cmp nat_cmp) (slice_cmp nat_cmp) exact_bytes exact_bytes (x.namespace, x.name) (y.namespace, y.name) h in
    (λ i. record { namespace = (p i).0; name = (p i).1 })

pub exact_addresses : CmpEqualImpliesEq address_order
exact_addresses x y h =
    let p = exact_pairs name_order (slice_cmp nat_cmp) exact_names exact_bytes (x.kind, x.id) (y.kind, y.id) h in
    (λ i. record { kind = (p i).0; id = (p i).1 })

names_total : IsTotalOrder name_order
names_total = then_total (on_total (λ (n : TypeName). n.namespace) nat_list_cmp_total) (on_total (λ (n : TypeName). n.name) nat_list_cmp_total)

pub addresses_total : IsTotalOrder address_order
addresses_total = then_total (on_total (λ (a : Address). a.kind) names_total) (on_total (λ (a : Address). a.id) nat_list_cmp_total)

pub address_test : (x y : Address) → is_eq (address_order x y) ≡ same_address x y
address_test x y = same_from_decides (is_eq (address_order x y)) (same_address x y) (tells_apart exact_addresses x y, λ e. subst (λ z. is_eq (address_order x z) ≡ true) e ((eq_by_cmp_equiv addresses_total).refl x)) (same_address-Decides x y)

pub same_itself : (x : Address) → same_address x x ≡ true
same_itself x = (same_address-Decides x x).1 (λ i. x)

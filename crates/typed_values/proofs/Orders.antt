-- What compares alike in the orders of names, addresses and senders is one.
use Rattle.std.specs.Ordering.{nat_cmp}
use Rattle.std.specs.Cmp.Lexicographic.{slice_cmp}
use Rattle.std.proofs.Common.{ap}
use Rattle.std.proofs.lemmas.Map.Lookups.{CmpEqualImpliesEq, exact_bytes, exact_pairs, exact_unsigned}
use Rattle.typed_values.specs.declared.name.TypeName.{TypeName}
use Rattle.typed_values.specs.declared.address.Address.{Address}
use Rattle.typed_values.specs.declared.letter.Sender.{Sender}
use Rattle.typed_values.specs.declared.letter.Sender.TheVariants.{Split, Function}
use Rattle.typed_values.specs.contracts.name.TypeNameOrd.TheImpl as name_ord
use Rattle.typed_values.specs.contracts.address.AddressOrd.TheImpl as address_ord
use Rattle.typed_values.specs.contracts.letter.SenderOrd.TheImpl as sender_ord

pub exact_names : CmpEqualImpliesEq (name_ord.ghosts).cmp
exact_names x y h =
    let p = exact_pairs (slice_cmp nat_cmp) (slice_cmp nat_cmp) exact_bytes exact_bytes (x.namespace, x.name) (y.namespace, y.name) h in
    (λ i. record { namespace = (p i).0; name = (p i).1 })

pub exact_addresses : CmpEqualImpliesEq (address_ord.ghosts).cmp
exact_addresses x y h =
    let p = exact_pairs (name_ord.ghosts).cmp (slice_cmp nat_cmp) exact_names exact_bytes (x.kind, x.id) (y.kind, y.id) h in
    (λ i. record { kind = (p i).0; id = (p i).1 })

pub exact_senders : CmpEqualImpliesEq (sender_ord.ghosts).cmp
exact_senders (Split s) (Split t) h = ap Split (exact_unsigned s t h)
exact_senders (Function a) (Function b) h = ap Function (exact_addresses a b h)
exact_senders (Split s) (Function b) h = absurd cc
exact_senders (Function a) (Split t) h = absurd cc

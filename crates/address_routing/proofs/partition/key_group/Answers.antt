use Rattle.std.proofs.Common.{◌≡◌, ◌∙◌, ap, ◌%◌}
use Rattle.proto_wire.specs.Message.{spelled_bytes}
use Rattle.address_routing.specs.Partitions.{fnv_1a, key_group}
use Rattle.address_routing.proofs.Hashes.{whole}
use Rattle.address_routing.proofs.partition.key_group.Goals as goal

pub returns-clause-value : goal.returns-clause-value
unfolding key_group
returns-clause-value c =
    let a = c.args.address.now in
    let hash : c.with_text-hash-3.result ≡ fnv_1a (fnv_1a (fnv_1a 14695981039346656037 (spelled_bytes 1 a.kind.namespace)) (spelled_bytes 2 a.kind.name)) (spelled_bytes 3 a.id) =
    c.with_text-hash-3.ensures ∙ ap (λ h. fnv_1a h (spelled_bytes 3 a.id)) (c.with_text-hash-2.ensures ∙ ap (λ h. fnv_1a h (spelled_bytes 2 a.kind.name)) c.with_text-hash.ensures) in
    (λ i. hash i % c.from.ensures i) ∙ ap (λ h. h % 128) (whole 14695981039346656037 a)

use Rattle.std.proofs.Common.{◌∙◌, ap, sym, true≢false, length}
use Rattle.proto_wire.specs.Varint.{varint}
use Rattle.address_routing.specs.Partitions.{fnv_1a}
use Rattle.address_routing.proofs.Hashes.{field}
use Rattle.address_routing.proofs.partition.with_text.Goals as goal

pub returns : goal.returns
returns c =
    let text = c.args.text.now in
    let length_is = ap (λ n. fnv_1a c.with_varint-hash.result (varint n)) c.len.ensures in
    c.with_bytes.ensures ∙ ap (λ bytes. fnv_1a c.with_varint-hash-2.result bytes) c.as_bytes.ensures.value
    ∙ ap (λ h. fnv_1a h text) (c.with_varint-hash-2.ensures ∙ length_is ∙ ap (λ h. fnv_1a h (varint (length text))) c.with_varint-hash.ensures)
    ∙ field c.args.hash c.args.field text (λ e. true≢false (sym (c.is_empty.ensures.1 e) ∙ c.if-is_empty.false))

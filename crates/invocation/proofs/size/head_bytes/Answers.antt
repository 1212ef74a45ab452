use Rattle.std.proofs.Common.{ℕ, ◌+◌, ◌-◌, ◌^◌, min, ◌∙◌, ap, sym}
use Rattle.proto_wire.specs.Message.{capped}
use Rattle.invocation.proofs.Sizing.{head-none, size-more}
use Rattle.invocation.proofs.size.head_bytes.Goals as goal

pub loop-place-init : goal.loop-place-init
loop-place-init c = c.member_size-size.ensures ∙ ap capped (sym (head-none c.args.address.now c.args.moment))

pub loop-place-preserved : goal.loop-place-preserved
loop-place-preserved c =
    c.saturating_add-size.ensures ∙ ap (λ (n : ℕ). min (c.loop-place.size + n) (2 ^ 64 - 1)) c.cell_size.ensures
    ∙ size-more c.args.address.now c.args.cells.now c.args.moment c.loop-place.place c.at.result.now c.loop-place.size c.at.ensures c.loop-place.invariant

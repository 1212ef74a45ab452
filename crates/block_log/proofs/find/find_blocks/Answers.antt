use Rattle.std.proofs.Common.{◌∙◌, ◌+◌, ◌-◌, sym, ap, arith, refl, subst, drop}
use Rattle.sf_disk.specs.Moments.{newest}
use Rattle.block_log.specs.Finding.{Begins, FitsInto}
use Rattle.block_log.specs.declared.gate.Gate.{Gate}
use Rattle.block_log.proofs.Walk.{Walked, ends_here, refused, passes}
use Rattle.block_log.proofs.find.find_blocks.Goals as goal

pub returns-in-Closed-clause-ends : goal.returns-in-Closed-clause-ends
returns-in-Closed-clause-ends g c = λ m told.
    let inv = c.loop-blocks.invariant in
    let begins = subst (λ (gate : Gate). Begins gate (drop c.loop-blocks.at (m c.args.file).seen)) c.in-Closed.is (c.in_ok-gate_at.ensures.begins m (ap newest inv.same ∙ told)) in
    ends_here (m c.args.file).seen c.loop-blocks.at c.loop-blocks.blocks (inv.walked m told) begins c.at.result c.at.ensures.end c.at.ensures.blocks

pub returns-in-Cut-clause-refuses : goal.returns-in-Cut-clause-refuses
returns-in-Cut-clause-refuses g c = λ m told.
    let inv = c.loop-blocks.invariant in
    let begins = subst (λ (gate : Gate). Begins gate (drop c.loop-blocks.at (m c.args.file).seen)) c.in-Cut.is (c.in_ok-gate_at.ensures.begins m (ap newest inv.same ∙ told)) in
    refused (m c.args.file).seen c.loop-blocks.at c.loop-blocks.blocks (inv.walked m told) begins (omega (arith, c.requires.length m told, c.requires.long))

pub loop-blocks-preserved : goal.loop-blocks-preserved
loop-blocks-preserved g c =
    let inv = c.loop-blocks.invariant in
    record {
      within = let fits = subst (FitsInto (c.args.len - c.loop-blocks.at)) c.in-Block.is c.in_ok-gate_at.ensures.fits in omega (arith, fits, inv.within);
      same = c.gate_at.ensures.same ∙ inv.same;
      faults = c.in_ok-gate_at.ensures.cause ∙ inv.faults;
      walked = λ m told.
          let begins = subst (λ (gate : Gate). Begins gate (drop c.loop-blocks.at (m c.args.file).seen)) c.in-Block.is (c.in_ok-gate_at.ensures.begins m (ap newest inv.same ∙ told)) in
          subst (Walked (m c.args.file).seen (c.loop-blocks.at + (9 + c.in-Block.body))) (sym c.in_ok-push-in-Block.ensures.ok) (passes (m c.args.file).seen c.loop-blocks.at c.loop-blocks.blocks (inv.walked m told) c.in-Block.body (c.loop-blocks.at + (9 + c.in-Block.body)) begins refl);
    }

use Rattle.std.proofs.Common.{◌+◌, subst, Option}
use Rattle.module_yaml.specs.Files.{Refused, IsToldOf, unserved}
use Rattle.module_yaml.proofs.Onward.{target-here}
use Rattle.module_yaml.proofs.documents.check_targets.Goals as goal

pub returns-in-Err-clause-refused : goal.returns-in-Err-clause-refused
returns-in-Err-clause-refused c =
    let node = c.node-item.result in
    let job = c.args.job.now in
    subst (λ (o : Option Refused). IsToldOf o c.in_document.result) c.loop-node.invariant.refused
    (target-here (c.loop-node.number + 1) job c.args.nodes.now c.loop-node.node-index node c.in_document.result c.loop-node-test.true c.node-item.is
    (c.in_document.ensures (unserved job node) c.in-Err.ensures.refused))

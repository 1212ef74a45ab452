use Rattle.std.proofs.Common.{◌+◌, subst, Option}
use Rattle.module_yaml.specs.Files.{Refused, IsToldOf, document_refusal}
use Rattle.module_yaml.proofs.Onward.{refusal-here}
use Rattle.module_yaml.proofs.documents.all_documents.Goals as goal

pub returns-in-Err-clause-refused : goal.returns-in-Err-clause-refused
returns-in-Err-clause-refused c =
    let node = c.node-item.result in
    let job = c.loop-node.job in
    subst (λ (o : Option Refused). IsToldOf o c.in_document.result) c.loop-node.invariant.refused
    (refusal-here (c.loop-node.number + 1) job c.args.nodes.now c.loop-node.node-index node c.in_document.result c.loop-node-test.true c.node-item.is
    (c.in_document.ensures (document_refusal job node) c.in-Err.ensures.refused))

use Rattle.std.proofs.Common.{◌≡◌, ◌∙◌, ap, sym, subst, None, OnOk, IfErr}
use Rattle.yaml_block.specs.declared.node.Node.{Node}
use Rattle.module_yaml.specs.Mappings.{value, wrong_keys}
use Rattle.module_yaml.specs.Keys.{keys_of, spec, spec_keys}
use Rattle.module_yaml.specs.Told.{IsTold}
use Rattle.module_yaml.proofs.Reading.{spec_under}
use Rattle.module_yaml.proofs.documents.check_spec.Goals as goal

pub returns-clause-ok : goal.returns-clause-ok
unfolding keys_of
returns-clause-ok c =
    let e = spec_under c.pairs_under.result.now c.in-Some.pair.now c.in-Some.ensures in
    let f = ap (value spec) c.pairs_under.ensures in
    subst (λ (n : Node). OnOk c.check_keys.result (wrong_keys (spec_keys c.args.kind) n ≡ None)) (sym e ∙ f) c.check_keys.ensures.ok

pub returns-clause-refused : goal.returns-clause-refused
unfolding keys_of
returns-clause-refused c =
    let e = spec_under c.pairs_under.result.now c.in-Some.pair.now c.in-Some.ensures in
    let f = ap (value spec) c.pairs_under.ensures in
    subst (λ (n : Node). IfErr c.check_keys.result (IsTold (wrong_keys (spec_keys c.args.kind) n))) (sym e ∙ f) c.check_keys.ensures.refused

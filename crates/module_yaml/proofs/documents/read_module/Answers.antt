use Rattle.std.proofs.Common.{◌∙◌, ap, sym, Ok}
use Rattle.yaml_block.specs.Documents as texts
use Rattle.module_yaml.specs.Files.{module_in}
use Rattle.module_yaml.proofs.Counting.{few_trees}
use Rattle.module_yaml.proofs.Whole.{file_module, file_refused}
use Rattle.module_yaml.proofs.Routable.{routable_if_ok}
use Rattle.module_yaml.proofs.Bounded.{bounded_if_ok}
use Rattle.module_yaml.proofs.documents.read_module.Goals as goal

pub module_of-requires : goal.module_of-requires
module_of-requires c = few_trees c.args.bytes.now c.as_slice.result.now (c.in-Ok.ensures.trees ∙ ap Ok (sym c.as_slice.ensures))

pub returns-in-Ok-clause-ok : goal.returns-in-Ok-clause-ok
returns-in-Ok-clause-ok c = file_module c.args.bytes.now c.as_slice.result.now c.module_of.result (c.in-Ok.ensures.trees ∙ ap Ok (sym c.as_slice.ensures)) c.module_of.ensures.ok c.module_of.ensures.made

pub returns-in-Ok-clause-refused : goal.returns-in-Ok-clause-refused
returns-in-Ok-clause-refused c = file_refused c.args.bytes.now c.as_slice.result.now c.module_of.result (c.in-Ok.ensures.trees ∙ ap Ok (sym c.as_slice.ensures)) c.module_of.ensures.refused

pub returns-in-Ok-clause-routable : goal.returns-in-Ok-clause-routable
returns-in-Ok-clause-routable c =
    routable_if_ok c.args.bytes.now c.module_of.result
    (file_module c.args.bytes.now c.as_slice.result.now c.module_of.result (c.in-Ok.ensures.trees ∙ ap Ok (sym c.as_slice.ensures)) c.module_of.ensures.ok c.module_of.ensures.made)

pub returns-in-Ok-clause-bounded : goal.returns-in-Ok-clause-bounded
returns-in-Ok-clause-bounded c =
    bounded_if_ok c.args.bytes.now c.module_of.result
    (file_module c.args.bytes.now c.as_slice.result.now c.module_of.result (c.in-Ok.ensures.trees ∙ ap Ok (sym c.as_slice.ensures)) c.module_of.ensures.ok c.module_of.ensures.made)

pub returns-in-Err-clause-refused : goal.returns-in-Err-clause-refused
unfolding module_in
returns-in-Err-clause-refused c = c.in_file.ensures (texts.read c.args.bytes.now) c.in-Err.ensures.refused

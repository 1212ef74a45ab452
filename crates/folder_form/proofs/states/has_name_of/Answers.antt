use Rattle.std.proofs.Common.{rules, tests}
use Rattle.std.proofs.lemmas.Iterator.{YieldsList-from_slice}
use Rattle.std.proofs.lemmas.Iterator.Search.{any_from_yields_List}
use Rattle.typed_values.specs.Sameness.{same_bytes}
use Rattle.folder_form.specs.Pieces.{cell_name}
use Rattle.folder_form.proofs.states.has_name_of.Goals as goal

pub returns : goal.returns
returns c = any_from_yields_List (λ other. same_bytes (cell_name c.args.cell.now) (cell_name other)) _ _ _ c.any.ensures.ran (YieldsList-from_slice c.args.others.now cc) (λ x b q k. search (rules, tests))

use Rattle.std.proofs.Common.{rules, tests}
use Rattle.std.proofs.lemmas.Iterator.{YieldsList-from_slice}
use Rattle.std.proofs.lemmas.Iterator.Search.{all_from_yields_List}
use Rattle.folder_form.specs.Pieces.{is_cell}
use Rattle.folder_form.proofs.states.are_all_cells.Goals as goal

pub returns : goal.returns
returns c = all_from_yields_List is_cell _ _ _ c.all.ensures.ran (YieldsList-from_slice c.args.cells.now cc) (λ x b q k. search (rules, tests))

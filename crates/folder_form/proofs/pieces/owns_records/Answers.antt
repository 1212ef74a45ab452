use Rattle.std.proofs.Common.{rules, tests}
use Rattle.std.proofs.lemmas.Iterator.{YieldsList-from_slice}
use Rattle.std.proofs.lemmas.Iterator.Search.{all_from_yields_List}
use Rattle.folder_form.specs.Pieces.{owns_record}
use Rattle.folder_form.proofs.pieces.owns_records.Goals as goal

pub returns : goal.returns
returns c = all_from_yields_List (owns_record c.args.home) _ _ _ c.all.ensures.ran (YieldsList-from_slice c.args.egress.now cc) (λ x b q k. search (rules, tests))

use Rattle.std.proofs.Common.{rules, tests}
use Rattle.std.proofs.lemmas.Iterator.{YieldsList-from_slice}
use Rattle.std.proofs.lemmas.Iterator.Search.{all_from_yields_List}
use Rattle.folder_form.specs.Pieces.{owns_state}
use Rattle.folder_form.proofs.pieces.owns_states.Goals as goal

pub returns : goal.returns
returns c = all_from_yields_List (owns_state c.args.home) _ _ _ c.all.ensures.ran (YieldsList-from_slice c.args.states.now cc) (λ x b q k. search (rules, tests))

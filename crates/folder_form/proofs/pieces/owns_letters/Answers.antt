use Rattle.std.proofs.Common.{rules, tests}
use Rattle.std.proofs.lemmas.Iterator.{YieldsList-from_slice}
use Rattle.std.proofs.lemmas.Iterator.Search.{all_from_yields_List}
use Rattle.folder_form.specs.Pieces.{owns_letter, owns_letters}
use Rattle.folder_form.proofs.pieces.owns_letters.Goals as goal

pub returns : goal.returns
unfolding owns_letters
returns c = all_from_yields_List (owns_letter c.args.home) _ _ _ c.all.ensures.ran (YieldsList-from_slice c.args.letters.now cc) (λ x b q k. search (rules, tests))

use Rattle.std.proofs.Common.{◌≡◌, None, ◌++◌, [], ◌∷◌, ◌∙◌, ap}
use Rattle.indexmap.specs.IndexMap.{get}
use Rattle.typed_values.specs.Cells.{empty}
use Rattle.typed_values.specs.Sameness.{same_bytes}
use Rattle.indexmap.proofs.CallerLemmas.{insert_entry-new}
use Rattle.state_cells.proofs.kept.add.Goals as goal

pub returns-clause-ok : goal.returns-clause-ok
returns-clause-ok c =
    let same = c.in_ok-name.ensures in
    let absent : get same_bytes c.args.cells.now c.in_ok-name.name ≡ None = rw same c.requires in
    c.in_ok-insert.ensures.entries ∙ insert_entry-new same_bytes c.args.cells.now c.in_ok-name.name (empty c.args.spec) absent
    ∙ ap (λ name. c.args.cells.now.entries ++ (name, empty c.args.spec) ∷ []) same

use Rattle.std.proofs.Common.{sym, subst, map, List}
use Rattle.typed_values.specs.declared.cells.Cell.{Cell}
use Rattle.typed_values.specs.Cells.{invoked}
use Rattle.invocation.specs.Laws.{TakesAll}
use Rattle.run_record.proofs.Changes.{takes_all_same, specs_invoked}
use Rattle.partition_core.proofs.actor.Actor.serve.Goals as goal

pub change_cells-requires : goal.change_cells-requires
change_cells-requires c =
    let cells = c.args.self.now.cells in
    subst (λ (others : List Cell). TakesAll others c.args.mutations) (sym c.invoked.ensures)
    (takes_all_same cells (map (invoked c.args.moment) cells) (specs_invoked c.args.moment cells) c.args.mutations c.requires)

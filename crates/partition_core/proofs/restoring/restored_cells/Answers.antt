use Rattle.std.proofs.Common.{rules, ◌≡◌, ◌∷◌, subst}
use Rattle.partition_core.proofs.PutBack.{Remain, is_new}
use Rattle.partition_core.proofs.restoring.restored_cells.Goals as goal

pub restore_cell-requires-clause-name : goal.restore_cell-requires-clause-name
restore_cell-requires-clause-name c =
    let left : c.loop-cell.cell-iterator.rest.items ≡ c.in-Some.cell ∷ c.next.new.self.rest.items = search rules in
    is_new c.loop-cell.cells c.in-Some.cell c.next.new.self.rest.items c.args.kept (subst (λ rest. Remain c.loop-cell.cells rest c.args.kept) left c.loop-cell.invariant)

use Rattle.std.proofs.Common.{◌∙◌, arith}
use Rattle.indexmap.proofs.CallerLemmas.{insert_entry-new}
use Rattle.typed_values.specs.Sameness.{same_bytes}
use Rattle.state_cells.proofs.Rows.{copy-step}
use Rattle.state_cells.proofs.kept.copy_named.Goals as goal

pub loop-cell-preserved : goal.loop-cell-preserved
loop-cell-preserved c = copy-step c.args.cells.now c.loop-cell.cell-index c.cell-item.result c.in_ok-try_clone-2.field-0 c.in_ok-try_clone.field-0 c.loop-cell.copy.entries _ (omega (arith, c.loop-cell-test.true)) c.cell-item.is c.in_ok-try_clone.ensures c.in_ok-try_clone-2.ensures c.loop-cell.invariant c.requires
    (λ fresh. c.in_ok-insert.ensures.entries ∙ insert_entry-new same_bytes c.loop-cell.copy c.in_ok-try_clone.field-0 c.in_ok-try_clone-2.field-0 fresh)

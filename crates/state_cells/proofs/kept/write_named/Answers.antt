use Rattle.std.proofs.Common.{sym}
use Rattle.state_cells.proofs.Named.{entries-refused}
use Rattle.state_cells.proofs.kept.write_named.Goals as goal

pub returns-in-Some-clause-refused : goal.returns-in-Some-clause-refused
returns-in-Some-clause-refused c = entries-refused c.args.name.now c.write.result c.write.new.cell c.in-Some.cell.now c.args.cells.now.entries _ c.write.ensures.refused (sym c.in-Some.ensures.value) (c.get_mut.follows.holds c.write.new.cell).0

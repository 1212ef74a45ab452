use Rattle.std.proofs.Common.{◌∙◌}
use Rattle.partition_core.proofs.PutBack.{takes_value, restored_with}
use Rattle.partition_core.proofs.restoring.restore_cell.Goals as goal

pub write-requires-clause-takes : goal.write-requires-clause-takes
write-requires-clause-takes c = takes_value c.args.kept c.args.cells.now c.add.new.cells _ c.requires.name c.in_ok-spec_of.ensures c.in_ok-add.ensures c.requires.size

pub returns-then-kept : goal.returns-then-kept
returns-then-kept c = c.write.ensures ∙ restored_with c.args.kept c.args.cells.now c.add.new.cells _ c.requires.name c.in_ok-spec_of.ensures c.in_ok-add.ensures c.if-kept.true

use Rattle.std.proofs.Common.{◌∙◌, sym, ap}
use Rattle.std.specs.Prelude.{◌&&◌}
use Rattle.partition_core.specs.Work.{is_empty, is_idle}
use Rattle.partition_core.specs.Kept.{work_of}
use Rattle.partition_core.proofs.partition.Partition.is_idle.Goals as goal

pub returns-then-none_ready : goal.returns-then-none_ready
unfolding work_of is_idle
returns-then-none_ready c = c.none_delayed.ensures ∙ ap (λ b. b && is_empty c.args.self.now.delays.delays) (sym c.if-none_ready.true ∙ c.none_ready.ensures)

pub returns-else-none_ready : goal.returns-else-none_ready
unfolding work_of is_idle
returns-else-none_ready c = c.if-none_ready.false ∙ ap (λ b. b && is_empty c.args.self.now.delays.delays) (sym c.if-none_ready.false ∙ c.none_ready.ensures)

use Rattle.run_record.proofs.Changing.{part_gone}
use Rattle.run_record.proofs.parts.Parts.forget_nothing.Goals as goal

pub returns-then-has_nothing : goal.returns-then-has_nothing
returns-then-has_nothing c =
    part_gone c.args.self.now (record { parts = c.remove.new.self }) c.args.address.now c.remove.ensures.updates.0 (c.has_nothing.ensures c.if-has_nothing.true)

use Rattle.std.specs.Prelude.{◌↔◌}
use Rattle.keyed_queues.specs.Keys.{address_order}
use Rattle.keyed_queues.specs.Queues.{AreReadIn}
use Rattle.run_record.specs.Filled.{own_read}
use Rattle.run_record.proofs.parts.Parts.are_in.Given as goal

-- all are alike exactly where those that are left are
abbrev pub invariant-loop-address : goal.invariant-loop-address
invariant-loop-address l = AreReadIn address_order own_read l.other.parts l.address-iterator ↔ AreReadIn address_order own_read l.other.parts l.self.parts.entries

use Rattle.std.proofs.Common.{◌≡◌, ◌++◌, map}
use Rattle.run_record.specs.StateOf.{placed_record}
use Rattle.run_record.proofs.placing.placed_records.Given as goal

abbrev pub invariant-loop-record : goal.invariant-loop-record
invariant-loop-record l = l.items.items ++ map placed_record l.record-iterator.rest.items ≡ map placed_record l.fn.records

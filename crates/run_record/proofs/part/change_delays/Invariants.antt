use Rattle.std.proofs.Common.{◌≡◌, ◌≤◌, map, length}
use Rattle.delayed_messages.specs.Laws.{after_all}
use Rattle.run_record.specs.Machine.{delay_call}
use Rattle.run_record.proofs.part.change_delays.Given as goal

abbrev pub invariant-loop-change : goal.invariant-loop-change
invariant-loop-change l = record {
  so_far : after_all (map (delay_call l.address) l.change-iterator.rest.items) l.delays.delays ≡ after_all (map (delay_call l.address) l.fn.changes) l.fn.delays.delays;
  room : length l.change-iterator.rest.items ≤ l.delays.spare;
}

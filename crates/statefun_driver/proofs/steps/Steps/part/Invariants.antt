use Rattle.std.proofs.Common.{◌≡◌, ◌++◌, filter}
use Rattle.statefun_driver.specs.Turns.{is_take}
use Rattle.statefun_driver.specs.Parted.{is_other}
use Rattle.statefun_driver.proofs.steps.Steps.part.Given as goal

-- with the steps that are left
abbrev pub invariant-loop-entry : goal.invariant-loop-entry
invariant-loop-entry l = record {
  takes : l.takes ++ filter is_take l.entry-iterator.rest.items ≡ filter is_take l.fn.self;
  others : l.others ++ filter is_other l.entry-iterator.rest.items ≡ filter is_other l.fn.self;
}

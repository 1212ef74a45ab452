-- The faults of a run's objects.
use Rattle.sf_outside.specs.declared.fault.Fault.{Fault}
use Rattle.sf_outside.specs.declared.fault.Fault.TheVariants.{Failed, OutOfMemory}
use Rattle.statefun_driver.specs.declared.end.Broken.{Broken}
use Rattle.statefun_driver.specs.declared.end.Broken.TheVariants.{Memory}

abbrev pub broken_by : Broken → Fault → Broken
broken_by object Failed = object
broken_by object OutOfMemory = Memory

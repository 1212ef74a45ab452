-- What lies in the system: where the logs of a folder are, and what its errors mean.
use Rattle.std.specs.Prelude.{ℕ, List, ◌++◌, codes}
use Rattle.std.specs.Fmt.{decimal}
use Rattle.std.specs.declared.io.ErrorKind.{ErrorKind}
use Rattle.std.specs.declared.io.ErrorKind.TheVariants.{OutOfMemory as WantOfMemory}
use Rattle.sf_outside.specs.declared.fault.Fault.{Fault}
use Rattle.sf_outside.specs.declared.fault.Fault.TheVariants.{Failed, OutOfMemory}

-- the log of a split
abbrev pub log_path : List ℕ → ℕ → List ℕ
log_path folder split = folder ++ codes "/split-" ++ decimal split ++ codes ".log"

-- want of memory is none of the system's faults
abbrev pub fault_by : ErrorKind → Fault
fault_by WantOfMemory = OutOfMemory
fault_by _ = Failed

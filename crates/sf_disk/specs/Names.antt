-- What the files of a folder are called, and what the system's errors mean.
use Rattle.std.specs.Prelude.{ℕ, zero, suc, List, ◌++◌, codes}
use Rattle.std.specs.Fmt.{decimal}
use Rattle.std.specs.declared.io.ErrorKind.{ErrorKind}
use Rattle.std.specs.declared.io.ErrorKind.TheVariants.{OutOfMemory as WantOfMemory}
use Rattle.sf_outside.specs.declared.fault.Fault.{Fault}
use Rattle.sf_outside.specs.declared.fault.Fault.TheVariants.{Failed, OutOfMemory}

-- by number
abbrev pub file_name : ℕ → List ℕ
file_name zero = codes "manifest"
file_name (suc zero) = codes "egress"
file_name (suc (suc partition)) = codes "pieces-" ++ decimal partition

abbrev pub file_path : List ℕ → ℕ → List ℕ
file_path folder file = folder ++ codes "/" ++ file_name file

-- want of memory is none of the system's faults
abbrev pub fault_by : ErrorKind → Fault
fault_by WantOfMemory = OutOfMemory
fault_by _ = Failed

-- Why a request that is not read has no answer.
use Rattle.proto_wire.specs.declared.fault.DecodeFault.{DecodeFault}
use Rattle.proto_wire.specs.declared.fault.DecodeFault.TheVariants.{Wire as Misspelled, OutOfMemory as NoMemory}
use Rattle.function_server.specs.declared.fault.ServeFault.{ServeFault}
use Rattle.function_server.specs.declared.fault.ServeFault.TheVariants.{Wire, OutOfMemory}

abbrev pub fault_of : DecodeFault → ServeFault
fault_of (Misspelled fault) = Wire fault
fault_of NoMemory = OutOfMemory

-- The statuses and lines of ends.
use Rattle.std.specs.Prelude.{ℕ, codes, List, [], ◌∷◌, ◌++◌}
use Rattle.std.specs.List.{flat_map}
use Rattle.std.specs.Fmt.{decimal}
use Rattle.request_reply.specs.declared.flaw.FlawKind.{FlawKind}
use Rattle.request_reply.specs.declared.flaw.FlawKind.TheVariants.{Wire, BadMutation, UnknownName, TypeDiffers, TooLarge, NoEndpoint, NegativeDelay}
use Rattle.request_reply.specs.declared.flaw.FlawKind.TheVariants.{EmptyToken, UnknownEgress, BadExpiry, TooMany, NoNewName}
use Rattle.request_reply.specs.declared.flaw.Reason.{Reason}
use Rattle.request_reply.specs.declared.flaw.Reason.TheVariants.{Lost, Late, Refused}
use Rattle.typed_values.specs.declared.address.Address.{Address}
use Rattle.typed_values.specs.Escape.{address_text}
use Rattle.proto_wire.specs.declared.module_kind.ModuleKind.{ModuleKind}
use Rattle.proto_wire.specs.Kinds.{module_kind_name}
use Rattle.command_io.specs.Telling.{disk_fault_line, not_a_store_line}
use Rattle.folder_run.specs.declared.end.RunEnd.{RunEnd}
use Rattle.folder_run.specs.declared.end.RunEnd.TheVariants.{Done, Usage, ModuleFault, ModuleRefused, TurnsSpent, EndpointFailed, BatchTooLarge, RecordTooLarge}
use Rattle.folder_run.specs.declared.end.RunEnd.TheVariants.{IngressFault, DiskFault, LinkFault, SinkFault, NotAStore, StoreOfOther, OutOfMemory}

abbrev pub status_of : RunEnd → ℕ
status_of (Done checkpoint) = 0
status_of (Usage word) = 2
status_of ModuleFault = 3
status_of (ModuleRefused document line kind) = 4
status_of (TurnsSpent checkpoint legs) = 5
status_of (EndpointFailed address reasons) = 6
status_of (BatchTooLarge address size limit) = 7
status_of (RecordTooLarge split offset size) = 8
status_of IngressFault = 9
status_of DiskFault = 10
status_of SinkFault = 11
status_of LinkFault = 12
status_of (NotAStore file place) = 13
status_of (StoreOfOther kept given) = 14
status_of OutOfMemory = 15

abbrev pub flaw_name : FlawKind → List ℕ
flaw_name Wire = codes "Wire"
flaw_name BadMutation = codes "BadMutation"
flaw_name UnknownName = codes "UnknownName"
flaw_name TypeDiffers = codes "TypeDiffers"
flaw_name TooLarge = codes "TooLarge"
flaw_name NoEndpoint = codes "NoEndpoint"
flaw_name NegativeDelay = codes "NegativeDelay"
flaw_name EmptyToken = codes "EmptyToken"
flaw_name UnknownEgress = codes "UnknownEgress"
flaw_name BadExpiry = codes "BadExpiry"
flaw_name TooMany = codes "TooMany"
flaw_name NoNewName = codes "NoNewName"

-- ` lost:C`, ` late` or ` refused:FLAW:INDEX`
abbrev pub reason_text : Reason → List ℕ
reason_text (Lost code) = codes " lost:" ++ decimal code
reason_text Late = codes " late"
reason_text (Refused answer flaw) = codes " refused:" ++ (flaw_name flaw.kind ++ 58 ∷ decimal flaw.index)

abbrev pub reasons_text : List Reason → List ℕ
reasons_text reasons = flat_map reason_text reasons

-- `batch too large ADDRESS SIZE LIMIT`
abbrev pub batch_line : Address → ℕ → ℕ → List ℕ
batch_line address size limit = codes "batch too large " ++ (address_text address ++ 32 ∷ (decimal size ++ 32 ∷ (decimal limit ++ 10 ∷ [])))

-- `record too large split SPLIT offset OFFSET size SIZE`
abbrev pub record_line : ℕ → ℕ → ℕ → List ℕ
record_line split offset size =
    codes "record too large split " ++ (decimal split ++ (codes " offset " ++ (decimal offset ++ (codes " size " ++ (decimal size ++ 10 ∷ [])))))

-- `module refused document D line L kind NAME`
abbrev pub kind_text : ModuleKind → List ℕ
kind_text kind = codes " kind " ++ (module_kind_name kind ++ 10 ∷ [])

abbrev pub refused_line : ℕ → ℕ → ModuleKind → List ℕ
refused_line document line kind = codes "module refused document " ++ (decimal document ++ (codes " line " ++ (decimal line ++ kind_text kind)))

-- `turns L checkpoint N`
abbrev pub spent_line : ℕ → ℕ → List ℕ
spent_line checkpoint legs = codes "turns " ++ (decimal legs ++ (codes " checkpoint " ++ (decimal checkpoint ++ 10 ∷ [])))

-- The line of an end, ended by LF. A sink that failed and want of memory have none.
abbrev pub end_line : RunEnd → List ℕ
end_line (Done checkpoint) = codes "done checkpoint " ++ (decimal checkpoint ++ 10 ∷ [])
end_line (Usage word) = codes "usage word " ++ (decimal word ++ 10 ∷ [])
end_line ModuleFault = codes "module fault" ++ 10 ∷ []
end_line (ModuleRefused document line kind) = refused_line document line kind
end_line (TurnsSpent checkpoint legs) = spent_line checkpoint legs
end_line (EndpointFailed address reasons) = codes "endpoint failed " ++ (address_text address ++ (reasons_text reasons ++ 10 ∷ []))
end_line (BatchTooLarge address size limit) = batch_line address size limit
end_line (RecordTooLarge split offset size) = record_line split offset size
end_line IngressFault = codes "ingress fault" ++ 10 ∷ []
end_line DiskFault = disk_fault_line
end_line LinkFault = codes "link fault" ++ 10 ∷ []
end_line (NotAStore file place) = not_a_store_line file place
end_line (StoreOfOther kept given) = codes "store of other module" ++ 10 ∷ []
end_line SinkFault = []
end_line OutOfMemory = []

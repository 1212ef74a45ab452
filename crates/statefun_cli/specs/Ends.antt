-- The statuses and lines of ends.
use Rattle.std.specs.Prelude.{ℕ, codes, List, [], ◌∷◌, ◌++◌}
use Rattle.std.specs.List.{flat_map}
use Rattle.std.specs.Fmt.{decimal}
use Rattle.request_reply.specs.declared.flaw.FlawKind.{FlawKind}
use Rattle.request_reply.specs.declared.flaw.FlawKind.TheVariants.{Wire, BadMutation, UnknownName, TypeDiffers, TooLarge, NoEndpoint, NegativeDelay}
use Rattle.request_reply.specs.declared.flaw.FlawKind.TheVariants.{EmptyToken, UnknownEgress, BadExpiry, TooMany, NoNewName}
use Rattle.request_reply.specs.declared.flaw.Reason.{Reason}
use Rattle.request_reply.specs.declared.flaw.Reason.TheVariants.{Lost, Late, Refused}
use Rattle.typed_values.specs.declared.address.Address.{Address}
use Rattle.typed_values.specs.Escape.{address_text}
use Rattle.statefun_cli.specs.declared.end.PlainEnd.{PlainEnd}
use Rattle.statefun_cli.specs.declared.end.PlainEnd.TheVariants.{Done, Usage, ModuleFault, ModuleRefused, TurnsSpent, EndpointFailed}
use Rattle.statefun_cli.specs.declared.end.PlainEnd.TheVariants.{BatchTooLarge, RecordTooLarge, IngressFault, LinkFault, SinkFault, OutOfMemory}
use Rattle.statefun_cli.specs.Check.{module_fault_line, refused_line}

abbrev pub status_of : PlainEnd → ℕ
status_of (Done taken) = 0
status_of (Usage word) = 2
status_of ModuleFault = 3
status_of (ModuleRefused document line kind) = 4
status_of (TurnsSpent taken) = 5
status_of (EndpointFailed address reasons) = 6
status_of (BatchTooLarge address size limit) = 7
status_of (RecordTooLarge split offset size) = 8
status_of IngressFault = 9
status_of SinkFault = 11
status_of LinkFault = 12
status_of OutOfMemory = 15

abbrev pub flaw_name : FlawKind → List ℕ
flaw_name Wire = codes "Wire"
flaw_name BadMutation = codes "BadMutation"
flaw_name UnknownName = codes "UnknownName"
flaw_name TypeDiffers = codes "TypeDiffers"
flaw_name TooLarge = codes "TooLarge"
flaw_name NoEndpoint = codes "NoEndpoint"
flaw_name NegativeDelay = codes "NegativeDelay"
flaw_name EmptyToken = codes "EmptyToken"
flaw_name UnknownEgress = codes "UnknownEgress"
flaw_name BadExpiry = codes "BadExpiry"
flaw_name TooMany = codes "TooMany"
flaw_name NoNewName = codes "NoNewName"

-- ` lost:C`, ` late` or ` refused:FLAW:INDEX`
abbrev pub reason_text : Reason → List ℕ
reason_text (Lost code) = codes " lost:" ++ decimal code
reason_text Late = codes " late"
reason_text (Refused answer flaw) = codes " refused:" ++ (flaw_name flaw.kind ++ 58 ∷ decimal flaw.index)

abbrev pub reasons_text : List Reason → List ℕ
reasons_text reasons = flat_map reason_text reasons

-- `batch too large ADDRESS SIZE LIMIT`
abbrev pub batch_line : Address → ℕ → ℕ → List ℕ
batch_line address size limit = codes "batch too large " ++ (address_text address ++ 32 ∷ (decimal size ++ 32 ∷ (decimal limit ++ 10 ∷ [])))

-- `record too large split SPLIT offset OFFSET size SIZE`
abbrev pub record_line : ℕ → ℕ → ℕ → List ℕ
record_line split offset size =
    codes "record too large split " ++ (decimal split ++ (codes " offset " ++ (decimal offset ++ (codes " size " ++ (decimal size ++ 10 ∷ [])))))

-- The line of an end, ended by LF, of a run with so many turns at most. A sink that failed and want of memory have none.
abbrev pub end_line : PlainEnd → ℕ → List ℕ
end_line (Done taken) turns = codes "done taken " ++ (decimal taken ++ 10 ∷ [])
end_line (Usage word) turns = codes "usage word " ++ (decimal word ++ 10 ∷ [])
end_line ModuleFault turns = module_fault_line
end_line (ModuleRefused document line kind) turns = refused_line (document, record { line = line; kind = kind })
end_line (TurnsSpent taken) turns = codes "turns " ++ (decimal turns ++ (codes " taken " ++ (decimal taken ++ 10 ∷ [])))
end_line (EndpointFailed address reasons) turns = codes "endpoint failed " ++ (address_text address ++ (reasons_text reasons ++ 10 ∷ []))
end_line (BatchTooLarge address size limit) turns = batch_line address size limit
end_line (RecordTooLarge split offset size) turns = record_line split offset size
end_line IngressFault turns = codes "ingress fault" ++ 10 ∷ []
end_line LinkFault turns = codes "link fault" ++ 10 ∷ []
end_line SinkFault turns = []
end_line OutOfMemory turns = []

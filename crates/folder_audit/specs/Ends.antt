-- The lines and statuses of an audit's ends.
use Rattle.std.specs.Prelude.{ℕ, List, [], ◌∷◌, ◌++◌, codes}
use Rattle.std.specs.Fmt.{decimal}
use Rattle.proto_wire.specs.declared.module_kind.ModuleKind.{ModuleKind}
use Rattle.proto_wire.specs.Kinds.{module_kind_name}
use Rattle.command_io.specs.Telling.{disk_fault_line, not_a_store_line, usage_line}
use Rattle.folder_audit.specs.declared.end.AuditEnd.{AuditEnd}
use Rattle.folder_audit.specs.declared.end.AuditEnd.TheVariants.{Yes, NoEntry, NoState, Help, Usage, ModuleFault, ModuleRefused, IngressFault, DiskFault, NotAStore, StoreOfOther, OutOfMemory}

-- `audit yes checkpoint N entries M`
abbrev pub yes_line : ℕ → ℕ → List ℕ
yes_line checkpoint entries = codes "audit yes checkpoint " ++ (decimal checkpoint ++ (codes " entries " ++ (decimal entries ++ 10 ∷ [])))

-- `audit no entry K`
abbrev pub entry_line : ℕ → List ℕ
entry_line entry = codes "audit no entry " ++ (decimal entry ++ 10 ∷ [])

-- `module refused document D line L kind NAME`
abbrev pub kind_text : ModuleKind → List ℕ
kind_text kind = codes " kind " ++ (module_kind_name kind ++ 10 ∷ [])

abbrev pub refused_line : ℕ → ℕ → ModuleKind → List ℕ
refused_line document line kind = codes "module refused document " ++ (decimal document ++ (codes " line " ++ (decimal line ++ kind_text kind)))

-- what is written where help is asked for
unfoldable pub audit_help : List ℕ
audit_help =
    codes "Replays the stored record of a folder and compares what it leads to with the newest checkpoint\n\n"
    ++ (codes "Usage: statefun audit <MODULE> <FOLDER>\n\nArguments:\n  <MODULE>  The module file\n"
    ++ (codes "  <FOLDER>  The folder of the logs and the checkpoints\n\n"
    ++ codes "Options:\n  -h, --help  Print help\n"))

abbrev pub end_text : AuditEnd → List ℕ
end_text (Yes checkpoint entries) = yes_line checkpoint entries
end_text (NoEntry entry) = entry_line entry
end_text NoState = codes "audit no state" ++ 10 ∷ []
end_text Help = audit_help
end_text Usage = usage_line
end_text ModuleFault = codes "module fault" ++ 10 ∷ []
end_text (ModuleRefused document line kind) = refused_line document line kind
end_text IngressFault = codes "ingress fault" ++ 10 ∷ []
end_text DiskFault = disk_fault_line
end_text (NotAStore file place) = not_a_store_line file place
end_text StoreOfOther = codes "store of other module" ++ 10 ∷ []
end_text OutOfMemory = []

abbrev pub end_status : AuditEnd → ℕ
end_status (Yes checkpoint entries) = 0
end_status (NoEntry entry) = 1
end_status NoState = 1
end_status Help = 0
end_status Usage = 2
end_status ModuleFault = 3
end_status (ModuleRefused document line kind) = 4
end_status IngressFault = 9
end_status DiskFault = 10
end_status (NotAStore file place) = 13
end_status StoreOfOther = 14
end_status OutOfMemory = 15

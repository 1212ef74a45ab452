-- The names of what can be wrong with a module file.
use Rattle.std.specs.Prelude.{ℕ, List, codes}
use Rattle.proto_wire.specs.declared.module_kind.ModuleKind.{ModuleKind}
use Rattle.proto_wire.specs.declared.module_kind.ModuleKind.TheVariants as kinds

abbrev pub module_kind_name : ModuleKind → List ℕ
module_kind_name kinds.NotUtf8 = codes "NotUtf8"
module_kind_name kinds.Tab = codes "Tab"
module_kind_name kinds.Directive = codes "Directive"
module_kind_name kinds.Anchor = codes "Anchor"
module_kind_name kinds.Tag = codes "Tag"
module_kind_name kinds.Flow = codes "Flow"
module_kind_name kinds.BlockScalar = codes "BlockScalar"
module_kind_name kinds.Quote = codes "Quote"
module_kind_name kinds.DuplicateKey = codes "DuplicateKey"
module_kind_name kinds.Indent = codes "Indent"
module_kind_name kinds.Reserved = codes "Reserved"
module_kind_name kinds.Colon = codes "Colon"
module_kind_name kinds.Depth = codes "Depth"
module_kind_name kinds.TooLong = codes "TooLong"
module_kind_name kinds.MissingKey = codes "MissingKey"
module_kind_name kinds.UnknownKey = codes "UnknownKey"
module_kind_name kinds.BadValue = codes "BadValue"
module_kind_name kinds.UnsupportedKind = codes "UnsupportedKind"
module_kind_name kinds.DuplicateId = codes "DuplicateId"
module_kind_name kinds.NoEndpoint = codes "NoEndpoint"
module_kind_name kinds.NoIngress = codes "NoIngress"
module_kind_name kinds.TooMany = codes "TooMany"

-- What a module file means: the module of its documents, or the first refusal.
use Rattle.std.specs.Prelude.{◌≡◌, ℕ, ◌+◌, ◌≤◌, nat_lt, nat_le, Bool, true, if◌then◌else◌, List, [], ◌∷◌, ◌++◌, length, slice_get, codes, Option, Some, None, is_some, unwrap_or, Result, Ok, Err}
use Rattle.std.specs.Option.{option_map_or}
use Rattle.std.specs.List.{AllByRecursion, list_any}
use Rattle.proto_wire.specs.declared.module_kind.ModuleKind.TheVariants.{DuplicateId, NoEndpoint, NoIngress, TooMany}
use Rattle.typed_values.specs.declared.name.TypeName.{TypeName}
use Rattle.typed_values.specs.Pattern.{same_pattern}
use Rattle.typed_values.specs.Sameness.{same_name}
use Rattle.address_routing.specs.declared.module.Module.{Module}
use Rattle.address_routing.specs.declared.module.Endpoint.{Endpoint}
use Rattle.address_routing.specs.Routing.{endpoint_of, splits_in}
use Rattle.yaml_block.specs.declared.node.Node.{Node, out-Node}
use Rattle.yaml_block.specs.declared.node.Pair.{Pair, out-Pair}
use Rattle.yaml_block.specs.Documents as documents
use Rattle.module_yaml.specs.declared.fault.Refusal.{Refusal}
use Rattle.module_yaml.specs.declared.fault.ModuleFault.{ModuleFault}
use Rattle.module_yaml.specs.declared.fault.ModuleFault.TheVariants as fault
use Rattle.module_yaml.specs.declared.keys.Kind.{Kind}
use Rattle.module_yaml.specs.declared.keys.Kind.TheVariants as kinds
use Rattle.module_yaml.specs.declared.part.Part.{Part}
use Rattle.module_yaml.specs.declared.part.Part.TheVariants as part
use Rattle.module_yaml.specs.Nodes.{items_of}
use Rattle.module_yaml.specs.Mappings.{◌orElse◌, refused, pair_of, pairs_under, value, mapping_refusal}
use Rattle.module_yaml.specs.Values.{target_of}
use Rattle.module_yaml.specs.Keys.{kind, spec, document_keys, spec_keys, part_of}

-- ---- one document

abbrev pub kind_at : Node → Kind
kind_at node = value kind (pairs_under node)

abbrev pub spec_at : Node → Node
spec_at node = value spec (pairs_under node)

abbrev pub spec_pairs : Node → List Pair
spec_pairs node = pairs_under (spec_at node)

-- what a document adds
abbrev pub part_at : Node → Part
part_at node = part_of (kind_at node) (spec_pairs node)

-- a module, and one part more
unfoldable pub with_part : Module → Part → Module
with_part m (part.Endpoint endpoint) = record m { endpoints = m.endpoints ++ endpoint ∷ [] }
with_part m (part.Ingress ingress) = record m { ingresses = m.ingresses ++ ingress ∷ [] }
with_part m (part.Egress name) = record m { egresses = m.egresses ++ name ∷ [] }

-- the line of a key, or of another one where it does not stand
abbrev pub line_under : List ℕ → List Pair → ℕ → ℕ
line_under name pairs otherwise = option_map_or (λ pair. (out-Pair pair).line) (pair_of name pairs) otherwise

-- the module has such a pattern, or such an id, already
unfoldable pub duplicate : Module → Part → List Pair → Option Refusal
duplicate m (part.Endpoint endpoint) pairs =
    if list_any (λ other. same_pattern other.pattern endpoint.pattern) m.endpoints then refused (line_under (codes "functions") pairs 0) DuplicateId else None
duplicate m (part.Ingress ingress) pairs =
    if list_any (λ other. same_name other.id ingress.id) m.ingresses then refused (line_under (codes "id") pairs 0) DuplicateId else None
duplicate m (part.Egress name) pairs =
    if list_any (λ other. same_name other name) m.egresses then refused (line_under (codes "id") pairs 0) DuplicateId else None

-- the items under `targets`
abbrev pub target_items : List Pair → List Node
target_items pairs = option_map_or (λ pair. unwrap_or (items_of (out-Pair pair).value) []) (pair_of (codes "targets") pairs) []

-- the target behind as many as there may be
abbrev pub target_past : List Pair → Option Refusal
target_past pairs = option_map_or (λ item. refused (out-Node item).line TooMany) (slice_get (target_items pairs) 64) None

-- a limit is passed, in a document whose `kind` is on this line
unfoldable pub too_many : Module → ℕ → Part → List Pair → Option Refusal
too_many m line (part.Endpoint endpoint) pairs = if nat_le 256 (length m.endpoints) then refused line TooMany else None
too_many m line (part.Ingress ingress) pairs =
    (if nat_lt 32 (splits_in m.ingresses + ingress.splits) then refused (line_under (codes "splits") pairs line) TooMany else None)
    orElse target_past pairs
too_many m line (part.Egress name) pairs = if nat_le 256 (length m.egresses) then refused line TooMany else None

-- what a document adds does not go with the module so far
abbrev pub misfit : Module → Node → Option Refusal
misfit m node =
    duplicate m (part_at node) (spec_pairs node) orElse too_many m (line_under (codes "kind") (pairs_under node) 0) (part_at node) (spec_pairs node)

-- the first refusal of a document, after those that made this module
abbrev pub document_refusal : Module → Node → Option Refusal
document_refusal m node =
    mapping_refusal document_keys node orElse (mapping_refusal (spec_keys (kind_at node)) (spec_at node) orElse misfit m node)

-- ---- targets without an endpoint

-- an endpoint is for a target
abbrev pub is_item_served : Module → Result TypeName Refusal → Bool
is_item_served m (Ok name) = is_some (endpoint_of m name)
is_item_served m (Err refusal) = true

abbrev pub first_unserved : Module → List Node → Option Refusal
first_unserved m [] = None
first_unserved m (item ∷ items) = if is_item_served m (target_of item) then first_unserved m items else refused (out-Node item).line NoEndpoint

abbrev pub unserved_by : Module → Kind → List Pair → Option Refusal
unserved_by m kinds.Ingress pairs = first_unserved m (target_items pairs)
unserved_by m kinds.Endpoint pairs = None
unserved_by m kinds.Egress pairs = None

abbrev pub unserved : Module → Node → Option Refusal
unserved m node = unserved_by m (kind_at node) (spec_pairs node)

-- ---- all documents

-- a refusal, in which document; 0 is the whole file
abbrev pub Refused : Type 0
Refused = ℕ × Refusal

abbrev pub in_document : ℕ → Option Refusal → Option Refused
in_document number (Some refusal) = Some (number, refusal)
in_document number None = None

abbrev pub no_module : Module
no_module = record { endpoints = []; ingresses = []; egresses = [] }

-- the module that documents make of this one
abbrev pub with_documents : Module → List Node → Module
with_documents m [] = m
with_documents m (node ∷ nodes) = with_documents (with_part m (part_at node)) nodes

-- the first refusal of documents by themselves and by those before them; the first has this number
abbrev pub first_refused : ℕ → Module → List Node → Option Refused
first_refused number m [] = None
first_refused number m (node ∷ nodes) = in_document number (document_refusal m node) orElse first_refused (number + 1) (with_part m (part_at node)) nodes

-- the first target without an endpoint
abbrev pub first_target : ℕ → Module → List Node → Option Refused
first_target number m [] = None
first_target number m (node ∷ nodes) = in_document number (unserved m node) orElse first_target (number + 1) m nodes

abbrev pub no_ingress : Module → Option Refused
no_ingress m = if nat_lt 0 (length m.ingresses) then None else Some (0, record { line = 0; kind = NoIngress })

-- the first refusal of all: document by document, then targets without an endpoint, then no ingress
unfoldable pub refusal_of : List Node → Option Refused
refusal_of nodes =
    let m = with_documents no_module nodes in
    first_refused 1 no_module nodes orElse (first_target 1 m nodes orElse no_ingress m)

abbrev pub module_by : List Node → Option Refused → Result Module Refused
module_by nodes None = Ok (with_documents no_module nodes)
module_by nodes (Some refusal) = Err refusal

abbrev pub module_of : Result (List Node) documents.Refused → Result Module Refused
module_of (Err (document, refusal)) = Err (document, record { line = refusal.line; kind = refusal.kind })
module_of (Ok nodes) = module_by nodes (refusal_of nodes)

-- what the bytes of a module file mean
unfoldable pub module_in : List ℕ → Result Module Refused
module_in bytes = module_of (documents.read bytes)

-- A fault tells of a refusal. Want of memory tells nothing.
abbrev pub IsToldBy : ModuleFault → Result Module Refused → Type 0
IsToldBy fault.OutOfMemory meaning = Unit {0}
IsToldBy (fault.Refused document line kind) meaning = meaning ≡ Err (document, record { line = line; kind = kind })

abbrev pub IsToldOf : Option Refused → ModuleFault → Type 0
IsToldOf refusal fault.OutOfMemory = Unit {0}
IsToldOf refusal (fault.Refused document line kind) = refusal ≡ Some (document, record { line = line; kind = kind })

-- ---- bounds

-- no endpoint has more attempts or bytes than a module file may give it
abbrev pub IsBounded : Endpoint → Type 0
IsBounded endpoint = (endpoint.attempts ≤ 100) × (endpoint.max_bytes ≤ 8388608)

abbrev pub AreBounded : List Endpoint → Type 0
AreBounded endpoints = AllByRecursion IsBounded endpoints

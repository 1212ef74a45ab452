-- The keys of module files.
use Rattle.std.specs.Prelude.{ℕ, true, false, if◌then◌else◌, List, [], ◌∷◌, codes, Option, Some, None, option_and_then, Result, Ok, Err}
use Rattle.std.specs.Str.{bytes_eq}
use Rattle.proto_wire.specs.declared.module_kind.ModuleKind.TheVariants.{UnsupportedKind}
use Rattle.typed_values.specs.declared.name.TypeName.{TypeName}
use Rattle.typed_values.specs.declared.pattern.TypePattern.{TypePattern}
use Rattle.typed_values.specs.Tables.{empty_name}
use Rattle.address_routing.specs.declared.module.Endpoint.{Endpoint}
use Rattle.address_routing.specs.declared.module.IngressSpec.{IngressSpec}
use Rattle.yaml_block.specs.declared.node.Node.{Node}
use Rattle.yaml_block.specs.declared.node.Pair.{Pair, out-Pair}
use Rattle.yaml_block.specs.Trees as trees
use Rattle.module_yaml.specs.declared.fault.Refusal.{Refusal}
use Rattle.module_yaml.specs.declared.keys.Kind.{Kind}
use Rattle.module_yaml.specs.declared.keys.Kind.TheVariants as kinds
use Rattle.module_yaml.specs.declared.keys.Table.{Table}
use Rattle.module_yaml.specs.declared.keys.Table.TheVariants as table
use Rattle.module_yaml.specs.declared.part.Part.{Part}
use Rattle.module_yaml.specs.declared.part.Part.TheVariants as part
use Rattle.module_yaml.specs.Nodes.{text_of}
use Rattle.module_yaml.specs.Mappings.{Field, Row, row, value}
use Rattle.module_yaml.specs.Values.{scalar, pattern_in, template_in, number_in, id_in, some_text_in, targets_at}

abbrev pub required : {A : Type 0} → List ℕ → A → (Pair → Result A Refusal) → Field A
required name otherwise reads = record { name = name; required = true; otherwise = otherwise; reads = reads }

-- a number within bounds, or the default
abbrev pub number : List ℕ → ℕ → ℕ → ℕ → Field ℕ
number name least most default = record { name = name; required = false; otherwise = default; reads = scalar (number_in least most) }

-- ---- a document

abbrev pub kind_in : List ℕ → Option Kind
kind_in kind =
    if bytes_eq kind (codes "io.statefun.endpoints.v2/http") then Some kinds.Endpoint
    else (if bytes_eq kind (codes "local.log.v1/ingress") then Some kinds.Ingress
    else (if bytes_eq kind (codes "local.log.v1/egress") then Some kinds.Egress else None))

abbrev pub or_unsupported : ℕ → Option Kind → Result Kind Refusal
or_unsupported line (Some kind) = Ok kind
or_unsupported line None = Err (record { line = line; kind = UnsupportedKind })

abbrev pub kind : Field Kind
kind = required (codes "kind") kinds.Endpoint (λ pair. or_unsupported (out-Pair pair).line (option_and_then kind_in (text_of (out-Pair pair).value)))

abbrev pub spec : Field Node
spec = required (codes "spec") (trees.scalar 0 []) (λ pair. Ok (out-Pair pair).value)

-- ---- the keys of `spec`

abbrev pub functions : Field TypePattern
functions = required (codes "functions") (record { namespace = []; name = None }) (scalar pattern_in)

abbrev pub url_path_template : Field (List ℕ)
url_path_template = required (codes "urlPathTemplate") [] (scalar template_in)

abbrev pub max_num_batch_requests : Field ℕ
max_num_batch_requests = number (codes "maxNumBatchRequests") 1 65536 1000

abbrev pub max_batch_bytes : Field ℕ
max_batch_bytes = number (codes "maxBatchBytes") 64 8388608 4194304

abbrev pub attempts : Field ℕ
attempts = number (codes "attempts") 1 100 3

abbrev pub patience : Field ℕ
patience = number (codes "patience") 1 1000000 1000

abbrev pub id : Field TypeName
id = required (codes "id") empty_name (scalar id_in)

abbrev pub value_type : Field (List ℕ)
value_type = required (codes "valueType") [] (scalar some_text_in)

abbrev pub targets : Field (List TypeName)
targets = required (codes "targets") [] targets_at

abbrev pub splits : Field ℕ
splits = number (codes "splits") 1 32 1

-- ---- the tables

unfoldable pub spec_keys : Kind → List Row
spec_keys kinds.Endpoint =
    row functions ∷ row url_path_template ∷ row max_num_batch_requests ∷ row max_batch_bytes ∷ row attempts ∷ row patience ∷ []
spec_keys kinds.Ingress = row id ∷ row value_type ∷ row targets ∷ row splits ∷ []
spec_keys kinds.Egress = row id ∷ []

unfoldable pub document_keys : List Row
document_keys = row kind ∷ row spec ∷ []

unfoldable pub keys_of : Table → List Row
keys_of table.Document = document_keys
keys_of (table.Spec kind) = spec_keys kind

-- ---- what they say

abbrev pub endpoint_of : List Pair → Endpoint
endpoint_of pairs = record {
  pattern = value functions pairs;
  template = value url_path_template pairs;
  max_letters = value max_num_batch_requests pairs;
  max_bytes = value max_batch_bytes pairs;
  attempts = value attempts pairs;
  patience = value patience pairs;
}

abbrev pub ingress_of : List Pair → IngressSpec
ingress_of pairs = record {
  id = value id pairs;
  splits = value splits pairs;
  value_type = value value_type pairs;
  targets = value targets pairs;
}

-- what a `spec` of a kind adds to a module
unfoldable pub part_of : Kind → List Pair → Part
part_of kinds.Endpoint pairs = part.Endpoint (endpoint_of pairs)
part_of kinds.Ingress pairs = part.Ingress (ingress_of pairs)
part_of kinds.Egress pairs = part.Egress (value id pairs)

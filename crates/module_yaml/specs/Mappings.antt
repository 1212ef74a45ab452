-- Mappings by tables of keys: one rule says how any of them is refused.
use Rattle.std.specs.Prelude.{ℕ, Bool, not, ◌&&◌, if◌then◌else◌, List, [], ◌∷◌, Option, Some, None, is_none, find, unwrap_or, Result, Ok, Err}
use Rattle.std.specs.Option.{option_map_or}
use Rattle.std.specs.List.{list_any}
use Rattle.std.specs.Str.{bytes_eq}
use Rattle.proto_wire.specs.declared.module_kind.ModuleKind.{ModuleKind}
use Rattle.proto_wire.specs.declared.module_kind.ModuleKind.TheVariants.{BadValue, MissingKey, UnknownKey}
use Rattle.yaml_block.specs.declared.node.Node.{Node, out-Node}
use Rattle.yaml_block.specs.declared.node.Pair.{Pair, out-Pair}
use Rattle.module_yaml.specs.declared.fault.Refusal.{Refusal}
use Rattle.module_yaml.specs.Nodes.{pairs_of}

-- the first of two refusals that there is
infixr 5 ◌orElse◌
abbrev pub ◌orElse◌ : {A : Type 0} → Option A → Option A → Option A
(Some a) orElse other = Some a
None orElse other = other

abbrev pub refused : ℕ → ModuleKind → Option Refusal
refused line kind = Some (record { line = line; kind = kind })

-- ---- one key

-- A key: its name, what is read where it stands, and the value where it does not, if it need not stand.
pub record Field (A : Type 0) : Type 0 where
  pub name : List ℕ
  pub required : Bool
  pub otherwise : A
  pub reads : Pair → Result A Refusal

abbrev pub pair_of : List ℕ → List Pair → Option Pair
pair_of name pairs = find (λ pair. bytes_eq name (out-Pair pair).key) pairs

abbrev pub stands : List ℕ → List Pair → Bool
stands name pairs = not (is_none (pair_of name pairs))

-- what a mapping says under a key
abbrev pub reading : {A : Type 0} → Field A → List Pair → Result A Refusal
reading field pairs = option_map_or field.reads (pair_of field.name pairs) (Ok field.otherwise)

abbrev pub value_or : {A : Type 0} → A → Result A Refusal → A
value_or otherwise (Ok value) = value
value_or otherwise (Err refusal) = otherwise

abbrev pub fault_in : {A : Type 0} → Result A Refusal → Option Refusal
fault_in (Ok value) = None
fault_in (Err refusal) = Some refusal

abbrev pub value : {A : Type 0} → Field A → List Pair → A
value field pairs = value_or field.otherwise (reading field pairs)

-- ---- a table of keys

-- a row of a table: a key, and what is wrong with its value in a mapping
pub record Row : Type 0 where
  pub name : List ℕ
  pub required : Bool
  pub fault : List Pair → Option Refusal

abbrev pub row : {A : Type 0} → Field A → Row
row field = record { name = field.name; required = field.required; fault = λ pairs. fault_in (reading field pairs) }

abbrev pub is_key : List Row → List ℕ → Bool
is_key table name = list_any (λ row. bytes_eq row.name name) table

-- the first pair whose key is not in the table
abbrev pub unknown_key : List Row → List Pair → Option Refusal
unknown_key table [] = None
unknown_key table (pair ∷ pairs) = if is_key table (out-Pair pair).key then unknown_key table pairs else refused (out-Pair pair).line UnknownKey

-- a key that has to stand and does not
abbrev pub lacks_key : List Row → List Pair → Bool
lacks_key table pairs = list_any (λ row. row.required && is_none (pair_of row.name pairs)) table

abbrev pub missing_key : ℕ → List Row → List Pair → Option Refusal
missing_key line table pairs = if lacks_key table pairs then refused line MissingKey else None

-- the first bad value, in the order of the table
abbrev pub bad_value : List Row → List Pair → Option Refusal
bad_value [] pairs = None
bad_value (row ∷ table) pairs = row.fault pairs orElse bad_value table pairs

-- what is no mapping, and then the keys of one: the first unknown one, and a missing one
unfoldable pub wrong_keys : List Row → Node → Option Refusal
wrong_keys table node =
    option_map_or (λ pairs. unknown_key table pairs orElse missing_key (out-Node node).line table pairs) (pairs_of node) (refused (out-Node node).line BadValue)

-- the pairs of a mapping; no other node has any
abbrev pub pairs_under : Node → List Pair
pairs_under node = unwrap_or (pairs_of node) []

-- The one rule: the keys, and then the values.
abbrev pub mapping_refusal : List Row → Node → Option Refusal
mapping_refusal table node = wrong_keys table node orElse bad_value table (pairs_under node)

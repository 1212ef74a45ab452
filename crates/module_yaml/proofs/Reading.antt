-- Tables read row by row: which keys stand, and which value is bad.
use Rattle.std.proofs.Common.{◌≡◌, ap, refl, sym, subst, Bool, true, false, not, true≢false, List, [], ◌∷◌, Option, Some, None}
use Rattle.std.specs.Prelude.{◌||◌, if◌then◌else◌, is_none, unwrap_or, Ok, Err}
use Rattle.std.specs.Option.{option_map_or}
use Rattle.proto_wire.specs.declared.module_kind.ModuleKind.TheVariants.{BadValue, MissingKey}
use Rattle.yaml_block.specs.declared.node.Node.{Node, out-Node}
use Rattle.yaml_block.specs.declared.node.Pair.{Pair, out-Pair}
use Rattle.module_yaml.specs.declared.fault.Refusal.{Refusal}
use Rattle.module_yaml.specs.declared.fault.Fault.{Fault}
use Rattle.module_yaml.specs.declared.fault.Fault.TheVariants as fault
use Rattle.module_yaml.specs.declared.keys.Kind.TheVariants as kinds
use Rattle.module_yaml.specs.Nodes.{pairs_of}
use Rattle.module_yaml.specs.Mappings.{refused, unknown_key, missing_key, wrong_keys, pairs_under, Field, Row, row, reading, value, value_or, fault_in, bad_value, lacks_key, pair_of, stands, ◌orElse◌}
use Rattle.module_yaml.specs.Told.{IsTold, Reads}
use Rattle.module_yaml.specs.Keys.{spec_keys, document_keys, functions, url_path_template, id, value_type, targets, spec, kind}

or-left : (a b : Bool) → (a || b) ≡ false → a ≡ false
or-left false b e = refl
or-left true b e = absurd (true≢false e)

or-right : (a b : Bool) → (a || b) ≡ false → b ≡ false
or-right false b e = e
or-right true b e = absurd (true≢false e)

not-true : (b : Bool) → b ≡ false → not b ≡ true
not-true false e = refl
not-true true e = absurd (true≢false e)

pub endpoint_stands : (pairs : List Pair) → lacks_key (spec_keys kinds.Endpoint) pairs ≡ false → (stands functions.name pairs ≡ true) × (stands url_path_template.name pairs ≡ true)
unfolding spec_keys
endpoint_stands pairs e = (
  not-true (is_none (pair_of functions.name pairs)) (or-left (is_none (pair_of functions.name pairs)) _ e),
  not-true (is_none (pair_of url_path_template.name pairs)) (or-left (is_none (pair_of url_path_template.name pairs)) _ (or-right (is_none (pair_of functions.name pairs)) _ e)),
)

pub ingress_stands : (pairs : List Pair) → lacks_key (spec_keys kinds.Ingress) pairs ≡ false → (stands id.name pairs ≡ true) × (stands value_type.name pairs ≡ true) × (stands targets.name pairs ≡ true)
unfolding spec_keys
ingress_stands pairs e =
    let one = or-right (is_none (pair_of id.name pairs)) _ e in
    let two = or-right (is_none (pair_of value_type.name pairs)) _ one in (
      not-true (is_none (pair_of id.name pairs)) (or-left (is_none (pair_of id.name pairs)) _ e),
      not-true (is_none (pair_of value_type.name pairs)) (or-left (is_none (pair_of value_type.name pairs)) _ one),
      not-true (is_none (pair_of targets.name pairs)) (or-left (is_none (pair_of targets.name pairs)) _ two),
    )

pub egress_stands : (pairs : List Pair) → lacks_key (spec_keys kinds.Egress) pairs ≡ false → stands id.name pairs ≡ true
unfolding spec_keys
egress_stands pairs e = not-true (is_none (pair_of id.name pairs)) (or-left (is_none (pair_of id.name pairs)) _ e)

pub spec_stands : (pairs : List Pair) → lacks_key document_keys pairs ≡ false → stands spec.name pairs ≡ true
unfolding document_keys
spec_stands pairs e = not-true (is_none (pair_of spec.name pairs)) (or-left (is_none (pair_of spec.name pairs)) _ (or-right (is_none (pair_of kind.name pairs)) _ e))

-- what stands under `spec`
pub spec_under : (pairs : List Pair) (pair : Pair) → Some pair ≡ pair_of spec.name pairs → value spec pairs ≡ (out-Pair pair).value
spec_under pairs pair e = ap (λ (o : Option Pair). value_or spec.otherwise (option_map_or spec.reads o (Ok spec.otherwise))) (sym e)

-- where no key is wrong, none is missing
pub none_missing : (table : List Row) (node : Node) → wrong_keys table node ≡ None → lacks_key table (pairs_under node) ≡ false
unfolding wrong_keys
none_missing table node e = go (pairs_of node) e
  where
    last : (a : Option Refusal) (b : Bool) → (a orElse (if b then refused (out-Node node).line MissingKey else None)) ≡ None → b ≡ false
    last None false h = refl
    last None true h = absurd cc
    last (Some r) b h = absurd cc

    go : (o : Option (List Pair)) → option_map_or (λ pairs. unknown_key table pairs orElse missing_key (out-Node node).line table pairs) o (refused (out-Node node).line BadValue) ≡ None →
        lacks_key table (unwrap_or o []) ≡ false
    go None h = absurd cc
    go (Some pairs) h = last (unknown_key table pairs) (lacks_key table pairs) h

-- a bad value is told, and a good one passed over
pub stop : {A : Type 0} (field : Field A) (rows : List Row) (pairs : List Pair) (refusal : Refusal) → reading field pairs ≡ Err refusal → bad_value (row field ∷ rows) pairs ≡ Some refusal
stop field rows pairs refusal e = ap (λ m. fault_in m orElse bad_value rows pairs) e

pub skip : {A : Type 0} (field : Field A) (rows : List Row) (pairs : List Pair) (v : A) → reading field pairs ≡ Ok v → bad_value (row field ∷ rows) pairs ≡ bad_value rows pairs
skip field rows pairs v e = ap (λ m. fault_in m orElse bad_value rows pairs) e

pub told : {A : Type 0} (field : Field A) (rows : List Row) (pairs : List Pair) (f : Fault) → Reads (reading field pairs) (Err f) → IsTold (bad_value (row field ∷ rows) pairs) f
told field rows pairs (fault.Refused refusal) e = stop field rows pairs refusal e
told field rows pairs fault.OutOfMemory e = tt

pub past : {A : Type 0} (field : Field A) (rows : List Row) (pairs : List Pair) (v : A) (f : Fault) → reading field pairs ≡ Ok v → IsTold (bad_value rows pairs) f → IsTold (bad_value (row field ∷ rows) pairs) f
past field rows pairs v f e t = subst (λ (o : Option Refusal). IsTold o f) (sym (skip field rows pairs v e)) t

pub said : {A : Type 0} (field : Field A) (pairs : List Pair) (v : A) → reading field pairs ≡ Ok v → value field pairs ≡ v
said field pairs v e = ap (value_or field.otherwise) e

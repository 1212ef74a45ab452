-- The numbers of a module's endpoints are within their bounds.
use Rattle.std.proofs.Common.{◌≡◌, ap, subst, refl, ℕ, ◌≤◌, Bool, true, false, not, List, [], ◌∷◌, ◌++◌, arith, Option, Some, None}
use Rattle.std.specs.Prelude.{codes, ◌&&◌, ◌==◌, nat_le, slice_index, option_and_then, if◌then◌else◌, IfOk, Result, Ok, Err}
use Rattle.std.specs.Option.{option_map_or}
use Rattle.std.specs.Str.{all_ascii_digits}
use Rattle.std.specs.Str.Parse.{digits_value}
use Rattle.std.proofs.lemmas.Bool.{leb-true}
use Rattle.yaml_block.specs.declared.node.Node.{Node}
use Rattle.yaml_block.specs.declared.node.Pair.{Pair, out-Pair}
use Rattle.yaml_block.specs.Documents as documents
use Rattle.address_routing.specs.declared.module.Module.{Module}
use Rattle.address_routing.specs.declared.module.Endpoint.{Endpoint}
use Rattle.module_yaml.specs.declared.part.Part.{Part}
use Rattle.module_yaml.specs.declared.part.Part.TheVariants as part
use Rattle.module_yaml.specs.declared.keys.Kind.{Kind}
use Rattle.module_yaml.specs.declared.keys.Kind.TheVariants as kinds
use Rattle.module_yaml.specs.Nodes.{text_of}
use Rattle.module_yaml.specs.Mappings.{pair_of, value, value_or}
use Rattle.module_yaml.specs.Values.{number_in, number_within, or_bad, scalar}
use Rattle.module_yaml.specs.Keys.{number, endpoint_of, part_of}
use Rattle.module_yaml.specs.Files.{AreBounded, IsBounded, Refused, kind_at, spec_pairs, part_at, with_part, with_documents, no_module, refusal_of, module_by, module_of, module_in}

abbrev IsMost : ℕ → Option ℕ → Type 0
IsMost most (Some n) = n ≤ most
IsMost most None = Unit {0}

within-most : (least most n : ℕ) → IsMost most (number_within least most n)
within-most least most n = go (nat_le least n) (nat_le n most) (leb-true n most)
  where
    go : (a b : Bool) → (b ≡ true → n ≤ most) → IsMost most (if a && b then Some n else None)
    go true true l = l refl
    go true false l = tt
    go false b l = tt

number-most : (least most : ℕ) (text : List ℕ) → IsMost most (number_in least most text)
unfolding number_in
number-most least most text = go (all_ascii_digits text) (not (slice_index text 0 == 48))
  where
    go : (a b : Bool) → IsMost most (if a && b then number_within least most (digits_value 10 text) else None)
    go true true = within-most least most (digits_value 10 text)
    go true false = tt
    go false b = tt

read-most : (least most default line : ℕ) (text : Option (List ℕ)) → default ≤ most
    → value_or default (or_bad line (option_and_then (number_in least most) text)) ≤ most
read-most least most default line None l = l
read-most least most default line (Some text) l = go (number_in least most text) (number-most least most text)
  where
    go : (o : Option ℕ) → IsMost most o → value_or default (or_bad line o) ≤ most
    go (Some n) h = h
    go None h = l

-- what stands under a key of a number is within its bounds, or the default
value-most : (name : List ℕ) (least most default : ℕ) (pairs : List Pair) → default ≤ most → value (number name least most default) pairs ≤ most
value-most name least most default pairs l = go (pair_of name pairs)
  where
    go : (p : Option Pair) → value_or default (option_map_or (scalar (number_in least most)) p (Ok default)) ≤ most
    go None = l
    go (Some pair) = read-most least most default (out-Pair pair).line (text_of (out-Pair pair).value) l

bounded-snoc : (endpoints : List Endpoint) (endpoint : Endpoint) → AreBounded endpoints → IsBounded endpoint → AreBounded (endpoints ++ endpoint ∷ [])
bounded-snoc [] endpoint all is = (is, tt)
bounded-snoc (e ∷ es) endpoint all is = (all.0, bounded-snoc es endpoint all.1 is)

bounded-part : (m : Module) (kind : Kind) (pairs : List Pair) → AreBounded m.endpoints → AreBounded (with_part m (part_of kind pairs)).endpoints
unfolding with_part part_of
bounded-part m kinds.Endpoint pairs all =
    bounded-snoc m.endpoints (endpoint_of pairs) all
    (value-most (codes "attempts") 1 100 3 pairs (omega arith), value-most (codes "maxBatchBytes") 64 8388608 4194304 pairs (omega arith))
bounded-part m kinds.Ingress pairs all = all
bounded-part m kinds.Egress pairs all = all

bounded-documents : (m : Module) (nodes : List Node) → AreBounded m.endpoints → AreBounded (with_documents m nodes).endpoints
bounded-documents m [] all = all
bounded-documents m (node ∷ nodes) all = bounded-documents (with_part m (part_at node)) nodes (bounded-part m (kind_at node) (spec_pairs node) all)

by_refusal : (nodes : List Node) (job : Module) (o : Option Refused) → module_by nodes o ≡ Ok job → AreBounded job.endpoints
by_refusal nodes job None e = let h : with_documents no_module nodes ≡ job = cc in subst (λ (m : Module). AreBounded m.endpoints) h (bounded-documents no_module nodes tt)
by_refusal nodes job (Some refusal) e = absurd cc

of_module : (r : Result (List Node) documents.Refused) (job : Module) → module_of r ≡ Ok job → AreBounded job.endpoints
of_module (Ok nodes) job e = by_refusal nodes job (refusal_of nodes) e
of_module (Err (document, refusal)) job e = absurd cc

bounded : (bytes : List ℕ) (job : Module) → module_in bytes ≡ Ok job → AreBounded job.endpoints
unfolding module_in
bounded bytes job e = of_module (documents.read bytes) job e

pub bounded_if_ok : {E : Type 0} (bytes : List ℕ) (r : Result Module E) → IfOk r (λ job. module_in bytes ≡ Ok job) → IfOk r (λ job. AreBounded job.endpoints)
bounded_if_ok bytes (Ok job) e = bounded bytes job e
bounded_if_ok bytes (Err f) e = tt

-- Routes can be made of the module of a file that is not refused.
use Rattle.std.proofs.Common.{◌≡◌, ◌∙◌, ap, subst, refl, ℕ, ◌+◌, ◌<◌, ◌≤◌, Bool, true, false, not, List, [], ◌∷◌, ◌++◌, length, map, arith, Option, Some, None, cond}
use Rattle.std.specs.Prelude.{◌&&◌, ◌||◌, ◌==◌, nat_lt, nat_le, codes, slice_index, is_some, unwrap_or, option_and_then, IsTrue, IfOk, Result, Ok, Err}
use Rattle.std.specs.Option.{option_map_or}
use Rattle.std.specs.List.{list_any, list_all}
use Rattle.std.specs.Str.{all_ascii_digits}
use Rattle.std.specs.Str.Parse.{digits_value}
use Rattle.std.proofs.lemmas.Bool.{true≢false, false≢true, and_from, lt-ltb, le-leb, leb-true, ltb-true, ltb-false}
use Rattle.std.proofs.lemmas.List.{length-append, map-append}
use Rattle.std.proofs.lemmas.List.Folds.{list_any-append, list_all-append}
use Rattle.proto_wire.specs.declared.module_kind.ModuleKind.TheVariants.{NoEndpoint, NoIngress}
use Rattle.typed_values.specs.declared.name.TypeName.{TypeName}
use Rattle.typed_values.specs.Pattern.{same_pattern}
use Rattle.typed_values.specs.Sameness.{same_name}
use Rattle.address_routing.specs.declared.module.Module.{Module}
use Rattle.address_routing.specs.declared.module.Endpoint.{Endpoint}
use Rattle.address_routing.specs.declared.module.IngressSpec.{IngressSpec}
use Rattle.address_routing.specs.Routing.{all_apart, endpoint_of, is_served, is_usable, is_routable, splits_in}
use Rattle.yaml_block.specs.declared.node.Node.{Node, out-Node}
use Rattle.yaml_block.specs.declared.node.Pair.{Pair, out-Pair}
use Rattle.yaml_block.specs.Documents as documents
use Rattle.module_yaml.specs.declared.fault.Refusal.{Refusal}
use Rattle.module_yaml.specs.declared.keys.Kind.{Kind}
use Rattle.module_yaml.specs.declared.keys.Kind.TheVariants as kinds
use Rattle.module_yaml.specs.declared.part.Part.{Part}
use Rattle.module_yaml.specs.declared.part.Part.TheVariants as part
use Rattle.module_yaml.specs.Nodes.{text_of, items_of}
use Rattle.module_yaml.specs.Mappings.{◌orElse◌, pair_of, pairs_under, refused, value, value_or, mapping_refusal}
use Rattle.module_yaml.specs.Values.{bad, number_in, number_within, scalar, or_bad, target_of, targets_of, and_target, some_targets, targets_at}
use Rattle.module_yaml.specs.Keys.{number, endpoint_of as endpoint_by, ingress_of, targets, document_keys, spec_keys, part_of}
use Rattle.module_yaml.specs.Files.{Refused, kind_at, spec_at, spec_pairs, part_at, with_part, duplicate, too_many, line_under, target_items, document_refusal, is_item_served, first_unserved, unserved, unserved_by, in_document, no_module, with_documents, first_refused, first_target, refusal_of, module_by, module_of, module_in}

-- ---- lists without repetition

and-left : (a b : Bool) → (a && b) ≡ true → a ≡ true
and-left true b e = refl
and-left false b e = absurd (false≢true e)

and-right : (a b : Bool) → (a && b) ≡ true → b ≡ true
and-right true b e = e
and-right false b e = absurd (false≢true e)

or-left : (a b : Bool) → (a || b) ≡ false → a ≡ false
or-left false b e = refl
or-left true b e = absurd (true≢false e)

or-right : (a b : Bool) → (a || b) ≡ false → b ≡ false
or-right false b e = e
or-right true b e = absurd (true≢false e)

not-either : (a b : Bool) → not a ≡ true → b ≡ false → not (a || (b || false)) ≡ true
not-either false false e h = refl
not-either false true e h = absurd (true≢false h)
not-either true b e h = absurd (false≢true e)

-- one item more, which none of the list is the same as
apart-behind : {A : Type 0} (same : A → A → Bool) (xs : List A) (x : A) → all_apart same xs ≡ true → list_any (λ other. same other x) xs ≡ false → all_apart same (xs ++ x ∷ []) ≡ true
apart-behind same [] x apart new = refl
apart-behind same (y ∷ xs) x apart new =
    let first = and-left (not (list_any (same y) xs)) (all_apart same xs) apart in
    let rest = and-right (not (list_any (same y) xs)) (all_apart same xs) apart in
    let other = or-left (same y x) (list_any (λ other. same other x) xs) new in
    let others = or-right (same y x) (list_any (λ other. same other x) xs) new in
    and_from (not (list_any (same y) (xs ++ x ∷ []))) (all_apart same (xs ++ x ∷ []))
    (ap not (list_any-append (same y) xs (x ∷ [])) ∙ not-either (list_any (same y) xs) (same y x) first other)
    (apart-behind same xs x rest others)

any-map : {A B : Type 0} (test : B → Bool) (f : A → B) (xs : List A) → list_any test (map f xs) ≡ list_any (λ x. test (f x)) xs
any-map test f [] = refl
any-map test f (x ∷ xs) = ap (λ b. test (f x) || b) (any-map test f xs)

apart-more : {A B : Type 0} (same : B → B → Bool) (f : A → B) (xs : List A) (x : A) → all_apart same (map f xs) ≡ true → list_any (λ other. same (f other) (f x)) xs ≡ false → all_apart same (map f (xs ++ x ∷ [])) ≡ true
apart-more same f xs x apart new =
    ap (all_apart same) (map-append f xs (x ∷ []))
    ∙ apart-behind same (map f xs) (f x) apart (any-map (λ other. same other (f x)) f xs ∙ new)

all-behind : {A : Type 0} (test : A → Bool) (xs : List A) (x : A) → list_all test xs ≡ true → test x ≡ true → list_all test (xs ++ x ∷ []) ≡ true
all-behind test xs x e f = list_all-append test xs (x ∷ []) ∙ and_from (list_all test xs) (test x && true) e (and_from (test x) true f refl)

splits-behind : (xs : List IngressSpec) (x : IngressSpec) → splits_in (xs ++ x ∷ []) ≡ splits_in xs + x.splits
splits-behind [] x = omega arith
splits-behind (y ∷ xs) x = let e = splits-behind xs x in omega arith

-- ---- a number under a key is not 0

within-some : (least most n default line : ℕ) → 1 ≤ least → 1 ≤ default → 1 ≤ value_or default (or_bad line (number_within least most n))
within-some least most n default line some given = go (nat_le least n) (nat_le n most) refl
  where
    go : (a b : Bool) → nat_le least n ≡ a → 1 ≤ value_or default (or_bad line (cond (a && b) (Some n) None))
    go true true e = omega (arith, leb-true least n e)
    go true false e = given
    go false b e = given

number-some : (least most default line : ℕ) (text : List ℕ) → 1 ≤ least → 1 ≤ default → 1 ≤ value_or default (or_bad line (number_in least most text))
unfolding number_in
number-some least most default line text some given = go (all_ascii_digits text && not (slice_index text 0 == 48))
  where
    go : (b : Bool) → 1 ≤ value_or default (or_bad line (cond b (number_within least most (digits_value 10 text)) None))
    go true = within-some least most (digits_value 10 text) default line some given
    go false = given

value-some : (name : List ℕ) (least most default : ℕ) (pairs : List Pair) → 1 ≤ least → 1 ≤ default → 1 ≤ value (number name least most default) pairs
value-some name least most default pairs some given = go (pair_of name pairs)
  where
    text : (line : ℕ) (o : Option (List ℕ)) → 1 ≤ value_or default (or_bad line (option_and_then (number_in least most) o))
    text line None = given
    text line (Some bytes) = number-some least most default line bytes some given

    go : (o : Option Pair) → 1 ≤ value_or default (option_map_or (scalar (number_in least most)) o (Ok default))
    go None = given
    go (Some pair) = text (out-Pair pair).line (text_of (out-Pair pair).value)

-- ---- a part by itself

abbrev IsSound : Part → Type 0
IsSound (part.Endpoint endpoint) = is_usable endpoint ≡ true
IsSound (part.Ingress ingress) = 1 ≤ ingress.splits
IsSound (part.Egress name) = Unit {0}

usable-by : (endpoint : Endpoint) → 1 ≤ endpoint.max_letters → 1 ≤ endpoint.attempts → 1 ≤ endpoint.patience → is_usable endpoint ≡ true
usable-by endpoint a b c = λ i. lt-ltb 0 endpoint.max_letters a i && lt-ltb 0 endpoint.attempts b i && lt-ltb 0 endpoint.patience c i

sound-part : (k : Kind) (pairs : List Pair) → IsSound (part_of k pairs)
unfolding part_of
sound-part kinds.Endpoint pairs = usable-by (endpoint_by pairs)
    (value-some (codes "maxNumBatchRequests") 1 65536 1000 pairs (omega arith) (omega arith))
    (value-some (codes "attempts") 1 100 3 pairs (omega arith) (omega arith))
    (value-some (codes "patience") 1 1000000 1000 pairs (omega arith) (omega arith))
sound-part kinds.Ingress pairs = value-some (codes "splits") 1 32 1 pairs (omega arith) (omega arith)
sound-part kinds.Egress pairs = tt

-- ---- refusals that there are not

or_else-none : {A : Type 0} (a b : Option A) → (a orElse b) ≡ None → (a ≡ None) × (b ≡ None)
or_else-none None b e = (refl, e)
or_else-none (Some x) b e = absurd cc

cond-none : {A : Type 0} (b : Bool) (x : A) → cond b (Some x) None ≡ None → b ≡ false
cond-none false x e = refl
cond-none true x e = absurd cc

none-cond : {A : Type 0} (b : Bool) (x : A) → cond b None (Some x) ≡ None → b ≡ true
none-cond true x e = refl
none-cond false x e = absurd cc

in_document-none : (number : ℕ) (o : Option Refusal) → in_document number o ≡ None → o ≡ None
in_document-none number None e = refl
in_document-none number (Some r) e = absurd cc

-- ---- a module so far: all but that its targets have endpoints

record Fits (m : Module) : Type 0 where
  pub patterns : all_apart same_pattern (map (λ (endpoint : Endpoint). endpoint.pattern) m.endpoints) ≡ true
  pub ids : all_apart same_name (map (λ (ingress : IngressSpec). ingress.id) m.ingresses) ≡ true
  pub egresses : all_apart same_name m.egresses ≡ true
  pub usable : list_all is_usable m.endpoints ≡ true
  pub some : length m.ingresses ≤ splits_in m.ingresses
  pub few : splits_in m.ingresses ≤ 32

fits-more : (m : Module) (p : Part) (line : ℕ) (pairs : List Pair) → Fits m → IsSound p → duplicate m p pairs ≡ None → too_many m line p pairs ≡ None → Fits (with_part m p)
unfolding duplicate too_many with_part
fits-more m (part.Endpoint endpoint) line pairs fits sound new few = record {
  patterns = apart-more same_pattern (λ (e : Endpoint). e.pattern) m.endpoints endpoint fits.patterns (cond-none _ _ new);
  ids = fits.ids;
  egresses = fits.egresses;
  usable = all-behind is_usable m.endpoints endpoint fits.usable sound;
  some = fits.some;
  few = fits.few;
}
fits-more m (part.Ingress ingress) line pairs fits sound new few =
    let k = ltb-false 32 (splits_in m.ingresses + ingress.splits) (cond-none _ _ (or_else-none _ _ few).0) in
    let s = splits-behind m.ingresses ingress in
    let l = length-append m.ingresses (ingress ∷ []) in
    record {
      patterns = fits.patterns;
      ids = apart-more same_name (λ (i : IngressSpec). i.id) m.ingresses ingress fits.ids (cond-none _ _ new);
      egresses = fits.egresses;
      usable = fits.usable;
      some = omega (arith, fits.some);
      few = omega arith;
    }
fits-more m (part.Egress name) line pairs fits sound new few = record {
  patterns = fits.patterns;
  ids = fits.ids;
  egresses = apart-behind same_name m.egresses name fits.egresses (cond-none _ _ new);
  usable = fits.usable;
  some = fits.some;
  few = fits.few;
}

fits-node : (m : Module) (node : Node) → Fits m → document_refusal m node ≡ None → Fits (with_part m (part_at node))
fits-node m node fits none =
    let keys = or_else-none (mapping_refusal document_keys node) _ none in
    let values = or_else-none (mapping_refusal (spec_keys (kind_at node)) (spec_at node)) _ keys.1 in
    let goes = or_else-none (duplicate m (part_at node) (spec_pairs node)) _ values.1 in
    fits-more m (part_at node) (line_under (codes "kind") (pairs_under node) 0) (spec_pairs node) fits (sound-part (kind_at node) (spec_pairs node)) goes.0 goes.1

fits-documents : (number : ℕ) (m : Module) (nodes : List Node) → Fits m → first_refused number m nodes ≡ None → Fits (with_documents m nodes)
fits-documents number m [] fits none = fits
fits-documents number m (node ∷ nodes) fits none =
    let both = or_else-none (in_document number (document_refusal m node)) _ none in
    fits-documents (number + 1) (with_part m (part_at node)) nodes (fits-node m node fits (in_document-none number (document_refusal m node) both.0)) both.1

-- ---- targets have endpoints

items-served : (m : Module) (items : List Node) → first_unserved m items ≡ None → list_all (λ target. is_some (endpoint_of m target)) (value_or [] (targets_of items)) ≡ true
items-served m [] none = refl
items-served m (item ∷ items) none = go (target_of item) (targets_of items) none (items-served m items)
  where
    served : (b : Bool) (rest : Option Refusal) (line : ℕ) → cond b rest (refused line NoEndpoint) ≡ None → (b ≡ true) × (rest ≡ None)
    served true rest line e = (refl, e)
    served false rest line e = absurd cc

    go : (r : Result TypeName Refusal) (others : Result (List TypeName) Refusal) →
        cond (is_item_served m r) (first_unserved m items) (refused (out-Node item).line NoEndpoint) ≡ None →
        (first_unserved m items ≡ None → list_all (λ target. is_some (endpoint_of m target)) (value_or [] others) ≡ true) →
        list_all (λ target. is_some (endpoint_of m target)) (value_or [] (and_target r others)) ≡ true
    go (Err refusal) others e rest = refl
    go (Ok name) (Err refusal) e rest = refl
    go (Ok name) (Ok names) e rest =
        let both = served (is_some (endpoint_of m name)) (first_unserved m items) (out-Node item).line e in
        and_from (is_some (endpoint_of m name)) _ both.0 (rest both.1)

targets-served : (m : Module) (pairs : List Pair) → first_unserved m (target_items pairs) ≡ None → list_all (λ target. is_some (endpoint_of m target)) (value targets pairs) ≡ true
targets-served m pairs none = go (pair_of (codes "targets") pairs) none
  where
    each : (line : ℕ) (o : Option (List Node)) → first_unserved m (unwrap_or o []) ≡ None →
        list_all (λ target. is_some (endpoint_of m target)) (value_or [] (option_map_or (some_targets line) o (bad line))) ≡ true
    each line None e = refl
    each line (Some []) e = refl
    each line (Some (item ∷ items)) e = items-served m (item ∷ items) e

    go : (o : Option Pair) → first_unserved m (option_map_or (λ pair. unwrap_or (items_of (out-Pair pair).value) []) o []) ≡ None →
        list_all (λ target. is_some (endpoint_of m target)) (value_or [] (option_map_or targets_at o (Ok []))) ≡ true
    go None e = refl
    go (Some pair) e = each (out-Pair pair).line (items_of (out-Pair pair).value) e

served-part : (whole m : Module) (k : Kind) (pairs : List Pair) → unserved_by whole k pairs ≡ None → list_all (is_served whole) m.ingresses ≡ true → list_all (is_served whole) (with_part m (part_of k pairs)).ingresses ≡ true
unfolding with_part part_of
served-part whole m kinds.Endpoint pairs none served = served
served-part whole m kinds.Ingress pairs none served = all-behind (is_served whole) m.ingresses (ingress_of pairs) served (targets-served whole pairs none)
served-part whole m kinds.Egress pairs none served = served

served-documents : (whole : Module) (number : ℕ) (m : Module) (nodes : List Node) → first_target number whole nodes ≡ None → list_all (is_served whole) m.ingresses ≡ true → list_all (is_served whole) (with_documents m nodes).ingresses ≡ true
served-documents whole number m [] none served = served
served-documents whole number m (node ∷ nodes) none served =
    let both = or_else-none (in_document number (unserved whole node)) _ none in
    let here = in_document-none number (unserved whole node) both.0 in
    served-documents whole (number + 1) (with_part m (part_at node)) nodes both.1 (served-part whole m (kind_at node) (spec_pairs node) here served)

-- ---- a whole file

all-hold : (m : Module) → Fits m → list_all (is_served m) m.ingresses ≡ true → 0 < length m.ingresses → is_routable m ≡ true
all-hold m fits served some =
    let more : 0 < splits_in m.ingresses = omega (arith, fits.some) in
    let least = lt-ltb 0 (splits_in m.ingresses) more in
    let most = le-leb (splits_in m.ingresses) 32 fits.few in
    λ i. fits.patterns i && fits.ids i && fits.egresses i && fits.usable i && served i && least i && most i

no-refusal : (nodes : List Node) → refusal_of nodes ≡ None → is_routable (with_documents no_module nodes) ≡ true
unfolding refusal_of
no-refusal nodes none =
    let m = with_documents no_module nodes in
    let one = or_else-none (first_refused 1 no_module nodes) _ none in
    let two = or_else-none (first_target 1 m nodes) _ one.1 in
    let some = ltb-true 0 (length m.ingresses) (none-cond (nat_lt 0 (length m.ingresses)) (0, record { line = 0; kind = NoIngress }) two.1) in
    let fits = fits-documents 1 no_module nodes (record { patterns = refl; ids = refl; egresses = refl; usable = refl; some = omega arith; few = omega arith }) one.0 in
    all-hold m fits (served-documents m 1 no_module nodes two.0 refl) some

by_refusal : (nodes : List Node) (job : Module) (o : Option Refused) → refusal_of nodes ≡ o → module_by nodes o ≡ Ok job → is_routable job ≡ true
by_refusal nodes job None none e = let h : with_documents no_module nodes ≡ job = cc in subst (λ (m : Module). is_routable m ≡ true) h (no-refusal nodes none)
by_refusal nodes job (Some refusal) none e = absurd cc

of_module : (r : Result (List Node) documents.Refused) (job : Module) → module_of r ≡ Ok job → is_routable job ≡ true
of_module (Ok nodes) job e = by_refusal nodes job (refusal_of nodes) refl e
of_module (Err (document, refusal)) job e = absurd cc

-- what a file means, if it is not refused, has its routes
routable : (bytes : List ℕ) (job : Module) → module_in bytes ≡ Ok job → is_routable job ≡ true
unfolding module_in
routable bytes job e = of_module (documents.read bytes) job e

pub routable_if_ok : {E : Type 0} (bytes : List ℕ) (r : Result Module E) → IfOk r (λ job. module_in bytes ≡ Ok job) → IfOk r (λ job. IsTrue (is_routable job))
routable_if_ok bytes (Ok job) e = routable bytes job e
routable_if_ok bytes (Err f) e = tt

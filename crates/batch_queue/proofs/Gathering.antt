-- The letters of all boxes in order of their addresses' spellings.
use Rattle.std.proofs.Common.{◌≡◌, ◌∙◌, sym, ap, subst, refl, ℕ, Bool, true, false, List, [], ◌∷◌, map, filter, flat_map, get_or, set, Option, Some, None, IsPermutation, zero, suc}
use Rattle.std.specs.Prelude.{IsSorted}
use Rattle.std.specs.List.{AllByRecursion, IsDistinct, swap, list_all}
use Rattle.std.specs.List.Sorted.{IsSortedBy, apply_swaps, SwapsInRange}
use Rattle.std.specs.declared.cmp.Ordering.{Ordering}
use Rattle.std.specs.declared.cmp.Ordering.TheVariants.{Less, Equal, Greater}
use Rattle.std.specs.Ordering.{is_eq, is_lt, nat_cmp, eq_by_cmp}
use Rattle.std.specs.Cmp.{first_so, second_so, eq_by_cmp_equiv}
use Rattle.std.specs.Cmp.Lexicographic.{slice_cmp}
use Rattle.std.specs.BTreeMap.{BTreeMap, IsOrdered, is_at}
use Rattle.std.specs.Map.{lookup, keys_of}
use Rattle.std.specs.Option.{option_map_or}
use Rattle.std.proofs.lemmas.Cmp.{nat_list_cmp_total}
use Rattle.std.proofs.lemmas.List.{map-set, length-map}
use Rattle.std.proofs.lemmas.List.Elements.{All-from_recursion, recursion_from_All, All-weaker}
use Rattle.std.proofs.lemmas.List.Folds.{flat_map-map}
use Rattle.std.proofs.lemmas.List.Sorted.{ranks_by, All-permutation, Contains-permutation, IsPermutation-map}
use Rattle.std.proofs.lemmas.Map.{lookup-none, none_passes_from_lookup}
use Rattle.std.proofs.lemmas.Map.Entries.{none_past_head}
use Rattle.std.proofs.lemmas.Map.Keys.{IsDistinct-from_sorted, IsDistinct-tail, IsDistinct-IsPermutation}
use Rattle.std.proofs.lemmas.Map.Views.{All-found, Contains-from_lookup, lookup-from_Contains}
use Rattle.typed_values.specs.declared.address.Address.{Address}
use Rattle.typed_values.specs.declared.letter.Letter.{Letter}
use Rattle.typed_values.specs.Sameness.{same_address}
use Rattle.typed_values.proofs.Sameness.{same_address-Decides}
use Rattle.typed_values.specs.Spelling.{address_spelling}
use Rattle.batch_queue.specs.Boxes.{Waiting}
use Rattle.batch_queue.specs.Lines.{InLine}
use Rattle.batch_queue.specs.Post.{IsAll}
use Rattle.batch_queue.specs.Kept.{IsKept, address_order, post_of}
use Rattle.batch_queue.specs.declared.mail.Gathered.{Gathered}
use Rattle.batch_queue.proofs.Addresses.{addresses_total, exact_addresses, address_test}
use Rattle.batch_queue.proofs.Spreading.{PassesOnce, one_found, Rises, rises_sorted, rises_mapped, mapped_rises, sorted_rises, parts_rise}

-- what is gathered of a box
abbrev pub part : Address × Waiting → Gathered
part entry = record { key = address_spelling entry.0; letters = entry.1.letters }

-- ---- an order of what is mapped is one of what it was mapped from

module _ {X Y : Type 0} (f : X → Y) where
  map_swap : (xs : List X) (i j : ℕ) → map f (swap xs i j) ≡ swap (map f xs) i j
  map_swap [] i j = refl
  map_swap (d ∷ ys) i j =
      map-set f (set (d ∷ ys) i (get_or (d ∷ ys) j d)) j (get_or (d ∷ ys) i d)
      ∙ (λ k. set ((map-set f (d ∷ ys) i (get_or (d ∷ ys) j d) ∙ ap (set (map f (d ∷ ys)) i) (sym (got (d ∷ ys) j d))) k) j (sym (got (d ∷ ys) i d) k))
    where
      got : (xs : List X) (i : ℕ) (d : X) → get_or (map f xs) i (f d) ≡ f (get_or xs i d)
      got [] i d = refl
      got (x ∷ xs) zero d = refl
      got (x ∷ xs) (suc i) d = got xs i d

  map_swaps : (xs : List X) (ps : List (ℕ × ℕ)) → map f (apply_swaps xs ps) ≡ apply_swaps (map f xs) ps
  map_swaps xs [] = refl
  map_swaps xs (p ∷ ps) = map_swap (apply_swaps xs ps) p.0 p.1 ∙ ap (λ l. swap l p.0 p.1) (map_swaps xs ps)

  pub unmapped : (xs : List X) (ys : List Y) → IsPermutation (map f xs) ys → (zs : List X) × IsPermutation xs zs × (ys ≡ map f zs)
  unmapped xs ys moved = (
    apply_swaps xs moved.moves,
    record { moves = moved.moves; below = subst (λ n. SwapsInRange n moved.moves) (length-map xs f) moved.below; is = refl },
    moved.is ∙ sym (map_swaps xs moved.moves),
  )

-- ---- boxes in any order

is_equal : (o : Ordering) → is_eq o ≡ true → o ≡ Equal
is_equal Less e = absurd cc
is_equal Equal e = refl
is_equal Greater e = absurd cc

exact : (x y : Address) → is_eq (address_order x y) ≡ true → x ≡ y
exact x y e = exact_addresses x y (is_equal (address_order x y) e)

module _ {X : Type 0} (es fs : List (Address × X)) (moved : IsPermutation es fs) (apart : IsDistinct (eq_by_cmp address_order) (keys_of fs)) where
  pub same_found : (a : Address) → lookup (is_at (address_order a)) fs ≡ lookup (is_at (address_order a)) es
  same_found a = split (lookup (is_at (address_order a)) es) refl
    where
      fails : Address × X → Type 0
      fails e = is_at (address_order a) e.0 ≡ false

      split : (r : Option X) → lookup (is_at (address_order a)) es ≡ r → lookup (is_at (address_order a)) fs ≡ r
      split None none =
          lookup-none (is_at (address_order a)) fs
          (recursion_from_All fails fs (All-permutation fails es fs moved (All-from_recursion fails es (none_passes_from_lookup (is_at (address_order a)) es none))))
      split (Some v) some =
          let there = Contains-from_lookup exact a v es some in
          lookup-from_Contains (eq_by_cmp_equiv addresses_total) a v fs apart (Contains-permutation es fs (a, v) moved there)

once : {X : Type 0} (a : Address) (es : List (Address × X)) → IsDistinct (eq_by_cmp address_order) (keys_of es) → PassesOnce (is_at (address_order a)) es
once a [] apart = tt
once a (e ∷ es) apart = (none_past_head (eq_by_cmp_equiv addresses_total) a e es apart, once a es (IsDistinct-tail (eq_by_cmp address_order) e.0 (keys_of es) apart))

abbrev Owns : Address × Waiting → Type 0
Owns e = AllByRecursion (λ (letter : Letter). letter.target ≡ e.0) e.1.letters

owned_letters : (a : Address) (letters : List Letter) → list_all (λ letter. same_address a letter.target) letters ≡ true → AllByRecursion (λ (letter : Letter). letter.target ≡ a) letters
owned_letters a [] h = tt
owned_letters a (l ∷ ls) h =
    (sym ((same_address-Decides a l.target).0 (first_so (same_address a l.target) _ h)), owned_letters a ls (second_so (same_address a l.target) _ h))

tested : (a : Address) (b : Address) (letters : List Letter) → AllByRecursion (λ (letter : Letter). letter.target ≡ b) letters
    → AllByRecursion (λ (letter : Letter). same_address a letter.target ≡ is_at (address_order a) b) letters
tested a b [] h = tt
tested a b (l ∷ ls) h = (ap (same_address a) h.0 ∙ sym (address_test a b), tested a b ls h.1)

spelled : (b : Address) (letters : List Letter) → AllByRecursion (λ (letter : Letter). letter.target ≡ b) letters
    → AllByRecursion (λ (letter : Letter). address_spelling letter.target ≡ address_spelling b) letters
spelled b [] h = tt
spelled b (l ∷ ls) h = (ap address_spelling h.0, spelled b ls h.1)

weaker : {X : Type 0} (P Q : X → Type 0) → ((x : X) → P x → Q x) → (xs : List X) → AllByRecursion P xs → AllByRecursion Q xs
weaker P Q f [] h = tt
weaker P Q f (x ∷ xs) h = (f x h.0, weaker P Q f xs h.1)

abbrev bytes_lt : List ℕ → List ℕ → Bool
bytes_lt x y = is_lt (slice_cmp nat_cmp x y)

-- the boxes in the order of their spellings give all letters
pub all_letters : (boxes : BTreeMap Address Waiting) (names : List Address) (line : InLine)
    → IsKept (record { boxes = boxes.entries; names = names; line = line })
    → IsOrdered address_order boxes
    → (all : List Gathered) → IsPermutation (map part boxes.entries) all
    → IsSortedBy (λ x y. is_lt (slice_cmp nat_cmp x.key y.key)) all
    → IsAll (post_of (record { boxes = boxes.entries; names = names; line = line })) (flat_map (λ (one : Gathered). one.letters) all)
all_letters boxes names line kept ordered all moved sorted =
    let es = boxes.entries in
    let un = unmapped part es all moved in
    let fs = un.0 in
    let apart = IsDistinct-IsPermutation (eq_by_cmp address_order) (eq_by_cmp_equiv addresses_total).symm (keys_of es) (keys_of fs)
    (IsPermutation-map (λ (e : Address × Waiting). e.0) es fs un.1) (IsDistinct-from_sorted address_order (keys_of es) ordered) in
    let owns : AllByRecursion Owns fs = recursion_from_All Owns fs (All-permutation Owns es fs un.1
    (All-weaker _ Owns (λ e found. owned_letters e.0 e.1.letters (kept.boxed e.0 e.1 found).owned) es (All-found addresses_total boxes ordered))) in
    let letters : flat_map (λ (one : Gathered). one.letters) all ≡ flat_map (λ (e : Address × Waiting). e.1.letters) fs =
    ap (flat_map (λ (one : Gathered). one.letters)) un.2 ∙ flat_map-map (λ (one : Gathered). one.letters) part fs in
    let order = ranks_by nat_list_cmp_total (λ (k : List ℕ). k) in
    let keyed = ranks_by nat_list_cmp_total (λ (one : Gathered). one.key) in
    let rises : Rises (λ x y. bytes_lt (part x).key (part y).key) fs = rises_mapped part (λ (x y : Gathered). bytes_lt x.key y.key) fs
    (subst (Rises (λ (x y : Gathered). bytes_lt x.key y.key)) un.2 (rises_sorted (λ (x y : Gathered). bytes_lt x.key y.key) keyed all sorted)) in
    record {
      of_each = λ a. ap (filter (λ letter. same_address a letter.target)) letters
          ∙ one_found (is_at (address_order a)) (λ (box : Waiting). box.letters) (λ letter. same_address a letter.target) fs (once a fs apart)
          (weaker Owns _ (λ e. tested a e.0 e.1.letters) fs owns)
          ∙ ap (λ found. option_map_or (λ (box : Waiting). box.letters) found []) (same_found es fs un.1 apart a);
      in_order = subst (λ ls. IsSorted (slice_cmp nat_cmp) (map (λ letter. address_spelling letter.target) ls)) (sym letters)
          (sorted_rises bytes_lt _ (mapped_rises (λ (letter : Letter). address_spelling letter.target) bytes_lt _
          (parts_rise bytes_lt order (λ (e : Address × Waiting). address_spelling e.0) (λ (e : Address × Waiting). e.1.letters) (λ (letter : Letter). address_spelling letter.target) fs rises
          (weaker Owns _ (λ e. spelled e.0 e.1.letters) fs owns))));
    }

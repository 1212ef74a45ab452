-- What a block is, piece by piece.
use Rattle.std.proofs.Common.{◌≡◌, ℕ, ◌+◌, ◌≤◌, ◌<◌, Bool, true, false, cond, List, [], ◌∷◌, ◌++◌, length, if◌then◌else◌, Option, Some, None, Result, Ok, Err, refl, sym, ap, subst, ◌∙◌, append_assoc, arith}
use Rattle.std.proofs.lemmas.List.{append-nil}
use Rattle.std.specs.List.{list_any}
use Rattle.std.specs.Str.{bytes_eq}
use Rattle.proto_wire.specs.declared.module_kind.ModuleKind.{ModuleKind}
use Rattle.proto_wire.specs.declared.module_kind.ModuleKind.TheVariants.{DuplicateKey}
use Rattle.yaml_block.specs.declared.piece.Piece.{Piece}
use Rattle.yaml_block.specs.declared.piece.Head.{Head}
use Rattle.yaml_block.specs.declared.piece.Head.TheVariants as head
use Rattle.yaml_block.specs.declared.piece.Inline.{Inline}
use Rattle.yaml_block.specs.declared.piece.Inline.TheVariants as inline
use Rattle.yaml_block.specs.declared.piece.Bound.{Bound}
use Rattle.yaml_block.specs.declared.piece.Block.{Block}
use Rattle.yaml_block.specs.declared.piece.BlockKind.{BlockKind}
use Rattle.yaml_block.specs.declared.piece.BlockKind.TheVariants.{Sequence}
use Rattle.yaml_block.specs.declared.fault.Refusal.{Refusal}
use Rattle.yaml_block.specs.declared.fault.BlockFault.{BlockFault}
use Rattle.yaml_block.specs.declared.fault.BlockFault.TheVariants as fault
use Rattle.yaml_block.specs.declared.node.Node.{Node}
use Rattle.yaml_block.specs.Layout.{Forest, none, grown, lies_in, below}
use Rattle.yaml_block.specs.Trees.{refusal, wrong, misfit, at_line, opened, no_block, block_of, block_below, goes_on, and_key, repeated, unreadable, unreadable_value, ◌orElse◌, block, items, pairs, pair, scalar, sequence, mapping, by_head, entry, key_of, value_of}
use Rattle.yaml_block.specs.Steps.{Fails, unless, rest, next_in, trees_in, read_as, read_block, read_value, read_nothing, misplaced_kind, HasInline}
use Rattle.yaml_block.proofs.Below.{no_next, is_next, trees_next, rest_next}

infixl 10 ◌andThen◌
abbrev pub ◌andThen◌ : {A B : Type 0} → Result A Refusal → (A → Result B Refusal) → Result B Refusal
(Ok x) andThen f = f x
(Err r) andThen f = Err r

-- items or pairs in front of those that are read from here on
abbrev pub ahead : {A : Type 0} → List A → Result (List A × List Piece) Refusal → Result (List A × List Piece) Refusal
ahead front more = more andThen (λ x. Ok (front ++ x.0, x.1))

-- ---- refusals alone

or_some : {A : Type 0} (a b : Option A) (k : A) → a ≡ Some k → (a orElse b) ≡ Some k
or_some None b k e = absurd cc
or_some (Some a) b k e = e

or_none : {A : Type 0} (a b : Option A) → a ≡ None → (a orElse b) ≡ b
or_none None b e = refl
or_none (Some a) b e = absurd cc

or_assoc : {A : Type 0} (a b c : Option A) → (a orElse (b orElse c)) ≡ ((a orElse b) orElse c)
or_assoc None b c = refl
or_assoc (Some x) b c = refl

unless_some : {A : Type 0} (o : Option Refusal) (a : A) (r : Refusal) → o ≡ Some r → unless o a ≡ Err r
unless_some o a r e = ap (λ w. unless w a) e

pub unless_ok : {A : Type 0} (o : Option Refusal) (a b : A) → unless o a ≡ Ok b → (o ≡ None) × (a ≡ b)
unless_ok None a b e = (refl, cc)
unless_ok (Some r) a b e = absurd cc

-- one refusal, and then another, with what stands behind the first
unless_or : {A B : Type 0} (o : Option Refusal) (a : A) (q : A → Option Refusal) (f : A → B) → unless (o orElse q a) (f a) ≡ (unless o a andThen (λ x. unless (q x) (f x)))
unless_or None a q f = refl
unless_or (Some r) a q f = refl

unless_map : {A B : Type 0} (o : Option Refusal) (a : A) (f : A → B) → unless o (f a) ≡ (unless o a andThen (λ x. Ok (f x)))
unless_map None a f = refl
unless_map (Some r) a f = refl

then_then : {A B C : Type 0} (r : Result A Refusal) (f : A → Result B Refusal) (g : B → Result C Refusal) → (r andThen f andThen g) ≡ (r andThen (λ x. f x andThen g))
then_then (Ok x) f g = refl
then_then (Err e) f g = refl

-- ---- a piece that is refused

refused_piece : (level : ℕ) (home : Block) (keys : List (List ℕ)) (p : Piece) (k : ModuleKind) (under after : Forest)
    → (misfit level home p orElse (repeated keys p.head orElse unreadable_value p.head)) ≡ Some k → refusal level home keys (grown p under after) ≡ Some (record { line = p.line; kind = k })
refused_piece level home keys p k under after e = or_some _ _ _ (ap (at_line p.line) e)

-- a piece that fits has no refusal but for its key and its value
fitting : (level : ℕ) (home : Block) (keys : List (List ℕ)) (p : Piece) (others : Option Refusal) → misfit level home p ≡ None
    → (wrong level home keys p orElse others) ≡ (at_line p.line (repeated keys p.head orElse unreadable_value p.head) orElse others)
fitting level home keys p others m = ap (λ w. at_line p.line w orElse others) (or_none _ _ m)

-- ---- where no piece may stand

unwanted : (level line column : ℕ) (h : Head) (x : Option ModuleKind) → (misfit level no_block (record { line = line; column = column; head = h }) orElse x) ≡ Some (misplaced_kind h)
unwanted level line column head.Item x = refl
unwanted level line column (head.Entry _ _) x = refl
unwanted level line column (head.Scalar _) x = refl
unwanted level line column (head.Refused _) x = refl

pub nothing_there : (b : Bound) (ps : List Piece) → None ≡ next_in b ps → read_nothing b ps ≡ Ok tt
unfolding read_nothing
nothing_there b [] e = refl
nothing_there b (p ∷ ps) e =
    let P : Bool → Type 0 = λ v. ◌≡◌ {A = Option (Piece × List Piece)} None (cond v (Some (p, ps)) None) → ◌≡◌ {A = Result (Unit {0}) Refusal} (cond v (Err (record { line = p.line; kind = misplaced_kind p.head })) (Ok tt)) (Ok tt) in
    elim (lies_in b p) as P [ true ↦ (λ e. absurd cc) | false ↦ (λ e. refl) ] e

pub something_there : (b : Bound) (ps : List Piece) (p : Piece) (qs : List Piece) → Some (p, qs) ≡ next_in b ps → read_nothing b ps ≡ Err (record { line = p.line; kind = misplaced_kind p.head })
unfolding read_nothing
something_there b ps p qs e =
    let n = is_next b ps p qs e in
    ap (read_nothing b) n.0 ∙ ap (λ v. cond v (Err (record { line = p.line; kind = misplaced_kind p.head })) (Ok tt)) n.1

-- a part of a block where no piece may stand
nothing_read : {A : Type 0} (level : ℕ) (keys : List (List ℕ)) (b : Bound) (ps : List Piece) (f : List Piece → A) → unless (refusal level no_block keys (trees_in b ps)) (f (rest b ps)) ≡ (read_nothing b ps andThen (λ _. Ok (f ps)))
nothing_read {A} level keys b ps f =
    let R : Result A Refusal = unless (refusal level no_block keys (trees_in b ps)) (f (rest b ps)) in
    let P : Option (Piece × List Piece) → Type 0 = λ o. next_in b ps ≡ o → R ≡ (read_nothing b ps andThen (λ _. Ok (f ps))) in
    elim (next_in b ps) as P [
      | None ↦ (λ e. let n = no_next b ps (sym e) in rw (n.0, n.1, nothing_there b ps (sym e)) refl)
      | Some x ↦ (λ e.
          let p = x.0 in
          rw (trees_next b ps x.0 x.1 (sym e), something_there b ps x.0 x.1 (sym e))
          (unless_some _ _ _ (refused_piece level no_block keys p (misplaced_kind p.head) _ _ (unwanted level p.line p.column p.head _))))
    ] refl

-- ---- no piece

pub read_none : {A : Type 0} (content : Forest → A) (level : ℕ) (home : Block) (keys : List (List ℕ)) (b : Bound) (ps : List Piece) → None ≡ next_in b ps → read_as content level home keys b ps ≡ Ok (content none, ps)
unfolding read_as
read_none content level home keys b ps e = let n = no_next b ps e in rw (n.0, n.1) refl

pub block_none : (level line : ℕ) (b : Bound) (ps : List Piece) → None ≡ next_in b ps → read_block level line b ps ≡ Ok (scalar line [], ps)
unfolding read_block
block_none level line b ps e = read_none (block line) level _ [] b ps e

-- ---- the next piece

-- the tree below a piece, before others
two : {A : Type 0} (o q : Option Refusal) (n : Node) (f : Node → A) (xs : List A) (s r : List Piece) (next : Node × List Piece → Result (List A × List Piece) Refusal)
    → next (n, s) ≡ ahead (f n ∷ []) (unless q (xs, r)) → unless (o orElse q) (f n ∷ xs, r) ≡ (unless o (n, s) andThen next)
two None None n f xs s r next h = sym h
two None (Some x) n f xs s r next h = sym h
two (Some x) q n f xs s r next h = refl

module _ (level : ℕ) (b : Bound) (ps : List Piece) (p : Piece) (qs : List Piece) (e : Some (p, qs) ≡ next_in b ps) where
  pub read_bad : {A : Type 0} (content : Forest → A) (home : Block) (keys : List (List ℕ)) (k : ModuleKind) → (misfit level home p orElse (repeated keys p.head orElse unreadable_value p.head)) ≡ Some k
      → read_as content level home keys b ps ≡ Err (record { line = p.line; kind = k })
  unfolding read_as
  read_bad content home keys k m = rw (trees_next b ps p qs e) (unless_some _ _ _ (refused_piece level home keys p k _ _ m))

  -- where it stands
  pub read_misfit : {A : Type 0} (content : Forest → A) (home : Block) (keys : List (List ℕ)) (k : ModuleKind) → misfit level home p ≡ Some k → read_as content level home keys b ps ≡ Err (record { line = p.line; kind = k })
  read_misfit content home keys k m = read_bad content home keys k (or_some _ _ k m)

  -- its key
  pub read_repeated : {A : Type 0} (content : Forest → A) (home : Block) (keys : List (List ℕ)) (key : List ℕ) (value : Inline) → p.head ≡ head.Entry key value → misfit level home p ≡ None → list_any (bytes_eq key) keys ≡ true
      → read_as content level home keys b ps ≡ Err (record { line = p.line; kind = DuplicateKey })
  read_repeated content home keys key value d m old =
      read_bad content home keys DuplicateKey (or_none _ _ m ∙ ap (λ (h : Head). repeated keys h orElse unreadable_value h) d ∙ ap (λ (v : Bool). (if v then Some DuplicateKey else None) orElse unreadable_value (head.Entry key value)) old)

  pub items_more : (home : Block) → p.head ≡ head.Item → misfit level home p ≡ None
      → read_as items level home [] b ps ≡ (read_block (level + 1) p.line (below p) qs andThen (λ x. ahead (x.0 ∷ []) (read_as items level home [] b x.1)))
  unfolding read_as read_block
  items_more home d m =
      let under = trees_in (below p) qs in
      let behind = rest (below p) qs in
      let after = trees_in b behind in
      let all : refusal level home [] (grown p under after) ≡ (refusal (level + 1) (opened under) [] under orElse refusal level home [] after) =
      fitting level home [] p _ m
      ∙ ap (λ (h : Head). at_line p.line (repeated [] h orElse unreadable_value h) orElse (refusal (level + 1) (block_below h under) [] under orElse refusal level (goes_on home h) (and_key [] h) after)) d in
      rw (trees_next b ps p qs e, rest_next b ps p qs e)
      (ap (λ o. unless o (items (grown p under after), rest b behind)) all
      ∙ two (refusal (level + 1) (opened under) [] under) (refusal level home [] after) (block p.line under) (λ n. n) (items after) behind (rest b behind) (λ x. ahead (x.0 ∷ []) (read_as items level home [] b x.1)) refl)

  pub pairs_more : (home : Block) (keys : List (List ℕ)) (key : List ℕ) (value : Inline) → p.head ≡ head.Entry key value → misfit level home p ≡ None → list_any (bytes_eq key) keys ≡ false
      → read_as pairs level home keys b ps ≡ (read_value level p qs andThen (λ x. ahead (pair key p.line x.0 ∷ []) (read_as pairs level home (keys ++ key ∷ []) b x.1)))
  unfolding read_as read_value
  pairs_more home keys key value d m new =
      let under = trees_in (below p) qs in
      let behind = rest (below p) qs in
      let after = trees_in b behind in
      let own : Option Refusal = at_line p.line (unreadable_value p.head) orElse refusal (level + 1) (block_below p.head under) [] under in
      let fresh : (repeated keys p.head orElse unreadable_value p.head) ≡ unreadable_value p.head =
      ap (λ (h : Head). repeated keys h orElse unreadable_value h) d ∙ ap (λ (v : Bool). (if v then Some DuplicateKey else None) orElse unreadable_value (head.Entry key value)) new ∙ sym (ap unreadable_value d) in
      let all : refusal level home keys (grown p under after) ≡ (own orElse refusal level home (keys ++ key ∷ []) after) =
      fitting level home keys p _ m
      ∙ ap (λ w. at_line p.line w orElse (refusal (level + 1) (block_below p.head under) [] under orElse refusal level (goes_on home p.head) (and_key keys p.head) after)) fresh
      ∙ ap (λ (h : Head). at_line p.line (unreadable_value p.head) orElse (refusal (level + 1) (block_below p.head under) [] under orElse refusal level (goes_on home h) (and_key keys h) after)) d
      ∙ or_assoc (at_line p.line (unreadable_value p.head)) (refusal (level + 1) (block_below p.head under) [] under) (refusal level home (keys ++ key ∷ []) after) in
      let inner : Node = value_of p.line p.head (block p.line under) in
      let named : entry p.line p.head (block p.line under) ≡ pair key p.line inner = ap (λ (h : Head). pair (key_of h) p.line inner) d in
      rw (trees_next b ps p qs e, rest_next b ps p qs e)
      (ap (λ o. unless o (pairs (grown p under after), rest b behind)) all
      ∙ ap (λ n. unless (own orElse refusal level home (keys ++ key ∷ []) after) (n ∷ pairs after, rest b behind)) named
      ∙ two own (refusal level home (keys ++ key ∷ []) after) inner (pair key p.line) (pairs after) behind (rest b behind) (λ x. ahead (pair key p.line x.0 ∷ []) (read_as pairs level home (keys ++ key ∷ []) b x.1)) refl)

  -- ---- a block, by its first piece

  first_home : opened (trees_in b ps) ≡ block_of p
  first_home = ap opened (trees_next b ps p qs e)

  pub block_misfit : (line : ℕ) (k : ModuleKind) → misfit level (block_of p) p ≡ Some k → read_block level line b ps ≡ Err (record { line = p.line; kind = k })
  unfolding read_block
  block_misfit line k m = ap (λ home. read_as (block line) level home [] b ps) first_home ∙ read_misfit (block line) (block_of p) [] k m

  pub block_items : (line : ℕ) → p.head ≡ head.Item → read_block level line b ps ≡ (read_as items level (block_of p) [] b ps andThen (λ x. Ok (sequence p.line x.0, x.1)))
  unfolding read_block read_as
  block_items line d =
      let under = trees_in (below p) qs in
      let after = trees_in b (rest (below p) qs) in
      rw (trees_next b ps p qs e)
      (ap (λ (h : Head). unless (refusal level (block_of p) [] (grown p under after)) (by_head p.line h (block p.line under) (items after) (pairs after), rest b ps)) d
      ∙ unless_map (refusal level (block_of p) [] (grown p under after)) (items (grown p under after), rest b ps) (λ x. (sequence p.line x.0, x.1)))

  pub block_pairs : (line : ℕ) (key : List ℕ) (value : Inline) → p.head ≡ head.Entry key value → read_block level line b ps ≡ (read_as pairs level (block_of p) [] b ps andThen (λ x. Ok (mapping p.line x.0, x.1)))
  unfolding read_block read_as
  block_pairs line key value d =
      let under = trees_in (below p) qs in
      let after = trees_in b (rest (below p) qs) in
      let is : by_head p.line p.head (block p.line under) (items after) (pairs after) ≡ mapping p.line (pairs (grown p under after)) =
      ap (λ (h : Head). by_head p.line h (block p.line under) (items after) (pairs after)) d ∙ ap (λ (h : Head). mapping p.line (entry p.line h (block p.line under) ∷ pairs after)) (sym d) in
      rw (trees_next b ps p qs e)
      (ap (λ (n : Node). unless (refusal level (block_of p) [] (grown p under after)) (n, rest b ps)) is
      ∙ unless_map (refusal level (block_of p) [] (grown p under after)) (pairs (grown p under after), rest b ps) (λ x. (mapping p.line x.0, x.1)))

  pub block_scalar : (line : ℕ) (text : List ℕ) → p.head ≡ head.Scalar text → misfit level (block_of p) p ≡ None
      → read_block level line b ps ≡ (read_nothing (below p) qs andThen (λ _. (read_nothing b qs andThen (λ _. Ok (scalar p.line text, qs)))))
  unfolding read_block read_as
  block_scalar line text d m =
      let under = trees_in (below p) qs in
      let behind = rest (below p) qs in
      let after = trees_in b behind in
      let all : refusal level (block_of p) [] (grown p under after) ≡ (refusal (level + 1) no_block [] under orElse refusal level no_block [] after) =
      fitting level (block_of p) [] p _ m
      ∙ ap (λ (h : Head). at_line p.line (repeated [] h orElse unreadable_value h) orElse (refusal (level + 1) (block_below h under) [] under orElse refusal level (goes_on (block_of p) h) (and_key [] h) after)) d in
      let last : List Piece → Result (Node × List Piece) Refusal = λ r. unless (refusal level no_block [] (trees_in b r)) (scalar p.line text, rest b r) in
      rw (trees_next b ps p qs e, rest_next b ps p qs e)
      (ap (λ o. unless o (by_head p.line p.head (block p.line under) (items after) (pairs after), rest b behind)) all
      ∙ ap (λ (h : Head). unless (refusal (level + 1) no_block [] under orElse refusal level no_block [] after) (by_head p.line h (block p.line under) (items after) (pairs after), rest b behind)) d
      ∙ unless_or (refusal (level + 1) no_block [] under) behind (λ r. refusal level no_block [] (trees_in b r)) (λ r. (scalar p.line text, rest b r))
      ∙ ap (λ w. w andThen last) (nothing_read (level + 1) [] (below p) qs (λ r. r))
      ∙ then_then (read_nothing (below p) qs) (λ _. Ok qs) last
      ∙ ap (λ w. read_nothing (below p) qs andThen (λ _. w)) (nothing_read level [] b qs (λ r. (scalar p.line text, r))))

-- ---- the value of an entry

module _ (level : ℕ) (p : Piece) (ps : List Piece) (key : List ℕ) where
  abbrev said : Head → Result (Node × List Piece) Refusal
  said h = unless (at_line p.line (unreadable_value h) orElse refusal (level + 1) (block_below h (trees_in (below p) ps)) [] (trees_in (below p) ps)) (value_of p.line h (block p.line (trees_in (below p) ps)), rest (below p) ps)

  pub value_block : p.head ≡ head.Entry key inline.Nothing → read_value level p ps ≡ read_block (level + 1) p.line (below p) ps
  unfolding read_value read_block read_as
  value_block d = ap said d

  pub value_scalar : (text : List ℕ) → p.head ≡ head.Entry key (inline.Scalar text) → read_value level p ps ≡ (read_nothing (below p) ps andThen (λ _. Ok (scalar p.line text, ps)))
  unfolding read_value
  value_scalar text d = ap said d ∙ nothing_read (level + 1) [] (below p) ps (λ r. (scalar p.line text, r))

  pub value_refused : (k : ModuleKind) → p.head ≡ head.Entry key (inline.Refused k) → read_value level p ps ≡ Err (record { line = p.line; kind = k })
  unfolding read_value
  value_refused k d = ap said d

pub inline_is : (v : Inline) (h : Head) → HasInline v h → (key : List ℕ) × (h ≡ head.Entry key v)
inline_is v head.Item e = absurd e
inline_is v (head.Entry key w) e = (key, ap (head.Entry key) e)
inline_is v (head.Scalar _) e = absurd e
inline_is v (head.Refused _) e = absurd e

-- ---- faults

pub fails_then : {A B : Type 0} (e : BlockFault) (r : Result A Refusal) (f : A → Result B Refusal) → Fails e r → Fails e (r andThen f)
fails_then fault.OutOfMemory r f h = tt
fails_then (fault.Refused x) r f h = ap (λ w. w andThen f) h

pub fails_as : {A : Type 0} (e : BlockFault) (r s : Result A Refusal) → s ≡ r → Fails e r → Fails e s
fails_as e r s h k = subst (Fails e) (sym h) k

pub fails_by : {A : Type 0} (e : BlockFault) (r : Refusal) (s : Result A Refusal) → e ≡ fault.Refused r → s ≡ Err r → Fails e s
fails_by e r s h k = subst (λ (x : BlockFault). Fails x s) (sym h) k

-- ---- loops: what is read is what was read before, and this

module _ {A : Type 0} (front : List A) (now total : Result (List A × List Piece) Refusal) (so_far : ahead front now ≡ total) where
  pub loop_stops : (r : Refusal) → now ≡ Err r → total ≡ Err r
  loop_stops r e = sym so_far ∙ ap (ahead front) e

  pub loop_ends : (ps : List Piece) → now ≡ Ok ([], ps) → total ≡ Ok (front, ps)
  loop_ends ps e = sym so_far ∙ ap (ahead front) e ∙ ap (λ (xs : List A). Ok (xs, ps)) (append-nil front)

  pub loop_fails : {B : Type 0} (e : BlockFault) (one : Result B Refusal) (more : B → Result (List A × List Piece) Refusal) → now ≡ (one andThen more) → Fails e one → Fails e total
  loop_fails e one more h k = fails_as e (ahead front now) total (sym so_far) (fails_then e now _ (fails_as e (one andThen more) now h (fails_then e one more k)))

  pub loop_goes : (one : Result (Node × List Piece) Refusal) (f : Node → A) (more : List Piece → Result (List A × List Piece) Refusal) (n : Node) (ps : List Piece)
      → now ≡ (one andThen (λ x. ahead (f x.0 ∷ []) (more x.1))) → one ≡ Ok (n, ps) → ahead (front ++ f n ∷ []) (more ps) ≡ total
  loop_goes one f more n ps h e =
      let P : Result (List A × List Piece) Refusal → Type 0 = λ w. ahead (front ++ f n ∷ []) w ≡ ahead front (ahead (f n ∷ []) w) in
      let joined : P (more ps) = elim (more ps) as P [ Ok x ↦ ap (λ (xs : List A). Ok (xs, x.1)) (simp append_assoc) | Err r ↦ refl ] in
      joined ∙ sym (ap (ahead front) (h ∙ ap (λ w. w andThen (λ x. ahead (f x.0 ∷ []) (more x.1))) e)) ∙ so_far

-- ---- measures

rest_le : (b : Bound) (ps : List Piece) → length (rest b ps) ≤ length ps
rest_le b [] = omega arith
rest_le b (p ∷ ps) =
    let P : Bool → Type 0 = λ v. length (cond v (rest b ps) (p ∷ ps)) ≤ length (p ∷ ps) in
    let h = rest_le b ps in
    elim (lies_in b p) as P [ true ↦ omega arith | false ↦ omega arith ]

module _ (c : Bound) (ps : List Piece) (p : Piece) (qs : List Piece) (e : Some (p, qs) ≡ next_in c ps) where
  shorter : (b : Bound) (s : List Piece) → rest b qs ≡ s → length s < length ps
  shorter b s k = let l = rest_le b qs in omega (arith, ap length k, ap length (is_next c ps p qs e).0)

  pub block_shorter : (level line : ℕ) (b : Bound) (n : Node) (s : List Piece) → read_block level line b qs ≡ Ok (n, s) → length s < length ps
  unfolding read_block read_as
  block_shorter level line b n s h = shorter b s (ap (λ (y : Node × List Piece). y.1) (unless_ok _ (block line (trees_in b qs), rest b qs) (n, s) h).1)

  pub value_shorter : (level : ℕ) (q : Piece) (n : Node) (s : List Piece) → read_value level q qs ≡ Ok (n, s) → length s < length ps
  unfolding read_value
  value_shorter level q n s h = shorter (below q) s (ap (λ (y : Node × List Piece). y.1) (unless_ok _ (value_of q.line q.head (block q.line (trees_in (below q) qs)), rest (below q) qs) (n, s) h).1)

-- ---- heads

item_at : (level column line place : ℕ) (h : Head) → misfit level (record { column = column; kind = Sequence }) (record { line = line; column = place; head = h }) ≡ None → h ≡ head.Item
item_at level column line place head.Item m = refl
item_at level column line place (head.Entry _ _) m = absurd cc
item_at level column line place (head.Scalar _) m = absurd cc
item_at level column line place (head.Refused _) m = absurd cc

pub is_item : (level : ℕ) (home : Block) (p : Piece) → home.kind ≡ Sequence → misfit level home p ≡ None → p.head ≡ head.Item
is_item level home p e m = item_at level home.column p.line p.column p.head (subst (λ (k : BlockKind). misfit level (record { column = home.column; kind = k }) p ≡ None) e m)

pub refused_misfit : (level : ℕ) (home : Block) (p : Piece) (k : ModuleKind) → p.head ≡ head.Refused k → misfit level home p ≡ Some k
refused_misfit level home p k d = or_some _ _ k (ap unreadable d)

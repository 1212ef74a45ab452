-- What a change of one box makes of all that is kept.
use Rattle.std.proofs.Common.{◌≡◌, ◌∙◌, sym, ap, subst, refl, ℕ, zero, suc, ◌+◌, ◌-◌, ◌<◌, ◌≤◌, Bool, true, false, cond, true≢false, List, [], ◌∷◌, ◌++◌, length, map, filter, drop, get_or, slice_get, Option, Some, None, arith, length-append}
use Rattle.std.specs.Prelude.{nat_eq, not, ◌||◌, ◌&&◌}
use Rattle.std.specs.List.{list_any, list_all}
use Rattle.std.specs.Option.{option_map, option_map_or}
use Rattle.std.specs.Cmp.{unsigned_Decides}
use Rattle.std.proofs.lemmas.List.{map_push, get_or_append_left, get_or-append_right}
use Rattle.std.proofs.lemmas.List.Folds.{list_any-append}
use Rattle.typed_values.specs.declared.address.Address.{Address}
use Rattle.typed_values.specs.declared.letter.Letter.{Letter}
use Rattle.typed_values.specs.Sameness.{same_address}
use Rattle.typed_values.proofs.Sameness.{same_address-Decides}
use Rattle.std.specs.BTreeMap.{is_at}
use Rattle.typed_values.specs.Tables.{empty_address}
use Rattle.batch_queue.specs.Boxes.{Waiting}
use Rattle.batch_queue.specs.Lines.{InLine, stands, without}
use Rattle.batch_queue.specs.Post.{waits, is_ready, lined_up, with_letters}
use Rattle.batch_queue.specs.Kept.{Kept, address_order, box_of, name_of, post_of, IsBoxOf, IsKept}
use Rattle.batch_queue.proofs.Linking.{at_head, in_tail, without_none}
use Rattle.batch_queue.proofs.Addresses.{address_test}

by_test : {P : Type 0} (t : Bool) → (t ≡ true → P) → (t ≡ false → P) → P
by_test true f g = f refl
by_test false f g = g refl

pub some_is : {X : Type 0} (x y : X) → Some x ≡ Some y → x ≡ y
some_is x y e = ap (λ o. option_map_or (λ z. z) o x) e

none_is_not : {X : Type 0} (x : X) → None ≡ Some x → ⊥
none_is_not x e = absurd cc

-- ---- the line

pub lined_same : (n : ℕ) (ns : List ℕ) (t : Bool) → stands n ns ≡ t → lined_up nat_eq n t ns ≡ ns
lined_same n ns true h = ap (λ t. cond t ns (ns ++ n ∷ [])) h
lined_same n ns false h = without_none n ns h

gone : (n : ℕ) (ns : List ℕ) → stands n (without n ns) ≡ false
gone n [] = refl
gone n (m ∷ ns) = split (nat_eq n m) refl (gone n ns)
  where
    split : (t : Bool) → nat_eq n m ≡ t → stands n (without n ns) ≡ false → stands n (cond (not t) (m ∷ without n ns) (without n ns)) ≡ false
    split true e more = more
    split false e more = ap (λ t. t || stands n (without n ns)) e ∙ more

stays : (m n : ℕ) (ns : List ℕ) → nat_eq m n ≡ false → stands m (without n ns) ≡ stands m ns
stays m n [] off = refl
stays m n (x ∷ xs) off = split (nat_eq n x) refl (stays m n xs off)
  where
    split : (t : Bool) → nat_eq n x ≡ t → stands m (without n xs) ≡ stands m xs → stands m (cond (not t) (x ∷ without n xs) (without n xs)) ≡ stands m (x ∷ xs)
    split true e more =
        let same : n ≡ x = (unsigned_Decides n x).0 e in
        more ∙ ap (λ t. t || stands m xs) (sym (sym (ap (nat_eq m) same) ∙ off))
    split false e more = ap (λ t. nat_eq m x || t) more

pub lined_self : (n : ℕ) (ns : List ℕ) (t : Bool) → stands n (lined_up nat_eq n t ns) ≡ t
lined_self n ns false = gone n ns
lined_self n ns true = split (stands n ns) refl
  where
    split : (u : Bool) → stands n ns ≡ u → stands n (cond u ns (ns ++ n ∷ [])) ≡ true
    split true e = e
    split false e = list_any-append (nat_eq n) ns (n ∷ []) ∙ ap (λ t. t || stands n (n ∷ [])) e ∙ at_head n []

pub lined_other : (m n : ℕ) (ns : List ℕ) (t : Bool) → nat_eq m n ≡ false → stands m (lined_up nat_eq n t ns) ≡ stands m ns
lined_other m n ns false off = stays m n ns off
lined_other m n ns true off = split (stands n ns)
  where
    or_false : (t : Bool) → (t || (nat_eq m n || false)) ≡ t
    or_false true = refl
    or_false false = ap (λ t. t || false) off

    split : (u : Bool) → stands m (cond u ns (ns ++ n ∷ [])) ≡ stands m ns
    split true = refl
    split false = list_any-append (nat_eq m) ns (n ∷ []) ∙ or_false (stands m ns)

-- ---- the line by names

abbrev AreNamed : (ℕ → Address) → Address → ℕ → List ℕ → Type 0
AreNamed name a n ns = (m : ℕ) → stands m ns ≡ true → same_address a (name m) ≡ nat_eq n m

tail_named : (name : ℕ → Address) (a : Address) (n x : ℕ) (xs : List ℕ) → AreNamed name a n (x ∷ xs) → AreNamed name a n xs
tail_named name a n x xs named m h = named m (or_right (nat_eq m x) (stands m xs) h)
  where
    or_right : (s t : Bool) → t ≡ true → (s || t) ≡ true
    or_right true t e = refl
    or_right false t e = e

any_named : (name : ℕ → Address) (a : Address) (n : ℕ) (ns : List ℕ) → AreNamed name a n ns → list_any (same_address a) (map name ns) ≡ stands n ns
any_named name a n [] named = refl
any_named name a n (x ∷ xs) named =
    ap (λ t. t || list_any (same_address a) (map name xs)) (named x (at_head x xs)) ∙ ap (λ t. nat_eq n x || t) (any_named name a n xs (tail_named name a n x xs named))

gone_named : (name : ℕ → Address) (a : Address) (n : ℕ) (ns : List ℕ) → AreNamed name a n ns → map name (without n ns) ≡ filter (λ other. not (same_address a other)) (map name ns)
gone_named name a n [] named = refl
gone_named name a n (x ∷ xs) named = split (nat_eq n x) (named x (at_head x xs)) (gone_named name a n xs (tail_named name a n x xs named))
  where
    split : (t : Bool) → same_address a (name x) ≡ t → map name (without n xs) ≡ filter (λ other. not (same_address a other)) (map name xs)
        → map name (cond (not t) (x ∷ without n xs) (without n xs)) ≡ filter (λ other. not (same_address a other)) (map name (x ∷ xs))
    split true e more = more ∙ sym (ap (λ t. cond (not t) (name x ∷ filter (λ other. not (same_address a other)) (map name xs)) (filter (λ other. not (same_address a other)) (map name xs))) e)
    split false e more = ap (λ ys. name x ∷ ys) more ∙ sym (ap (λ t. cond (not t) (name x ∷ filter (λ other. not (same_address a other)) (map name xs)) (filter (λ other. not (same_address a other)) (map name xs))) e)

pub lined_named : (name : ℕ → Address) (a : Address) (n : ℕ) (ns : List ℕ) (t : Bool) → name n ≡ a → AreNamed name a n ns → map name (lined_up nat_eq n t ns) ≡ lined_up same_address a t (map name ns)
lined_named name a n ns false is named = gone_named name a n ns named
lined_named name a n ns true is named = split (stands n ns) refl
  where
    split : (u : Bool) → stands n ns ≡ u → map name (cond u ns (ns ++ n ∷ [])) ≡ cond (list_any (same_address a) (map name ns)) (map name ns) (map name ns ++ a ∷ [])
    split true e = sym (ap (λ t. cond t (map name ns) (map name ns ++ a ∷ [])) (any_named name a n ns named ∙ e))
    split false e =
        map_push name ns n ∙ ap (λ b. map name ns ++ b ∷ []) is
        ∙ sym (ap (λ t. cond t (map name ns) (map name ns ++ a ∷ [])) (any_named name a n ns named ∙ e))

-- ---- all that is kept

-- a number in line has the address' name exactly where it is the number of the address' box
pub named_in_line : (kept : Kept) (a : Address) (box : Waiting) → IsKept kept → box_of kept a ≡ Some box → AreNamed (name_of kept.names) a box.number kept.line.numbers
named_in_line kept a box is here m h = by_test {P = same_address a (name_of kept.names m) ≡ nat_eq box.number m} (nat_eq box.number m)
    (λ e. let n : box.number ≡ m = (unsigned_Decides box.number m).0 e in
    (same_address-Decides a (name_of kept.names m)).1 (sym (is.boxed a box here).named ∙ ap (name_of kept.names) n) ∙ sym e)
    (λ e. by_test {P = same_address a (name_of kept.names m) ≡ nat_eq box.number m} (same_address a (name_of kept.names m))
    (λ f. let there : a ≡ name_of kept.names m = (same_address-Decides a (name_of kept.names m)).0 f in
    let number : Some box.number ≡ Some m = sym (ap (λ (o : Option Waiting). option_map (λ b. b.number) o) (sym (ap (box_of kept) there) ∙ here)) ∙ is.held m h in
    absurd (true≢false (sym ((unsigned_Decides box.number m).1 (some_is box.number m number)) ∙ e)))
    (λ f. f ∙ sym e))

module _ (kept after : Kept) (a : Address) (box now : Waiting) where
  -- one box is another one now, and is lined up
  pub record Changes : Type 0 where
    pub kept_before : IsKept kept
    pub here : box_of kept a ≡ Some box
    pub writes : (b : Address) → box_of after b ≡ cond (is_at (address_order a) b) (Some now) (box_of kept b)
    pub numbered : now.number ≡ box.number
    pub owned : list_all (λ letter. same_address a letter.target) now.letters ≡ true
    pub flown : now.in_flight ≤ length now.letters
    pub names : after.names ≡ kept.names
    pub line : after.line ≡ record { size = kept.line.size; numbers = lined_up nat_eq now.number (waits now.letters now.in_flight) kept.line.numbers }

  line_is : Changes → after.line ≡ record { size = kept.line.size; numbers = lined_up nat_eq box.number (waits now.letters now.in_flight) kept.line.numbers }
  line_is c = c.line ∙ (λ i. record { size = kept.line.size; numbers = lined_up nat_eq (c.numbered i) (waits now.letters now.in_flight) kept.line.numbers })

  new_here : Changes → (b : Address) → same_address a b ≡ true → box_of after b ≡ Some now
  new_here c b e = c.writes b ∙ ap (λ t. cond t (Some now) (box_of kept b)) (address_test a b ∙ e)

  old_there : Changes → (b : Address) → same_address a b ≡ false → box_of after b ≡ box_of kept b
  old_there c b e = c.writes b ∙ ap (λ t. cond t (Some now) (box_of kept b)) (address_test a b ∙ e)

  boxed_after : Changes → (b : Address) (other : Waiting) → box_of after b ≡ Some other → IsBoxOf after.names after.line.numbers b other
  boxed_after c b other found =
      let line : after.line.numbers ≡ lined_up nat_eq box.number (waits now.letters now.in_flight) kept.line.numbers = ap (λ (l : InLine). l.numbers) (line_is c) in
      let old = c.kept_before.boxed a box c.here in
      by_test {P = IsBoxOf after.names after.line.numbers b other} (same_address a b)
      (λ e.
      let at : a ≡ b = (same_address-Decides a b).0 e in
      let is : now ≡ other = some_is now other (sym (new_here c b e) ∙ found) in
      let first : IsBoxOf after.names after.line.numbers a now = record {
        numbered = (let k = old.numbered in let n = c.numbered in let l : length after.names ≡ length kept.names = ap length c.names in omega (arith, k, n, l));
        named = ap (λ (names : List Address). name_of names now.number) c.names ∙ ap (name_of kept.names) c.numbered ∙ old.named;
        lined = ap (λ n. stands n after.line.numbers) c.numbered ∙ ap (stands box.number) line ∙ lined_self box.number kept.line.numbers (waits now.letters now.in_flight);
        owned = c.owned;
        flown = c.flown;
      } in
      subst (λ x. IsBoxOf after.names after.line.numbers b x) is (subst (λ x. IsBoxOf after.names after.line.numbers x now) at first))
      (λ e.
      let before : IsBoxOf kept.names kept.line.numbers b other = c.kept_before.boxed b other (sym (old_there c b e) ∙ found) in
      let off : nat_eq other.number box.number ≡ false = by_test {P = nat_eq other.number box.number ≡ false} (nat_eq other.number box.number)
      (λ f. let n : other.number ≡ box.number = (unsigned_Decides other.number box.number).0 f in
      let at : a ≡ b = sym old.named ∙ sym (ap (name_of kept.names) n) ∙ before.named in
      absurd (true≢false (sym ((same_address-Decides a b).1 at) ∙ e)))
      (λ f. f) in
      record {
        numbered = (let k = before.numbered in let l : length after.names ≡ length kept.names = ap length c.names in omega (arith, k, l));
        named = ap (λ (names : List Address). name_of names other.number) c.names ∙ before.named;
        lined = ap (stands other.number) line ∙ lined_other other.number box.number kept.line.numbers (waits now.letters now.in_flight) off ∙ before.lined;
        owned = before.owned;
        flown = before.flown;
      })

  held_after : Changes → (n : ℕ) → stands n after.line.numbers ≡ true → option_map (λ (b : Waiting). b.number) (box_of after (name_of after.names n)) ≡ Some n
  held_after c n h =
      let line : after.line.numbers ≡ lined_up nat_eq box.number (waits now.letters now.in_flight) kept.line.numbers = ap (λ (l : InLine). l.numbers) (line_is c) in
      let old = c.kept_before.boxed a box c.here in
      let named : name_of after.names n ≡ name_of kept.names n = ap (λ (names : List Address). name_of names n) c.names in
      let number : Option Waiting → Option ℕ = λ o. option_map (λ (b : Waiting). b.number) o in
      ap (λ x. number (box_of after x)) named ∙ by_test {P = number (box_of after (name_of kept.names n)) ≡ Some n} (nat_eq n box.number)
      (λ e. let is : n ≡ box.number = (unsigned_Decides n box.number).0 e in
      let name : a ≡ name_of kept.names n = sym old.named ∙ sym (ap (name_of kept.names) is) in
      ap number (new_here c (name_of kept.names n) ((same_address-Decides a (name_of kept.names n)).1 name)) ∙ ap Some (c.numbered ∙ sym is))
      (λ e.
      let stood : stands n kept.line.numbers ≡ true = sym (lined_other n box.number kept.line.numbers (waits now.letters now.in_flight) e) ∙ sym (ap (stands n) line) ∙ h in
      let held = c.kept_before.held n stood in
      by_test {P = number (box_of after (name_of kept.names n)) ≡ Some n} (same_address a (name_of kept.names n))
      (λ f. let name : a ≡ name_of kept.names n = (same_address-Decides a (name_of kept.names n)).0 f in
      let is : Some box.number ≡ Some n = sym (ap number (sym (ap (box_of kept) name) ∙ c.here)) ∙ held in
      absurd (true≢false (sym ((unsigned_Decides n box.number).1 (sym (some_is box.number n is))) ∙ e)))
      (λ f. ap number (old_there c (name_of kept.names n) f) ∙ held))

  pub kept_after : Changes → IsKept after
  kept_after c = record {
    boxed = boxed_after c;
    held = held_after c;
    roomy = (let k = c.kept_before.roomy in let l : length after.names ≡ length kept.names = ap length c.names in let s : after.line.size ≡ kept.line.size = ap (λ (x : InLine). x.size) (line_is c) in omega (arith, k, l, s));
  }

  pub post_after : Changes → post_of after ≡ with_letters a now.letters now.in_flight (post_of kept)
  post_after c =
      let letters : (b : Address) → option_map_or (λ (x : Waiting). x.letters) (box_of after b) [] ≡ cond (same_address a b) now.letters (option_map_or (λ (x : Waiting). x.letters) (box_of kept b) []) =
      λ b. by_test {P = option_map_or (λ (x : Waiting). x.letters) (box_of after b) [] ≡ cond (same_address a b) now.letters (option_map_or (λ (x : Waiting). x.letters) (box_of kept b) [])} (same_address a b)
      (λ e. ap (λ o. option_map_or (λ (x : Waiting). x.letters) o []) (new_here c b e) ∙ sym (ap (λ t. cond t now.letters (option_map_or (λ (x : Waiting). x.letters) (box_of kept b) [])) e))
      (λ e. ap (λ o. option_map_or (λ (x : Waiting). x.letters) o []) (old_there c b e) ∙ sym (ap (λ t. cond t now.letters (option_map_or (λ (x : Waiting). x.letters) (box_of kept b) [])) e)) in
      let in_flight : (b : Address) → option_map_or (λ (x : Waiting). x.in_flight) (box_of after b) 0 ≡ cond (same_address a b) now.in_flight (option_map_or (λ (x : Waiting). x.in_flight) (box_of kept b) 0) =
      λ b. by_test {P = option_map_or (λ (x : Waiting). x.in_flight) (box_of after b) 0 ≡ cond (same_address a b) now.in_flight (option_map_or (λ (x : Waiting). x.in_flight) (box_of kept b) 0)} (same_address a b)
      (λ e. ap (λ o. option_map_or (λ (x : Waiting). x.in_flight) o 0) (new_here c b e) ∙ sym (ap (λ t. cond t now.in_flight (option_map_or (λ (x : Waiting). x.in_flight) (box_of kept b) 0)) e))
      (λ e. ap (λ o. option_map_or (λ (x : Waiting). x.in_flight) o 0) (old_there c b e) ∙ sym (ap (λ t. cond t now.in_flight (option_map_or (λ (x : Waiting). x.in_flight) (box_of kept b) 0)) e)) in
      let line : after.line.numbers ≡ lined_up nat_eq box.number (waits now.letters now.in_flight) kept.line.numbers = ap (λ (l : InLine). l.numbers) (line_is c) in
      let ready : map (name_of after.names) after.line.numbers ≡ lined_up same_address a (waits now.letters now.in_flight) (map (name_of kept.names) kept.line.numbers) =
      ap (λ (names : List Address). map (name_of names) after.line.numbers) c.names ∙ ap (map (name_of kept.names)) line
      ∙ lined_named (name_of kept.names) a box.number kept.line.numbers (waits now.letters now.in_flight) (c.kept_before.boxed a box c.here).named (named_in_line kept a box c.kept_before c.here) in
      (λ i. record { letters = λ b. letters b i; in_flight = λ b. in_flight b i; ready = ready i })

-- ---- the letters of a box

pub letters_here : (kept : Kept) (a : Address) (box : Waiting) → box_of kept a ≡ Some box → (post_of kept).letters a ≡ box.letters
letters_here kept a box here = ap (λ o. option_map_or (λ (x : Waiting). x.letters) o []) here

pub in_flight_here : (kept : Kept) (a : Address) (box : Waiting) → box_of kept a ≡ Some box → (post_of kept).in_flight a ≡ box.in_flight
in_flight_here kept a box here = ap (λ o. option_map_or (λ (x : Waiting). x.in_flight) o 0) here

pub all_dropped : (p : Letter → Bool) (n : ℕ) (ls : List Letter) → list_all p ls ≡ true → list_all p (drop n ls) ≡ true
all_dropped p zero ls h = h
all_dropped p (suc n) [] h = h
all_dropped p (suc n) (l ∷ ls) h = all_dropped p n ls (rest (p l) (list_all p ls) h)
  where
    rest : (s t : Bool) → (s && t) ≡ true → t ≡ true
    rest true t e = e
    rest false t e = absurd cc

pub all_pushed : (p : Letter → Bool) (ls : List Letter) (l : Letter) → list_all p ls ≡ true → p l ≡ true → list_all p (ls ++ l ∷ []) ≡ true
all_pushed p [] l h e = ap (λ t. t && true) e
all_pushed p (x ∷ xs) l h e = split (p x) h (all_pushed p xs l)
  where
    split : (t : Bool) → (t && list_all p xs) ≡ true → (list_all p xs ≡ true → p l ≡ true → list_all p (xs ++ l ∷ []) ≡ true) → (t && list_all p (xs ++ l ∷ [])) ≡ true
    split true k more = more k e
    split false k more = absurd cc

-- ---- what changes no letter

-- the same boxes, and more room at most
pub same_boxes : (kept after : Kept) → IsKept kept → ((b : Address) → box_of after b ≡ box_of kept b) → after.names ≡ kept.names → after.line.numbers ≡ kept.line.numbers → kept.line.size ≤ after.line.size → IsKept after × (post_of after ≡ post_of kept)
same_boxes kept after is boxes names line size = (
  record {
    boxed = λ b other found.
        let P : List Address → List ℕ → Type 0 = λ ns l. IsBoxOf ns l b other in
        subst (λ ns. P ns after.line.numbers) (sym names) (subst (P kept.names) (sym line) (is.boxed b other (sym (boxes b) ∙ found)));
    held = λ n h. ap (λ x. option_map (λ (b : Waiting). b.number) (box_of after x)) (ap (λ (ns : List Address). name_of ns n) names)
        ∙ ap (option_map (λ (b : Waiting). b.number)) (boxes (name_of kept.names n)) ∙ is.held n (sym (ap (stands n) line) ∙ h);
    roomy = (let k = is.roomy in let l : length after.names ≡ length kept.names = ap length names in omega (arith, k, l, size));
  },
  (λ i. record {
    letters = λ b. option_map_or (λ (x : Waiting). x.letters) (boxes b i) [];
    in_flight = λ b. option_map_or (λ (x : Waiting). x.in_flight) (boxes b i) 0;
    ready = map (name_of (names i)) (line i);
  }),
)

-- a box is written as it was
pub written_back : (kept after : Kept) (a : Address) (box now : Waiting) → box_of kept a ≡ Some box → now ≡ box → ((b : Address) → box_of after b ≡ cond (is_at (address_order a) b) (Some now) (box_of kept b)) → (b : Address) → box_of after b ≡ box_of kept b
written_back kept after a box now here same writes b = writes b ∙ by_test {P = cond (is_at (address_order a) b) (Some now) (box_of kept b) ≡ box_of kept b} (is_at (address_order a) b)
    (λ e. ap (λ t. cond t (Some now) (box_of kept b)) e ∙ ap Some same ∙ sym here ∙ ap (box_of kept) ((same_address-Decides a b).0 (sym (address_test a b) ∙ e)))
    (λ e. ap (λ t. cond t (Some now) (box_of kept b)) e)

map_in : (f g : ℕ → Address) (ns : List ℕ) → ((n : ℕ) → stands n ns ≡ true → f n ≡ g n) → map f ns ≡ map g ns
map_in f g [] same = refl
map_in f g (n ∷ ns) same = (λ i. same n (at_head n ns) i ∷ map_in f g ns (λ m h. same m (in_tail m n ns h)) i)

-- a number in line is that of a name
pub number_known : (kept : Kept) → IsKept kept → (n : ℕ) → stands n kept.line.numbers ≡ true → n < length kept.names
number_known kept is n h = split (box_of kept (name_of kept.names n)) refl (is.held n h)
  where
    split : (o : Option Waiting) → box_of kept (name_of kept.names n) ≡ o → option_map (λ (b : Waiting). b.number) o ≡ Some n → n < length kept.names
    split None found e = absurd (none_is_not n e)
    split (Some box) found e =
        let k = (is.boxed (name_of kept.names n) box found).numbered in
        let at : box.number ≡ n = some_is box.number n e in
        omega (arith, k, at)

pub new_box : (kept after : Kept) (a : Address) (box : Waiting) → IsKept kept → box_of kept a ≡ None → box ≡ record { letters = []; in_flight = 0; number = length kept.names }
    → ((b : Address) → box_of after b ≡ cond (is_at (address_order a) b) (Some box) (box_of kept b))
    → after.names ≡ kept.names ++ a ∷ [] → after.line ≡ kept.line → length kept.names < kept.line.size → IsKept after × (post_of after ≡ post_of kept)
new_box kept after a box is none empty writes names line room =
    let Number : Option Waiting → Option ℕ = λ o. option_map (λ (b : Waiting). b.number) o in
    let size : length after.names ≡ length kept.names + 1 = ap length names ∙ length-append kept.names (a ∷ []) in
    let old_name : (n : ℕ) → n < length kept.names → name_of after.names n ≡ name_of kept.names n =
    λ n k. ap (λ (ns : List Address). name_of ns n) names ∙ get_or_append_left kept.names (a ∷ []) empty_address n k in
    let last_name : name_of after.names (length kept.names) ≡ a =
    ap (λ (ns : List Address). name_of ns (length kept.names)) names ∙ get_or-append_right kept.names (a ∷ []) (length kept.names) (length kept.names) empty_address refl (omega arith)
    ∙ (let first : length kept.names - length kept.names ≡ 0 = omega arith in ap (λ n. get_or (a ∷ []) n empty_address) first) in
    let new_here : (b : Address) → same_address a b ≡ true → box_of after b ≡ Some box = λ b e. writes b ∙ ap (λ t. cond t (Some box) (box_of kept b)) (address_test a b ∙ e) in
    let old_there : (b : Address) → same_address a b ≡ false → box_of after b ≡ box_of kept b = λ b e. writes b ∙ ap (λ t. cond t (Some box) (box_of kept b)) (address_test a b ∙ e) in
    let apart : (b : Address) (other : Waiting) → box_of kept b ≡ Some other → same_address a b ≡ false = λ b other found.
    by_test {P = same_address a b ≡ false} (same_address a b)
    (λ e. absurd (none_is_not other (sym none ∙ ap (box_of kept) ((same_address-Decides a b).0 e) ∙ found)))
    (λ e. e) in
    let out_of_line : stands (length kept.names) kept.line.numbers ≡ false = by_test {P = stands (length kept.names) kept.line.numbers ≡ false} (stands (length kept.names) kept.line.numbers)
    (λ e. absurd (let k = number_known kept is (length kept.names) e in omega (arith, k))) (λ e. e) in (
      record {
        boxed = λ b other found. by_test {P = IsBoxOf after.names after.line.numbers b other} (same_address a b)
            (λ e.
            let at : a ≡ b = (same_address-Decides a b).0 e in
            let same : box ≡ other = some_is box other (sym (new_here b e) ∙ found) in
            let number : box.number ≡ length kept.names = ap (λ (x : Waiting). x.number) empty in
            let first : IsBoxOf after.names after.line.numbers a box = record {
              numbered = omega (arith, number, size);
              named = ap (name_of after.names) number ∙ last_name;
              lined = ap (λ n. stands n after.line.numbers) number ∙ ap (λ (l : InLine). stands (length kept.names) l.numbers) line ∙ out_of_line ∙ sym (ap (λ (x : Waiting). waits x.letters x.in_flight) empty);
              owned = ap (λ (x : Waiting). list_all (λ letter. same_address a letter.target) x.letters) empty;
              flown = (let f : box.in_flight ≡ 0 = ap (λ (x : Waiting). x.in_flight) empty in omega (arith, f));
            } in
            subst (λ x. IsBoxOf after.names after.line.numbers b x) same (subst (λ x. IsBoxOf after.names after.line.numbers x box) at first))
            (λ e.
            let before : IsBoxOf kept.names kept.line.numbers b other = is.boxed b other (sym (old_there b e) ∙ found) in
            record {
              numbered = (let k = before.numbered in omega (arith, k, size));
              named = old_name other.number before.numbered ∙ before.named;
              lined = ap (λ (l : InLine). stands other.number l.numbers) line ∙ before.lined;
              owned = before.owned;
              flown = before.flown;
            });
        held = λ n h.
            let stood : stands n kept.line.numbers ≡ true = sym (ap (λ (l : InLine). stands n l.numbers) line) ∙ h in
            let known : n < length kept.names = number_known kept is n stood in
            let was = is.held n stood in
            let off : same_address a (name_of kept.names n) ≡ false = by_test {P = same_address a (name_of kept.names n) ≡ false} (same_address a (name_of kept.names n))
            (λ e. absurd (none_is_not n (sym (ap Number (sym (ap (box_of kept) ((same_address-Decides a (name_of kept.names n)).0 e)) ∙ none)) ∙ was))) (λ e. e) in
            ap (λ x. Number (box_of after x)) (old_name n known) ∙ ap Number (old_there (name_of kept.names n) off) ∙ was;
        roomy = (let s : after.line.size ≡ kept.line.size = ap (λ (l : InLine). l.size) line in omega (arith, size, s, room));
      },
      (let letters : (b : Address) → option_map_or (λ (x : Waiting). x.letters) (box_of after b) [] ≡ option_map_or (λ (x : Waiting). x.letters) (box_of kept b) [] =
          λ b. by_test {P = option_map_or (λ (x : Waiting). x.letters) (box_of after b) [] ≡ option_map_or (λ (x : Waiting). x.letters) (box_of kept b) []} (same_address a b)
          (λ e. ap (λ o. option_map_or (λ (x : Waiting). x.letters) o []) (new_here b e) ∙ ap (λ (x : Waiting). x.letters) empty
          ∙ sym (ap (λ o. option_map_or (λ (x : Waiting). x.letters) o []) (sym (ap (box_of kept) ((same_address-Decides a b).0 e)) ∙ none)))
          (λ e. ap (λ o. option_map_or (λ (x : Waiting). x.letters) o []) (old_there b e)) in
          let in_flight : (b : Address) → option_map_or (λ (x : Waiting). x.in_flight) (box_of after b) 0 ≡ option_map_or (λ (x : Waiting). x.in_flight) (box_of kept b) 0 =
          λ b. by_test {P = option_map_or (λ (x : Waiting). x.in_flight) (box_of after b) 0 ≡ option_map_or (λ (x : Waiting). x.in_flight) (box_of kept b) 0} (same_address a b)
          (λ e. ap (λ o. option_map_or (λ (x : Waiting). x.in_flight) o 0) (new_here b e) ∙ ap (λ (x : Waiting). x.in_flight) empty
          ∙ sym (ap (λ o. option_map_or (λ (x : Waiting). x.in_flight) o 0) (sym (ap (box_of kept) ((same_address-Decides a b).0 e)) ∙ none)))
          (λ e. ap (λ o. option_map_or (λ (x : Waiting). x.in_flight) o 0) (old_there b e)) in
          let ready : map (name_of after.names) after.line.numbers ≡ map (name_of kept.names) kept.line.numbers =
          ap (λ (l : InLine). map (name_of after.names) l.numbers) line ∙ map_in (name_of after.names) (name_of kept.names) kept.line.numbers (λ n h. old_name n (number_known kept is n h)) in
          (λ i. record { letters = λ b. letters b i; in_flight = λ b. in_flight b i; ready = ready i })),
    )

-- ---- who is ready

ready_box : (kept : Kept) (a : Address) (o : Option Waiting) → IsKept kept → box_of kept a ≡ o → is_ready (post_of kept) a ≡ option_map_or (λ (box : Waiting). stands box.number kept.line.numbers) o false
ready_box kept a None is found = ap (λ o. waits (option_map_or (λ (x : Waiting). x.letters) o []) (option_map_or (λ (x : Waiting). x.in_flight) o 0)) found
ready_box kept a (Some box) is found =
    ap (λ o. waits (option_map_or (λ (x : Waiting). x.letters) o []) (option_map_or (λ (x : Waiting). x.in_flight) o 0)) found ∙ sym (is.boxed a box found).lined

pub none_ready : (kept : Kept) → IsKept kept → slice_get kept.line.numbers 0 ≡ None → (a : Address) → is_ready (post_of kept) a ≡ false
none_ready kept is none a = ready_box kept a (box_of kept a) is refl ∙ split (box_of kept a) kept.line.numbers none
  where
    split : (o : Option Waiting) (ns : List ℕ) → slice_get ns 0 ≡ None → option_map_or (λ (box : Waiting). stands box.number ns) o false ≡ false
    split None ns e = refl
    split (Some box) [] e = refl
    split (Some box) (n ∷ ns) e = absurd cc

pub first_ready : (kept : Kept) (n : ℕ) → IsKept kept → slice_get kept.line.numbers 0 ≡ Some n → (n < length kept.names) × (is_ready (post_of kept) (name_of kept.names n) ≡ true) × (slice_get (map (name_of kept.names) kept.line.numbers) 0 ≡ Some (name_of kept.names n))
first_ready kept n is first =
    let stood : stands n kept.line.numbers ≡ true = heads kept.line.numbers first in (
      number_known kept is n stood,
      ready_box kept (name_of kept.names n) (box_of kept (name_of kept.names n)) is refl ∙ numbered (box_of kept (name_of kept.names n)) (is.held n stood) stood,
      mapped kept.line.numbers first,
    )
  where
    heads : (ns : List ℕ) → slice_get ns 0 ≡ Some n → stands n ns ≡ true
    heads [] e = absurd cc
    heads (m ∷ ns) e = let same : m ≡ n = some_is m n e in subst (λ k. stands k (m ∷ ns) ≡ true) same (at_head m ns)

    numbered : (o : Option Waiting) → option_map (λ (b : Waiting). b.number) o ≡ Some n → stands n kept.line.numbers ≡ true → option_map_or (λ (box : Waiting). stands box.number kept.line.numbers) o false ≡ true
    numbered None e s = absurd (none_is_not n e)
    numbered (Some box) e s = ap (λ k. stands k kept.line.numbers) (some_is box.number n e) ∙ s

    mapped : (ns : List ℕ) → slice_get ns 0 ≡ Some n → slice_get (map (name_of kept.names) ns) 0 ≡ Some (name_of kept.names n)
    mapped [] e = absurd cc
    mapped (m ∷ ns) e = ap (λ k. Some (name_of kept.names k)) (some_is m n e)

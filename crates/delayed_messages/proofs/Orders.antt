-- Delays by the numbers of their puts, and by their dues.
use Rattle.std.proofs.Common.{◌≡◌, ◌≢◌, ℕ, suc, ◌+◌, ◌<◌, ◌≤◌, nat_lt, nat_le, Bool, true, false, not, cond, if◌then◌else◌, List, [], ◌∷◌, ◌++◌, map, filter, take, drop, get_or, length, count_by, Some, None, refl, sym, ap, subst, ◌∙◌, arith}
use Rattle.std.proofs.lemmas.Bool.{ltb-true, ltb-false, lt-ltb, le-ltb, le-leb, lt-leb}
use Rattle.std.proofs.lemmas.List.Filters.{length-filter_both}
use Rattle.std.proofs.lemmas.List.Sums.{length-filter}
use Rattle.std.specs.List.{AllByRecursion}
use Rattle.typed_values.specs.declared.record.Delay.{Delay}
use Rattle.typed_values.specs.Delays.{sooner, earliest, due_at, if_due}
use Rattle.delayed_messages.specs.declared.queue.Numbered.{Numbered}
use Rattle.std.proofs.lemmas.List.{take-append-drop}
use Rattle.delayed_messages.specs.Waiting.{TakesDue, best_of}
use Rattle.std.specs.Option.{option_map}
use Rattle.delayed_messages.specs.Queue.{ComesBefore, IsQueue, AreBelow, IsPut, filed, by_number, delay_of, in_order_of_put, room}

-- what holds of all holds of all in another order
all-filed : (P : Numbered → Type 0) (x : Numbered) (ys : List Numbered) → P x → AllByRecursion P ys → AllByRecursion P (filed x ys)
all-filed P x [] here all = (here, tt)
all-filed P x (y ∷ ys) here all = by (nat_lt x.number y.number) (all-filed P x ys here all.1)
  where
    by : (first : Bool) → AllByRecursion P (filed x ys) → AllByRecursion P (if first then x ∷ y ∷ ys else y ∷ filed x ys)
    by true more = (here, all)
    by false more = (all.0, more)

pub all-by_number : (P : Numbered → Type 0) (xs : List Numbered) → AllByRecursion P xs → AllByRecursion P (by_number xs)
all-by_number P [] all = tt
all-by_number P (x ∷ xs) all = all-filed P x (by_number xs) all.0 (all-by_number P xs all.1)

length-filed : (x : Numbered) (ys : List Numbered) → length (filed x ys) ≡ suc (length ys)
length-filed x [] = refl
length-filed x (y ∷ ys) = by (nat_lt x.number y.number) (length-filed x ys)
  where
    by : (first : Bool) → length (filed x ys) ≡ suc (length ys) → length (if first then x ∷ y ∷ ys else y ∷ filed x ys) ≡ suc (suc (length ys))
    by true more = refl
    by false more = ap suc more

pub length-by_number : (xs : List Numbered) → length (by_number xs) ≡ length xs
length-by_number [] = refl
length-by_number (x ∷ xs) = length-filed x (by_number xs) ∙ ap suc (length-by_number xs)

-- ---- a put

filed-last : (x : Numbered) (ys : List Numbered) → AllByRecursion (λ y. y.number < x.number) ys → filed x ys ≡ ys ++ x ∷ []
filed-last x [] all = refl
filed-last x (y ∷ ys) all = rw (le-ltb x.number y.number (omega (arith, all.0))) (ap (λ zs. y ∷ zs) (filed-last x ys all.1))

filed-push : (y x : Numbered) (ys : List Numbered) → y.number < x.number → filed y (ys ++ x ∷ []) ≡ filed y ys ++ x ∷ []
filed-push y x [] less = rw (lt-ltb y.number x.number less) refl
filed-push y x (z ∷ zs) less = by (nat_lt y.number z.number) (filed-push y x zs less)
  where
    by : (first : Bool) → filed y (zs ++ x ∷ []) ≡ filed y zs ++ x ∷ [] → (if first then y ∷ z ∷ (zs ++ x ∷ []) else z ∷ filed y (zs ++ x ∷ [])) ≡ (if first then y ∷ z ∷ zs else z ∷ filed y zs) ++ x ∷ []
    by true more = refl
    by false more = ap (λ ks. z ∷ ks) more

pub number-last : (x : Numbered) (fs gs : List Numbered) → AllByRecursion (λ y. y.number < x.number) fs → AllByRecursion (λ y. y.number < x.number) gs → by_number (fs ++ x ∷ gs) ≡ by_number (fs ++ gs) ++ x ∷ []
number-last x [] gs low high = filed-last x (by_number gs) (all-by_number (λ y. y.number < x.number) gs high)
number-last x (a ∷ fs) gs low high = ap (filed a) (number-last x fs gs low.1 high) ∙ filed-push a x (by_number (fs ++ gs)) low.0

map-push : (xs : List Numbered) (x : Numbered) → map delay_of (xs ++ x ∷ []) ≡ map delay_of xs ++ x.delay ∷ []
map-push [] x = refl
map-push (y ∷ ys) x = ap (λ ds. y.delay ∷ ds) (map-push ys x)

pub put-last : (x : Numbered) (fs gs : List Numbered) → AllByRecursion (λ y. y.number < x.number) fs → AllByRecursion (λ y. y.number < x.number) gs → in_order_of_put (fs ++ x ∷ gs) ≡ in_order_of_put (fs ++ gs) ++ x.delay ∷ []
put-last x fs gs low high = ap (map delay_of) (number-last x fs gs low high) ∙ map-push (by_number (fs ++ gs)) x

-- the queue with one more at its place
before-new : (x : Numbered) (fs : List Numbered) → AllByRecursion (λ a. a.delay.due ≤ x.delay.due) fs → AllByRecursion (λ a. a.number < x.number) fs → AllByRecursion (λ a. ComesBefore a x) fs
before-new x [] due low = tt
before-new x (a ∷ fs) due low = ((due.0, λ same. absurd (omega (arith, low.0, same)), λ back. absurd (omega (arith, low.0, back))), before-new x fs due.1 low.1)

behind-new : (x : Numbered) (gs : List Numbered) → AllByRecursion (λ b. x.delay.due < b.delay.due) gs → AllByRecursion (λ b. b.number < x.number) gs → AllByRecursion (ComesBefore x) gs
behind-new x [] due low = tt
behind-new x (b ∷ gs) due low = ((omega (arith, due.0), λ same. absurd (omega (arith, low.0, same)), λ back. due.0), behind-new x gs due.1 low.1)

all-insert : (P : Numbered → Type 0) (x : Numbered) (fs gs : List Numbered) → P x → AllByRecursion P (fs ++ gs) → AllByRecursion P (fs ++ x ∷ gs)
all-insert P x [] gs here all = (here, all)
all-insert P x (a ∷ fs) gs here all = (all.0, all-insert P x fs gs here all.1)

pub queue-insert : (x : Numbered) (fs gs : List Numbered) → IsQueue (fs ++ gs) → AllByRecursion (λ a. ComesBefore a x) fs → AllByRecursion (ComesBefore x) gs → IsQueue (fs ++ x ∷ gs)
queue-insert x [] gs queue front back = (back, queue)
queue-insert x (a ∷ fs) gs queue front back = (all-insert (ComesBefore a) x fs gs front.0 queue.0, queue-insert x fs gs queue.1 front.1 back)

all-left : (P : Numbered → Type 0) (fs gs : List Numbered) → AllByRecursion P (fs ++ gs) → AllByRecursion P fs
all-left P [] gs all = tt
all-left P (a ∷ fs) gs all = (all.0, all-left P fs gs all.1)

all-right : (P : Numbered → Type 0) (fs gs : List Numbered) → AllByRecursion P (fs ++ gs) → AllByRecursion P gs
all-right P [] gs all = all
all-right P (a ∷ fs) gs all = all-right P fs gs all.1

raised : (next : ℕ) (xs : List Numbered) → AreBelow next xs → AreBelow (next + 1) xs
raised next [] all = tt
raised next (x ∷ xs) all = (omega (arith, all.0), raised next xs all.1)

module _ (x : Numbered) (fs gs : List Numbered) (queue : IsQueue (fs ++ gs)) (below : AreBelow x.number (fs ++ gs)) where
  pub put-queue : AllByRecursion (λ a. a.delay.due ≤ x.delay.due) fs → AllByRecursion (λ b. x.delay.due < b.delay.due) gs → IsQueue (fs ++ x ∷ gs) × AreBelow (x.number + 1) (fs ++ x ∷ gs)
  put-queue front back = (
    queue-insert x fs gs queue (before-new x fs front (all-left (λ y. y.number < x.number) fs gs below)) (behind-new x gs back (all-right (λ y. y.number < x.number) fs gs below)),
    all-insert (λ y. y.number < x.number + 1) x fs gs (omega arith) (raised x.number (fs ++ gs) below),
  )

  pub put-delays : in_order_of_put (fs ++ x ∷ gs) ≡ in_order_of_put (fs ++ gs) ++ x.delay ∷ []
  put-delays = put-last x fs gs (all-left (λ y. y.number < x.number) fs gs below) (all-right (λ y. y.number < x.number) fs gs below)

-- ---- what is due

abbrev pair : Delay → List Delay → Delay × List Delay
pair d ds = (d, ds)

best-of : (P : Delay → Type 0) (d : Delay) (ds : List Delay) → P d → AllByRecursion P ds → P (sooner d ds (earliest ds)).0
best-of P d [] here all = here
best-of P d (e ∷ es) here all = by (nat_le d.due (sooner e es (earliest es)).0.due) (best-of P e es all.0 all.1)
  where
    by : (first : Bool) → P (sooner e es (earliest es)).0 → P (if first then pair d (e ∷ es) else pair (sooner e es (earliest es)).0 (d ∷ (sooner e es (earliest es)).1)).0
    by true more = here
    by false more = more

first-least : (d : Delay) (ds : List Delay) → AllByRecursion (λ e. d.due ≤ e.due) ds → sooner d ds (earliest ds) ≡ (d, ds)
first-least d [] all = refl
first-least d (e ∷ es) all = rw (le-leb d.due (sooner e es (earliest es)).0.due (best-of (λ x. d.due ≤ x.due) e es all.0 all.1)) refl

dues : (x : Numbered) (ys : List Numbered) → AllByRecursion (ComesBefore x) ys → AllByRecursion (λ e. x.delay.due ≤ e.due) (map delay_of ys)
dues x [] all = tt
dues x (y ∷ ys) all = (all.0.0, dues x ys all.1)

earliest-filed : (x : Numbered) (ys : List Numbered) → AllByRecursion (ComesBefore x) ys → earliest (map delay_of (filed x ys)) ≡ Some (x.delay, map delay_of ys)
earliest-filed x [] all = refl
earliest-filed x (y ∷ ys) all = by (nat_lt x.number y.number) refl (earliest-filed x ys all.1)
  where
    by : (first : Bool) → nat_lt x.number y.number ≡ first → earliest (map delay_of (filed x ys)) ≡ Some (x.delay, map delay_of ys)
        → earliest (map delay_of (if first then x ∷ y ∷ ys else y ∷ filed x ys)) ≡ Some (x.delay, y.delay ∷ map delay_of ys)
    by true is more = ap Some (first-least x.delay (map delay_of (y ∷ ys)) (dues x (y ∷ ys) all))
    by false is more =
        let later : x.delay.due < y.delay.due = all.0.2 (omega (arith, ltb-false x.number y.number is, all.0.1)) in
        rw (more, lt-leb y.delay.due x.delay.due later) refl

module _ (x : Numbered) (xs : List Numbered) (queue : IsQueue (x ∷ xs)) where
  pub due-first : earliest (in_order_of_put (x ∷ xs)) ≡ Some (x.delay, in_order_of_put xs)
  due-first = earliest-filed x (by_number xs) (all-by_number (ComesBefore x) xs queue.0)

  pub due-now : (moment : ℕ) → x.delay.due ≤ moment → due_at moment (in_order_of_put (x ∷ xs)) ≡ Some (x.delay, in_order_of_put xs)
  due-now moment due = ap (if_due moment) due-first ∙ ap (λ now. if now then Some (x.delay, in_order_of_put xs) else None) (le-leb x.delay.due moment due)

  pub due-later : (moment : ℕ) → moment < x.delay.due → due_at moment (in_order_of_put (x ∷ xs)) ≡ None
  due-later moment later = ap (if_due moment) due-first ∙ ap (λ now. if now then Some (x.delay, in_order_of_put xs) else None) (lt-leb x.delay.due moment later)

-- ---- a cancellation

-- strictly rising numbers
abbrev pub Up : List Numbered → Type 0
Up [] = Unit {0}
Up (x ∷ xs) = AllByRecursion (λ y. x.number < y.number) xs × Up xs

up-filed : (x : Numbered) (ys : List Numbered) → AllByRecursion (λ y. x.number ≢ y.number) ys → Up ys → Up (filed x ys)
up-filed x [] apart up = (tt, tt)
up-filed x (y ∷ ys) apart up = by (nat_lt x.number y.number) refl (up-filed x ys apart.1 up.1)
  where
    above : (n : ℕ) (zs : List Numbered) → n < y.number → AllByRecursion (λ z. y.number < z.number) zs → AllByRecursion (λ z. n < z.number) zs
    above n [] less all = tt
    above n (z ∷ zs) less all = (omega (arith, less, all.0), above n zs less all.1)

    by : (first : Bool) → nat_lt x.number y.number ≡ first → Up (filed x ys) → Up (if first then x ∷ y ∷ ys else y ∷ filed x ys)
    by true is more = let less = ltb-true x.number y.number is in ((less, above x.number ys less up.0), up)
    by false is more = (all-filed (λ z. y.number < z.number) x ys (omega (arith, ltb-false x.number y.number is, apart.0)) up.0, more)

apart-before : (x : Numbered) (ys : List Numbered) → AllByRecursion (ComesBefore x) ys → AllByRecursion (λ y. x.number ≢ y.number) ys
apart-before x [] all = tt
apart-before x (y ∷ ys) all = (all.0.1, apart-before x ys all.1)

pub up-by_number : (xs : List Numbered) → IsQueue xs → Up (by_number xs)
up-by_number [] queue = tt
up-by_number (x ∷ xs) queue = up-filed x (by_number xs) (all-by_number (λ y. x.number ≢ y.number) xs (apart-before x xs queue.0)) (up-by_number xs queue.1)

pub filed-first : (x : Numbered) (ys : List Numbered) → AllByRecursion (λ y. x.number < y.number) ys → filed x ys ≡ x ∷ ys
filed-first x [] all = refl
filed-first x (y ∷ ys) all = rw (lt-ltb x.number y.number all.0) refl

module _ (keep : Numbered → Bool) where
  pub all-filter : (P : Numbered → Type 0) (xs : List Numbered) → AllByRecursion P xs → AllByRecursion P (filter keep xs)
  all-filter P [] all = tt
  all-filter P (x ∷ xs) all = by (keep x) (all-filter P xs all.1)
    where
      by : (kept : Bool) → AllByRecursion P (filter keep xs) → AllByRecursion P (cond kept (x ∷ filter keep xs) (filter keep xs))
      by true more = (all.0, more)
      by false more = more

  filter-filed-out : (x : Numbered) → keep x ≡ false → (ys : List Numbered) → filter keep (filed x ys) ≡ filter keep ys
  filter-filed-out x out [] = rw out refl
  filter-filed-out x out (y ∷ ys) = by (nat_lt x.number y.number) (filter-filed-out x out ys)
    where
      by : (first : Bool) → filter keep (filed x ys) ≡ filter keep ys → filter keep (if first then x ∷ y ∷ ys else y ∷ filed x ys) ≡ filter keep (y ∷ ys)
      by true more = rw out refl
      by false more = ap (λ zs. cond (keep y) (y ∷ zs) zs) more

  filter-filed-in : (x : Numbered) → keep x ≡ true → (ys : List Numbered) → Up ys → filter keep (filed x ys) ≡ filed x (filter keep ys)
  filter-filed-in x stays [] up = rw stays refl
  filter-filed-in x stays (y ∷ ys) up = by (nat_lt x.number y.number) refl (filter-filed-in x stays ys up.1)
    where
      above : (n : ℕ) (zs : List Numbered) → n < y.number → AllByRecursion (λ z. y.number < z.number) zs → AllByRecursion (λ z. n < z.number) zs
      above n [] less all = tt
      above n (z ∷ zs) less all = (omega (arith, less, all.0), above n zs less all.1)

      next : (kept : Bool) → nat_lt x.number y.number ≡ false → cond kept (y ∷ filed x (filter keep ys)) (filed x (filter keep ys)) ≡ filed x (cond kept (y ∷ filter keep ys) (filter keep ys))
      next true is = rw is refl
      next false is = refl

      by : (first : Bool) → nat_lt x.number y.number ≡ first → filter keep (filed x ys) ≡ filed x (filter keep ys) → filter keep (if first then x ∷ y ∷ ys else y ∷ filed x ys) ≡ filed x (filter keep (y ∷ ys))
      by true is more =
          let less = ltb-true x.number y.number is in
          rw stays (sym (filed-first x (filter keep (y ∷ ys)) (all-filter (λ z. x.number < z.number) (y ∷ ys) (less, above x.number ys less up.0))))
      by false is more = ap (λ zs. cond (keep y) (y ∷ zs) zs) more ∙ next (keep y) is

  pub filter-by_number : (xs : List Numbered) → IsQueue xs → filter keep (by_number xs) ≡ by_number (filter keep xs)
  filter-by_number [] queue = refl
  filter-by_number (x ∷ xs) queue = by (keep x) refl (filter-by_number xs queue.1)
    where
      by : (kept : Bool) → keep x ≡ kept → filter keep (by_number xs) ≡ by_number (filter keep xs) → filter keep (filed x (by_number xs)) ≡ by_number (cond kept (x ∷ filter keep xs) (filter keep xs))
      by true is more = filter-filed-in x is (by_number xs) (up-by_number xs queue.1) ∙ ap (filed x) more
      by false is more = filter-filed-out x is (by_number xs) ∙ more

  pub queue-filter : (xs : List Numbered) → IsQueue xs → IsQueue (filter keep xs)
  queue-filter [] queue = tt
  queue-filter (x ∷ xs) queue = by (keep x) (queue-filter xs queue.1)
    where
      by : (kept : Bool) → IsQueue (filter keep xs) → IsQueue (cond kept (x ∷ filter keep xs) (filter keep xs))
      by true more = (all-filter (ComesBefore x) xs queue.0, more)
      by false more = more

module _ (test : Delay → Bool) where
  abbrev pub left : Numbered → Bool
  left kept = not (test kept.delay)

  filter-map : (xs : List Numbered) → filter (λ d. not (test d)) (map delay_of xs) ≡ map delay_of (filter left xs)
  filter-map [] = refl
  filter-map (x ∷ xs) = by (left x) (filter-map xs)
    where
      by : (kept : Bool) → filter (λ d. not (test d)) (map delay_of xs) ≡ map delay_of (filter left xs)
          → cond kept (x.delay ∷ filter (λ d. not (test d)) (map delay_of xs)) (filter (λ d. not (test d)) (map delay_of xs)) ≡ map delay_of (cond kept (x ∷ filter left xs) (filter left xs))
      by true more = ap (λ ds. x.delay ∷ ds) more
      by false more = more

  pub cancelled-is : (xs : List Numbered) → IsQueue xs → filter (λ d. not (test d)) (in_order_of_put xs) ≡ in_order_of_put (filter left xs)
  cancelled-is xs queue = filter-map (by_number xs) ∙ ap (map delay_of) (filter-by_number left xs queue)

  length-delays : (xs : List Numbered) → length (map delay_of xs) ≡ length xs
  length-delays [] = refl
  length-delays (x ∷ xs) = ap suc (length-delays xs)

  pub count-gone : (xs : List Numbered) → IsQueue xs → count_by test (in_order_of_put xs) + length (filter left xs) ≡ length xs
  count-gone xs queue =
      let whole = length-filter_both test (λ d. not (test d)) (λ d. refl) (in_order_of_put xs) in
      let gone = length-filter test (in_order_of_put xs) in
      let there : length (in_order_of_put xs) ≡ length xs = length-delays (by_number xs) ∙ length-by_number xs in
      let stay : length (filter (λ d. not (test d)) (in_order_of_put xs)) ≡ length (filter left xs) = ap length (cancelled-is xs queue) ∙ length-delays (by_number (filter left xs)) ∙ length-by_number (filter left xs) in
      omega (arith, whole, gone, there, stay)

-- ---- the calls

pub takes-due : (queue rest : List Numbered) (x first : Numbered) (moment : ℕ) → IsQueue queue → queue ≡ x ∷ rest → first ≡ get_or queue 0 first → first.delay.due ≤ moment
    → TakesDue (due_at moment (in_order_of_put queue)) (in_order_of_put queue) (Some x.delay) (in_order_of_put rest)
takes-due [] rest x first moment sorted is head due = absurd (none-there is)
  where
    none-there : [] ≡ x ∷ rest → ⊥
    none-there e = cc
takes-due (y ∷ ys) rest x first moment sorted is head due =
    let mine : y ≡ x = ap (first-of x) is in
    let others : ys ≡ rest = ap (drop 1) is in
    rw (due-now y ys sorted moment (subst (λ (z : Numbered). z.delay.due ≤ moment) head due)) (ap (λ (z : Numbered). Some z.delay) (sym mine), ap in_order_of_put (sym others))
  where
    first-of : Numbered → List Numbered → Numbered
    first-of d [] = d
    first-of d (z ∷ zs) = z

pub takes-none : (queue : List Numbered) (first : Numbered) (moment : ℕ) → IsQueue queue → 0 < length queue → first ≡ get_or queue 0 first → moment < first.delay.due
    → TakesDue (due_at moment (in_order_of_put queue)) (in_order_of_put queue) None (in_order_of_put queue)
takes-none [] first moment sorted some head later = absurd (omega (arith, some))
takes-none (y ∷ ys) first moment sorted some head later = rw (due-later y ys sorted moment (subst (λ (z : Numbered). moment < z.delay.due) head later)) (refl, refl)

pub first-there : (queue : List Numbered) (first : Numbered) → IsQueue queue → 0 < length queue → first ≡ get_or queue 0 first → Some first.delay ≡ option_map best_of (earliest (in_order_of_put queue))
first-there [] first sorted some head = absurd (omega (arith, some))
first-there (y ∷ ys) first sorted some head = ap (λ (z : Numbered). Some z.delay) head ∙ sym (ap (option_map best_of) (due-first y ys sorted))

pub first-none : (queue : List Numbered) → length queue ≡ 0 → None ≡ option_map best_of (earliest (in_order_of_put queue))
first-none [] none = refl
first-none (y ∷ ys) none = absurd (omega (arith, none))

pub room-grows : (capacity count fewer next : ℕ) → fewer ≤ count → room capacity count next ≤ room capacity fewer next
room-grows capacity count fewer next less = omega (arith, less)

-- what a put leaves
module _ (kept : Numbered) (old new : List Numbered) (queue : IsQueue old) (below : AreBelow kept.number old) (is-put : IsPut kept old new) where
  abbrev front : List Numbered
  front = take is-put.0 old

  abbrev back : List Numbered
  back = drop is-put.0 old

  whole : front ++ back ≡ old
  whole = take-append-drop is-put.0 old

  pub put-good : IsQueue new × AreBelow (kept.number + 1) new
  put-good = subst (λ xs. IsQueue xs × AreBelow (kept.number + 1) xs) (sym is-put.2) (put-queue kept front back (subst IsQueue (sym whole) queue) (subst (AreBelow kept.number) (sym whole) below) is-put.1.0 is-put.1.1)

  pub put-behind : in_order_of_put new ≡ in_order_of_put old ++ kept.delay ∷ []
  put-behind = ap in_order_of_put is-put.2 ∙ put-delays kept front back (subst IsQueue (sym whole) queue) (subst (AreBelow kept.number) (sym whole) below) ∙ ap (λ xs. in_order_of_put xs ++ kept.delay ∷ []) whole

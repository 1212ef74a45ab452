-- The delayed letters of one address among those of all.
use Rattle.std.proofs.Common.{◌≡◌, ◌∙◌, sym, ap, subst, refl, ℕ, ◌<◌, ◌≤◌, List, [], ◌∷◌, ◌++◌, Bool, true, false, true≢false, not, cond, if◌then◌else◌, map, filter, Some, None, append-nil, arith}
use Rattle.std.specs.Prelude.{nat_le}
use Rattle.std.specs.List.{AllByRecursion}
use Rattle.std.specs.Cmp.{second_so}
use Rattle.std.proofs.lemmas.Bool.{leb-true, leb-false, le-leb}
use Rattle.std.proofs.lemmas.List.Elements.{filter-append}
use Rattle.typed_values.specs.declared.address.Address.{Address}
use Rattle.typed_values.specs.declared.record.Delay.{Delay}
use Rattle.typed_values.specs.Sameness.{same_bytes, same_address}
use Rattle.typed_values.proofs.Sameness.{same_address-Decides}
use Rattle.typed_values.specs.Delays.{is_meant, cancelled, sooner, earliest, if_due, due_at}
use Rattle.delayed_messages.specs.Laws.{after_all}
use Rattle.invocation.specs.declared.effects.DelayChange.{DelayChange}
use Rattle.invocation.specs.declared.effects.DelayChange.TheVariants.{Add, Cancel}
use Rattle.run_record.specs.Machine.{delay_call}
use Rattle.partition_core.specs.Work.{is_from}

-- ---- changes of one address

abbrev pub IsChangeOf : Address → DelayChange → Type 0
IsChangeOf address (Add delay) = delay.sender ≡ address
IsChangeOf address (Cancel token) = Unit {0}

filters_swap : {X : Type 0} (p q : X → Bool) (xs : List X) → filter p (filter q xs) ≡ filter q (filter p xs)
filters_swap p q [] = refl
filters_swap p q (x ∷ xs) = by (p x) (q x) refl refl (filters_swap p q xs)
  where
    by : (a b : Bool) → p x ≡ a → q x ≡ b → filter p (filter q xs) ≡ filter q (filter p xs) → filter p (cond b (x ∷ filter q xs) (filter q xs)) ≡ filter q (cond a (x ∷ filter p xs) (filter p xs))
    by true true e f more =
        ap (λ t. cond t (x ∷ filter p (filter q xs)) (filter p (filter q xs))) e ∙ ap (λ ys. x ∷ ys) more
        ∙ sym (ap (λ t. cond t (x ∷ filter q (filter p xs)) (filter q (filter p xs))) f)
    by true false e f more = more ∙ sym (ap (λ t. cond t (x ∷ filter q (filter p xs)) (filter q (filter p xs))) f)
    by false true e f more = ap (λ t. cond t (x ∷ filter p (filter q xs)) (filter p (filter q xs))) e ∙ more
    by false false e f more = more

-- what none of an address' are dropped by
filter_past : (address : Address) (q : Delay → Bool) → ((delay : Delay) → is_from address delay ≡ true → q delay ≡ true) → (ds : List Delay) → filter (is_from address) (filter q ds) ≡ filter (is_from address) ds
filter_past address q keeps [] = refl
filter_past address q keeps (d ∷ ds) = by (is_from address d) (q d) refl refl (filter_past address q keeps ds)
  where
    by : (a b : Bool) → is_from address d ≡ a → q d ≡ b → filter (is_from address) (filter q ds) ≡ filter (is_from address) ds
        → filter (is_from address) (cond b (d ∷ filter q ds) (filter q ds)) ≡ cond a (d ∷ filter (is_from address) ds) (filter (is_from address) ds)
    by true true e f more = ap (λ t. cond t (d ∷ filter (is_from address) (filter q ds)) (filter (is_from address) (filter q ds))) e ∙ ap (λ ys. d ∷ ys) more
    by true false e f more = absurd (true≢false (sym (keeps d e) ∙ f))
    by false true e f more = ap (λ t. cond t (d ∷ filter (is_from address) (filter q ds)) (filter (is_from address) (filter q ds))) e ∙ more
    by false false e f more = more

from_one : (address : Address) (delay : Delay) (t : Bool) → is_from address delay ≡ t → filter (is_from address) (delay ∷ []) ≡ cond t (delay ∷ []) []
from_one address delay t e = ap (λ b. cond b (delay ∷ []) []) e

pub own_changes : (address : Address) (changes : List DelayChange) → AllByRecursion (IsChangeOf address) changes → (ds : List Delay) → filter (is_from address) (after_all (map (delay_call address) changes) ds) ≡ after_all (map (delay_call address) changes) (filter (is_from address) ds)
own_changes address [] all ds = refl
own_changes address (Add delay ∷ changes) all ds =
    own_changes address changes all.1 (ds ++ delay ∷ [])
    ∙ ap (after_all (map (delay_call address) changes)) (filter-append (is_from address) ds (delay ∷ []) ∙ ap (λ xs. filter (is_from address) ds ++ xs) (from_one address delay true ((same_address-Decides delay.sender address).1 all.0)))
own_changes address (Cancel token ∷ changes) all ds =
    own_changes address changes all.1 (cancelled address token ds)
    ∙ ap (after_all (map (delay_call address) changes)) (filters_swap (is_from address) (λ delay. not (is_meant address token delay)) ds)

not_both : (address other : Address) (delay : Delay) → same_address address other ≡ false → is_from other delay ≡ true → same_address delay.sender address ≡ true → ⊥
not_both address other delay apart of_other of_address =
    true≢false (sym ((same_address-Decides address other).1 (sym ((same_address-Decides delay.sender address).0 of_address) ∙ (same_address-Decides delay.sender other).0 of_other)) ∙ apart)

pub other_changes : (address other : Address) → same_address address other ≡ false → (changes : List DelayChange) → AllByRecursion (IsChangeOf address) changes → (ds : List Delay) → filter (is_from other) (after_all (map (delay_call address) changes) ds) ≡ filter (is_from other) ds
other_changes address other apart [] all ds = refl
other_changes address other apart (Add delay ∷ changes) all ds =
    other_changes address other apart changes all.1 (ds ++ delay ∷ [])
    ∙ filter-append (is_from other) ds (delay ∷ [])
    ∙ ap (λ xs. filter (is_from other) ds ++ xs) (from_one other delay false (ap (λ a. same_address a other) all.0 ∙ apart))
    ∙ append-nil (filter (is_from other) ds)
other_changes address other apart (Cancel token ∷ changes) all ds =
    other_changes address other apart changes all.1 (cancelled address token ds)
    ∙ filter_past other (λ delay. not (is_meant address token delay)) (λ delay of_other. by delay of_other (is_meant address token delay) refl) ds
  where
    by : (delay : Delay) → is_from other delay ≡ true → (t : Bool) → is_meant address token delay ≡ t → not t ≡ true
    by delay of_other true e = absurd (not_both address other delay apart of_other (second_so (same_bytes delay.token token) (same_address delay.sender address) e))
    by delay of_other false e = refl

-- ---- the one that is due

-- the best of some delays, the first among equals
pub record Best (ds : List Delay) (d : Delay) (others : List Delay) : Type 0 where
  pub front : List Delay
  pub behind : List Delay
  pub whole : ds ≡ front ++ d ∷ behind
  pub left : others ≡ front ++ behind
  pub sooner_than : AllByRecursion (λ (e : Delay). d.due < e.due) front
  pub least : AllByRecursion (λ (e : Delay). d.due ≤ e.due) behind

raise : (low high : ℕ) (ds : List Delay) → low ≤ high → AllByRecursion (λ (e : Delay). high < e.due) ds → AllByRecursion (λ (e : Delay). low ≤ e.due) ds
raise low high [] le all = tt
raise low high (d ∷ ds) le all = (omega (arith, le, all.0), raise low high ds le all.1)

lower : (low high : ℕ) (ds : List Delay) → low ≤ high → AllByRecursion (λ (e : Delay). high ≤ e.due) ds → AllByRecursion (λ (e : Delay). low ≤ e.due) ds
lower low high [] le all = tt
lower low high (d ∷ ds) le all = (omega (arith, le, all.0), lower low high ds le all.1)

joined : (P : Delay → Type 0) (d : Delay) (front behind : List Delay) → AllByRecursion P front → P d → AllByRecursion P behind → AllByRecursion P (front ++ d ∷ behind)
joined P d [] behind f here b = (here, b)
joined P d (e ∷ es) behind f here b = (f.0, joined P d es behind f.1 here b)

best-is : (d : Delay) (ds : List Delay) → Best (d ∷ ds) (sooner d ds (earliest ds)).0 (sooner d ds (earliest ds)).1
best-is d [] = record { front = []; behind = []; whole = refl; left = refl; sooner_than = tt; least = tt }
best-is d (e ∷ es) = by (best-is e es) (nat_le d.due (sooner e es (earliest es)).0.due) refl
  where
    pick : Bool → Delay × List Delay
    pick first = if first then (d, e ∷ es) else ((sooner e es (earliest es)).0, d ∷ (sooner e es (earliest es)).1)

    by : Best (e ∷ es) (sooner e es (earliest es)).0 (sooner e es (earliest es)).1 → (first : Bool) → nat_le d.due (sooner e es (earliest es)).0.due ≡ first → Best (d ∷ e ∷ es) (pick first).0 (pick first).1
    by b true is =
        let le = leb-true d.due (sooner e es (earliest es)).0.due is in
        record {
          front = [];
          behind = e ∷ es;
          whole = refl;
          left = refl;
          sooner_than = tt;
          least = subst (AllByRecursion (λ (x : Delay). d.due ≤ x.due)) (sym b.whole)
              (joined (λ (x : Delay). d.due ≤ x.due) (sooner e es (earliest es)).0 b.front b.behind (raise d.due (sooner e es (earliest es)).0.due b.front le b.sooner_than) le (lower d.due (sooner e es (earliest es)).0.due b.behind le b.least));
        }
    by b false is = record {
      front = d ∷ b.front;
      behind = b.behind;
      whole = ap (λ xs. d ∷ xs) b.whole;
      left = ap (λ xs. d ∷ xs) b.left;
      sooner_than = (leb-false d.due (sooner e es (earliest es)).0.due is, b.sooner_than);
      least = b.least;
    }

best_due : (d : Delay) (ds : List Delay) (n : ℕ) → n ≤ d.due → AllByRecursion (λ (e : Delay). n ≤ e.due) ds → n ≤ (sooner d ds (earliest ds)).0.due
best_due d [] n here all = here
best_due d (e ∷ es) n here all = by (nat_le d.due (sooner e es (earliest es)).0.due) (best_due e es n all.0 all.1)
  where
    pick : Bool → Delay × List Delay
    pick first = if first then (d, e ∷ es) else ((sooner e es (earliest es)).0, d ∷ (sooner e es (earliest es)).1)

    by : (first : Bool) → n ≤ (sooner e es (earliest es)).0.due → n ≤ (pick first).0.due
    by true more = here
    by false more = more

first_least : (d : Delay) (ds : List Delay) → AllByRecursion (λ (e : Delay). d.due ≤ e.due) ds → sooner d ds (earliest ds) ≡ (d, ds)
first_least d [] all = refl
first_least d (e ∷ es) all = rw (le-leb d.due (sooner e es (earliest es)).0.due (best_due e es d.due all.0 all.1)) refl

-- where one is the best, it is the earliest
earliest_of : (d : Delay) (front behind : List Delay) → AllByRecursion (λ (e : Delay). d.due < e.due) front → AllByRecursion (λ (e : Delay). d.due ≤ e.due) behind → earliest (front ++ d ∷ behind) ≡ Some (d, front ++ behind)
earliest_of d [] behind f b = ap Some (first_least d behind b)
earliest_of d (e ∷ es) behind f b = ap (λ o. Some (sooner e (es ++ d ∷ behind) o)) (earliest_of d es behind f.1 b) ∙ ap Some (by (nat_le e.due d.due) refl)
  where
    pair : Delay → List Delay → Delay × List Delay
    pair x xs = (x, xs)

    pick : Bool → Delay × List Delay
    pick first = if first then (e, es ++ d ∷ behind) else (d, e ∷ (es ++ behind))

    by : (t : Bool) → nat_le e.due d.due ≡ t → pick t ≡ pair d (e ∷ (es ++ behind))
    by true is = let le = leb-true e.due d.due is in absurd (omega (arith, le, f.0))
    by false is = refl

all_passed : (P : Delay → Type 0) (p : Delay → Bool) (ds : List Delay) → AllByRecursion P ds → AllByRecursion P (filter p ds)
all_passed P p [] all = tt
all_passed P p (d ∷ ds) all = by (p d) (all_passed P p ds all.1)
  where
    by : (t : Bool) → AllByRecursion P (filter p ds) → AllByRecursion P (cond t (d ∷ filter p ds) (filter p ds))
    by true more = (all.0, more)
    by false more = more

filter_around : (p : Delay → Bool) (front behind : List Delay) (d : Delay) (t : Bool) → p d ≡ t → filter p (front ++ d ∷ behind) ≡ filter p front ++ cond t (d ∷ filter p behind) (filter p behind)
filter_around p front behind d t e = filter-append p front (d ∷ behind) ∙ ap (λ b. filter p front ++ cond b (d ∷ filter p behind) (filter p behind)) e

-- the best of all is the best of those that pass with it, and the others that pass are left
best_passes : (p : Delay → Bool) (ds others : List Delay) (d : Delay) → Best ds d others → p d ≡ true → earliest (filter p ds) ≡ Some (d, filter p others)
best_passes p ds others d best passes =
    ap (λ xs. earliest (filter p xs)) best.whole ∙ ap earliest (filter_around p best.front best.behind d true passes)
    ∙ earliest_of d (filter p best.front) (filter p best.behind) (all_passed (λ (e : Delay). d.due < e.due) p best.front best.sooner_than) (all_passed (λ (e : Delay). d.due ≤ e.due) p best.behind best.least)
    ∙ ap (λ xs. Some (d, xs)) (sym (filter-append p best.front best.behind) ∙ ap (filter p) (sym best.left))

best_stays_out : (p : Delay → Bool) (ds others : List Delay) (d : Delay) → Best ds d others → p d ≡ false → filter p others ≡ filter p ds
best_stays_out p ds others d best out =
    ap (filter p) best.left ∙ filter-append p best.front best.behind ∙ sym (filter_around p best.front best.behind d false out) ∙ ap (filter p) (sym best.whole)

some_same : {X : Type 0} (x y : X) → Some x ≡ Some y → x ≡ y
some_same x y e = cc

pub record IsDue (moment : ℕ) (ds : List Delay) (due : Delay × List Delay) : Type 0 where
  pub first : Best ds due.0 due.1
  pub now : due.0.due ≤ moment

is_due : (moment : ℕ) (ds : List Delay) (due : Delay × List Delay) → due_at moment ds ≡ Some due → IsDue moment ds due
is_due moment [] due e = absurd cc
is_due moment (d ∷ ds) due e = by (nat_le (sooner d ds (earliest ds)).0.due moment) refl e
  where
    by : (t : Bool) → nat_le (sooner d ds (earliest ds)).0.due moment ≡ t → (if t then Some (sooner d ds (earliest ds)) else None) ≡ Some due → IsDue moment (d ∷ ds) due
    by true n is = subst (IsDue moment (d ∷ ds)) (some_same (sooner d ds (earliest ds)) due is) (record { first = best-is d ds; now = leb-true (sooner d ds (earliest ds)).0.due moment n })
    by false n is = absurd cc

-- what is due of all is due of its sender's
pub due_of_own : (address : Address) (moment : ℕ) (ds : List Delay) (due : Delay × List Delay) → due_at moment ds ≡ Some due → due.0.sender ≡ address → due_at moment (filter (is_from address) ds) ≡ Some (due.0, filter (is_from address) due.1)
due_of_own address moment ds due e from =
    let is = is_due moment ds due e in
    ap (if_due moment) (best_passes (is_from address) ds due.1 due.0 is.first ((same_address-Decides due.0.sender address).1 from))
    ∙ ap (λ b. cond b (Some (due.0, filter (is_from address) due.1)) None) (le-leb due.0.due moment is.now)

pub due_of_other : (other : Address) (moment : ℕ) (ds : List Delay) (due : Delay × List Delay) → due_at moment ds ≡ Some due → is_from other due.0 ≡ false → filter (is_from other) due.1 ≡ filter (is_from other) ds
due_of_other other moment ds due e out = best_stays_out (is_from other) ds due.1 due.0 (is_due moment ds due e).first out

-- What becomes of delays.
use Rattle.std.proofs.Common.{◌≡◌, ℕ, ◌+◌, ◌<◌, ◌≤◌, nat_le, Bool, true, false, not, ◌&&◌, cond, if◌then◌else◌, List, [], ◌∷◌, ◌++◌, map, count_by, Option, Some, None, true≢false, refl, sym, ap, subst, ◌∙◌, arith}
use Rattle.std.proofs.lemmas.Bool.{leb-true, leb-false}
use Rattle.std.proofs.lemmas.List.Sums.{sum_by-cons, sum_by-append}
use Rattle.std.specs.Cmp.{first_so, second_so}
use Rattle.std.specs.Cmp.Lexicographic.{bytes_decides}
use Rattle.std.specs.List.{AllByRecursion}
use Rattle.typed_values.specs.declared.address.Address.{Address}
use Rattle.typed_values.specs.declared.record.Delay.{Delay}
use Rattle.typed_values.specs.Sameness.{same_bytes, same_address}
use Rattle.typed_values.proofs.Sameness.{same_address-Decides}
use Rattle.typed_values.specs.Delays.{is_meant, cancelled, sooner, earliest, due_at, if_due}
use Rattle.delayed_messages.specs.Laws.{CancelsItsOwn, LeastIsDue, NoneIsDue, NoneIsEarly, NoneIsLost, Puts, Cancels, Asks, left_by, put_by, came, sent_by, delay_in}

-- ---- cancellations

meant : (sender : Address) (token : List ℕ) (d : Delay) → d.sender ≡ sender → d.token ≡ token → is_meant sender token d ≡ true
meant sender token d s t = λ i. (bytes_decides d.token token).1 t i && (same_address-Decides d.sender sender).1 s i

meant-by : (sender : Address) (token : List ℕ) (d : Delay) → is_meant sender token d ≡ true → (d.sender ≡ sender) × (d.token ≡ token)
meant-by sender token d is = ((same_address-Decides d.sender sender).0 (second_so (same_bytes d.token token) (same_address d.sender sender) is), (bytes_decides d.token token).0 (first_so (same_bytes d.token token) (same_address d.sender sender) is))

abbrev pub one : (Delay → Bool) → Delay → ℕ
one looked d = cond (looked d) 1 0

count-cons : (looked : Delay → Bool) (d : Delay) (ds : List Delay) → count_by looked (d ∷ ds) ≡ cond (looked d) 1 0 + count_by looked ds
count-cons looked d ds = sum_by-cons (one looked) d ds

none-left : (sender : Address) (token : List ℕ) (delays : List Delay) → AllByRecursion (λ d. (d.sender ≡ sender) × (d.token ≡ token) → ⊥) (cancelled sender token delays)
none-left sender token [] = tt
none-left sender token (d ∷ ds) = by (is_meant sender token d) refl (none-left sender token ds)
  where
    by : (gone : Bool) → is_meant sender token d ≡ gone → AllByRecursion (λ e. (e.sender ≡ sender) × (e.token ≡ token) → ⊥) (cancelled sender token ds)
        → AllByRecursion (λ e. (e.sender ≡ sender) × (e.token ≡ token) → ⊥) (cond (not gone) (d ∷ cancelled sender token ds) (cancelled sender token ds))
    by true is more = more
    by false is more = (λ both. true≢false (sym (meant sender token d both.0 both.1) ∙ is), more)

pub others-stay : (sender : Address) (token : List ℕ) (looked : Delay → Bool) → ((d : Delay) → is_meant sender token d ≡ true → looked d ≡ false) → (delays : List Delay) → count_by looked (cancelled sender token delays) ≡ count_by looked delays
others-stay sender token looked misses [] = refl
others-stay sender token looked misses (d ∷ ds) = by (is_meant sender token d) refl (others-stay sender token looked misses ds) ∙ sym (count-cons looked d ds)
  where
    by : (gone : Bool) → is_meant sender token d ≡ gone → count_by looked (cancelled sender token ds) ≡ count_by looked ds
        → count_by looked (cond (not gone) (d ∷ cancelled sender token ds) (cancelled sender token ds)) ≡ cond (looked d) 1 0 + count_by looked ds
    by true is more = rw (misses d is) (omega (arith, more))
    by false is more = count-cons looked d (cancelled sender token ds) ∙ ap (λ n. cond (looked d) 1 0 + n) more

pub cancels-its-own : CancelsItsOwn
cancels-its-own sender token delays = (none-left sender token delays, λ looked misses. others-stay sender token looked (λ d is. let by = meant-by sender token d is in misses d by.0 by.1) delays)

-- ---- what is due

-- the best of some delays, the first among equals
abbrev Best : List Delay → Delay → List Delay → Type 0
Best delays d others = (front : List Delay) × (behind : List Delay) × (delays ≡ front ++ d ∷ behind) × (others ≡ front ++ behind)
    × AllByRecursion (λ e. d.due < e.due) front × AllByRecursion (λ e. d.due ≤ e.due) behind

raise : (low high : ℕ) (ds : List Delay) → low ≤ high → AllByRecursion (λ e. high < e.due) ds → AllByRecursion (λ e. low ≤ e.due) ds
raise low high [] le all = tt
raise low high (d ∷ ds) le all = (omega (arith, le, all.0), raise low high ds le all.1)

lower : (low high : ℕ) (ds : List Delay) → low ≤ high → AllByRecursion (λ e. high ≤ e.due) ds → AllByRecursion (λ e. low ≤ e.due) ds
lower low high [] le all = tt
lower low high (d ∷ ds) le all = (omega (arith, le, all.0), lower low high ds le all.1)

joined : (P : Delay → Type 0) (d : Delay) (front behind : List Delay) → AllByRecursion P front → P d → AllByRecursion P behind → AllByRecursion P (front ++ d ∷ behind)
joined P d [] behind f here b = (here, b)
joined P d (e ∷ es) behind f here b = (f.0, joined P d es behind f.1 here b)

best-is : (d : Delay) (ds : List Delay) → Best (d ∷ ds) (sooner d ds (earliest ds)).0 (sooner d ds (earliest ds)).1
best-is d [] = ([], [], refl, refl, tt, tt)
best-is d (e ∷ es) = by (best-is e es) (nat_le d.due (sooner e es (earliest es)).0.due) refl
  where
    best : Delay
    best = (sooner e es (earliest es)).0

    left : List Delay
    left = (sooner e es (earliest es)).1

    pick : Bool → Delay × List Delay
    pick first = if first then (d, e ∷ es) else ((sooner e es (earliest es)).0, d ∷ (sooner e es (earliest es)).1)

    by : Best (e ∷ es) (sooner e es (earliest es)).0 (sooner e es (earliest es)).1 → (first : Bool) → nat_le d.due (sooner e es (earliest es)).0.due ≡ first → Best (d ∷ e ∷ es) (pick first).0 (pick first).1
    by b true is =
        let le = leb-true d.due (sooner e es (earliest es)).0.due is in (
          [],
          e ∷ es,
          refl,
          refl,
          tt,
          subst (AllByRecursion (λ x. d.due ≤ x.due)) (sym b.2)
              (joined (λ x. d.due ≤ x.due) (sooner e es (earliest es)).0 b.0 b.1 (raise d.due (sooner e es (earliest es)).0.due b.0 le b.4) le (lower d.due (sooner e es (earliest es)).0.due b.1 le b.5)),
        )
    by b false is = (d ∷ b.0, b.1, ap (λ xs. d ∷ xs) b.2, ap (λ xs. d ∷ xs) b.3, (leb-false d.due (sooner e es (earliest es)).0.due is, b.4), b.5)

some-same : {X : Type 0} (x y : X) → Some x ≡ Some y → x ≡ y
some-same x y e = cc

due-some : (moment : ℕ) (best : Delay × List Delay) (d : Delay) (others : List Delay) → if_due moment (Some best) ≡ Some (d, others) → (best ≡ (d, others)) × (best.0.due ≤ moment)
due-some moment best d others is = by (nat_le best.0.due moment) refl is
  where
    by : (now : Bool) → nat_le best.0.due moment ≡ now → (if now then Some best else None) ≡ Some (d, others) → (best ≡ (d, others)) × (best.0.due ≤ moment)
    by true n e = (some-same best (d, others) e, leb-true best.0.due moment n)
    by false n e = absurd cc

pub least-is-due : LeastIsDue
least-is-due moment [] others d is = absurd cc
least-is-due moment (e ∷ es) others d is =
    let b = best-is e es in
    let both = due-some moment (sooner e es (earliest es)) d others is in
    let first : (sooner e es (earliest es)).0 ≡ d = ap (λ (p : Delay × List Delay). p.0) both.0 in
    let rest : (sooner e es (earliest es)).1 ≡ others = ap (λ (p : Delay × List Delay). p.1) both.0 in
    let best = subst (λ (x : Delay). Best (e ∷ es) x (sooner e es (earliest es)).1) first b in
    let whole = subst (Best (e ∷ es) d) rest best in
    (whole.0, whole.1, whole.2, whole.3, whole.4, whole.5, subst (λ (x : Delay). x.due ≤ moment) first both.1)

low-all : (moment : ℕ) (best : Delay) (front behind : List Delay) → moment < best.due → AllByRecursion (λ e. best.due < e.due) front → AllByRecursion (λ e. best.due ≤ e.due) behind → AllByRecursion (λ e. moment < e.due) (front ++ best ∷ behind)
low-all moment best [] [] less f b = (less, tt)
low-all moment best [] (e ∷ es) less f b = (less, more e es b)
  where
    more : (e : Delay) (es : List Delay) → AllByRecursion (λ x. best.due ≤ x.due) (e ∷ es) → AllByRecursion (λ x. moment < x.due) (e ∷ es)
    more e [] b = (omega (arith, less, b.0), tt)
    more e (x ∷ xs) b = (omega (arith, less, b.0), more x xs b.1)
low-all moment best (e ∷ es) behind less f b = (omega (arith, less, f.0), low-all moment best es behind less f.1 b)

pub none-is-due : NoneIsDue
none-is-due moment [] is = tt
none-is-due moment (e ∷ es) is = by (nat_le (sooner e es (earliest es)).0.due moment) refl is
  where
    by : (now : Bool) → nat_le (sooner e es (earliest es)).0.due moment ≡ now → (if now then Some (sooner e es (earliest es)) else None) ≡ None → AllByRecursion (λ d. moment < d.due) (e ∷ es)
    by true n h = absurd cc
    by false n h =
        let b = best-is e es in
        subst (AllByRecursion (λ d. moment < d.due)) (sym b.2) (low-all moment (sooner e es (earliest es)).0 b.0 b.1 (leb-false (sooner e es (earliest es)).0.due moment n) b.4 b.5)

-- ---- any calls

came-in-time : (moment : ℕ) (delays : List Delay) (due : Option (Delay × List Delay)) (more : List (ℕ × Delay)) → due_at moment delays ≡ due → AllByRecursion (λ p. (delay_in p).due ≤ p.0) more → AllByRecursion (λ p. (delay_in p).due ≤ p.0) (came moment due more)
came-in-time moment delays None more is all = all
came-in-time moment delays (Some due) more is all = ((least-is-due moment delays due.1 due.0 is).6, all)

pub none-is-early : NoneIsEarly
none-is-early [] delays = tt
none-is-early (Puts delay ∷ calls) delays = none-is-early calls (delays ++ delay ∷ [])
none-is-early (Cancels sender token ∷ calls) delays = none-is-early calls (cancelled sender token delays)
none-is-early (Asks moment ∷ calls) delays = came-in-time moment delays (due_at moment delays) (sent_by calls (left_by delays (due_at moment delays))) refl (none-is-early calls (left_by delays (due_at moment delays)))

module _ (looked : Delay → Bool) where
  count-join : (xs ys : List Delay) → count_by looked (xs ++ ys) ≡ count_by looked xs + count_by looked ys
  count-join xs ys = sum_by-append (one looked) xs ys

  taken-out : (moment : ℕ) (delays : List Delay) (due : Option (Delay × List Delay)) (more : List (ℕ × Delay)) → due_at moment delays ≡ due
      → count_by looked delays + count_by looked (map delay_in more) ≡ count_by looked (map delay_in (came moment due more)) + count_by looked (left_by delays due)
  taken-out moment delays None more is = omega arith
  taken-out moment delays (Some due) more is =
      let least = least-is-due moment delays due.1 due.0 is in
      let old = ap (count_by looked) least.2 ∙ count-join least.0 (due.0 ∷ least.1) in
      let new = ap (count_by looked) least.3 ∙ count-join least.0 least.1 in
      omega (arith, old, new, count-cons looked due.0 least.1, count-cons looked due.0 (map delay_in more))

pub none-is-lost : NoneIsLost
none-is-lost [] delays looked misses = omega arith
none-is-lost (Puts delay ∷ calls) delays looked misses =
    let more = none-is-lost calls (delays ++ delay ∷ []) looked misses.1 in
    let last = count-join looked delays (delay ∷ []) in
    omega (arith, more, last, count-cons looked delay [], count-cons looked delay (put_by calls))
none-is-lost (Cancels sender token ∷ calls) delays looked misses =
    let more = none-is-lost calls (cancelled sender token delays) looked misses.1 in
    let same = others-stay sender token looked misses.0 delays in
    omega (arith, more, same)
none-is-lost (Asks moment ∷ calls) delays looked misses =
    let due = due_at moment delays in
    let more = none-is-lost calls (left_by delays due) looked misses.1 in
    let out = taken-out looked moment delays due (sent_by calls (left_by delays due)) refl in
    omega (arith, more, out)

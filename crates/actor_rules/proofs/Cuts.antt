-- Steps that lead to a world, from a cut, and merged.
use Rattle.std.proofs.Common.{◌≡◌, ℕ, ◌+◌, ◌≤◌, Bool, true, false, cond, List, [], ◌∷◌, ◌++◌, length, drop, refl, sym, ◌∙◌, ap, subst, inl, inr, arith, append_assoc, length-append, length-drop}
use Rattle.std.specs.List.{AllByRecursion, filter}
use Rattle.std.proofs.lemmas.List.{append-nil}
use mathlib.Core.Path.{fun_ext}
use Rattle.actor_rules.specs.Rules.{Rules, World, AreSound, IsAllowed, seen, after, IsRun}
use Rattle.actor_rules.specs.Keys.{IsKeyOrder, Rises, placed, merged_behind}
use Rattle.actor_rules.specs.Apart.{left_by, sent_by, taken_by, parts, ever_sent, world_of, its_own, with_step, WereSent, IsFitting, AllFit, LeadTo}
use Rattle.actor_rules.proofs.Lists.{IsInOrder, true_or_false, all-front, two_fronts, all-map, in_order-placed}
use Rattle.actor_rules.proofs.Alone.{all_fit-with}
use Rattle.actor_rules.proofs.Worlds.{AreSent, seen_is, world-with, left-with}
use Rattle.actor_rules.proofs.Runs.{fitting_run}
use Rattle.actor_rules.proofs.Placing.{parts-placed}

module _ {K A L V E : Type 0} (r : Rules K A L V E) (sound : AreSound r) (before : E → E → Bool) where
  -- letters that some steps alone sent, by keys of which P holds among all
  sent_at_cut : (s : World K A L V) (some all later : K → List E) (P : E → Type 0) (x : K) (a : A) (count : ℕ) → all x ≡ some x ++ later x → count ≤ length (ever_sent r s some x a) → WereSent r s all P x a count → WereSent r s some P x a count
  sent_at_cut s some all later P x a count is there sent =
      let long : count ≤ length (s.mail x a) + length (sent_by r (s.own x) (some x) a) = omega (arith, length-append (s.mail x a) (sent_by r (s.own x) (some x) a)) in
      elim (two_fronts sent.front sent.back (some x) (later x) (sym sent.is ∙ is)) [
        | inl more ↦ record { front = sent.front; back = more.0; is = more.1; all = sent.all; enough = sent.enough }
        | inr more ↦ record { front = some x; back = []; is = sym (append-nil (some x)); all = all-front P (some x) more.0 (subst (AllByRecursion P) more.1 sent.all); enough = long }
      ]

  -- what a step looks at in the world that steps lead to
  are_there : (s t : World K A L V) (w : K → List E) (e : E) → LeadTo r before s w t → IsAllowed r t e → AreSent r sound s w e
  are_there s t w e lead allowed x a same =
      let here : r.looks e x ≤ length (drop (taken_by r (w (r.owner a)) x) (ever_sent r s w x a)) = subst (λ (z : World K A L V). r.looks e x ≤ length (z.mail x a)) lead.is (allowed.there x a same) in
      let within = lead.left x a in
      subst (λ y. taken_by r (w y) x + r.looks e x ≤ length (ever_sent r s w x a)) ((sound.decides (r.owner a) (r.maker e)).0 same) (omega (arith, length-drop (taken_by r (w (r.owner a)) x) (ever_sent r s w x a)))

  pub leads_on : (s t : World K A L V) (some all later : K → List E) (e : E) → ((x : K) → all x ≡ some x ++ later x) → some (r.maker e) ≡ all (r.maker e) → LeadTo r before s some t → IsAllowed r t e
      → ((x : K) (a : A) → r.same (r.owner a) (r.maker e) ≡ true → WereSent r s all (λ f. before f e ≡ true) x a (taken_by r (all (r.maker e)) x + r.looks e x))
      → LeadTo r before s (with_step r some e) (after r t e)
  leads_on s t some all later e splits own lead allowed early =
      let there = are_there s t some e lead allowed in
      let Passes : World K A L V → Type 0 = λ z. r.test e (z.own (r.maker e)) (seen r (r.maker e) (λ x. 0) e z.mail) ≡ true in
      let passes : Passes (world_of r s some) = subst Passes lead.is allowed.passes in
      let fits : IsFitting r before s some (r.maker e) (some (r.maker e)) e = record {
        passes = ap (r.test e (left_by r (s.own (r.maker e)) (some (r.maker e)))) (sym (seen_is r sound s some (r.maker e) e)) ∙ passes;
        early = λ x a same. sent_at_cut s some all later _ x a _ (splits x) (there x a same) (subst (λ es. WereSent r s all (λ f. before f e ≡ true) x a (taken_by r es x + r.looks e x)) (sym own) (early x a same));
      } in record {
        is = ap (λ z. after r z e) lead.is ∙ world-with r sound s some e lead.left there;
        left = left-with r sound s some e lead.left there;
        fit = all_fit-with r before s some e (λ x. (sound.decides x (r.maker e)).0) lead.fit fits;
      }

  -- ---- merged

  abbrev All : (E → Type 0) → List E → Type 0
  All P es = AllByRecursion P es

  all_before : (xs : List E) (e : E) (ys : List E) → Rises before (xs ++ e ∷ ys) → All (λ f. before f e ≡ true) xs
  all_before [] e ys h = tt
  all_before (x ∷ xs) e ys h = (here xs h.0, all_before xs e ys h.1)
    where
      here : (zs : List E) → All (λ g. before x g ≡ true) (zs ++ e ∷ ys) → before x e ≡ true
      here [] k = k.0
      here (z ∷ zs) k = here zs k.1

  of_filter : (P : E → Type 0) (p : E → Bool) (xs : List E) → All P (filter p xs) → All (λ x. p x ≡ true → P x) xs
  of_filter P p [] h = tt
  of_filter P p (x ∷ xs) h = elim (true_or_false (p x)) [
    | inl is ↦ (let both : All P (x ∷ filter p xs) = rw is at h in (λ u. both.0, of_filter P p xs both.1))
    | inr isnt ↦ (let rest : All P (filter p xs) = rw isnt at h in (λ u. absurd (let both : true ≡ false = sym u ∙ isnt in cc), of_filter P p xs rest))
  ]

  parts-cons : (x : K) (e : E) (es : List E) → parts r (e ∷ es) x ≡ its_own r e x ++ parts r es x
  parts-cons x e es = by_test (r.same x (r.maker e))
    where
      by_test : (b : Bool) → cond b (e ∷ parts r es x) (parts r es x) ≡ cond b (e ∷ []) [] ++ parts r es x
      by_test true = refl
      by_test false = refl

  module _ (keys : IsKeyOrder before) where
    parts-merged : (front es : List E) → IsInOrder before front → ((x : K) → Rises before (parts r front x ++ parts r es x))
        → IsInOrder before (merged_behind before front es) × ((x : K) → parts r (merged_behind before front es) x ≡ parts r front x ++ parts r es x)
    parts-merged front [] ordered rises = (ordered, λ x. sym (append-nil (parts r front x)))
    parts-merged front (e ∷ es) ordered rises =
        let maker = r.maker e in
        let here : parts r (e ∷ es) maker ≡ e ∷ parts r es maker = rw ((sound.decides maker maker).1 refl) refl in
        let earlier = all_before (parts r front maker) e (parts r es maker) (subst (λ fs. Rises before (parts r front maker ++ fs)) here (rises maker)) in
        let own = of_filter (λ f. before f e ≡ true) (λ f. r.same maker (r.maker f)) front earlier in
        let turned = all-map (λ f. r.same maker (r.maker f) ≡ true → before f e ≡ true) (λ f. r.same (r.maker f) maker ≡ true → before f e ≡ true) front
        (λ f h t. h ((sound.decides maker (r.maker f)).1 (sym ((sound.decides (r.maker f) maker).0 t)))) own in
        let list : (x : K) → parts r (placed before e front) x ++ parts r es x ≡ parts r front x ++ parts r (e ∷ es) x = λ x.
        ap (λ fs. fs ++ parts r es x) (parts-placed r sound before keys x e front ordered turned) ∙ append_assoc (parts r front x) (its_own r e x) (parts r es x) ∙ ap (λ fs. parts r front x ++ fs) (sym (parts-cons x e es)) in
        let rest = parts-merged (placed before e front) es (in_order-placed before keys e front ordered) (λ x. subst (Rises before) (sym (list x)) (rises x)) in
        (rest.0, λ x. rest.1 x ∙ list x)

    placed-behind : (e : E) (old fs : List E) → All (λ f. before e f ≡ false) old → placed before e (old ++ fs) ≡ old ++ placed before e fs
    placed-behind e [] fs all = refl
    placed-behind e (f ∷ old) fs all = rw all.0 (ap (λ gs. f ∷ gs) (placed-behind e old fs all.1))

    merged-behind : (old fs es : List E) → All (λ e. All (λ f. before e f ≡ false) old) es → merged_behind before (old ++ fs) es ≡ old ++ merged_behind before fs es
    merged-behind old fs [] all = refl
    merged-behind old fs (e ∷ es) all = ap (λ gs. merged_behind before gs es) (placed-behind e old fs all.0) ∙ merged-behind old (placed before e fs) es all.1

    run-behind : (b s t : World K A L V) (old es : List E) → IsRun r b old s → IsRun r s es t → IsRun r b (old ++ es) t
    run-behind b s t [] es first rest = subst (λ z. IsRun r z es t) first rest
    run-behind b s t (e ∷ old) es first rest = (first.0, run-behind (after r b e) s t old es first.1 rest)

    pub merge_runs : (b s t : World K A L V) (old es : List E) → IsRun r b old s → All (λ e. All (λ f. before e f ≡ false) old) es
        → ((x : K) → Rises before (parts r es x)) → LeadTo r before s (parts r es) t → IsRun r b (merged_behind before old es) t
    merge_runs b s t old es run all rises lead =
        let list : merged_behind before old es ≡ old ++ merged_behind before [] es = ap (λ gs. merged_behind before gs es) (sym (append-nil old)) ∙ merged-behind old [] es all in
        let merged = parts-merged [] es tt rises in
        let same : parts r (merged_behind before [] es) ≡ parts r es = fun_ext merged.1 in
        let fit : AllFit r before s (parts r (merged_behind before [] es)) = subst (AllFit r before s) (sym same) lead.fit in
        let more : IsRun r s (merged_behind before [] es) t = subst (λ z. IsRun r s (merged_behind before [] es) z) (ap (world_of r s) same ∙ sym lead.is) (fitting_run r sound before s (merged_behind before [] es) merged.0 fit) in
        subst (λ gs. IsRun r b gs t) (sym list) (run-behind b s t old (merged_behind before [] es) run more)

-- A step put at its key's place acts as if it were made last.
use Rattle.std.proofs.Common.{◌≡◌, ◌+◌, Bool, true, false, List, [], ◌∷◌, ◌++◌, refl, sym, ◌∙◌, ap, subst, inl, inr}
use Rattle.std.specs.List.{AllByRecursion}
use Rattle.std.proofs.lemmas.List.{append-nil}
use mathlib.Core.Path.{fun_ext}
use Rattle.actor_rules.specs.Rules.{Rules, World, AreSound, IsAllowed, after, IsRun}
use Rattle.actor_rules.specs.Keys.{IsKeyOrder, Rises, placed}
use Rattle.actor_rules.specs.Apart.{left_by, taken_by, parts, world_of, its_own, with_step, WereSent, IsFitting, AllFit}
use Rattle.actor_rules.proofs.Lists.{IsInOrder, true_or_false, in_order, before_rest, rises-placed}
use Rattle.actor_rules.proofs.Alone.{were_sent-there, all_fit-with}
use Rattle.actor_rules.proofs.Worlds.{seen_is, world-with}
use Rattle.actor_rules.proofs.Runs.{fitting_run, run_fits}

module _ {K A L V E : Type 0} (r : Rules K A L V E) (sound : AreSound r) (before : E → E → Bool) (keys : IsKeyOrder before) where
  -- no step of its maker stands behind it
  none_own : (x : K) (e : E) (es : List E) → r.same x (r.maker e) ≡ true → AllByRecursion (λ f. before e f ≡ true) es → AllByRecursion (λ f. r.same (r.maker f) (r.maker e) ≡ true → before f e ≡ true) es → parts r es x ≡ []
  none_own x e [] t all own = refl
  none_own x e (f ∷ fs) t all own = elim (true_or_false (r.same x (r.maker f))) [
    | inl u ↦ absurd (
        let at : r.maker f ≡ r.maker e = sym ((sound.decides x (r.maker f)).0 u) ∙ (sound.decides x (r.maker e)).0 t in
        let both : true ≡ false = sym (own.0 ((sound.decides (r.maker f) (r.maker e)).1 at)) ∙ keys.one_way e f all.0 in cc)
    | inr u ↦ rw u (none_own x e fs t all.1 own.1)
  ]

  pub parts-placed : (x : K) (e : E) (es : List E) → IsInOrder before es → AllByRecursion (λ f. r.same (r.maker f) (r.maker e) ≡ true → before f e ≡ true) es → parts r (placed before e es) x ≡ parts r es x ++ its_own r e x
  parts-placed x e [] ordered own = refl
  parts-placed x e (f ∷ fs) ordered own = elim (true_or_false (before e f)) [
    | inl b ↦ rw b (elim (true_or_false (r.same x (r.maker e))) [
      | inl t ↦ (let none = none_own x e (f ∷ fs) t (before_rest before keys e f fs b ordered) own in rw t (ap (λ es. e ∷ es) none ∙ ap (λ es. es ++ e ∷ []) (sym none)))
      | inr t ↦ rw t (sym (append-nil (parts r (f ∷ fs) x)))
    ])
    | inr n ↦ (let rest = parts-placed x e fs ordered.1 own.1 in rw n (elim (true_or_false (r.same x (r.maker f))) [
      | inl u ↦ rw u (ap (λ es. f ∷ es) rest)
      | inr u ↦ rw u rest
    ]))
  ]

  pub run-placed : (s t : World K A L V) (es : List E) (e : E) → Rises before es
      → AllByRecursion (λ f. before e f ≡ false → before f e ≡ true) es → AllByRecursion (λ f. r.same (r.maker f) (r.maker e) ≡ true → before f e ≡ true) es
      → IsRun r s es t → IsAllowed r t e
      → ((x : K) (a : A) → r.same (r.owner a) (r.maker e) ≡ true → WereSent r s (parts r es) (λ f. before f e ≡ true) x a (taken_by r (parts r es (r.maker e)) x + r.looks e x))
      → Rises before (placed before e es) × IsRun r s (placed before e es) (after r t e)
  run-placed s t es e rises apart own run allowed early =
      let have = run_fits r sound before s t es rises run in
      let there : IsAllowed r (world_of r s (parts r es)) e = subst (λ w. IsAllowed r w e) have.1 allowed in
      let fits : IsFitting r before s (parts r es) (r.maker e) (parts r es (r.maker e)) e = record {
        passes = ap (r.test e (left_by r (s.own (r.maker e)) (parts r es (r.maker e)))) (sym (seen_is r sound s (parts r es) (r.maker e) e)) ∙ there.passes;
        early = early;
      } in
      let all = all_fit-with r before s (parts r es) e (λ x. (sound.decides x (r.maker e)).0) have.0 fits in
      let list : with_step r (parts r es) e ≡ parts r (placed before e es) = fun_ext (λ x. sym (parts-placed x e es (in_order before keys es rises) own)) in
      let last : after r t e ≡ world_of r s (parts r (placed before e es)) =
      ap (λ w. after r w e) have.1 ∙ world-with r sound s (parts r es) e have.2 (λ x a u. were_sent-there r s (parts r es) _ x a _ (early x a u)) ∙ ap (world_of r s) list in
      let ordered = rises-placed before keys e es rises apart in
      (ordered, subst (IsRun r s (placed before e es)) (sym last) (fitting_run r sound before s (placed before e es) (in_order before keys (placed before e es) ordered) (subst (AllFit r before s) list all)))

-- Steps that fit by themselves are a run in the order of their keys, and the other way round.
use Rattle.std.proofs.Common.{◌≡◌, ◌+◌, ◌≤◌, Bool, true, false, List, [], ◌∷◌, ◌++◌, length, refl, sym, ◌∙◌, ap, subst, arith, append_assoc, length-append, length-drop}
use Rattle.std.specs.List.{AllByRecursion}
use Rattle.std.proofs.lemmas.List.{append-nil}
use Rattle.std.proofs.lemmas.List.Elements.{filter-append}
use mathlib.Core.Path.{fun_ext}
use Rattle.actor_rules.specs.Rules.{Rules, World, AreSound, IsAllowed, seen, after, IsRun}
use Rattle.actor_rules.specs.Keys.{Rises}
use Rattle.actor_rules.specs.Apart.{left_by, sent_by, taken_by, parts, ever_sent, world_of, with_step, IsFitting, AllFit}
use Rattle.actor_rules.proofs.Lists.{front_inside, all-append, all-filter, IsInOrder}
use Rattle.actor_rules.proofs.Alone.{sent_by-longer, seen-more, all_fit-with}
use Rattle.actor_rules.proofs.Worlds.{same_world, HasLeft, AreSent, seen_is, world-with, allowed-from, left-with}

module _ {K A L V E : Type 0} (r : Rules K A L V E) (sound : AreSound r) (before : E → E → Bool) where
  abbrev Left : World K A L V → List E → Type 0
  Left s es = HasLeft r sound s (parts r es)

  abbrev Sent : World K A L V → List E → E → Type 0
  Sent s es e = AreSent r sound s (parts r es) e

  abbrev Fit : World K A L V → List E → Type 0
  Fit s es = AllFit r before s (parts r es)

  parts-append : (es fs : List E) (x : K) → parts r (es ++ fs) x ≡ parts r es x ++ parts r fs x
  parts-append es fs x = filter-append (λ e. r.same x (r.maker e)) es fs

  pub parts-push : (es : List E) (e : E) → with_step r (parts r es) e ≡ parts r (es ++ e ∷ [])
  parts-push es e = fun_ext (λ x. sym (parts-append es (e ∷ []) x))

  world-none : (s : World K A L V) → world_of r s (parts r []) ≡ s
  world-none s = same_world _ _ _ _ refl (fun_ext (λ x. fun_ext (λ a. append-nil (s.mail x a))))

  -- ---- what a step behind some of a list finds there

  module _ (s : World K A L V) (front : List E) (e : E) (back : List E) (fit : AllFit r before s (parts r (front ++ e ∷ back))) (behind : AllByRecursion (λ g. before g e ≡ false) (e ∷ back)) where
    splits : (x : K) → parts r (front ++ e ∷ back) x ≡ parts r front x ++ parts r (e ∷ back) x
    splits x = parts-append front (e ∷ back) x

    first : parts r (e ∷ back) (r.maker e) ≡ e ∷ parts r back (r.maker e)
    first = rw ((sound.decides (r.maker e) (r.maker e)).1 refl) refl

    fits : IsFitting r before s (parts r (front ++ e ∷ back)) (r.maker e) (parts r front (r.maker e)) e
    fits = fit (r.maker e) (parts r front (r.maker e)) e (parts r back (r.maker e)) (splits (r.maker e) ∙ ap (λ es. parts r front (r.maker e) ++ es) first)

    -- what it looks at was sent in front of it
    pub there_of : AreSent r sound s (parts r front) e
    there_of x a t =
        let sent = fits.early x a t in
        let within = front_inside (λ f. before f e) sent.front sent.back (parts r front x) (parts r (e ∷ back) x) (sym sent.is ∙ splits x) sent.all (all-filter (λ g. before g e ≡ false) (λ f. r.same x (r.maker f)) (e ∷ back) behind) in
        let k = sent.enough in
        let m = sent_by-longer r (s.own x) sent.front within.0 a in
        rw (length-append (s.mail x a) (sent_by r (s.own x) (parts r front x) a), within.1) (omega arith)

    pub passes_of : r.test e (left_by r (s.own (r.maker e)) (parts r front (r.maker e))) (seen r (r.maker e) (taken_by r (parts r front (r.maker e))) e (ever_sent r s (parts r front))) ≡ true
    passes_of =
        ap (r.test e (left_by r (s.own (r.maker e)) (parts r front (r.maker e)))) (sym (seen-more r s (parts r front) (parts r (front ++ e ∷ back)) (λ y. parts r (e ∷ back) y) (r.maker e) (parts r front (r.maker e)) e splits there_of))
        ∙ fits.passes

  -- ---- all fit, in order: a run

  run-from : (s : World K A L V) (front back : List E) → IsInOrder before back → Fit s (front ++ back) → Left s front → IsRun r (world_of r s (parts r front)) back (world_of r s (parts r (front ++ back)))
  run-from s front [] ordered fit left = ap (λ es. world_of r s (parts r es)) (append-nil front)
  run-from s front (e ∷ back) ordered fit left =
      let behind = ordered.0 in
      let there = there_of s front e back fit behind in
      let step : after r (world_of r s (parts r front)) e ≡ world_of r s (parts r (front ++ e ∷ [])) = world-with r sound s (parts r front) e left there ∙ ap (world_of r s) (parts-push front e) in
      let list : (front ++ e ∷ []) ++ back ≡ front ++ e ∷ back = append_assoc front (e ∷ []) back in
      let more : Left s (front ++ e ∷ []) = subst (HasLeft r sound s) (parts-push front e) (left-with r sound s (parts r front) e left there) in
      let rest = run-from s (front ++ e ∷ []) back ordered.1 (subst (Fit s) (sym list) fit) more in (
        allowed-from r sound s (parts r front) e there (passes_of s front e back fit behind),
        subst (λ w. IsRun r w back (world_of r s (parts r (front ++ e ∷ back)))) (sym step) (subst (λ es. IsRun r (world_of r s (parts r (front ++ e ∷ []))) back (world_of r s (parts r es))) list rest),
      )

  pub fitting_run : (s : World K A L V) (es : List E) → IsInOrder before es → Fit s es → IsRun r s es (world_of r s (parts r es))
  fitting_run s es ordered fit = subst (λ w. IsRun r w es (world_of r s (parts r es))) (world-none s) (run-from s [] es ordered fit (λ x a. omega arith))

  -- ---- a run whose keys rise: all fit

  all_pushed : (front : List E) (e : E) (back : List E) → AllByRecursion (λ g. AllByRecursion (λ f. before f g ≡ true) front) back → AllByRecursion (λ g. before e g ≡ true) back → AllByRecursion (λ g. AllByRecursion (λ f. before f g ≡ true) (front ++ e ∷ [])) back
  all_pushed front e [] all more = tt
  all_pushed front e (g ∷ back) all more = (all-append (λ f. before f g ≡ true) front (e ∷ []) all.0 (more.0, tt), all_pushed front e back all.1 more.1)

  fits_from : (s : World K A L V) (front : List E) (e : E) → AllByRecursion (λ f. before f e ≡ true) front → Sent s front e → IsAllowed r (world_of r s (parts r front)) e → IsFitting r before s (parts r front) (r.maker e) (parts r front (r.maker e)) e
  fits_from s front e all there allowed = record {
    passes = ap (r.test e (left_by r (s.own (r.maker e)) (parts r front (r.maker e)))) (sym (seen_is r sound s (parts r front) (r.maker e) e)) ∙ allowed.passes;
    early = λ x a t. record {
      front = parts r front x;
      back = [];
      is = sym (append-nil (parts r front x));
      all = all-filter (λ f. before f e ≡ true) (λ f. r.same x (r.maker f)) front all;
      enough = let k = there x a t in omega (arith, length-append (s.mail x a) (sent_by r (s.own x) (parts r front x) a));
    };
  }

  at_maker : (s : World K A L V) (es : List E) (e : E) (x : K) (a : A) → r.same (r.owner a) (r.maker e) ≡ true → taken_by r (parts r es (r.owner a)) x + r.looks e x ≤ length (ever_sent r s (parts r es) x a) → taken_by r (parts r es (r.maker e)) x + r.looks e x ≤ length (ever_sent r s (parts r es) x a)
  at_maker s es e x a t h = subst (λ y. taken_by r (parts r es y) x + r.looks e x ≤ length (ever_sent r s (parts r es) x a)) ((sound.decides (r.owner a) (r.maker e)).0 t) h

  fit-from : (s t : World K A L V) (front back : List E) → Rises before back → AllByRecursion (λ g. AllByRecursion (λ f. before f g ≡ true) front) back → Fit s front → Left s front → IsRun r (world_of r s (parts r front)) back t
      → Fit s (front ++ back) × (t ≡ world_of r s (parts r (front ++ back))) × Left s (front ++ back)
  fit-from s t front [] rises all fit left run =
      (subst (Fit s) (sym (append-nil front)) fit, run ∙ ap (λ es. world_of r s (parts r es)) (sym (append-nil front)), subst (Left s) (sym (append-nil front)) left)
  fit-from s t front (e ∷ back) rises all fit left run =
      let there : Sent s front e = λ x a t. at_maker s front e x a t (let k = run.0.there x a t in let l = left x a in omega (arith, length-drop (taken_by r (parts r front (r.owner a)) x) (ever_sent r s (parts r front) x a))) in
      let step : after r (world_of r s (parts r front)) e ≡ world_of r s (parts r (front ++ e ∷ [])) = world-with r sound s (parts r front) e left there ∙ ap (world_of r s) (parts-push front e) in
      let list : (front ++ e ∷ []) ++ back ≡ front ++ e ∷ back = append_assoc front (e ∷ []) back in
      let more : Fit s (front ++ e ∷ []) = subst (AllFit r before s) (parts-push front e) (all_fit-with r before s (parts r front) e (λ x. (sound.decides x (r.maker e)).0) fit (fits_from s front e all.0 there run.0)) in
      let remains : Left s (front ++ e ∷ []) = subst (HasLeft r sound s) (parts-push front e) (left-with r sound s (parts r front) e left there) in
      let rest = fit-from s t (front ++ e ∷ []) back rises.1 (all_pushed front e back all.1 rises.0) more remains (subst (λ w. IsRun r w back t) step run.1) in
      (subst (Fit s) list rest.0, rest.1 ∙ ap (λ es. world_of r s (parts r es)) list, subst (Left s) list rest.2)

  all_none : (back : List E) → AllByRecursion (λ g. AllByRecursion (λ f. before f g ≡ true) []) back
  all_none [] = tt
  all_none (g ∷ back) = (tt, all_none back)

  pub run_fits : (s t : World K A L V) (es : List E) → Rises before es → IsRun r s es t → AllFit r before s (parts r es) × (t ≡ world_of r s (parts r es)) × HasLeft r sound s (parts r es)
  run_fits s t es rises run = fit-from s t [] es rises (all_none es) (λ x front e back h. absurd (nothing front e back h)) (λ x a. omega arith) (subst (λ w. IsRun r w es t) (sym (world-none s)) run)
    where
      nothing : (front : List E) (e : E) (back : List E) → [] ≡ front ++ e ∷ back → ⊥
      nothing [] e back h = cc
      nothing (f ∷ front) e back h = cc

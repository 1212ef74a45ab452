-- Laws over any rules of actors.
use Rattle.std.specs.Prelude.{◌≡◌, ◌↔◌, ◌+◌, Bool, true, false, List, ◌++◌}
use Rattle.std.specs.List.{AllByRecursion}
use Rattle.actor_rules.specs.Rules.{Rules, World, AreSound, IsAllowed, after, IsRun}
use Rattle.actor_rules.specs.Keys.{IsKeyOrder, Rises, placed, merged_behind}
use Rattle.actor_rules.specs.Apart.{parts, taken_by, world_of, with_step, WereSent, AllFit, LeadTo}

-- a list whose keys rise is a run exactly where all its steps fit, and then it ends where its parts end
abbrev pub RunsAreApart : (K A L V E : Type 0) → Type 0
RunsAreApart K A L V E =
    (r : Rules K A L V E) (before : E → E → Bool) → AreSound r → IsKeyOrder before →
    (s t : World K A L V) (es : List E) → Rises before es →
    IsRun r s es t ↔ (AllFit r before s (parts r es) × (t ≡ world_of r s (parts r es)))

-- a step whose letters earlier keys sent, behind all of its maker's own, stands at its key as if it were made last
abbrev pub StepsArePlaced : (K A L V E : Type 0) → Type 0
StepsArePlaced K A L V E =
    (r : Rules K A L V E) (before : E → E → Bool) → AreSound r → IsKeyOrder before →
    (s t : World K A L V) (es : List E) (e : E) → Rises before es →
    AllByRecursion (λ f. before e f ≡ false → before f e ≡ true) es →
    AllByRecursion (λ f. r.same (r.maker f) (r.maker e) ≡ true → before f e ≡ true) es →
    IsRun r s es t → IsAllowed r t e →
    ((x : K) (a : A) → r.same (r.owner a) (r.maker e) ≡ true →
    WereSent r s (parts r es) (λ f. before f e ≡ true) x a (taken_by r (parts r es (r.maker e)) x + r.looks e x)) →
    Rises before (placed before e es) × IsRun r s (placed before e es) (after r t e)

-- A step whose letters earlier keys sent, among all steps, leads on from some of them alone: all of its maker's, and of each other
-- actor the first ones.
abbrev pub StepsLeadOn : (K A L V E : Type 0) → Type 0
StepsLeadOn K A L V E =
    (r : Rules K A L V E) (before : E → E → Bool) → AreSound r →
    (s t : World K A L V) (some all later : K → List E) (e : E) →
    ((x : K) → all x ≡ some x ++ later x) → some (r.maker e) ≡ all (r.maker e) →
    LeadTo r before s some t → IsAllowed r t e →
    ((x : K) (a : A) → r.same (r.owner a) (r.maker e) ≡ true →
    WereSent r s all (λ f. before f e ≡ true) x a (taken_by r (all (r.maker e)) x + r.looks e x)) →
    LeadTo r before s (with_step r some e) (after r t e)

-- Where each actor's steps rise and lead to a world, they are a run to it in order of their keys, however they were listed, also
-- behind a run of keys that are not above theirs.
abbrev pub MergesAreRuns : (K A L V E : Type 0) → Type 0
MergesAreRuns K A L V E =
    (r : Rules K A L V E) (before : E → E → Bool) → AreSound r → IsKeyOrder before →
    (b s t : World K A L V) (old es : List E) → IsRun r b old s →
    AllByRecursion (λ e. AllByRecursion (λ f. before e f ≡ false) old) es →
    ((x : K) → Rises before (parts r es x)) → LeadTo r before s (parts r es) t →
    IsRun r b (merged_behind before old es) t

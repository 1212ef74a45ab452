-- Counts of names, and their greetings.
use Rattle.std.proofs.Common.{◌≡◌, ℕ, zero, suc, ◌+◌, ◌<◌, ◌≤◌, List, [], ◌∷◌, ◌++◌, length, drop, get_or, ℤ, refl, sym, ◌∙◌, ap, arith, add-one, drop-cons, append_assoc}
use Rattle.std.proofs.lemmas.Grind.{common_steps}
use Rattle.std.proofs.lemmas.List.{append-nil}
use Rattle.std.specs.Prelude.{FitsSigned}
use mir.Syntax.{w32}
use Rattle.request_reply.specs.declared.answer.EgressMessage.{EgressMessage}
use Rattle.function_server.specs.Greeting.{count_with, greeting_to, greetings}

pub count_none : (count : ℤ) → FitsSigned w32 count → count_with count 0 ≡ count
count_none count fits = grind arith

pub count_more : (count : ℤ) (more : ℕ) → FitsSigned w32 count → count_with (count_with count more) 1 ≡ count_with count (more + 1)
count_more count more fits = grind arith

pub ruleset count_steps = (common_steps, count_none, count_more)

-- a name more is counted and greeted
pub record Greets (count now : ℤ) (before : ℕ) (records : List EgressMessage) (names : List (List ℕ)) : Type 0 where
  pub count_is : now ≡ count_with count before
  pub all : records ++ greetings count before (drop before names) ≡ greetings count 0 names

front_is : (count : ℤ) (before : ℕ) (names : List (List ℕ)) (name : List ℕ) → before < length names → name ≡ get_or names before name
    → greetings count before (drop before names) ≡ greeting_to name (count_with count (before + 1)) ∷ greetings count (before + 1) (drop (before + 1) names)
front_is count before names name within is = rw (drop-cons names before name, ← is, add-one) refl

pub greets_more : (count now next : ℤ) (before : ℕ) (records new : List EgressMessage) (made : EgressMessage) (names : List (List ℕ)) (name : List ℕ)
    → FitsSigned w32 count → before < length names → name ≡ get_or names before name → next ≡ count_with now 1 → made ≡ greeting_to name next → new ≡ records ++ made ∷ []
    → Greets count now before records names → Greets count next (before + 1) new names
greets_more count now next before records new made names name fits within is counted greeted pushed so_far =
    let more : next ≡ count_with count (before + 1) = counted ∙ ap (λ (n : ℤ). count_with n 1) so_far.count_is ∙ count_more count before fits in
    record {
      count_is = more;
      all = rw (pushed, greeted, more) (append_assoc records _ _ ∙ ap (λ (l : List EgressMessage). records ++ l) (sym (front_is count before names name within is)) ∙ so_far.all);
    }

pub greets_none : (count : ℤ) (records : List EgressMessage) (names : List (List ℕ)) → FitsSigned w32 count → records ≡ [] → Greets count count 0 records names
greets_none count records names fits none = record { count_is = sym (count_none count fits); all = rw none refl }

drop_end : (names : List (List ℕ)) (n : ℕ) → length names ≤ n → drop n names ≡ []
drop_end [] zero h = refl
drop_end [] (suc n) h = refl
drop_end (name ∷ names) zero h = absurd (omega arith)
drop_end (name ∷ names) (suc n) h = drop_end names n (omega arith)

pub greets_all : (count same now : ℤ) (before : ℕ) (records : List EgressMessage) (names : List (List ℕ)) → same ≡ count → length names ≤ before
    → Greets same now before records names → records ≡ greetings count 0 names
greets_all count same now before records names is ended so_far =
    sym (append-nil records) ∙ ap (λ (l : List (List ℕ)). records ++ greetings same before l) (sym (drop_end names before ended)) ∙ so_far.all ∙ ap (λ (n : ℤ). greetings n 0 names) is

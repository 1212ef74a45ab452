-- Steps of each actor by itself: more steps behind those that are there.
use Rattle.std.proofs.Common.{◌≡◌, ℕ, ◌+◌, ◌≤◌, Bool, true, false, cond, List, [], ◌∷◌, ◌++◌, length, take, drop, refl, sym, ◌∙◌, ap, subst, inl, inr, arith, append_assoc, length-append, zero-add}
use mathlib.Core.Path.{fun_ext}
use Rattle.std.proofs.lemmas.List.{append-nil}
use Rattle.actor_rules.specs.Rules.{Rules, World, seen}
use Rattle.actor_rules.specs.Apart.{left_by, sent_by, taken_by, ever_sent, its_own, with_step, WereSent, IsFitting, AllFit}
use Rattle.actor_rules.proofs.Lists.{middle-append, place_in_push}

module _ {K A L V E : Type 0} (r : Rules K A L V E) where
  -- ---- folds over joined lists

  pub left_by-append : (own : L) (es fs : List E) → left_by r own (es ++ fs) ≡ left_by r (left_by r own es) fs
  left_by-append own [] fs = refl
  left_by-append own (e ∷ es) fs = left_by-append (r.leaves e own) es fs

  pub sent_by-append : (own : L) (es fs : List E) (a : A) → sent_by r own (es ++ fs) a ≡ sent_by r own es a ++ sent_by r (left_by r own es) fs a
  sent_by-append own [] fs a = refl
  sent_by-append own (e ∷ es) fs a =
      ap (λ vs. r.sends e own a ++ vs) (sent_by-append (r.leaves e own) es fs a)
      ∙ sym (append_assoc (r.sends e own a) (sent_by r (r.leaves e own) es a) (sent_by r (left_by r own (e ∷ es)) fs a))

  pub taken_by-append : (es fs : List E) (x : K) → taken_by r (es ++ fs) x ≡ taken_by r es x + taken_by r fs x
  taken_by-append [] fs x = sym (zero-add (taken_by r fs x))
  taken_by-append (e ∷ es) fs x = omega (arith, taken_by-append es fs x)

  pub sent_by-longer : (own : L) (es fs : List E) (a : A) → length (sent_by r own es a) ≤ length (sent_by r own (es ++ fs) a)
  sent_by-longer own es fs a =
      let all : length (sent_by r own (es ++ fs) a) ≡ length (sent_by r own es a) + length (sent_by r (left_by r own es) fs a) =
      ap length (sent_by-append own es fs a) ∙ length-append (sent_by r own es a) (sent_by r (left_by r own es) fs a) in
      omega arith

  -- ---- more steps of each actor

  pub ever_sent-more : (s : World K A L V) (w v more : K → List E) (x : K) (a : A) → v x ≡ w x ++ more x
      → ever_sent r s v x a ≡ ever_sent r s w x a ++ sent_by r (left_by r (s.own x) (w x)) (more x) a
  ever_sent-more s w v more x a is =
      ap (λ es. s.mail x a ++ sent_by r (s.own x) es a) is
      ∙ ap (λ vs. s.mail x a ++ vs) (sent_by-append (s.own x) (w x) (more x) a)
      ∙ sym (append_assoc (s.mail x a) (sent_by r (s.own x) (w x) a) (sent_by r (left_by r (s.own x) (w x)) (more x) a))

  pub were_sent-more : (s : World K A L V) (w v more : K → List E) (P : E → Type 0) (x : K) (a : A) (count : ℕ) → v x ≡ w x ++ more x
      → WereSent r s w P x a count → WereSent r s v P x a count
  were_sent-more s w v more P x a count is sent = record {
    front = sent.front;
    back = sent.back ++ more x;
    is = is ∙ ap (λ es. es ++ more x) sent.is ∙ append_assoc sent.front sent.back (more x);
    all = sent.all;
    enough = sent.enough;
  }

  pub were_sent-there : (s : World K A L V) (w : K → List E) (P : E → Type 0) (x : K) (a : A) (count : ℕ) → WereSent r s w P x a count → count ≤ length (ever_sent r s w x a)
  were_sent-there s w P x a count sent =
      let long : length (ever_sent r s w x a) ≡ length (s.mail x a) + length (sent_by r (s.own x) (sent.front ++ sent.back) a) =
      length-append (s.mail x a) (sent_by r (s.own x) (w x) a) ∙ ap (λ es. length (s.mail x a) + length (sent_by r (s.own x) es a)) sent.is in
      let front = sent.enough in
      let within = sent_by-longer (s.own x) sent.front sent.back a in
      omega arith

  -- what a step looks at stays the same
  pub seen-more : (s : World K A L V) (w v more : K → List E) (maker : K) (earlier : List E) (e : E) → ((x : K) → v x ≡ w x ++ more x)
      → ((x : K) (a : A) → r.same (r.owner a) maker ≡ true → taken_by r earlier x + r.looks e x ≤ length (ever_sent r s w x a))
      → seen r maker (taken_by r earlier) e (ever_sent r s v) ≡ seen r maker (taken_by r earlier) e (ever_sent r s w)
  seen-more s w v more maker earlier e is there = fun_ext (λ x. fun_ext (λ a. of_owner x a (r.same (r.owner a) maker) refl))
    where
      of_owner : (x : K) (a : A) (b : Bool) → r.same (r.owner a) maker ≡ b
          → cond b (take (r.looks e x) (drop (taken_by r earlier x) (ever_sent r s v x a))) []
          ≡ cond b (take (r.looks e x) (drop (taken_by r earlier x) (ever_sent r s w x a))) []
      of_owner x a true own =
          ap (λ vs. take (r.looks e x) (drop (taken_by r earlier x) vs)) (ever_sent-more s w v more x a (is x))
          ∙ middle-append (ever_sent r s w x a) (sent_by r (left_by r (s.own x) (w x)) (more x) a) (taken_by r earlier x) (r.looks e x) (there x a own)
      of_owner x a false own = refl

  module _ (before : E → E → Bool) where
    pub fitting-more : (s : World K A L V) (w v more : K → List E) (maker : K) (earlier : List E) (e : E) → ((x : K) → v x ≡ w x ++ more x)
        → IsFitting r before s w maker earlier e → IsFitting r before s v maker earlier e
    fitting-more s w v more maker earlier e is fits = record {
      passes =
          ap (r.test e (left_by r (s.own maker) earlier)) (seen-more s w v more maker earlier e is (λ x a own. were_sent-there s w _ x a _ (fits.early x a own)))
          ∙ fits.passes;
      early = λ x a own. were_sent-more s w v more _ x a _ (is x) (fits.early x a own);
    }

    -- all fit with one step more that does
    pub all_fit-with : (s : World K A L V) (w : K → List E) (e : E) → ((x : K) → r.same x (r.maker e) ≡ true → x ≡ r.maker e)
        → AllFit r before s w → IsFitting r before s w (r.maker e) (w (r.maker e)) e → AllFit r before s (with_step r w e)
    all_fit-with s w e same all fits x front f back at =
        fitting-more s w (with_step r w e) (its_own r e) x front f (λ y. refl) (by_maker (r.same x (r.maker e)) refl at)
      where
        by_maker : (b : Bool) → r.same x (r.maker e) ≡ b → w x ++ cond b (e ∷ []) [] ≡ front ++ f ∷ back → IsFitting r before s w x front f
        by_maker false other at = all x front f back (sym (append-nil (w x)) ∙ at)
        by_maker true own at =
            let here : IsFitting r before s w x (w x) e = subst (λ y. IsFitting r before s w y (w y) e) (sym (same x own)) fits in
            elim (place_in_push (w x) e front f back at) [
              | inl last ↦ subst (λ es. IsFitting r before s w x es f) last.0 (subst (λ g. IsFitting r before s w x (w x) g) last.1 here)
              | inr rest ↦ all x front f rest.0 rest.1
            ]

-- The world behind one step more.
use Rattle.std.proofs.Common.{◌≡◌, ◌+◌, ◌≤◌, Bool, true, false, cond, List, [], ◌∷◌, ◌++◌, length, take, drop, refl, sym, ◌∙◌, ap, ap₂, subst, arith, append_assoc, length-append, length-drop}
use Rattle.std.proofs.lemmas.List.{append-nil, drop-append-le, drop-drop}
use mathlib.Core.Path.{fun_ext}
use Rattle.actor_rules.specs.Rules.{Rules, World, AreSound, IsAllowed, seen, after}
use Rattle.actor_rules.specs.Apart.{left_by, sent_by, taken_by, ever_sent, world_of, its_own, with_step}
use Rattle.actor_rules.proofs.Alone.{left_by-append, sent_by-append, taken_by-append, ever_sent-more}

module _ {K A L V : Type 0} where
  pub same_world : (own own' : K → L) (mail mail' : K → A → List V) → own ≡ own' → mail ≡ mail' → ◌≡◌ {A = World K A L V} (record { own = own; mail = mail }) (record { own = own'; mail = mail' })
  same_world own own' mail mail' e h = ap₂ (λ (a : K → L) (b : K → A → List V). let w : World K A L V = record { own = a; mail = b } in w) e h

module _ {K A L V E : Type 0} (r : Rules K A L V E) (sound : AreSound r) where
  -- no more letters of a pair left than were ever there
  abbrev pub HasLeft : World K A L V → (K → List E) → Type 0
  HasLeft s w = (x : K) (a : A) → taken_by r (w (r.owner a)) x ≤ length (ever_sent r s w x a)

  -- the letters that a step looks at were sent
  abbrev pub AreSent : World K A L V → (K → List E) → E → Type 0
  AreSent s w e = (x : K) (a : A) → r.same (r.owner a) (r.maker e) ≡ true → taken_by r (w (r.maker e)) x + r.looks e x ≤ length (ever_sent r s w x a)

  own_with : (b : Bool) (own : L) (es : List E) (e : E) → cond b (r.leaves e (left_by r own es)) (left_by r own es) ≡ left_by r own (es ++ cond b (e ∷ []) [])
  own_with true own es e = sym (left_by-append r own es (e ∷ []))
  own_with false own es e = ap (left_by r own) (sym (append-nil es))

  sent_with : (b : Bool) (own : L) (es : List E) (e : E) (a : A) → sent_by r own (es ++ cond b (e ∷ []) []) a ≡ sent_by r own es a ++ cond b (r.sends e (left_by r own es) a) []
  sent_with true own es e a = sent_by-append r own es (e ∷ []) a ∙ ap (λ vs. sent_by r own es a ++ vs) (append-nil (r.sends e (left_by r own es) a))
  sent_with false own es e a = sent_by-append r own es [] a

  drop_with : (b : Bool) (vs : List V) (es : List E) (e : E) (x : K) → cond b (drop (r.takes e x) (drop (taken_by r es x) vs)) (drop (taken_by r es x) vs) ≡ drop (taken_by r (es ++ cond b (e ∷ []) []) x) vs
  drop_with true vs es e x = drop-drop (r.takes e x) (taken_by r es x) vs ∙ ap (λ n. drop n vs) (omega (arith, taken_by-append r es (e ∷ []) x))
  drop_with false vs es e x = ap (λ fs. drop (taken_by r fs x) vs) (sym (append-nil es))

  -- of a pair whose target's owner makes the step or does not, and whose sender does or does not
  mail_with : (s : World K A L V) (w : K → List E) (e : E) (x : K) (a : A) → (r.same (r.owner a) (r.maker e) ≡ true → taken_by r (w (r.owner a)) x + r.looks e x ≤ length (ever_sent r s w x a))
      → (sends makes : Bool) → r.same (r.owner a) (r.maker e) ≡ makes → taken_by r (w (r.owner a)) x ≤ length (ever_sent r s w x a)
      → cond makes (drop (r.takes e x) (drop (taken_by r (w (r.owner a)) x) (ever_sent r s w x a))) (drop (taken_by r (w (r.owner a)) x) (ever_sent r s w x a)) ++ cond sends (r.sends e (left_by r (s.own x) (w x)) a) []
      ≡ drop (taken_by r (w (r.owner a) ++ cond makes (e ∷ []) []) x) (s.mail x a ++ sent_by r (s.own x) (w x ++ cond sends (e ∷ []) []) a)
  mail_with s w e x a there sends makes t within =
      let ever = ever_sent r s w x a in
      let more = cond sends (r.sends e (left_by r (s.own x) (w x)) a) [] in
      ap (λ vs. vs ++ more) (drop_with makes ever (w (r.owner a)) e x)
      ∙ sym (drop-append-le (taken_by r (w (r.owner a) ++ cond makes (e ∷ []) []) x) ever more (enough makes t))
      ∙ ap (drop (taken_by r (w (r.owner a) ++ cond makes (e ∷ []) []) x)) (append_assoc (s.mail x a) (sent_by r (s.own x) (w x) a) more ∙ ap (λ vs. s.mail x a ++ vs) (sym (sent_with sends (s.own x) (w x) e a)))
    where
      enough : (b : Bool) → r.same (r.owner a) (r.maker e) ≡ b → taken_by r (w (r.owner a) ++ cond b (e ∷ []) []) x ≤ length (ever_sent r s w x a)
      enough true t = let k = there t in let l = sound.takes_seen e x in omega (arith, taken_by-append r (w (r.owner a)) (e ∷ []) x)
      enough false t = rw (append-nil (w (r.owner a))) within

  -- the letters to a target of the maker's
  of_owner : (s : World K A L V) (w : K → List E) (e : E) → AreSent s w e → (x : K) (a : A) → r.same (r.owner a) (r.maker e) ≡ true → taken_by r (w (r.owner a)) x + r.looks e x ≤ length (ever_sent r s w x a)
  of_owner s w e there x a t = subst (λ y. taken_by r (w y) x + r.looks e x ≤ length (ever_sent r s w x a)) (sym ((sound.decides (r.owner a) (r.maker e)).0 t)) (there x a t)

  -- what a step looks at in the world is what it looks at of all that was ever sent
  pub seen_is : (s : World K A L V) (w : K → List E) (maker : K) (e : E) → seen r maker (λ x. 0) e (world_of r s w).mail ≡ seen r maker (taken_by r (w maker)) e (ever_sent r s w)
  seen_is s w maker e = fun_ext (λ x. fun_ext (λ a. by_test x a (r.same (r.owner a) maker) refl))
    where
      by_test : (x : K) (a : A) (t : Bool) → r.same (r.owner a) maker ≡ t → cond t (take (r.looks e x) (drop 0 (drop (taken_by r (w (r.owner a)) x) (ever_sent r s w x a)))) [] ≡ cond t (take (r.looks e x) (drop (taken_by r (w maker) x) (ever_sent r s w x a))) []
      by_test x a true t = ap (λ y. take (r.looks e x) (drop (taken_by r (w y) x) (ever_sent r s w x a))) ((sound.decides (r.owner a) maker).0 t)
      by_test x a false t = refl

  pub world-with : (s : World K A L V) (w : K → List E) (e : E) → HasLeft s w → AreSent s w e → after r (world_of r s w) e ≡ world_of r s (with_step r w e)
  world-with s w e left there =
      same_world _ _ _ _
      (fun_ext (λ x. own_with (r.same x (r.maker e)) (s.own x) (w x) e))
      (fun_ext (λ x. fun_ext (λ a. mail_with s w e x a (λ t. of_owner s w e there x a t) (r.same x (r.maker e)) (r.same (r.owner a) (r.maker e)) refl (left x a))))

  -- it may be made
  pub allowed-from : (s : World K A L V) (w : K → List E) (e : E) → AreSent s w e → r.test e (left_by r (s.own (r.maker e)) (w (r.maker e))) (seen r (r.maker e) (taken_by r (w (r.maker e))) e (ever_sent r s w)) ≡ true → IsAllowed r (world_of r s w) e
  allowed-from s w e there passes = record {
    there = λ x a t. let k = of_owner s w e there x a t in omega (arith, length-drop (taken_by r (w (r.owner a)) x) (ever_sent r s w x a));
    passes = ap (r.test e (left_by r (s.own (r.maker e)) (w (r.maker e)))) (seen_is s w (r.maker e) e) ∙ passes;
  }

  -- and one step more leaves no more than were there
  pub left-with : (s : World K A L V) (w : K → List E) (e : E) → HasLeft s w → AreSent s w e → HasLeft s (with_step r w e)
  left-with s w e left there x a =
      rw (ever_sent-more r s w (with_step r w e) (its_own r e) x a refl, length-append (ever_sent r s w x a) (sent_by r (left_by r (s.own x) (w x)) (its_own r e x) a))
      (by_test (r.same (r.owner a) (r.maker e)) refl)
    where
      by_test : (b : Bool) → r.same (r.owner a) (r.maker e) ≡ b → taken_by r (w (r.owner a) ++ cond b (e ∷ []) []) x ≤ length (ever_sent r s w x a) + length (sent_by r (left_by r (s.own x) (w x)) (its_own r e x) a)
      by_test true t =
          let at : taken_by r (w (r.owner a)) x + r.looks e x ≤ length (ever_sent r s w x a) = of_owner s w e there x a t in
          let l = sound.takes_seen e x in omega (arith, taken_by-append r (w (r.owner a)) (e ∷ []) x)
      by_test false t = rw (append-nil (w (r.owner a))) (let k = left x a in omega arith)

-- How calls on a disk, one after the other, go on: each call's two facts are joined to those of the calls before it.
use Rattle.std.proofs.Common.{◌≡◌, inl, inr, ℕ, List, [], ◌∷◌, ◌++◌, Option, Some, refl, sym, ◌∙◌, ap, subst, append_assoc}
use Rattle.std.specs.List.{AllByRecursion}
use Rattle.std.proofs.lemmas.List.{append_cancel_right}
use Rattle.sf_disk.specs.Images.{FileState}
use Rattle.sf_disk.specs.Moments.{Moment, Folder, IsImage, OneLeaves, MightHaveLeft, newest, WhereTold, Since, Becomes, Others, InFile}

all_both : {X : Type 0} (P : X → Type 0) (xs ys : List X) → AllByRecursion P xs → AllByRecursion P ys → AllByRecursion P (xs ++ ys)
all_both P [] ys hs ks = ks
all_both P (x ∷ xs) ys hs ks = (hs.0, all_both P xs ys hs.1 ks)

all_then : {X : Type 0} (P Q : X → Type 0) → ((x : X) → P x → Q x) → (xs : List X) → AllByRecursion P xs → AllByRecursion Q xs
all_then P Q f [] hs = hs
all_then P Q f (x ∷ xs) hs = (f x hs.0, all_then P Q f xs hs.1)

one_some : {X : Type 0} (x y : X) (o : Option X) → o ≡ Some x → o ≡ Some y → x ≡ y
one_some x y o is_x is_y = cc

told_before : (R : Moment → Moment → Type 0) (more : List Moment) (k : Moment) → AllByRecursion (λ n. (m : Moment) × (newest [] ≡ Some m) × R m n) more → newest (more ++ []) ≡ Some k → (m : Moment) × (newest [] ≡ Some m)
told_before R [] k each is = (k, is)
told_before R (n ∷ more) k each is = (each.0.0, each.0.1)

-- where a moment is told in the end, one was told at the start
pub first_told : (a b : List Moment) (R : Moment → Moment → Type 0) (k : Moment) → Since a b R → newest b ≡ Some k → (m : Moment) × (newest a ≡ Some m)
first_told [] b R k since is = told_before R since.more k since.each (ap newest (sym since.goes_on) ∙ is)
first_told (m ∷ past) b R k since is = (m, refl)

-- what was told of the moments before is told of those now, where they are the same
pub still_told : (a b : List Moment) (P : Moment → Type 0) → b ≡ a → WhereTold a P → WhereTold b P
still_told a b P same told = λ m is. told m (ap newest (sym same) ∙ is)

-- no time went by
pub since_now : (a b : List Moment) (R : Moment → Moment → Type 0) → b ≡ a → Since a b R
since_now a b R same = record { more = []; goes_on = same; each = tt }

pub becomes_now : (a b : List Moment) (R : Moment → Moment → Type 0) → b ≡ a → WhereTold a (λ m. R m m) → Becomes a b R
becomes_now a b R same stays = λ m is. (m, ap newest same ∙ is, stays m is)

-- a weaker fact
pub since_as : (a b : List Moment) (S R : Moment → Moment → Type 0) → Since a b S → ((m n : Moment) → newest a ≡ Some m → S m n → R m n) → Since a b R
since_as a b S R since f = record {
  more = since.more;
  goes_on = since.goes_on;
  each = all_then (λ n. (m : Moment) × (newest a ≡ Some m) × S m n) (λ n. (m : Moment) × (newest a ≡ Some m) × R m n) (λ n h. (h.0, h.1, f h.0 n h.1 h.2)) since.more since.each;
}

pub becomes_as : (a b : List Moment) (S R : Moment → Moment → Type 0) → Becomes a b S → ((m n : Moment) → newest a ≡ Some m → S m n → R m n) → Becomes a b R
becomes_as a b S R becomes f = λ m is. let n = becomes m is in (n.0, n.1, f m n.0 is n.2)

-- one call more
pub since_then : (a b c : List Moment) (R S : Moment → Moment → Type 0) → Since a b R → Since b c S → ((m k n : Moment) → newest a ≡ Some m → newest b ≡ Some k → S k n → R m n) → Since a c R
since_then a b c R S first second f = record {
  more = second.more ++ first.more;
  goes_on = second.goes_on ∙ ap (λ (l : List Moment). second.more ++ l) first.goes_on ∙ sym (append_assoc second.more first.more a);
  each =
      all_both (λ n. (m : Moment) × (newest a ≡ Some m) × R m n) second.more first.more
      (all_then (λ n. (k : Moment) × (newest b ≡ Some k) × S k n) (λ n. (m : Moment) × (newest a ≡ Some m) × R m n) (λ n h. let m = first_told a b R h.0 first h.1 in (m.0, m.1, f m.0 h.0 n m.1 h.1 h.2)) second.more second.each)
      first.each;
}

pub becomes_then : (a b c : List Moment) (R S T : Moment → Moment → Type 0) → Becomes a b R → Becomes b c S → ((m k n : Moment) → newest a ≡ Some m → R m k → S k n → T m n) → Becomes a c T
becomes_then a b c R S T first second f = λ m is. let k = first m is in let n = second k.0 k.1 in (n.0, n.1, f m k.0 n.0 is k.2 n.2)

-- where a call led, of the two moments
pub at_now : (a b : List Moment) (R : Moment → Moment → Type 0) → Becomes a b R → (m k : Moment) → newest a ≡ Some m → newest b ≡ Some k → R m k
at_now a b R becomes m k is_m is_k = let r = becomes m is_m in subst (R m) (one_some r.0 k (newest b) r.1 is_k) r.2

-- what holds of each moment that is told now
pub told_now : (a b : List Moment) (R Q : Moment → Moment → Type 0) (P : Moment → Type 0) → Since a b Q → Becomes a b R → ((m k : Moment) → newest a ≡ Some m → R m k → P k) → WhereTold b P
told_now a b R Q P since becomes f = λ k is. let m = first_told a b Q k since is in f m.0 k m.1 (at_now a b R becomes m.0 k m.1 is)

one_of : (P : Moment → Type 0) (folder : Folder) (moments : List Moment) → AllByRecursion P moments → OneLeaves moments folder → (n : Moment) × P n × IsImage n folder
one_of P folder [] each left = absurd left
one_of P folder (m ∷ past) each (inl here) = (m, each.0, here)
one_of P folder (m ∷ past) each (inr there) = one_of P folder past each.1 there

-- What holds of each image at the start, and of each image of a moment that stands so to the start, holds of each since.
pub each_left : (a b : List Moment) (R : Moment → Moment → Type 0) (folder : Folder) (G : Moment → Type 0) → Since a b R → ((m : Moment) → newest a ≡ Some m → IsImage m folder → G m) → ((m n : Moment) → newest a ≡ Some m → R m n → IsImage n folder → G m) → MightHaveLeft a b folder → (m : Moment) × (newest a ≡ Some m) × G m
each_left a b R folder G since start later (inl left) = (left.0, left.1, start left.0 left.1 left.2)
each_left a b R folder G since start later (inr left) =
    let same = append_cancel_right since.more left.0 a (sym since.goes_on ∙ left.1) in
    let n = one_of (λ n. (m : Moment) × (newest a ≡ Some m) × R m n) folder since.more since.each (subst (λ (l : List Moment). OneLeaves l folder) (sym same) left.2) in
    (n.1.0, n.1.1, later n.1.0 n.0 n.1.1 n.1.2 n.2)

others_then : (file : ℕ) (m k n : Moment) → Others file m k → Others file k n → Others file m n
others_then file m k n first second = λ other differs. second other differs ∙ first other differs

-- The facts of calls on one file so far: what each moment since is to the first one, and what the one now is.
pub record Along (file : ℕ) (a b : List Moment) (Q P : FileState → FileState → Type 0) : Type 0 where
  pub all : Since a b (InFile file Q)
  pub now : Becomes a b (InFile file P)

module _ (file : ℕ) where
  pub file_as : (a b : List Moment) (S Q : FileState → FileState → Type 0) → Since a b (InFile file S) → ((m : Moment) (n : FileState) → newest a ≡ Some m → S (m file) n → Q (m file) n) → Since a b (InFile file Q)
  file_as a b S Q since f = since_as a b (InFile file S) (InFile file Q) since (λ m n is s. record { others = s.others; here = f m (n file) is s.here })

  pub file_becomes : (a b : List Moment) (T P : FileState → FileState → Type 0) → Becomes a b (InFile file T) → ((m : Moment) (n : FileState) → newest a ≡ Some m → T (m file) n → P (m file) n) → Becomes a b (InFile file P)
  file_becomes a b T P becomes f = becomes_as a b (InFile file T) (InFile file P) becomes (λ m n is t. record { others = t.others; here = f m (n file) is t.here })

  pub file_stays : (a b : List Moment) (P : FileState → FileState → Type 0) → b ≡ a → WhereTold a (λ m. P (m file) (m file)) → Becomes a b (InFile file P)
  file_stays a b P same stays = becomes_now a b (InFile file P) same (λ m is. record { others = λ other differs. refl; here = stays m is })

  -- the first call
  pub along_first : (a b : List Moment) (S T Q P : FileState → FileState → Type 0) → Since a b (InFile file S) → Becomes a b (InFile file T) → ((m n : FileState) → S m n → Q m n) → ((m n : FileState) → T m n → P m n) → Along file a b Q P
  along_first a b S T Q P since becomes q p = record {
    all = file_as a b S Q since (λ m n is. q (m file) n);
    now = file_becomes a b T P becomes (λ m n is. p (m file) n);
  }

  -- what each moment since is, also in the next call
  pub along_all : (a b c : List Moment) (Q P S : FileState → FileState → Type 0) → Along file a b Q P → Since b c (InFile file S) → ((m k n : FileState) → P m k → S k n → Q m n) → Since a c (InFile file Q)
  along_all a b c Q P S so_far next f = since_then a b c (InFile file Q) (InFile file S) so_far.all next (λ m k n is_m is_k s.
      let p = at_now a b (InFile file P) so_far.now m k is_m is_k in
      record { others = others_then file m k n p.others s.others; here = f (m file) (k file) (n file) p.here s.here })

  -- what the moment behind the next call is
  pub along_now : (a b c : List Moment) (Q P T R : FileState → FileState → Type 0) → Along file a b Q P → Becomes b c (InFile file T) → ((m k n : FileState) → P m k → T k n → R m n) → Becomes a c (InFile file R)
  along_now a b c Q P T R so_far next f = becomes_then a b c (InFile file P) (InFile file T) (InFile file R) so_far.now next (λ m k n is p t. record { others = others_then file m k n p.others t.others; here = f (m file) (k file) (n file) p.here t.here })

  -- the next call
  pub along_next : (a b c : List Moment) (Q P S T R : FileState → FileState → Type 0) → Along file a b Q P → Since b c (InFile file S) → Becomes b c (InFile file T) → ((m k n : FileState) → P m k → S k n → Q m n) → ((m k n : FileState) → P m k → T k n → R m n) → Along file a c Q R
  along_next a b c Q P S T R so_far since becomes q r = record {
    all = along_all a b c Q P S so_far since q;
    now = along_now a b c Q P T R so_far becomes r;
  }

  -- a call that leaves all moments
  pub along_same : (a b c : List Moment) (Q P : FileState → FileState → Type 0) → Along file a b Q P → c ≡ b → Along file a c Q P
  along_same a b c Q P so_far same = subst (λ (l : List Moment). Along file a l Q P) (sym same) so_far

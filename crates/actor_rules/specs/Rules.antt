-- A machine of actors: each has something of its own, and each pair of a sender and a target has letters that wait.
use Rattle.std.specs.Prelude.{Decides, ◌≡◌, ℕ, ◌≤◌, Bool, true, List, [], ◌∷◌, ◌++◌, length, take, drop, if◌then◌else◌}

-- K are the actors, A the targets of letters, L what an actor has of its own, V the letters, E the steps
pub record Rules (K A L V E : Type 0) : Type 0 where
  pub same : K → K → Bool
  -- who makes a step, and who takes the letters to a target
  pub maker : E → K
  pub owner : A → K
  -- how many letters of a sender a step looks at, and how many of these leave
  pub looks : E → K → ℕ
  pub takes : E → K → ℕ
  -- whether it may be made, by its maker's own and the letters that it looks at
  pub test : E → L → (K → A → List V) → Bool
  -- what it leaves of its maker's own, and what it sends to each target
  pub leaves : E → L → L
  pub sends : E → L → A → List V

pub record World (K A L V : Type 0) : Type 0 where
  pub own : K → L
  pub mail : K → A → List V

module _ {K A L V E : Type 0} (r : Rules K A L V E) where
  -- sameness is equality, and only letters that were looked at leave
  pub record AreSound : Type 0 where
    pub decides : (x y : K) → Decides (r.same x y) (x ≡ y)
    pub takes_seen : (e : E) (x : K) → r.takes e x ≤ r.looks e x

  -- the letters that a step looks at, behind so many of each sender; of other owners' targets it sees none
  abbrev pub seen : K → (K → ℕ) → E → (K → A → List V) → K → A → List V
  seen maker skipped e mail x a = if r.same (r.owner a) maker then take (r.looks e x) (drop (skipped x) (mail x a)) else []

  -- the letters are there, and the test holds
  pub record IsAllowed (s : World K A L V) (e : E) : Type 0 where
    pub there : (x : K) (a : A) → r.same (r.owner a) (r.maker e) ≡ true → r.looks e x ≤ length (s.mail x a)
    pub passes : r.test e (s.own (r.maker e)) (seen (r.maker e) (λ x. 0) e s.mail) ≡ true

  abbrev pub after : World K A L V → E → World K A L V
  after s e = record {
    own = λ x. if r.same x (r.maker e) then r.leaves e (s.own x) else s.own x;
    mail = λ x a.
        (if r.same (r.owner a) (r.maker e) then drop (r.takes e x) (s.mail x a) else s.mail x a)
        ++ (if r.same x (r.maker e) then r.sends e (s.own x) a else []);
  }

  -- from one world to another by steps, each allowed where it is made
  abbrev pub IsRun : World K A L V → List E → World K A L V → Type 0
  IsRun s [] t = t ≡ s
  IsRun s (e ∷ es) t = IsAllowed s e × IsRun (after s e) es t

-- Each actor by itself: what its own steps left and sent, and when they fit together.
use Rattle.std.specs.Prelude.{◌≡◌, ℕ, ◌+◌, ◌≤◌, Bool, true, List, [], ◌∷◌, ◌++◌, length, drop, filter, if◌then◌else◌}
use Rattle.std.specs.List.{AllByRecursion}
use Rattle.actor_rules.specs.Rules.{Rules, World, seen}

module _ {K A L V E : Type 0} (r : Rules K A L V E) where
  -- ---- steps of one actor, one after the other

  -- what they leave of its own
  abbrev pub left_by : L → List E → L
  left_by own [] = own
  left_by own (e ∷ es) = left_by (r.leaves e own) es

  -- what they send to a target
  abbrev pub sent_by : L → List E → A → List V
  sent_by own [] a = []
  sent_by own (e ∷ es) a = r.sends e own a ++ sent_by (r.leaves e own) es a

  -- how many letters of a sender they take
  abbrev pub taken_by : List E → K → ℕ
  taken_by [] x = 0
  taken_by (e ∷ es) x = r.takes e x + taken_by es x

  -- ---- lists of steps, one for each actor

  -- those of a list, by actor
  abbrev pub parts : List E → K → List E
  parts es x = filter (λ e. r.same x (r.maker e)) es

  -- all letters of a pair that there ever were
  abbrev pub ever_sent : World K A L V → (K → List E) → K → A → List V
  ever_sent s w x a = s.mail x a ++ sent_by (s.own x) (w x) a

  -- where the actors are behind these steps
  abbrev pub world_of : World K A L V → (K → List E) → World K A L V
  world_of s w = record {
    own = λ x. left_by (s.own x) (w x);
    mail = λ x a. drop (taken_by (w (r.owner a)) x) (ever_sent s w x a);
  }

  -- so many letters of a pair were there at first or sent by steps of which P holds
  pub record WereSent (s : World K A L V) (w : K → List E) (P : E → Type 0) (x : K) (a : A) (count : ℕ) : Type 0 where
    pub front : List E
    pub back : List E
    pub is : w x ≡ front ++ back
    pub all : AllByRecursion P front
    pub enough : count ≤ length (s.mail x a) + length (sent_by (s.own x) front a)

  -- A step fits behind its maker's own earlier ones: its test holds, and what it looks at was sent by earlier keys.
  pub record IsFitting (before : E → E → Bool) (s : World K A L V) (w : K → List E) (maker : K) (earlier : List E) (e : E) : Type 0 where
    pub passes : r.test e (left_by (s.own maker) earlier) (seen r maker (taken_by earlier) e (ever_sent s w)) ≡ true
    pub early : (x : K) (a : A) → r.same (r.owner a) maker ≡ true → WereSent s w (λ f. before f e ≡ true) x a (taken_by earlier x + r.looks e x)

  -- each step of each actor does
  abbrev pub AllFit : (E → E → Bool) → World K A L V → (K → List E) → Type 0
  AllFit before s w = (x : K) (front : List E) (e : E) (back : List E) → w x ≡ front ++ e ∷ back → IsFitting before s w x front e

  -- ---- where they lead

  -- one step more of its maker, none of any other
  abbrev pub its_own : E → K → List E
  its_own e x = if r.same x (r.maker e) then e ∷ [] else []

  abbrev pub with_step : (K → List E) → E → K → List E
  with_step w e x = w x ++ its_own e x

  -- these steps lead to a world: all fit, and no more letters left than were there
  pub record LeadTo (before : E → E → Bool) (s : World K A L V) (w : K → List E) (t : World K A L V) : Type 0 where
    pub is : t ≡ world_of s w
    pub left : (x : K) (a : A) → taken_by (w (r.owner a)) x ≤ length (ever_sent s w x a)
    pub fit : AllFit before s w

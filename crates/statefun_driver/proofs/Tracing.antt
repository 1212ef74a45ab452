-- Laws of the traces of any loop: what holds along one, and how they are joined.
use Rattle.std.proofs.Common.{refl, sym, subst, List, [], ◌∷◌, ◌++◌}
use Rattle.statefun_driver.specs.Traces.{Loop, TraceBy, LeadsBy}

module _ {C E S : Type 0} (loop : Loop C E S) where
  -- The one induction over traces, from the end: what holds there, and in front of each event where it holds behind it.
  pub backwards : (d : C) (q : S) (P : C → S → List E → Type 0) → P d q []
      → ((c : C) (o : S) (event : E) (p : S) (events : List E) → loop.asks c event → loop.hears event o p → P (loop.goes_on c event) p events → P c o (event ∷ events))
      → (c : C) (o : S) (events : List E) → TraceBy loop c o events d q → P c o events
  backwards d q P end one c o [] t = subst (λ (x : C). P x o []) (sym t.0) (subst (λ (x : S). P d x []) (sym t.1) end)
  backwards d q P end one c o (event ∷ events) t = one c o event t.0 events t.1 t.2 (backwards d q P end one (loop.goes_on c event) t.0 events t.3)

  -- what each event keeps holds at the end: of the end alone, or against what was seen at the start
  pub along : (P : C → S → Type 0) → ((c : C) (o : S) (event : E) (p : S) → loop.asks c event → loop.hears event o p → P c o → P (loop.goes_on c event) p)
      → (c : C) (o : S) (events : List E) (d : C) (q : S) → TraceBy loop c o events d q → P c o → P d q
  along P one c o events d q t = backwards d q (λ c o events. P c o → P d q) (λ h. h) (λ c o event p events asked heard more h. more (one c o event p asked heard h)) c o events t

  trace_then : (a : C) (o : S) (events more : List E) (b : C) (p : S) (c : C) (q : S) → TraceBy loop a o events b p → TraceBy loop b p more c q → TraceBy loop a o (events ++ more) c q
  trace_then a o events more b p c q h k = backwards b p (λ a o events. TraceBy loop a o (events ++ more) c q) k (λ a o event x events asked heard rest. (x, asked, heard, rest)) a o events h

  pub leads_none : (a : C) (o : S) → LeadsBy loop a o a o
  leads_none a o = ([], (refl, refl))

  pub leads_then : (a : C) (o : S) (b : C) (p : S) (c : C) (q : S) → LeadsBy loop a o b p → LeadsBy loop b p c q → LeadsBy loop a o c q
  leads_then a o b p c q h k = (h.0 ++ k.0, trace_then a o h.0 k.0 b p c q h.1 k.1)

  -- one more event
  pub leads_on : (a : C) (o : S) (b : C) (p : S) (event : E) (q : S) → LeadsBy loop a o b p → loop.asks b event → loop.hears event p q → LeadsBy loop a o (loop.goes_on b event) q
  leads_on a o b p event q h asked heard = leads_then a o b p (loop.goes_on b event) q h (event ∷ [], (q, asked, heard, (refl, refl)))

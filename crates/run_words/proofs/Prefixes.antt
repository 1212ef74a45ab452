-- What `strip_prefix` says of a text.
use Rattle.std.proofs.Common.{◌≡◌, ℕ, ◌+◌, List, drop, length, refl, sym, ap, ◌∙◌, subst, Bool, true, false, Option, Some, None, Bor, eqb, if◌then◌else◌}
use Rattle.std.specs.List.{starts_with}
use Rattle.std.specs.Option.{MatchOption, option_copied}
use Rattle.std.specs.Str.{IsCharBoundary}
use Rattle.std.specs.Str.Pattern.{FindsTextPrefix}
use Rattle.std.proofs.lemmas.Str.Pattern.{starts_text}

pub strips : (p w : List ℕ) (r : Option (Bor (List ℕ))) → MatchOption r (FindsTextPrefix p w None) (λ x. (n : ℕ) × FindsTextPrefix p w (Some n) × (x.now ≡ drop n w) × (length x.now + n ≡ length w)) → option_copied r ≡ (if starts_with eqb w p then Some (drop (length p) w) else None)
strips p w None h = let s = starts_text false p w h in rw (← s) refl
strips p w (Some x) h =
    let s = starts_text true p w (h.0, h.1, subst (IsCharBoundary w) (sym h.1.0) h.1.2) in
    let d : x.now ≡ drop (length p) w = h.2 ∙ ap (λ n. drop n w) h.1.0 in
    rw (← s) (ap Some d)

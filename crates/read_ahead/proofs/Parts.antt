-- What a window has of its file.
use Rattle.std.proofs.Common.{◌≡◌, ℕ, ◌+◌, ◌-◌, ◌≤◌, List, length, take, drop, Contains, ◌∙◌, ap, subst, arith}
use Rattle.std.proofs.lemmas.List.{take-take, drop-drop, drop-take}
use Rattle.sf_disk.specs.Moments.{Moment, WhereTold}
use Rattle.read_ahead.specs.Windows.{Shows, AllShow, Covers}
use Rattle.read_ahead.specs.declared.window.Window.{Window}

-- a part of a front of a list
part_of_front : (bytes all : List ℕ) (skipped n : ℕ) → bytes ≡ take (length bytes) all → skipped + n ≤ length bytes → take n (drop skipped bytes) ≡ take n (drop skipped all)
part_of_front bytes all skipped n front within =
    let left = length bytes - skipped in
    let size : length bytes ≡ skipped + left = omega (arith, within) in
    ap (λ (l : List ℕ). take n (drop skipped l)) (front ∙ ap (λ (k : ℕ). take k all) size) ∙ ap (take n) (drop-take skipped left all)
    ∙ take-take n left (drop skipped all) (omega (arith, within))

-- what is copied of a window is what its file has there
pub part_shown : (now : Moment) (window : Window) (file at n : ℕ) → Shows now window → Covers window file at n → take n (drop (at - window.at) window.bytes) ≡ take n (drop at (now file).seen)
part_shown now window file at n shows covers =
    let skipped = at - window.at in
    let seen = (now window.file).seen in
    let place : window.at + skipped ≡ at = omega (arith, covers.from) in
    part_of_front window.bytes (drop window.at seen) skipped n shows (omega (arith, covers.from, covers.upto))
    ∙ ap (take n) (drop-drop skipped window.at seen ∙ ap (λ (k : ℕ). drop k seen) place)
    ∙ ap (λ (f : ℕ). take n (drop at (now f).seen)) covers.named

-- the same of a window among those that are kept
pub one_shown : (moments : List Moment) (windows kept : List Window) (window : Window) (file at n : ℕ) → AllShow moments kept → windows ≡ kept → Contains windows window → Covers window file at n → WhereTold moments (λ now. take n (drop (at - window.at) window.bytes) ≡ take n (drop at (now file).seen))
one_shown moments windows kept window file at n shown same there covers = λ now told.
    let inside = subst (λ (l : List Window). Contains l window) same there in
    part_shown now window file at n (subst (Shows now) inside.2 (shown now told inside.0 window inside.1)) covers

use Rattle.std.proofs.Common.{◌≡◌, List, ℕ, length, arith, subst, sym, refl}
use Rattle.endpoint_http.proofs.LineEnding.{HasLineEnd, IsInLineEnd, line_end_told, other_told, line_end_cut}
use Rattle.endpoint_http.proofs.Tellings.{at_end_before}
use Rattle.endpoint_http.proofs.body.take_line_end.Goals as goal

pub returns-then-has_line_end-clause-took : goal.returns-then-has_line_end-clause-took
returns-then-has_line_end-clause-took g c =
    let has = subst (λ (bs : List ℕ). HasLineEnd bs) c.as_slice.ensures.bytes (c.if-has_line_end.ensures.0 refl) in
    line_end_told c.loop-held.held c.take.new.self (g.S.Source.left c.loop-held.source) _ has c.take.ensures c.loop-held.invariant.known

pub returns-then-not-is_in_line_end-clause-fault : goal.returns-then-not-is_in_line_end-clause-fault
returns-then-not-is_in_line_end-clause-fault g c =
    let has : ¬ (HasLineEnd c.loop-held.held) = λ h. let e = c.if-has_line_end.ensures.1 (subst (λ (bs : List ℕ). HasLineEnd bs) (sym c.as_slice.ensures.bytes) h) in cc in
    let ends : ¬ (IsInLineEnd c.loop-held.held) = λ h.
    let e = c.if-not-is_in_line_end.ensures.1 (subst (λ (bs : List ℕ). IsInLineEnd bs) (sym c.as_slice-in-loop-held.ensures.bytes) h) in cc in
    other_told c.loop-held.held (g.S.Source.left c.loop-held.source) _ has ends c.loop-held.invariant.known

pub returns-then-branch-eq0-clause-fault : goal.returns-then-branch-eq0-clause-fault
returns-then-branch-eq0-clause-fault g c =
    let held = c.loop-held.held in
    let ends = subst (λ (bs : List ℕ). IsInLineEnd bs) c.as_slice-in-loop-held.ensures.bytes (c.if-not-is_in_line_end.ensures.0 refl) in
    let same : length c.fill.new.self ≡ length held = omega (arith, c.in_ok-fill.ensures.more, c.if-branch-eq0.true) in
    let end = at_end_before c.fill.new.self held (g.S.Source.left c.fill.new.source) (g.S.Source.left c.loop-held.source) c.fill.ensures.known
    (c.in_ok-fill.ensures.end c.if-branch-eq0.true) same in
    line_end_cut held (g.S.Source.left c.loop-held.source) _ ends c.loop-held.invariant.known end

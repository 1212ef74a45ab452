use Rattle.std.proofs.Common.{rules, arith, ◌≡◌, ◌<◌, ◌⊎◌, length, ℕ, List, subst}
use Rattle.endpoint_http.specs.Parts.{HasNone, NeverBegins, HasTooManyLines, MayBecome}
use Rattle.endpoint_http.proofs.Fronts.{refused_by, too_long, refusal_told, cut_told}
use Rattle.endpoint_http.proofs.Tellings.{at_end_before}
use Rattle.endpoint_http.proofs.reading.read_part.Goals as goal

pub returns-in-Refused-clause-refused : goal.returns-in-Refused-clause-refused
returns-in-Refused-clause-refused g c =
    let part = c.args.part in
    let held = c.loop-found.held in
    let why : NeverBegins part held ⊎ HasTooManyLines part held = search rules in
    refusal_told part held (g.S.Source.left c.loop-found.source) _ c.refusal.result c.loop-found.invariant.known c.refusal.ensures (λ more. refused_by part held more why)

pub returns-then-len-eq-LONGEST-clause-refused : goal.returns-then-len-eq-LONGEST-clause-refused
returns-then-len-eq-LONGEST-clause-refused g c =
    let part = c.args.part in
    let held = c.loop-found.held in
    let none : HasNone part held = search rules in
    let full : length held ≡ 16384 = search rules in
    refusal_told part held (g.S.Source.left c.loop-found.source) _ c.refusal-then-len-eq-LONGEST.result c.loop-found.invariant.known c.refusal-then-len-eq-LONGEST.ensures (λ more. too_long part held more full none)

pub returns-then-branch-eq0-clause-refused : goal.returns-then-branch-eq0-clause-refused
returns-then-branch-eq0-clause-refused g c =
    let part = c.args.part in
    let held = c.loop-found.held in
    let unfinished = subst (λ (bs : List ℕ). HasNone part bs × MayBecome part bs) c.as_slice.ensures.bytes c.in-Unfinished.ensures.parsed in
    let short : length held < 16384 = omega (arith, c.if-len-eq-LONGEST.false, c.len.ensures.count, c.len.ensures.short) in
    let same : length c.fill_line.new.self ≡ length held = omega (arith, c.in_ok-fill_line.ensures.more, c.if-branch-eq0.true) in
    let end = at_end_before c.fill_line.new.self held (g.S.Source.left c.fill_line.new.source) (g.S.Source.left c.loop-found.source) c.fill_line.ensures.known
    (c.in_ok-fill_line.ensures.end c.if-branch-eq0.true) same in
    cut_told part held (g.S.Source.left c.loop-found.source) _ c.loop-found.invariant.known end (short, unfinished.0, unfinished.1)

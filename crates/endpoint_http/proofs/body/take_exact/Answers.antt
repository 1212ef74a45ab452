use Rattle.std.proofs.Common.{◌≡◌, ◌+◌, length, arith}
use Rattle.sf_outside.specs.Left.{ahead}
use Rattle.endpoint_http.proofs.Tellings.{tell, took}
use Rattle.endpoint_http.proofs.body.take_exact.Goals as goal

pub returns-clause-took : goal.returns-clause-took
returns-clause-took g c =
    let counted : length c.loop-missing.into ≡ length c.args.into.now + c.args.count = omega (arith, c.loop-missing.invariant.counted, c.loop-missing-test.false) in
    tell (ahead c.args.held.now (g.S.Source.left c.args.source.now)) _ (λ bytes told.
    took c.args.into.now c.loop-missing.into c.args.held.now c.loop-missing.held (g.S.Source.left c.args.source.now) (g.S.Source.left c.loop-missing.source) c.args.count bytes
    c.loop-missing.invariant.known counted told)

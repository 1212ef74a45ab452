use Rattle.std.proofs.Common.{◌<◌, ◌∙◌, sym, length, arith}
use Rattle.std.proofs.lemmas.Bool.Decides.{nat_tests}
use Rattle.std.proofs.lemmas.Result.{err_from_is_err_and}
use Rattle.proto_wire.specs.Places.{item_of}
use Rattle.proto_wire.proofs.Scans.{value_in-end, value_in-broken, value_in-accepted, value_in-refused}
use Rattle.proto_wire.proofs.message.merge.Goals as goal

pub loop-rest-preserved : goal.loop-rest-preserved
loop-rest-preserved g c =
    let some : 0 < length c.loop-rest.rest.now = grind (arith, nat_tests) in
    let shorter = c.in-Ok.ensures.shorter in
    record {
      same = sym (value_in-accepted g.M.Decode.rows c.loop-rest.message c.accept.new.self c.loop-rest.rest.now (item_of c.in-Ok.read.0, c.in-Ok.read.1.now) some c.in-Ok.ensures.reads c.in_ok-accept.ensures.changes) ∙ c.loop-rest.invariant.same;
      inside = omega (arith, c.loop-rest.invariant.inside);
    }

pub returns-in-Err : goal.returns-in-Err
returns-in-Err g c =
    let some : 0 < length c.loop-rest.rest.now = grind (arith, nat_tests) in
    let fails = c.in-Err.ensures.reads in
    (sym c.loop-rest.invariant.same ∙ value_in-broken g.M.Decode.rows c.loop-rest.message c.loop-rest.rest.now _ some fails.0, fails.1)

pub returns-in_err-accept : goal.returns-in_err-accept
returns-in_err-accept g c =
    let some : 0 < length c.loop-rest.rest.now = grind (arith, nat_tests) in
    let p = err_from_is_err_and c.from_residual.result c.from_residual.ensures.1 in
    rw (p.1, p.2, ← c.loop-rest.invariant.same)
    (value_in-refused g.M.Decode.rows c.loop-rest.message c.args.end c.in-Ok.read.0.end c.loop-rest.rest.now (item_of c.in-Ok.read.0, c.in-Ok.read.1.now) c.in_err-accept.field-0.0 some
    c.loop-rest.invariant.inside c.in-Ok.ensures.placed.at c.in-Ok.ensures.reads c.in_err-accept.ensures.changes)

pub returns : goal.returns
returns g c = sym c.loop-rest.invariant.same ∙ value_in-end g.M.Decode.rows c.loop-rest.message c.loop-rest.rest.now (grind (arith, nat_tests))

use Rattle.std.proofs.Common.{◌<◌, ◌∙◌, ◌≡◌, sym, ap, Bool, true, false, cond, Option, Some, refl, length, arith}
use Rattle.std.proofs.lemmas.Bool.Decides.{nat_tests}
use Rattle.std.specs.Option.{option_map}
use Rattle.proto_wire.specs.Record.{Item}
use Rattle.proto_wire.specs.Places.{item_of}
use Rattle.proto_wire.specs.Message.{last_record}
use Rattle.proto_wire.proofs.Scans.{last_of-end, last_of-broken, last_of-kept}
use Rattle.proto_wire.proofs.message.last_record.Goals as goal

pub returns-in-Err : goal.returns-in-Err
unfolding last_record
returns-in-Err c =
    let some : 0 < length c.loop-rest.rest.now = grind (arith, nat_tests) in
    let fails = c.in-Err.ensures.reads in
    (sym c.loop-rest.invariant.same ∙ last_of-broken c.args.field c.args.wire (option_map item_of c.loop-rest.found) c.loop-rest.rest.now _ some fails.0, fails.1)

taken : (b : Bool) (item : Item) (held : Option Item) → b ≡ true → cond b (Some item) held ≡ Some item
taken b item held e = ap (λ (t : Bool). cond t (Some item) held) e

left : (b : Bool) (item : Item) (held : Option Item) → b ≡ false → cond b (Some item) held ≡ held
left b item held e = ap (λ (t : Bool). cond t (Some item) held) e

pub loop-rest-preserved-then-is : goal.loop-rest-preserved-then-is
loop-rest-preserved-then-is c =
    let some : 0 < length c.loop-rest.rest.now = grind (arith, nat_tests) in
    let shorter = c.in-Ok.ensures.shorter in
    let read = item_of c.in-Ok.read.0 in
    record {
      same = sym (last_of-kept c.args.field c.args.wire (option_map item_of c.loop-rest.found) (Some read) c.loop-rest.rest.now (read, c.in-Ok.read.1.now) some c.in-Ok.ensures.reads
          (taken _ read _ (sym c.is.ensures ∙ c.if-is.true))) ∙ c.loop-rest.invariant.same;
      inside = omega (arith, c.loop-rest.invariant.inside);
    }

pub loop-rest-preserved : goal.loop-rest-preserved
loop-rest-preserved c =
    let some : 0 < length c.loop-rest.rest.now = grind (arith, nat_tests) in
    let shorter = c.in-Ok.ensures.shorter in
    let read = item_of c.in-Ok.read.0 in
    record {
      same = sym (last_of-kept c.args.field c.args.wire (option_map item_of c.loop-rest.found) (option_map item_of c.loop-rest.found) c.loop-rest.rest.now (read, c.in-Ok.read.1.now) some c.in-Ok.ensures.reads
          (left _ read _ (sym c.is.ensures ∙ c.if-is.false))) ∙ c.loop-rest.invariant.same;
      inside = omega (arith, c.loop-rest.invariant.inside);
    }

pub returns : goal.returns
unfolding last_record
returns c = sym c.loop-rest.invariant.same ∙ last_of-end c.args.field c.args.wire (option_map item_of c.loop-rest.found) c.loop-rest.rest.now (grind (arith, nat_tests))

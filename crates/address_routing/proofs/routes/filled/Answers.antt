use Rattle.address_routing.proofs.Templates.{filled-around, filled-none, IsUtf8-back, parts_more}
use Rattle.address_routing.proofs.routes.filled.Goals as goal

pub parts-preserved : goal.parts-preserved
parts-preserved c = record {
  whole = parts_more _ _ _ c.args.name.now c.parts.rest.now _ _ _ c.in_ok-append.ensures.ok c.in_ok-append-2.ensures.ok (filled-around c.args.name.now c.parts.rest.now _ _ c.in-Some.ensures.cases) c.parts.invariant.whole;
  text = IsUtf8-back c.parts.rest.now _ _ c.in-Some.ensures.cases c.parts.invariant.text;
}

pub returns : goal.returns
returns c = let e = filled-none c.args.name.now c.parts.rest.now c.in_default.ensures.cases in let h = c.parts.invariant.whole in let f = c.in_ok-append-3.ensures.ok in cc

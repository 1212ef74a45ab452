use Rattle.std.proofs.Common.{refl}
use Rattle.typed_values.specs.Names.{name_in}
use Rattle.typed_values.proofs.Slash.{round-none, round-some}
use Rattle.typed_values.proofs.parse.parse_name.Goals as goal

pub returns-in-Some-clause-found : goal.returns-in-Some-clause-found
unfolding name_in
returns-in-Some-clause-found c = let e = round-some c.args.text.now _ _ c.in-Some.ensures.cases in rw e c.name_of.ensures.found

pub returns-in-Some-clause-bad : goal.returns-in-Some-clause-bad
unfolding name_in
returns-in-Some-clause-bad c = let e = round-some c.args.text.now _ _ c.in-Some.ensures.cases in rw e c.name_of.ensures.bad

pub returns-in-None-clause-bad : goal.returns-in-None-clause-bad
unfolding name_in
returns-in-None-clause-bad c = let e = round-none c.args.text.now c.in-None.ensures.cases in rw e (λ _. refl, λ _. refl)

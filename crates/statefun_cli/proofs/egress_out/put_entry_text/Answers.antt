use Rattle.std.proofs.Common.{refl}
use Rattle.statefun_cli.proofs.Egress.{nothing-said}
use Rattle.statefun_cli.proofs.egress_out.put_entry_text.Goals as goal

pub returns-in-Take : goal.returns-in-Take
returns-in-Take c = nothing-said c.args.into.now c.args.entry.now _ c.in-Take.is refl

pub returns-in-Due : goal.returns-in-Due
returns-in-Due c = nothing-said c.args.into.now c.args.entry.now _ c.in-Due.is refl

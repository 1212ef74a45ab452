use Rattle.std.proofs.Common.{◌∙◌, sym, ap}
use Rattle.run_record.specs.Egress.{egress_of}
use Rattle.statefun_driver.proofs.Parting.{egress_same}
use Rattle.statefun_driver.proofs.steps.Steps.push.Goals as goal

pub invariant_of-self-2 : goal.invariant_of-self-2
invariant_of-self-2 c = c.self.invariant ∙ sym (egress_same c.self.inside.entries c.args.entry c.requires) ∙ ap egress_of (sym c.in_ok-push.ensures.ok)

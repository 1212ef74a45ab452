use Rattle.std.proofs.Common.{◌∙◌, sym, ap, ◌++◌}
use Rattle.run_record.specs.Egress.{egress_of}
use Rattle.statefun_driver.proofs.Parting.{egress_push}
use Rattle.statefun_driver.proofs.steps.Steps.push_with.Goals as goal

pub invariant_of-self-2 : goal.invariant_of-self-2
invariant_of-self-2 c =
    c.in-Ok.ensures.items
    ∙ (λ i. (c.reserve.ensures.items ∙ c.self.invariant) i ++ (c.into_vec-records.ensures ∙ sym c.requires) i)
    ∙ sym (egress_push c.self.inside.entries c.args.entry)
    ∙ ap egress_of (sym c.in_ok-push.ensures.ok)

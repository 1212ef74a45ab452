use Rattle.actor_rules.proofs.Cuts.{leads_on}
use Rattle.actor_rules.proofs.laws.a_step_leads_on_from_a_cut.Goals as goal

pub returns : goal.returns
returns g c r before sound s t some all later e splits own lead allowed early = leads_on r sound before s t some all later e splits own lead allowed early

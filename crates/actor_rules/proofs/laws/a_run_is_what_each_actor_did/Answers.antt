use Rattle.std.proofs.Common.{sym, subst}
use Rattle.actor_rules.specs.Rules.{IsRun}
use Rattle.actor_rules.proofs.Lists.{in_order}
use Rattle.actor_rules.proofs.Runs.{fitting_run, run_fits}
use Rattle.actor_rules.proofs.laws.a_run_is_what_each_actor_did.Goals as goal

pub returns : goal.returns
returns g c r before sound keys s t es rises = (
  (λ run. let have = run_fits r sound before s t es rises run in (have.0, have.1)),
  (λ h. subst (λ w. IsRun r s es w) (sym h.1) (fitting_run r sound before s es (in_order before keys es rises) h.0)),
)

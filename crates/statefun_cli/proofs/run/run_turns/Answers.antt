use Rattle.std.proofs.Common.{ap, ◌≡◌, List, sym, refl, subst}
use Rattle.run_record.specs.declared.entry.Entry.{Entry}
use Rattle.statefun_driver.specs.Seen.{Objects}
use Rattle.statefun_driver.specs.Runs.{IsRun}
use Rattle.statefun_cli.specs.declared.end.PlainEnd.{PlainEnd}
use Rattle.statefun_cli.specs.Running.{IsTold}
use Rattle.statefun_cli.proofs.Ran.{named, turns-run}
use Rattle.statefun_cli.proofs.run.run_turns.Goals as goal

pub returns-clause-ran : goal.returns-clause-ran
returns-clause-ran g c =
    let same = c.run-end.ensures.objects in
    let ingress = c.ingress-1.given.1 (sym (ap (λ (x : Objects). x.ingress) same)) in
    let link = c.link-1.given.1 (sym (ap (λ (x : Objects). x.link) same)) in
    let clock = c.clock-1.given.1 (sym (ap (λ (x : Objects). x.clock) same)) in (
      record { ingress = c.world-1.given; link = c.world-2-1.given; clock = c.world-3-1.given },
      turns-run c.args.routes c.args.turns _ _ _ _ c.run-end.result.entries c.told.result.entries c.run-end.result.end c.of.result c.told.result.end
          (named _ _ _ _ c.run-end.result.entries c.run-end.result.end c.run-end.ensures.ran same (rw (ingress, link, clock) refl))
          c.told.ensures.entries c.of.ensures.made c.told.ensures.told,
    )

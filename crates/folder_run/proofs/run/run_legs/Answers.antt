use Rattle.std.proofs.Common.{ap, sym, refl}
use Rattle.statefun_driver.specs.Seen.{Objects}
use Rattle.folder_run.proofs.Ran.{folder_run}
use Rattle.folder_run.proofs.run.run_legs.Goals as goal

pub returns-clause-ran : goal.returns-clause-ran
returns-clause-ran g c =
    let same = c.drive-end.ensures.objects in
    let ingress = c.ingress-1.given.1 (sym (ap (λ (x : Objects). x.ingress) same)) in
    let link = c.link-1.given.1 (sym (ap (λ (x : Objects). x.link) same)) in
    let clock = c.clock-1.given.1 (sym (ap (λ (x : Objects). x.clock) same)) in (
      record { ingress = c.world-1.given; link = c.world-2-1.given; clock = c.world-3-1.given },
      folder_run c.args.routes c.args.options _ _ _ _ _ _ _ _ _ c.drive-end.result c.of.result c.told.result same (rw (ingress, link, clock) refl)
          c.drive-end.ensures.driven c.drive-end.ensures.good c.drive-end.ensures.cause c.of.ensures.made c.told.ensures.told,
    )

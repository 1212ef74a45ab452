use Rattle.std.proofs.Common.{◌≡◌}
use Rattle.statefun_driver.specs.Turns.{Origin}
use Rattle.statefun_driver.specs.Work.{here, plan_of}
use Rattle.checkpoint_storage.specs.Folders.{IsKnown}
use Rattle.checkpoint_drive.specs.Begins.{IsReady}
use Rattle.checkpoint_drive.specs.Driven.{IsUnderway}
use Rattle.checkpoint_drive.specs.OneLeg.{IsSame}
use Rattle.checkpoint_drive.proofs.Loops.{SoFar}
use Rattle.checkpoint_drive.proofs.run.Run.make_legs.Given as goal

-- so many legs were made
abbrev pub invariant-loop : goal.invariant-loop
invariant-loop g l = record {
  so : (origin : Origin) → SoFar l.fn.self l.self origin (g.O.Outside.seen l.fn.outside) (g.O.Outside.seen l.outside) (g.D.Disk.moments l.fn.disk) (g.D.Disk.moments l.disk);
  ready : IsReady l.self;
  is_known : IsKnown l.self.storage (g.D.Disk.moments l.disk);
  underway : (origin : Origin) × IsUnderway (plan_of l.self.job) origin (here l.self.progress) (g.O.Outside.seen l.outside);
  same : IsSame l.fn.self l.self;
  counted : l.self.legs ≡ l.counter;
  faults : g.D.Disk.faults l.disk ≡ g.D.Disk.faults l.fn.disk;
}

use Rattle.std.proofs.Common.{◌≡◌, ◌≤◌, ◌-◌}
use Rattle.egress_commit.specs.Outlets.{last_epoch}
use Rattle.folder_commands.proofs.Texts.{HasLines}
use Rattle.folder_commands.proofs.show_text.outlet_text.Given as goal

-- the lines of the epochs so far
abbrev pub invariant-loop-done : goal.invariant-loop-done
invariant-loop-done g l = record {
  bound : l.done ≤ last_epoch l.outlet;
  lines : HasLines (g.D.Disk.moments l.initial.disk) l.outlet l.text l.done;
  same : g.D.Disk.moments l.disk ≡ g.D.Disk.moments l.initial.disk;
  faults : g.D.Disk.faults l.disk ≡ g.D.Disk.faults l.initial.disk;
}

abbrev pub decreases-loop-done : goal.decreases-loop-done
decreases-loop-done g l = last_epoch l.outlet - l.done

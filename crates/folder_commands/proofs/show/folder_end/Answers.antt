use Rattle.folder_commands.proofs.show.folder_end.Goals as goal

pub returns-clause-works : goal.returns-clause-works
returns-clause-works g c =
    c.end_of.ensures (g.D.Disk.moments c.args.disk.now) (g.D.Disk.faults c.args.disk.now) (g.D.Disk.faults c.folder_text-shown.new.disk)
    c.folder_text-shown.ensures.text c.folder_text-shown.ensures.refuses c.folder_text-shown.ensures.cause (g.D.Disk.moments c.folder_text-shown.new.disk)

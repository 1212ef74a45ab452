use Rattle.std.proofs.Common.{List, [], ◌∷◌, ◌++◌, ap, ◌∙◌}
use Rattle.sf_disk.specs.declared.change.Change.{Change}
use Rattle.sf_disk.proofs.Kept.{reads_on}
use Rattle.sf_disk.proofs.memory_disk.MemoryDisk.change.Goals as goal

pub invariant_of-self-2 : goal.invariant_of-self-2
invariant_of-self-2 c = record {
  reads = reads_on c.args.self.now.first c.args.self.now.changes.items c.note.new.changes.items c.args.change c.args.self.now.seen.items c.change_in.new.files.items
      (c.note.ensures ∙ ap (λ (l : List Change). l ++ c.args.change ∷ []) c.reserve.ensures.items) c.args.self.now.reads c.in_ok-change_in.ensures.ok;
}

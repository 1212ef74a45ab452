use Rattle.std.proofs.Common.{length, ap, ◌∙◌}
use Rattle.sf_disk.proofs.Kept.{reads_slice, read_told}
use Rattle.sf_disk.proofs.memory_disk.MemoryDiskDisk.len.Goals as goal

pub returns-clause-len : goal.returns-clause-len
returns-clause-len c = λ m told. ap length (c.file_in.ensures ∙ read_told c.args.self.now.first c.args.self.now.changes.items _ m c.args.file (reads_slice c.args.self.now.first c.args.self.now.changes.items _ _ c.as_slice.ensures.value c.args.self.now.reads) told)

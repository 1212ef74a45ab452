use Rattle.std.proofs.Common.{List, [], ℕ, length, take, drop, ap, ◌∙◌, arith}
use Rattle.sf_disk.specs.Memory.{now_of, first_moment}
use Rattle.sf_disk.proofs.Kept.{reads_slice, read_told, newest_from}
use Rattle.sf_disk.proofs.memory_disk.MemoryDiskDisk.read.Goals as goal

pub copy_from-requires : goal.copy_from-requires
copy_from-requires c =
    let now = now_of c.args.self.now.first c.args.self.now.changes.items in
    let told = newest_from [] (first_moment c.args.self.now.first) c.args.self.now.changes.items in
    omega (arith, c.requires now told, ap length (c.file_in.ensures ∙ read_told c.args.self.now.first c.args.self.now.changes.items _ now c.args.file (reads_slice c.args.self.now.first c.args.self.now.changes.items _ _ c.as_slice.ensures.value c.args.self.now.reads) told))

pub returns-clause-read : goal.returns-clause-read
returns-clause-read c = λ m told. c.copy_from.ensures ∙ ap (λ (l : List ℕ). take (length c.args.into.now) (drop c.args.at l)) (c.file_in.ensures ∙ read_told c.args.self.now.first c.args.self.now.changes.items _ m c.args.file (reads_slice c.args.self.now.first c.args.self.now.changes.items _ _ c.as_slice.ensures.value c.args.self.now.reads) told)

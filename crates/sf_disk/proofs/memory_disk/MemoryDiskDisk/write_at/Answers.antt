use Rattle.std.proofs.Common.{List, ℕ, length, subst}
use Rattle.sf_disk.specs.Images.{Follows, Done, Torn, patched}
use Rattle.sf_disk.specs.Moments.{Since, Becomes, InFile}
use Rattle.sf_disk.specs.Memory.{moments_of}
use Rattle.sf_disk.specs.declared.change.Change.TheVariants.{Write}
use Rattle.sf_disk.proofs.Kept.{went_on, came, wrote}
use Rattle.sf_disk.proofs.memory_disk.MemoryDiskDisk.write_at.Goals as goal

pub returns-clause-wrote : goal.returns-clause-wrote
returns-clause-wrote c =
    let first = c.args.self.now.first in
    let cs = c.args.self.now.changes.items in
    subst (λ (b : List ℕ). Becomes (moments_of first cs) (moments_of c.change.new.self.first c.change.new.self.changes.items) (InFile c.args.file (Done (Torn c.args.at (length b)) (λ old. patched old c.args.at b)))) c.in_ok-bytes.ensures
    (came first cs (Write c.args.file c.args.at c.in_ok-bytes.bytes) _ _ c.change.ensures.first c.in_ok-change.ensures.changed _ (λ m told. wrote c.args.file c.args.at c.in_ok-bytes.bytes (m c.args.file) (c.requires m told)))

pub returns-clause-meanwhile : goal.returns-clause-meanwhile
returns-clause-meanwhile c =
    let first = c.args.self.now.first in
    let cs = c.args.self.now.changes.items in
    subst (λ (b : List ℕ). Since (moments_of first cs) (moments_of c.change.new.self.first c.change.new.self.changes.items) (InFile c.args.file (Follows (Torn c.args.at (length b))))) c.in_ok-bytes.ensures
    (went_on first cs (Write c.args.file c.args.at c.in_ok-bytes.bytes) _ _ c.change.ensures.first c.in_ok-change.ensures.changed _ (λ m told. (wrote c.args.file c.args.at c.in_ok-bytes.bytes (m c.args.file) (c.requires m told)).follows))

-- Opening a folder, and its egress file behind it, as times went on.
use Rattle.std.proofs.Common.{◌≡◌, List}
use Rattle.sf_disk.specs.Images.{Follows}
use Rattle.sf_disk.specs.Moments.{Moment, InFile, Since, Becomes, newest}
use Rattle.sf_disk.proofs.Onward.{since_as, since_then, at_now}
use Rattle.snapshot_files.specs.Opening.{OpensKept}
use Rattle.egress_commit.specs.Epochs.{KeepsEpochs}
use Rattle.command_io.specs.Folders.{Stays}
use Rattle.command_io.proofs.Stays.{stays, opened_all, opened_egress}

pub opening : (a b : List Moment) → Since a b OpensKept → Since a b Stays
opening a b all = since_as a b OpensKept Stays all (λ m n told o. stays m n (opened_all m n o))

-- where opening the folder led is known to be an opening
pub opening_both : (a b c : List Moment) → Since a b OpensKept → (R : Moment → Moment → Type 0) → Becomes a b R → ((m k : Moment) → R m k → OpensKept m k) → Since b c (InFile 1 (Follows KeepsEpochs)) → Since a c Stays
opening_both a b c all R becomes opens egress =
    since_then a b c Stays (InFile 1 (Follows KeepsEpochs)) (opening a b all) egress
    (λ m k n told_m told_k o. stays m n (opened_egress m k n (opens m k (at_now a b R becomes m k told_m told_k)) o))

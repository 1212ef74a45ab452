-- What is heard in one more read.
use Rattle.std.proofs.Common.{◌≡◌, ℕ, ◌+◌, List, ◌++◌, length, take, drop, refl, Option}
use Rattle.std.proofs.Math.Seq.{take-add, drop-append_seam}
use Rattle.sf_outside.specs.Left.{ahead, ahead-ahead}

-- what one more read puts behind the bytes so far was the next that was left
pub heard_more : (start before after : Option (List ℕ)) (old mid new : List ℕ) (count n : ℕ) → start ≡ ahead (take count old) before
    → take count mid ≡ take count old → take count new ≡ take count mid → before ≡ ahead (take n (drop count new)) after → start ≡ ahead (take (count + n) new) after
heard_more start before after old mid new count n so_far grown kept read =
    let both = take-add count n new in
    rw (so_far, ← grown, ← kept, read, ahead-ahead (take count new) (take n (drop count new)) after, ← both) refl

pub drop_front : (front rest : List ℕ) (n : ℕ) → length front ≡ n → drop n (front ++ rest) ≡ rest
drop_front front rest n e = rw (← e) (drop-append_seam front rest)

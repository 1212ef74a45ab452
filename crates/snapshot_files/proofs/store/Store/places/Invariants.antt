use Rattle.std.proofs.Common.{◌≡◌, map, take}
use Rattle.snapshot_files.specs.Changes.{place_of}
use Rattle.snapshot_files.proofs.store.Store.places.Given as goal

-- the places so far
abbrev pub invariant-loop-slot : goal.invariant-loop-slot
invariant-loop-slot l = l.places ≡ map place_of (take l.slot-index l.slot-items)

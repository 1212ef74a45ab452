use Rattle.std.proofs.Common.{◌≡◌, ℕ, ◌<◌, ◌≤◌, true}
use Rattle.snapshot_files.specs.Usable.{has_letters, has_piece, latest_put}
use Rattle.folder_rows.proofs.life.are_all_put.Given as goal

-- the parts of those before were put
abbrev pub invariant-loop-partition : goal.invariant-loop-partition
invariant-loop-partition l =
    (other : ℕ) → other < l.partition
    → (has_piece l.store other ≡ true) × (has_letters l.store other ≡ true) × (latest_put l.store other ≤ l.moment)

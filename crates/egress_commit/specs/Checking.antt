-- When a log's blocks are not the commits of their epochs.
use Rattle.std.specs.Prelude.{◌≡◌, List}
use Rattle.sf_disk.specs.Moments.{Moment, WhereTold}
use Rattle.block_log.specs.declared.log.BlockLog.{BlockLog}
use Rattle.block_log.specs.Blocks.{Body}
use Rattle.block_log.specs.Logs.{IsOpen}
use Rattle.store_faults.specs.declared.fault.StoreFault.{StoreFault}
use Rattle.store_faults.specs.Faults.{RefusesBy}
use Rattle.egress_commit.specs.Epochs.{BreaksIn}

-- what the log stands for breaks there
abbrev pub RefusesBlocks : BlockLog → List Moment → StoreFault → Type 0
RefusesBlocks log moments = RefusesBy (λ file place. (file ≡ 1) × WhereTold moments (λ now. (bodies : List Body) → IsOpen log bodies (now 1) → BreaksIn bodies place))

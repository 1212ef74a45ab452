-- The text of a folder's job.
use Rattle.std.specs.Prelude.{ℕ, List, [], ◌∷◌, ◌++◌, codes}
use Rattle.address_routing.specs.declared.module.Module.{Module}
use Rattle.address_routing.specs.JobText.{line, job_text}

-- all addresses are in one partition
abbrev pub only_partition : List ℕ
only_partition = line (codes "partitions") (codes "1" ∷ [])

abbrev pub folder_text : Module → List ℕ
folder_text m = only_partition ++ job_text m

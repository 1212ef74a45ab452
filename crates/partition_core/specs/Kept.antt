-- The work that a partition keeps.
use Rattle.std.specs.Prelude.{ℕ, List, [], Option}
use Rattle.std.specs.Option.{option_map_or}
use Rattle.std.specs.BTreeMap.{get}
use Rattle.typed_values.specs.declared.address.Address.{Address}
use Rattle.typed_values.specs.declared.cells.Cell.{Cell}
use Rattle.batch_queue.specs.Kept.{post_of}
use Rattle.keyed_queues.specs.Keys.{address_order}
use Rattle.partition_core.specs.declared.actor.Actor.{Actor}
use Rattle.partition_core.specs.declared.actors.Actors.{Actors}
use Rattle.partition_core.specs.declared.partition.Partition.{Partition}
use Rattle.partition_core.specs.Work.{Work}

abbrev pub actor_in : Actors → Address → Option Actor
actor_in kept address = get address_order kept.actors address

abbrev pub cells_in : Actors → Address → List Cell
cells_in kept address = option_map_or (λ (actor : Actor). actor.cells) (actor_in kept address) []

abbrev pub seen_in : Actors → Address → ℕ
seen_in kept address = option_map_or (λ (actor : Actor). actor.seen) (actor_in kept address) 0

unfoldable pub work_of : Partition → Work
work_of kept = record {
  post = post_of kept.mail;
  cells = cells_in kept.actors;
  seen = seen_in kept.actors;
  delays = kept.delays.delays;
}

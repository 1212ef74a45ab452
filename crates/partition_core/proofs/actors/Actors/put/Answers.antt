use Rattle.std.proofs.Common.{◌∙◌, ap, [], Option}
use Rattle.std.specs.Option.{option_map_or}
use Rattle.typed_values.specs.declared.letter.Sender.TheVariants.{Function}
use Rattle.partition_core.specs.declared.actor.Actor.{Actor}
use Rattle.partition_core.specs.Work.{set_for}
use Rattle.partition_core.specs.Kept.{cells_in}
use Rattle.partition_core.proofs.PutBack.{actor_put}
use Rattle.partition_core.proofs.actors.Actors.put.Goals as goal

pub returns : goal.returns
returns c =
    let actor : Actor = record { cells = c.in_ok-restored_cells.field-0; seen = c.args.state.seen } in (
      actor_put (λ (found : Option Actor). option_map_or (λ (actor : Actor). actor.cells) found []) c.args.self.now (record { actors = c.insert.new.self }) c.args.state.address actor c.in_ok-insert.ensures.updates.0
          ∙ ap (λ cells. set_for (Function c.args.state.address) cells (cells_in c.args.self.now)) c.in_ok-restored_cells.ensures,
      actor_put (λ (found : Option Actor). option_map_or (λ (actor : Actor). actor.seen) found 0) c.args.self.now (record { actors = c.insert.new.self }) c.args.state.address actor c.in_ok-insert.ensures.updates.0,
    )

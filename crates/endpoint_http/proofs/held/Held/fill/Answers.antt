use Rattle.std.proofs.Common.{◌∙◌}
use Rattle.endpoint_http.proofs.Filling.{filled}
use Rattle.endpoint_http.proofs.held.Held.fill.Goals as goal

pub returns-clause-known : goal.returns-clause-known
returns-clause-known g c =
    let room = c.make_room-self-inside in
    filled room.result room.new.bytes.items c.read_behind.new.bytes.items c.args.self.now (g.S.Source.left c.args.source.now) (g.S.Source.left c.read_behind.new.source)
    (room.ensures.same ∙ c.self.view_is) room.ensures.within c.read_behind.ensures.kept c.read_behind.ensures.read

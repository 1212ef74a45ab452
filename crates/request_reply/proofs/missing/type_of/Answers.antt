use Rattle.std.proofs.Common.{◌≡◌, map, ◌∙◌, sym}
use Rattle.typed_values.specs.Cells.{empty}
use Rattle.request_reply.proofs.Declaring.{type-first, type-behind}
use Rattle.request_reply.proofs.missing.type_of.Goals as goal

pub returns-in-Some : goal.returns-in-Some
returns-in-Some g c = sym (type-first c.args.name.now c.in-Some.typename.now (g.K.Known.setting c.args.known.now).cells (map empty c.args.new.now) (sym c.in-Some.ensures))

pub returns-in-None : goal.returns-in-None
returns-in-None g c = c.type_in.ensures ∙ sym (type-behind c.args.name.now (g.K.Known.setting c.args.known.now).cells (map empty c.args.new.now) (sym c.in-None.ensures))

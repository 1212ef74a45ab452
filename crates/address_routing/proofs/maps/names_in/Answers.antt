use Rattle.std.proofs.Common.{arith}
use Rattle.address_routing.specs.Kept.{has_name}
use Rattle.address_routing.proofs.Naming.{any_more}
use Rattle.address_routing.proofs.maps.names_in.Goals as goal

pub loop-name-preserved : goal.loop-name-preserved
loop-name-preserved c = λ namespace name.
    any_more c.args.names.now c.loop-name.name-index c.name-item.result namespace name
    (has_name c.loop-name.spaces namespace name) (has_name c.note_name.new.spaces namespace name)
    (omega arith) (cc) (c.loop-name.invariant namespace name) (c.in_ok-note_name.ensures namespace name)

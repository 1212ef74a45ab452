use Rattle.std.proofs.Common.{◌≡◌, map}
use Rattle.std.specs.Prelude.{sum}
use Rattle.proto_wire.specs.Message.{capped}
use Rattle.folder_form.specs.Shapes.{splits_of_line}
use Rattle.folder_form.proofs.shape.splits_in.Given as goal

abbrev pub invariant-loop-line : goal.invariant-loop-line
invariant-loop-line l = l.splits ≡ capped (sum (map splits_of_line (map (λ line. line.now) l.yielded)))

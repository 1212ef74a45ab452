-- A link in memory at first.
use Rattle.std.specs.Prelude.{◌≡◌, List, []}
use Rattle.sf_outside.specs.declared.turn.Turn.{Turn}
use Rattle.sf_outside.specs.declared.script_link.ScriptLink.{ScriptLink}

-- it has this script before it, and did nothing
pub record IsUntouched (script : List Turn) (link : ScriptLink) : Type 0 where
  pub turns : link.turns ≡ script
  pub taken : link.taken ≡ 0
  pub journal : link.done ≡ []
  pub exchanges : link.answered ≡ []
  pub losses : link.lost ≡ 0

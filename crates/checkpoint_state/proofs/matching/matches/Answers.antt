use Rattle.std.specs.Prelude.{◌↔◌, IsTrue}
use Rattle.std.proofs.lemmas.Result.{IfOk-weaker}
use Rattle.run_record.specs.StateOf.{state_of}
use Rattle.checkpoint_state.specs.Matching.{StandsAt}
use Rattle.checkpoint_state.proofs.AtCheckpoint.{told}
use Rattle.checkpoint_state.proofs.matching.matches.Goals as goal

pub returns : goal.returns
returns c = IfOk-weaker c.matches.result _ (λ same. IsTrue same ↔ StandsAt (state_of c.args.machine.now) c.args.loaded.now) (λ same tells. told c.args.loaded.now (state_of c.args.machine.now) (state_of c.in_ok-stored.stored) c.in_ok-stored.ensures same tells) c.matches.ensures

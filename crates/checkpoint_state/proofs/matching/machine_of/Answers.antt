use Rattle.run_record.specs.StateOf.{state_of}
use Rattle.checkpoint_state.proofs.AtCheckpoint.{filled}
use Rattle.checkpoint_state.proofs.matching.machine_of.Goals as goal

pub returns : goal.returns
returns c =
    filled c.args.loaded.now c.as_slice.result.now c.as_slice-pieces.result.now c.as_slice-2.result.now c.as_slice.ensures c.as_slice-pieces.ensures c.as_slice-2.ensures
    (state_of c.in_ok-machine.machine) (state_of c.put_letters_in.new.machine) (state_of c.put_on_the_way.new.machine) (state_of c.put_delays_in.new.machine) (state_of c.put_states_in.new.machine)
    c.in_ok-machine.ensures c.in_ok-put_letters_in.ensures c.in_ok-put_on_the_way.ensures c.in_ok-put_delays_in.ensures c.in_ok-put_states_in.ensures

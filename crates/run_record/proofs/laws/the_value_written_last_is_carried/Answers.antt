use Rattle.typed_values.specs.declared.letter.Sender.TheVariants.{Function}
use Rattle.run_record.specs.Machine.{first_state}
use Rattle.run_record.specs.Histories.{cell_calls}
use Rattle.run_record.proofs.LawsOfOwn.{cells_made}
use Rattle.run_record.proofs.Named.{request_carries}
use Rattle.run_record.proofs.laws.the_value_written_last_is_carried.Goals as goal

pub returns : goal.returns
unfolding cell_calls
returns c m lists last entries h address moment picks request asked =
    request_carries m (cell_calls m lists entries address) (last.own (Function address)).cells (λ sender. last.mail sender address) address moment picks request (cells_made m lists (Function address) first_state last entries h) asked

use Rattle.function_server.proofs.Tabling.{same_entries}
use Rattle.function_server.proofs.table.FunctionTable.answer.Goals as goal

pub returns : goal.returns
returns g c = same_entries _ _ _ _ _ _ c.as_slice.ensures.value c.answer_in.ensures

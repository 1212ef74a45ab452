use Rattle.std.proofs.Common.{◌∙◌, sym, ap, zero-add}
use Rattle.run_record.specs.Machine.{first_state}
use Rattle.run_record.proofs.LawsOfTakes.{taken_is, arguments_from}
use Rattle.run_record.proofs.laws.records_become_letters_in_order.Goals as goal

pub returns : goal.returns
returns c m lists last entries h split target =
    let taken = taken_is m lists split target first_state last entries h in
    taken.is ∙ ap (arguments_from m lists split target 0) (sym (taken.count ∙ zero-add taken.more))

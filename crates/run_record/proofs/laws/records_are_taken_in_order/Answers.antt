use Rattle.std.proofs.Common.{◌∙◌, sym, ap, zero-add}
use Rattle.run_record.specs.Machine.{first_state}
use Rattle.run_record.specs.Deliveries.{counting}
use Rattle.run_record.proofs.LawsOfOwn.{numbers_taken-are}
use Rattle.run_record.proofs.laws.records_are_taken_in_order.Goals as goal

pub returns : goal.returns
returns c m lists last entries h split =
    let are = numbers_taken-are m lists first_state last entries h split in
    are.1 ∙ ap (counting 0) (sym (are.2 ∙ zero-add are.0))

use Rattle.std.proofs.Common.{◌≤◌, ℕ, List, sym, subst, count_by, nat_eq}
use Rattle.run_record.specs.Machine.{first_state}
use Rattle.run_record.proofs.LawsOfOwn.{numbers_taken-are, counting-once}
use Rattle.run_record.proofs.laws.each_record_is_taken_once.Goals as goal

pub returns : goal.returns
returns c m lists last entries h split number =
    let are = numbers_taken-are m lists first_state last entries h split in
    let P : List ℕ → Type 0 = λ xs. count_by (nat_eq number) xs ≤ 1 in
    subst P (sym are.1) (counting-once 0 are.0 number)

-- What is read of a log that was appended to.
use Rattle.std.proofs.Common.{◌≡◌, ◌<◌, ◌≤◌, ◌-◌, ◌+◌, ◌^◌, ℕ, zero, suc, Bool, true, false, nat_lt, List, [], ◌∷◌, ◌++◌, length, take, drop, slice_get, Option, Some, None, refl, sym, ◌∙◌, ap, subst, arith, append_assoc, append-nil, length-append}
use Rattle.std.specs.Prelude.{Ok}
use Rattle.std.specs.List.{AllByRecursion}
use Rattle.std.proofs.Math.Seq.{take-append_seam, drop-append_seam}
use Rattle.std.proofs.lemmas.Bool.Decides.{nat_tests}
use Rattle.proto_wire.specs.Varint.{varint, varint_in}
use Rattle.proto_wire.specs.Varint as varints
use Rattle.proto_wire.specs.Message.{fit, spelling, value_of}
use Rattle.proto_wire.proofs.Again.{varint-again}
use Rattle.proto_wire.proofs.RoundTrip.{IsAgain, again, written-again, texts-copies, bytes-copies}
use Rattle.sf_outside.specs.declared.ingress.IngressRecord.{IngressRecord}
use Rattle.sf_outside.specs.declared.front.Front.{Front}
use Rattle.sf_outside.specs.declared.front.Front.TheVariants.{Cut, Bad, Whole}
use Rattle.sf_outside.specs.Log.{empty_record, record_rows, message, framed, front_of, first_record, behind, log_record}
use Rattle.sf_outside.proofs.Logs.{front_more}
use Rattle.folder_commands.specs.LogText.{log_text, record_text}
use Rattle.folder_commands.specs.Laws.{HasRecords, IsLoggable}

record-again : IsAgain empty_record record_rows
unfolding empty_record record_rows
record-again = again empty_record record_rows refl (texts-copies 1 refl _ _, (bytes-copies 2 refl _ (λ it payload. record it { value = payload }), tt)) (λ v. (refl, (refl, refl)))

-- a record that is spelled at the front of a log is what stands there
front_written : (made : IngressRecord) (rest : List ℕ) → IsLoggable made → front_of (record_text made ++ rest) ≡ Whole made (length (record_text made))
unfolding front_of record_text
front_written made rest is =
    let spelled = spelling record_rows made in
    let head = varint (length spelled) in
    let log = (head ++ spelled) ++ rest in
    let joined : log ≡ head ++ (spelled ++ rest) = append_assoc head spelled rest in
    let len : varint_in log ≡ Ok (length spelled, spelled ++ rest) = ap varint_in joined ∙ varint-again (length spelled) (spelled ++ rest) is.1 in
    let fits : nat_lt (length (spelled ++ rest)) (length spelled) ≡ false = grind (arith, nat_tests, length-append spelled rest) in
    let value = written-again empty_record record_rows record-again made spelled refl is.0 is.1 in
    let total : length log - length rest ≡ length (head ++ spelled) = omega (arith, length-append (head ++ spelled) rest) in
    rw (len, fits, take-append_seam spelled rest, drop-append_seam spelled rest, value) (ap (λ (n : ℕ). Whole made n) total)

-- ---- lists of records

shorter : (log more : List ℕ) (n : ℕ) → n ≤ length log → drop n (log ++ more) ≡ drop n log ++ more
shorter log more zero less = refl
shorter [] more (suc n) less = absurd (omega (arith, less))
shorter (x ∷ log) more (suc n) less = shorter log more n (omega (arith, less))

written : (new : List IngressRecord) → AllByRecursion IsLoggable new → HasRecords (log_text new) new
written [] all = refl
written (made ∷ new) all =
    (length (record_text made), front_written made (log_text new) all.0, subst (λ (l : List ℕ). HasRecords l new) (sym (drop-append_seam (record_text made) (log_text new))) (written new all.1))

pub appended_behind : (log : List ℕ) (old new : List IngressRecord) → HasRecords log old → AllByRecursion IsLoggable new → HasRecords (log ++ log_text new) (old ++ new)
appended_behind log [] new has all = subst (λ (l : List ℕ). HasRecords (l ++ log_text new) new) (sym has) (written new all)
appended_behind log (made ∷ old) new has all =
    let front = front_more log (log_text new) made has.0 has.1 in
    (has.0, front.0, subst (λ (l : List ℕ). HasRecords l (old ++ new)) (sym (shorter log (log_text new) has.0 front.1)) (appended_behind (drop has.0 log) old new has.2 all))

nothing_there : front_of [] ≡ Cut
unfolding front_of varint_in varints.groups
nothing_there = refl

pub reads_all : (log : List ℕ) (records : List IngressRecord) → HasRecords log records → (number : ℕ) → log_record number log ≡ slice_get records number
reads_all log [] has zero = ap (λ (l : List ℕ). first_record (front_of l)) has ∙ ap first_record nothing_there
reads_all log [] has (suc number) = ap (λ (l : List ℕ). behind (front_of l) l (log_record number)) has ∙ ap (λ (f : Front). behind f [] (log_record number)) nothing_there
reads_all log (made ∷ records) has zero = ap first_record has.1
reads_all log (made ∷ records) has (suc number) = ap (λ (f : Front). behind f log (log_record number)) has.1 ∙ reads_all (drop has.0 log) records has.2 number

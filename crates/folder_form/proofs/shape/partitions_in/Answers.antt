use Rattle.std.proofs.Common.{rules, tests, ◌≡◌, None, Some, true, false, refl, sym, ap, ◌∙◌}
use Rattle.std.specs.Option.{is_some}
use Rattle.std.specs.Prelude.{codes, bytes_eq}
use Rattle.folder_form.proofs.Parts.{told_by, text-told, from_told, no-more, told-more, told-led, told-other}
use Rattle.folder_form.proofs.shape.partitions_in.Goals as goal
use Rattle.folder_form.proofs.shape.partitions_in.Goals.{else-eq-via-then-eq+else-is_none, else-eq-via-else-eq}

pub returns-in_err-line-clause-value : goal.returns-in_err-line-clause-value
returns-in_err-line-clause-value c = c.from_residual.ensures ∙ sym (text-told c.args.text.now ∙ ap told_by (sym c.in_err-line.ensures))

pub returns-in_err-word-clause-value : goal.returns-in_err-word-clause-value
returns-in_err-word-clause-value c = c.from_residual-in_err-word.ensures ∙ from_told c.args.text.now c.in_ok-line.line.now None _ _ c.in_ok-line.ensures c.in_err-word.ensures refl refl

pub returns-in_err-number-clause-value : goal.returns-in_err-number-clause-value
returns-in_err-number-clause-value c = c.from_residual-in_err-number.ensures ∙ from_told c.args.text.now c.in_ok-line.line.now (Some c.in_ok-word.word.now) None _ c.in_ok-line.ensures c.in_ok-word.ensures c.in_err-number.ensures refl

pub returns-then-is_none-clause-value : goal.returns-then-is_none-clause-value
returns-then-is_none-clause-value c =
    let e : bytes_eq c.in_ok-word.word.now (codes "partitions") ≡ true = sym (c.eq.ensures ∙ ap (bytes_eq c.in_ok-word.word.now) c.as_slice.ensures) ∙ c.if-eq.true in
    let none : is_some c.part_at-then-eq.result ≡ false = search (rules, tests) in
    let n = no-more c.part_at-then-eq.result none ∙ c.part_at-then-eq.ensures in
    c.number_up_to.ensures.value ∙ told-led c.in_ok-word.word.now c.in_ok-number.number.now e
    ∙ from_told c.args.text.now c.in_ok-line.line.now (Some c.in_ok-word.word.now) (Some c.in_ok-number.number.now) None c.in_ok-line.ensures c.in_ok-word.ensures c.in_ok-number.ensures n

pub returns-else-eq-clause-value : goal.returns-else-eq-clause-value
returns-else-eq-clause-value c =
    elim c.else-eq.branch [
      | else-eq-via-then-eq+else-is_none w ↦
          let some : is_some w.part_at-then-eq.result ≡ true = search (rules, tests) in
          told-more c.in_ok-word.word.now c.in_ok-number.number.now w.part_at-then-eq.result some
          ∙ from_told c.args.text.now c.in_ok-line.line.now (Some c.in_ok-word.word.now) (Some c.in_ok-number.number.now) _ c.in_ok-line.ensures c.in_ok-word.ensures c.in_ok-number.ensures w.part_at-then-eq.ensures
      | else-eq-via-else-eq w ↦
          told-other c.in_ok-word.word.now c.in_ok-number.number.now _ (sym (c.eq.ensures ∙ ap (bytes_eq c.in_ok-word.word.now) c.as_slice.ensures) ∙ w.if-eq.false)
          ∙ from_told c.args.text.now c.in_ok-line.line.now (Some c.in_ok-word.word.now) (Some c.in_ok-number.number.now) _ c.in_ok-line.ensures c.in_ok-word.ensures c.in_ok-number.ensures refl
    ]

use Rattle.std.proofs.Common.{◌≡◌, ◌<◌, ℕ, ◌+◌, length, true, false, sym, ◌∙◌, get_or, drop, arith, rules, tests, List, ◌∷◌}
use Rattle.std.specs.Char.{is_ascii_digit}
use Rattle.std.proofs.lemmas.List.{at_drop_more, at_drop_all}
use Rattle.folder_form.proofs.Numbers.{onward, onward-init, onward-other, onward-zero, onward-above, onward-step, onward-end, onward-none}
use Rattle.folder_form.proofs.shape.number_up_to.Goals as goal
use Rattle.folder_form.proofs.shape.number_up_to.Goals.{else-number-eq0-via-then-number-eq0+else-byte-eq48, else-number-eq0-via-else-number-eq0}

at : (most n : ℕ) (word : List ℕ) (i : ℕ) → i < length word → onward most n (drop i word) ≡ onward most n (get_or word i 0 ∷ drop (i + 1) word)
at most n word i h = at_drop_more (onward most n) word i 0 h

pub loop-byte-init : goal.loop-byte-init
loop-byte-init c = record { so_far = onward-init c.args.most c.args.word.now; most = omega arith }

pub returns-then-not-is_ascii_digit-clause-value : goal.returns-then-not-is_ascii_digit-clause-value
returns-then-not-is_ascii_digit-clause-value c =
    let e : is_ascii_digit (get_or c.args.word.now c.loop-byte.byte-index 0) ≡ false = search (rules, tests) in
    sym (at c.args.most c.loop-byte.number c.args.word.now c.loop-byte.byte-index (omega arith) ∙ onward-other _ _ _ _ e) ∙ c.loop-byte.invariant.so_far

pub returns-then-byte-eq48-clause-value : goal.returns-then-byte-eq48-clause-value
returns-then-byte-eq48-clause-value c =
    sym (at c.args.most c.loop-byte.number c.args.word.now c.loop-byte.byte-index (omega arith) ∙ onward-zero _ _ _ _ c.if-number-eq0.true c.if-byte-eq48.true) ∙ c.loop-byte.invariant.so_far

pub returns-then-number-most-clause-value : goal.returns-then-number-most-clause-value
returns-then-number-most-clause-value c =
    let e : is_ascii_digit (get_or c.args.word.now c.loop-byte.byte-index 0) ≡ true = search (rules, tests) in
    sym (at c.args.most c.loop-byte.number c.args.word.now c.loop-byte.byte-index (omega arith) ∙ onward-above _ _ _ _ e c.if-number-most.true) ∙ c.loop-byte.invariant.so_far

pub loop-byte-preserved : goal.loop-byte-preserved
loop-byte-preserved c =
    let e : is_ascii_digit (get_or c.args.word.now c.loop-byte.byte-index 0) ≡ true = search (rules, tests) in
    let led : ¬ ((c.loop-byte.number ≡ 0) × (get_or c.args.word.now c.loop-byte.byte-index 0 ≡ 48)) =
    elim c.else-number-eq0.branch [ else-number-eq0-via-then-number-eq0+else-byte-eq48 w ↦ (λ h. w.if-byte-eq48.false h.1) | else-number-eq0-via-else-number-eq0 w ↦ (λ h. w.if-number-eq0.false h.0) ] in
    record {
      so_far = sym (at c.args.most c.loop-byte.number c.args.word.now c.loop-byte.byte-index (omega arith) ∙ onward-step _ _ _ _ e led) ∙ c.loop-byte.invariant.so_far;
      most = omega arith;
    }

pub returns-then-number-eq0-2-clause-value : goal.returns-then-number-eq0-2-clause-value
returns-then-number-eq0-2-clause-value c =
    sym (at_drop_all (onward c.args.most c.loop-byte.number) c.args.word.now c.loop-byte.byte-index (omega arith) ∙ onward-none _ _ c.if-number-eq0-2.true) ∙ c.loop-byte.invariant.so_far

pub returns-else-number-eq0-2-clause-value : goal.returns-else-number-eq0-2-clause-value
returns-else-number-eq0-2-clause-value c =
    sym (at_drop_all (onward c.args.most c.loop-byte.number) c.args.word.now c.loop-byte.byte-index (omega arith) ∙ onward-end _ _ c.loop-byte.invariant.most c.if-number-eq0-2.false) ∙ c.loop-byte.invariant.so_far

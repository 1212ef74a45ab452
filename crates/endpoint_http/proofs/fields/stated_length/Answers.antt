use Rattle.std.proofs.Common.{◌∙◌, sym, ap, codes}
use Rattle.std.proofs.lemmas.Result.{err_from_is_err_and}
use Rattle.endpoint_http.specs.Fields.{is_like, length_of, agreed}
use Rattle.endpoint_http.proofs.Stating.{states_more, states_none, states_wrong, states_all}
use Rattle.endpoint_http.proofs.fields.stated_length.Goals as goal
use Rattle.endpoint_http.proofs.fields.stated_length.Goals.{then-is_like+in_ok-stated, else-is_like}

pub returns-in_err-stated : goal.returns-in_err-stated
returns-in_err-stated c =
    let p = err_from_is_err_and c.from_residual.result c.from_residual.ensures.1 in
    let stated = c.loop-header.stated in
    let like = sym (c.is_like.ensures ∙ ap (λ n. is_like n (codes "content-length")) c.of.ensures) ∙ c.if-is_like.true in
    let wrong = c.in_err-stated.ensures ∙ ap (λ n. agreed n stated) (c.length_of.ensures ∙ ap length_of c.of-then-is_like.ensures) in
    rw (p.1, p.2) (states_wrong c.args.buffer.now c.args.headers.now c.loop-header.header-index _ stated c.in_err-stated.field-0.0 c.loop-header-test.true like wrong
    ∙ c.loop-header.invariant)

pub loop-header-preserved : goal.loop-header-preserved
loop-header-preserved c =
    let buffer = c.args.buffer.now in
    let headers = c.args.headers.now in
    let index = c.loop-header.header-index in
    let stated = c.loop-header.stated in
    let alike = sym (c.is_like.ensures ∙ ap (λ n. is_like n (codes "content-length")) c.of.ensures) in
    elim c.if-is_like.branch [
      | then-is_like+in_ok-stated w ↦
          let now = w.in_ok-stated.ensures ∙ ap (λ n. agreed n stated) (w.length_of.ensures ∙ ap length_of w.of-then-is_like.ensures) in
          rw w.stated-is (states_more buffer headers index _ stated _ c.loop-header-test.true (alike ∙ w.if-is_like.true) now ∙ c.loop-header.invariant)
      | else-is_like w ↦ rw w.stated-is (states_none buffer headers index _ stated c.loop-header-test.true (alike ∙ w.if-is_like.false) ∙ c.loop-header.invariant)
    ]

pub returns : goal.returns
returns c = states_all c.args.buffer.now c.args.headers.now c.loop-header.header-index c.loop-header.stated c.loop-header-test.false ∙ c.loop-header.invariant

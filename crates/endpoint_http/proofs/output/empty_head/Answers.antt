use Rattle.std.proofs.Common.{◌++◌, ◌∙◌, ap, List, ℕ}
use Rattle.endpoint_http.specs.Written.{empty_text, status_line, length_line, closing}
use Rattle.endpoint_http.proofs.Writing.{three-added}
use Rattle.endpoint_http.proofs.output.empty_head.Goals as goal

pub returns : goal.returns
unfolding empty_text
returns c =
    three-added c.new-head.result _ _ _ (status_line c.args.status) (length_line 0) closing c.in_ok-put_status_line.ensures c.in_ok-put_length_line.ensures c.in_ok-put_closing.ensures
    ∙ ap (λ (bs : List ℕ). bs ++ (status_line c.args.status ++ (length_line 0 ++ closing))) c.new-head.ensures

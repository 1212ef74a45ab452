use Rattle.std.proofs.Common.{◌++◌, ◌∙◌, ap}
use Rattle.std.specs.Fmt.{decimal}
use Rattle.endpoint_http.proofs.Writing.{line-of-four}
use Rattle.endpoint_http.proofs.text.put_status_line.Goals as goal

pub returns : goal.returns
returns c =
    let digits = c.in_ok-put_decimal.ensures ∙ ap (λ n. c.append.new.self ++ decimal n) c.from.ensures in
    line-of-four _ _ _ _ _ _ _ (decimal c.args.status) _ _ c.in_ok-append.ensures.ok digits c.in_ok-push.ensures.ok c.in_ok-put_reason.ensures c.in_ok-put_end.ensures

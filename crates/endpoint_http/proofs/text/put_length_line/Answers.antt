use Rattle.endpoint_http.proofs.Writing.{line-of-two}
use Rattle.endpoint_http.proofs.text.put_length_line.Goals as goal

pub returns : goal.returns
returns c = line-of-two _ _ _ _ _ _ c.in_ok-append.ensures.ok c.in_ok-put_decimal.ensures c.in_ok-put_end.ensures

use Rattle.endpoint_http.proofs.Writing.{line-of-three}
use Rattle.endpoint_http.proofs.text.put_line.Goals as goal

pub returns : goal.returns
returns c = line-of-three _ _ _ _ _ _ _ _ c.in_ok-append.ensures.ok c.in_ok-append-2.ensures.ok c.in_ok-append-3.ensures.ok c.in_ok-put_end.ensures

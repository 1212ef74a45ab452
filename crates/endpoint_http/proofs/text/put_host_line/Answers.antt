use Rattle.std.proofs.Common.{◌++◌, ◌∙◌, ap}
use Rattle.endpoint_http.proofs.Writing.{line-of-three}
use Rattle.endpoint_http.proofs.text.put_host_line.Goals as goal

pub returns : goal.returns
returns c = line-of-three _ _ _ _ _ _ c.args.target.now.host _ c.in_ok-append.ensures.ok
    (c.in_ok-append-2.ensures.ok ∙ ap (λ bs. c.append.new.self ++ bs) c.as_bytes.ensures.value) c.in_ok-put_port.ensures c.in_ok-put_end.ensures

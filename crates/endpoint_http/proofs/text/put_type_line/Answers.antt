use Rattle.endpoint_http.specs.Written.{line, type_line}
use Rattle.endpoint_http.proofs.text.put_type_line.Goals as goal

pub returns : goal.returns
unfolding line type_line
returns c = c.append.ensures.ok

use Rattle.endpoint_http.specs.Written.{line, closing}
use Rattle.endpoint_http.proofs.text.put_closing.Goals as goal

pub returns : goal.returns
unfolding line closing
returns c = c.append.ensures.ok

use Rattle.std.specs.Bool.{one_answer}
use Rattle.std.specs.Prelude.{map}
use Rattle.std.specs.Char.{to_ascii_lowercase}
use Rattle.std.specs.Str.{bytes_eq}
use Rattle.std.proofs.lemmas.Slice.Eq.{bytes_eq-Decides}
use Rattle.endpoint_http.specs.Fields.{is_like}
use Rattle.endpoint_http.proofs.fields.is_like.Goals as goal

pub returns : goal.returns
unfolding is_like
returns c =
    let a = map to_ascii_lowercase c.args.a.now in
    let b = map to_ascii_lowercase c.args.b.now in
    one_answer c.eq_ignore_ascii_case.result (bytes_eq a b) (c.eq_ignore_ascii_case.ensures.test.0, c.eq_ignore_ascii_case.ensures.test.1) (bytes_eq-Decides a b)

use Rattle.std.proofs.Common.{◌≡◌, ◌++◌, ◌∙◌, List, ℕ, subst}
use Rattle.std.specs.Prelude.{OnOk, OnErr}
use Rattle.sf_outside.specs.Told.{more}
use Rattle.endpoint_http.specs.Written.{request_text, IsPartWritten}
use Rattle.endpoint_http.proofs.output.write_request.Goals as goal

pub returns-clause-whole : goal.returns-clause-whole
unfolding request_text
returns-clause-whole g c =
    subst (λ (bs : List ℕ). OnOk c.write_message.result (g.O.Sink.written c.write_message.new.sink ≡ more (g.O.Sink.written c.args.sink.now) (bs ++ c.args.body.now)))
    (c.as_slice.ensures ∙ c.in_ok-head.ensures) c.write_message.ensures.whole

pub returns-clause-part : goal.returns-clause-part
unfolding request_text
returns-clause-part g c =
    subst (λ (bs : List ℕ). OnErr c.write_message.result (IsPartWritten (g.O.Sink.written c.args.sink.now) (g.O.Sink.written c.write_message.new.sink) (bs ++ c.args.body.now)))
    (c.as_slice.ensures ∙ c.in_ok-head.ensures) c.write_message.ensures.part

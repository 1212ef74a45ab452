use Rattle.std.proofs.Common.{◌≡◌, ◌∙◌, ◌++◌, List, ℕ, subst, ap}
use Rattle.std.proofs.lemmas.Result.{on_err_weaker}
use Rattle.run_record.specs.Egress.{egress_of, egress_text}
use Rattle.statefun_cli.specs.Running.{IsPart}
use Rattle.statefun_cli.specs.Ends.{end_line}
use Rattle.statefun_cli.proofs.Egress.{line-part}
use Rattle.statefun_cli.proofs.run.tell.Goals as goal

pub returns-clause-part : goal.returns-clause-part
returns-clause-part g c =
    let line : c.as_slice.result.now ≡ end_line c.args.end.now c.args.turns =
    c.as_slice.ensures ∙ (c.in_ok-put_line.ensures.ok ∙ ap (λ (front : List ℕ). front ++ end_line c.args.end.now c.args.turns) c.new-line.ensures) in
    on_err_weaker c.write_whole.result
    (λ part. line-part _ _ _ (egress_text (egress_of c.args.entries.now)) (end_line c.args.end.now c.args.turns) c.in_ok-write_egress.ensures.whole
    (subst (λ (bytes : List ℕ). IsPart (g.O.Sink.written c.write_egress.new.out) (g.O.Sink.written c.write_whole.new.out) bytes) line part)) c.write_whole.ensures.part

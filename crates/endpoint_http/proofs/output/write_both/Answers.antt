use Rattle.std.proofs.lemmas.Result.{err_from_is_err_and}
use Rattle.endpoint_http.proofs.Writing.{behind-written}
use Rattle.endpoint_http.proofs.output.write_both.Goals as goal

pub returns-in_err-write_whole-2-clause-part : goal.returns-in_err-write_whole-2-clause-part
returns-in_err-write_whole-2-clause-part g c =
    let r = c.from_residual-in_err-write_whole-2 in
    let p = err_from_is_err_and r.result r.ensures.1 in
    rw p.1 (behind-written (g.O.Sink.written c.args.sink.now) (g.O.Sink.written c.write_whole.new.sink) (g.O.Sink.written c.write_whole-2.new.sink) c.args.head.now c.args.body.now
    c.in_ok-write_whole.ensures.whole c.in_err-write_whole-2.ensures.part)

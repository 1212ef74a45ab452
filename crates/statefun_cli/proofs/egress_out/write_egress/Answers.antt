use Rattle.std.proofs.Common.{◌≡◌, ◌∙◌, ◌≤◌, List, ℕ, refl, sym, subst, ap, arith}
use Rattle.std.specs.Prelude.{OnErr}
use Rattle.std.proofs.lemmas.Result.{err_from_is_err_and, on_err_weaker, on_ok_weaker}
use Rattle.sf_outside.specs.Told.{more}
use Rattle.statefun_cli.specs.Running.{IsPart}
use Rattle.statefun_cli.proofs.Egress.{Sent, sent-first, sent-next, sent-part, sent-broken, sent-all, sent-all-part}
use Rattle.statefun_cli.proofs.egress_out.write_egress.Goals as goal

pub loop-entry-init : goal.loop-entry-init
loop-entry-init g c =
    let before = g.O.Sink.written c.args.out.now in
    record { sent = subst (λ (text : List ℕ). Sent before before text c.args.entries.now 0) (sym c.new-text.ensures) (sent-first before c.args.entries.now); faults = refl }

pub returns-in_err-put_entry_text-clause-part : goal.returns-in_err-put_entry_text-clause-part
returns-in_err-put_entry_text-clause-part g c =
    let p = err_from_is_err_and c.from_residual.result c.from_residual.ensures.1 in
    rw p.1 (sent-part _ _ c.loop-entry.text c.args.entries.now c.loop-entry.entry-index c.loop-entry.invariant.sent)

pub returns-in_err-pass_on-clause-part : goal.returns-in_err-pass_on-clause-part
returns-in_err-pass_on-clause-part g c =
    let p = err_from_is_err_and c.from_residual-in_err-pass_on.result c.from_residual-in_err-pass_on.ensures.1 in
    rw p.1 (sent-broken _ _ _ c.loop-entry.text c.put_entry_text.new.into c.args.entries.now c.loop-entry.entry-index c.entry-item.result c.loop-entry.invariant.sent
    c.loop-entry-test.true c.entry-item.is c.in_ok-put_entry_text.ensures c.in_err-pass_on.ensures.part)

pub loop-entry-preserved : goal.loop-entry-preserved
loop-entry-preserved g c = record {
  sent = sent-next _ _ _ c.loop-entry.text c.put_entry_text.new.into c.pass_on.new.text c.args.entries.now c.loop-entry.entry-index c.entry-item.result
      c.loop-entry.invariant.sent c.loop-entry-test.true c.entry-item.is c.in_ok-put_entry_text.ensures c.in_ok-pass_on.ensures.whole;
  faults = c.in_ok-pass_on.ensures.cause ∙ c.loop-entry.invariant.faults;
}

pub returns-clause-part : goal.returns-clause-part
returns-clause-part g c =
    on_err_weaker c.write_whole.result
    (λ part. sent-all-part _ _ _ c.loop-entry.text c.args.entries.now c.loop-entry.entry-index c.loop-entry.invariant.sent
    (subst (λ (text : List ℕ). IsPart (g.O.Sink.written c.loop-entry.out) (g.O.Sink.written c.write_whole.new.out) text) c.as_slice.ensures part)) c.write_whole.ensures.part

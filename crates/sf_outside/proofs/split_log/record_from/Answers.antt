use Rattle.std.proofs.Common.{◌≡◌, ◌+◌, ◌-◌, suc, Option, Some, None, subst, arith}
use Rattle.sf_outside.specs.declared.ingress.IngressRecord.{IngressRecord}
use Rattle.sf_outside.specs.Log.{known, TakesFirst, FindsRecord}
use Rattle.sf_outside.proofs.Logs.{found_none, found_behind}
use Rattle.sf_outside.proofs.split_log.record_from.Goals as goal

pub returns-in-None : goal.returns-in-None
returns-in-None g c =
    let before = known c.loop-found.unread (g.F.Read.remaining c.loop-found.file) in
    let now = known c.next_record.new.unread (g.F.Read.remaining c.next_record.new.file) in
    let taken : TakesFirst before now None = subst (λ (f : Option IngressRecord). TakesFirst before now f) c.in-None.is c.in_ok-found.ensures.found in
    record { found = c.loop-found.invariant.1 None (found_none before now (c.args.offset - c.loop-found.next) taken) }

pub loop-found-preserved : goal.loop-found-preserved
loop-found-preserved g c =
    let before = known c.loop-found.unread (g.F.Read.remaining c.loop-found.file) in
    let now = known c.next_record.new.unread (g.F.Read.remaining c.next_record.new.file) in
    let taken : TakesFirst before now (Some c.in-Some.record) = subst (λ (f : Option IngressRecord). TakesFirst before now f) c.in-Some.is c.in_ok-found.ensures.found in
    let step : suc (c.args.offset - (c.loop-found.next + 1)) ≡ c.args.offset - c.loop-found.next = omega arith in
    (omega arith, λ found is. c.loop-found.invariant.1 found (subst (λ n. FindsRecord before n found) step (found_behind before now c.in-Some.record (c.args.offset - (c.loop-found.next + 1)) found taken is)))

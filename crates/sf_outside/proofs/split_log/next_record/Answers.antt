use Rattle.std.proofs.Common.{◌≡◌, rules}
use Rattle.sf_outside.specs.declared.front.Front.TheVariants.{Whole}
use Rattle.sf_outside.specs.Log.{known, front_of}
use Rattle.sf_outside.proofs.Logs.{taken_whole}
use Rattle.sf_outside.proofs.split_log.next_record.Goals as goal

pub returns-in-Whole-clause-found : goal.returns-in-Whole-clause-found
returns-in-Whole-clause-found g c =
    let front : front_of c.loop-record.unread ≡ Whole c.in-Whole.record c.in-Whole.len = search rules in
    rw c.take.ensures (taken_whole (known c.args.unread.now (g.F.Read.remaining c.args.file.now)) (g.F.Read.remaining c.loop-record.file) c.loop-record.unread c.in-Whole.record c.in-Whole.len c.loop-record.invariant front)

use Rattle.std.proofs.Common.{rules, tests}
use Rattle.folder_audit.proofs.OtherState.{no_state}
use Rattle.folder_audit.proofs.judging.judged.Goals as goal

pub returns-clause-judged : goal.returns-clause-judged
returns-clause-judged g c =
    no_state (g.I.Ingress.lists c.replay.new.ingress) c.args.job c.in_ok-routes.routes c.args.entries.now c.args.loaded.now c.in-State.machine c.in_ok-entry.field-0 c.in_ok-matches-in-State.field-0
    c.in_ok-routes.ensures c.in_ok-entry.ensures.replays c.in-State.is c.in_ok-matches-in-State.ensures c.if-branch.false

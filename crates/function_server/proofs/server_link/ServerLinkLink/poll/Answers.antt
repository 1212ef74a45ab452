use Rattle.function_server.proofs.Backing.{answered_by_table}
use Rattle.function_server.proofs.server_link.ServerLinkLink.poll.Goals as goal

pub returns-clause-answered : goal.returns-clause-answered
returns-clause-answered g c = answered_by_table _ _ _ _ _ _ _ c.next.ensures c.in_ok-outcome.ensures.outcome c.in_ok-outcome.ensures.exchange c.in_ok-add.ensures.exchanged

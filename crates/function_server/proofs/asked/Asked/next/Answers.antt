use Rattle.std.proofs.Common.{◌∙◌, ap}
use Rattle.function_server.specs.Asking.{next_start}
use Rattle.function_server.proofs.Outcomes.{next_read}
use Rattle.function_server.proofs.asked.Asked.next.Goals as goal

pub returns : goal.returns
returns c = next_read _ _ _ _ _ _ c.event_at.ensures c.as_slice.ensures c.as_slice-2.ensures.value c.self.invariant.0 c.self.invariant.1 ∙ ap next_start c.self.view_is

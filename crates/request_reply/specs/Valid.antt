-- What an answer is: what it asks for where it is valid, else its first flaw.
use Rattle.std.specs.Prelude.{ℕ, nat_lt, List, length, Option, None, Some, Result, Ok, Err, if◌then◌else◌}
use Rattle.proto_wire.specs.declared.fault.WireFault.{WireFault}
use Rattle.request_reply.specs.declared.answer.FromFunction.{FromFunction}
use Rattle.request_reply.specs.declared.answer.FromFunction.TheVariants as answers
use Rattle.request_reply.specs.declared.flaw.Flaw.{Flaw}
use Rattle.request_reply.specs.declared.judging.Judgement.{Judgement}
use Rattle.request_reply.specs.declared.judging.Judgement.TheVariants as judgements
use Rattle.request_reply.specs.Spelling.{from_value}
use Rattle.request_reply.specs.Flaws.{Setting, added, answer_flaw, wire_flaw, too_long}

-- a result asks for its effects, an incomplete answer for the cells that are new
abbrev pub asked : Setting → FromFunction → Judgement
asked setting (answers.Result response) = judgements.Accept response
asked setting (answers.Incomplete context) = judgements.Register (added setting.cells context.missing_values)

abbrev pub unless : Option Flaw → Judgement → Judgement
unless None judgement = judgement
unless (Some flaw) judgement = judgements.Flaw flaw

-- what the answer is that bytes spell, or of bytes that spell none their first fault
unfoldable pub read_verdict : Setting → Result FromFunction WireFault → Judgement
read_verdict setting (Err fault) = judgements.Flaw (wire_flaw fault)
read_verdict setting (Ok answer) = unless (answer_flaw setting answer) (asked setting answer)

unfoldable pub verdict : Setting → List ℕ → Judgement
verdict setting answer = if nat_lt 4194304 (length answer) then judgements.Flaw (wire_flaw too_long) else read_verdict setting (from_value answer)

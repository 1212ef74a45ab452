use Rattle.std.proofs.Common.{ap, ◌∙◌, ◌≤◌, ◌+◌, length, Ok, arith}
use Rattle.request_reply.proofs.Counts.{result-few, context-few, result-count, context-count}
use Rattle.request_reply.proofs.judging.judged_read.Goals as goal

pub result_flaw-requires-clause-mutations : goal.result_flaw-requires-clause-mutations
result_flaw-requires-clause-mutations g c =
    let few : result-count c.in-Result.response ≤ 4194304 = result-few c.args.answer.now c.in-Result.response (c.requires.spelled ∙ ap Ok c.in-Result.is) c.requires.short in omega arith

pub result_flaw-requires-clause-messages : goal.result_flaw-requires-clause-messages
result_flaw-requires-clause-messages g c =
    let few : result-count c.in-Result.response ≤ 4194304 = result-few c.args.answer.now c.in-Result.response (c.requires.spelled ∙ ap Ok c.in-Result.is) c.requires.short in omega arith

pub result_flaw-requires-clause-delayed : goal.result_flaw-requires-clause-delayed
result_flaw-requires-clause-delayed g c =
    let few : result-count c.in-Result.response ≤ 4194304 = result-few c.args.answer.now c.in-Result.response (c.requires.spelled ∙ ap Ok c.in-Result.is) c.requires.short in omega arith

pub result_flaw-requires-clause-egresses : goal.result_flaw-requires-clause-egresses
result_flaw-requires-clause-egresses g c =
    let few : result-count c.in-Result.response ≤ 4194304 = result-few c.args.answer.now c.in-Result.response (c.requires.spelled ∙ ap Ok c.in-Result.is) c.requires.short in omega arith

pub declared_by-requires : goal.declared_by-requires
declared_by-requires g c =
    let few : context-count c.in-Incomplete.context ≤ 4194304 = context-few c.args.answer.now c.in-Incomplete.context (c.requires.spelled ∙ ap Ok c.in-Incomplete.is) c.requires.short in omega arith

use Rattle.request_reply.proofs.whole.size_letter.Goals as goal

pub returns : goal.returns
returns c = c.size_letter_from.ensures c.args.letter.now.target

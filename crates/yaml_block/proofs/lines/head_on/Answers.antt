use Rattle.std.proofs.Common.{sym, ◌∙◌}
use Rattle.yaml_block.proofs.Utf8.{utf8_tail, quote_small}
use Rattle.yaml_block.proofs.lines.head_on.Goals as goal

pub quoted_head-requires : goal.quoted_head-requires
quoted_head-requires c = record { utf8 = utf8_tail c.args.first c.args.rest.now (quote_small c.args.first (sym c.is_quote.ensures ∙ c.if-is_quote.true)) (rw c.requires.text at c.requires.utf8) }

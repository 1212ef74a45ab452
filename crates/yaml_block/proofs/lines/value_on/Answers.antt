use Rattle.std.proofs.Common.{sym, ◌∙◌}
use Rattle.yaml_block.proofs.Utf8.{utf8_tail, quote_small, plain_utf8}
use Rattle.yaml_block.proofs.lines.value_on.Goals as goal

pub quoted_value-requires : goal.quoted_value-requires
quoted_value-requires c = record { utf8 = utf8_tail c.args.first c.args.rest.now (quote_small c.args.first (sym c.is_quote.ensures ∙ c.if-is_quote.true)) (rw c.requires.text at c.requires.utf8) }

pub copied-requires : goal.copied-requires
copied-requires c = rw c.plain.ensures (plain_utf8 c.args.text.now c.requires.utf8)

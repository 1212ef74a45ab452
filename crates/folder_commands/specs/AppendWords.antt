-- The words of `statefun append`, as `clap` reads them.
use Rattle.std.specs.Prelude.{codes, pos, true, Some}
use Rattle.clap.specs.Words.{App, Rule, new_app, new_rule, with_rule}
use Rattle.clap.specs.declared.builder.action.ArgAction.TheVariants.{Set}
use Rattle.clap.specs.declared.builder.value_parser.ValueParser.TheVariants.{Signed}
use Rattle.folder_commands.specs.ShowWords.{folder_rule}

-- the command `append`, with two required words, FOLDER and SPLIT, a number from 0 to 31
abbrev pub split_rule : Rule
split_rule = record (new_rule (codes "SPLIT")) { required = true; action = Some Set; parser = Some (Signed (pos 0) (pos 31)) }

abbrev pub append_app : App
append_app = with_rule (with_rule (new_app (codes "append")) folder_rule) split_rule

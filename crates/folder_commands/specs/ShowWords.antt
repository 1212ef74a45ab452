-- The words of `statefun show`, as `clap` reads them.
use Rattle.std.specs.Prelude.{codes, true, Some}
use Rattle.clap.specs.Words.{App, Rule, new_app, new_rule, with_rule}
use Rattle.clap.specs.declared.builder.action.ArgAction.TheVariants.{Set}

-- the command `show`, with one required word FOLDER
abbrev pub folder_rule : Rule
folder_rule = record (new_rule (codes "FOLDER")) { required = true; action = Some Set }

abbrev pub show_app : App
show_app = with_rule (new_app (codes "show")) folder_rule

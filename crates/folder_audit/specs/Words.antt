-- The words of `statefun audit`, as `clap` reads them.
use Rattle.std.specs.Prelude.{codes, true, Some}
use Rattle.clap.specs.Words.{App, Rule, new_app, new_rule, with_rule}
use Rattle.clap.specs.declared.builder.action.ArgAction.TheVariants.{Set}

-- the command `audit`, with two required words, MODULE and FOLDER
abbrev pub module_rule : Rule
module_rule = record (new_rule (codes "MODULE")) { required = true; action = Some Set }

abbrev pub folder_rule : Rule
folder_rule = record (new_rule (codes "FOLDER")) { required = true; action = Some Set }

abbrev pub audit_app : App
audit_app = with_rule (with_rule (new_app (codes "audit")) module_rule) folder_rule

use Rattle.std.proofs.Common.{Global, map, rules, ◌≡◌, ◌∙◌, ap, ap₂, sym, subst, true}
use Rattle.std.specs.Prelude.{Some, pos}
use Rattle.std.specs.String.{string_bytes}
use Rattle.clap.specs.Words.{App, HasKind, app_of, fault_of, is_simple_and_free, new_app, rule_of, with_rule}
use Rattle.clap.specs.declared.builder.value_parser.ValueParser.TheVariants as vp
use Rattle.std.specs.Prelude.{codes}
use Rattle.folder_commands.specs.ShowWords.{folder_rule}
use Rattle.folder_commands.specs.AppendWords.{append_app, split_rule}
use Rattle.folder_commands.proofs.AskedOf.{is_free_append}
use Rattle.folder_commands.proofs.append_words.read_append_words.Goals as goal

pub returns-in-Ok : goal.returns-in-Ok
returns-in-Ok c =
    let words = map (string_bytes {Z = Global}) c.args.words.now in
    let given = c.value_parser-split.ensures.given in
    let made : c.range.result ≡ vp.Signed (pos 0) (pos 31) = rw c.value_parser.ensures at c.range.ensures in
    let parser : c.value_parser-split.result.value_parser ≡ Some (vp.Signed (pos 0) (pos 31)) = given.1 ∙ ap Some (given.2 ∙ made) in
    let folder_is : rule_of c.action-folder.result ≡ folder_rule = search rules in
    let split_is : rule_of c.value_parser-split.result ≡ split_rule = search rules in
    let first_is : app_of c.in_ok-arg.field-0 ≡ with_rule (new_app (codes "append")) folder_rule = c.in_ok-arg.ensures.shape (search rules) ∙ ap₂ with_rule c.new-3.ensures.app folder_is in
    let app_is : app_of c.in_ok-command.command ≡ append_app = c.in_ok-command.ensures.shape (search rules) ∙ ap₂ with_rule first_is split_is in
    let free : is_simple_and_free (app_of c.in_ok-command.command) ≡ true = ap is_simple_and_free app_is ∙ is_free_append in
    sym (ap (λ (a : App). fault_of a words) app_is) ∙ c.in-Ok.ensures.kinds free

pub returns : goal.returns
returns c =
    let words = map (string_bytes {Z = Global}) c.args.words.now in
    let given = c.value_parser-split.ensures.given in
    let made : c.range.result ≡ vp.Signed (pos 0) (pos 31) = rw c.value_parser.ensures at c.range.ensures in
    let parser : c.value_parser-split.result.value_parser ≡ Some (vp.Signed (pos 0) (pos 31)) = given.1 ∙ ap Some (given.2 ∙ made) in
    let folder_is : rule_of c.action-folder.result ≡ folder_rule = search rules in
    let split_is : rule_of c.value_parser-split.result ≡ split_rule = search rules in
    let first_is : app_of c.in_ok-arg.field-0 ≡ with_rule (new_app (codes "append")) folder_rule = c.in_ok-arg.ensures.shape (search rules) ∙ ap₂ with_rule c.new-3.ensures.app folder_is in
    let app_is : app_of c.in_ok-command.command ≡ append_app = c.in_ok-command.ensures.shape (search rules) ∙ ap₂ with_rule first_is split_is in
    let free : is_simple_and_free (app_of c.in_ok-command.command) ≡ true = ap is_simple_and_free app_is ∙ is_free_append in
    c.refusal.ensures append_app words (subst (λ (a : App). HasKind (fault_of a words) c.in-Err.error) app_is (c.in-Err.ensures.kinds free))

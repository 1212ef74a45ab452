use Rattle.std.proofs.Common.{Global, map, rules, ◌≡◌, ◌∙◌, ap, ap₂, sym, subst, true}
use Rattle.std.specs.String.{string_bytes}
use Rattle.clap.specs.Words.{App, HasKind, app_of, fault_of, is_simple_and_free, rule_of, with_rule}
use Rattle.folder_commands.specs.ShowWords.{folder_rule, show_app}
use Rattle.folder_commands.proofs.AskedOf.{is_free_show}
use Rattle.folder_commands.proofs.show_words.read_show_words.Goals as goal

pub returns-in-Ok : goal.returns-in-Ok
returns-in-Ok c =
    let words = map (string_bytes {Z = Global}) c.args.words.now in
    let rule_is : rule_of c.action-folder.result ≡ folder_rule = search rules in
    let app_is : app_of c.in_ok-command.command ≡ show_app = c.in_ok-command.ensures.shape (search rules) ∙ ap₂ with_rule c.new-2.ensures.app rule_is in
    let free : is_simple_and_free (app_of c.in_ok-command.command) ≡ true = ap is_simple_and_free app_is ∙ is_free_show in
    sym (ap (λ (a : App). fault_of a words) app_is) ∙ c.in-Ok.ensures.kinds free

pub returns : goal.returns
returns c =
    let words = map (string_bytes {Z = Global}) c.args.words.now in
    let rule_is : rule_of c.action-folder.result ≡ folder_rule = search rules in
    let app_is : app_of c.in_ok-command.command ≡ show_app = c.in_ok-command.ensures.shape (search rules) ∙ ap₂ with_rule c.new-2.ensures.app rule_is in
    let free : is_simple_and_free (app_of c.in_ok-command.command) ≡ true = ap is_simple_and_free app_is ∙ is_free_show in
    c.refusal.ensures show_app words (subst (λ (a : App). HasKind (fault_of a words) c.in-Err.error) app_is (c.in-Err.ensures.kinds free))

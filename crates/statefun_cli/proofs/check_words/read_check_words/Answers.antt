use Rattle.std.proofs.Common.{Global, map, rules, ◌≡◌, ◌∙◌, ap, ap₂, sym, subst, true}
use Rattle.std.proofs.lemmas.Result.{IfOk-weaker}
use Rattle.std.specs.String.{string_bytes}
use Rattle.clap.specs.Words.{App, HasKind, app_of, fault_of, is_simple_and_free, rule_of, with_rule}
use Rattle.statefun_cli.specs.CheckWords.{check_app, module_rule}
use Rattle.statefun_cli.proofs.CheckAsked.{asked_by, is_free_check}
use Rattle.statefun_cli.proofs.check_words.read_check_words.Goals as goal

pub returns-in-Ok : goal.returns-in-Ok
returns-in-Ok c =
    let words = map (string_bytes {Z = Global}) c.args.words.now in
    let rule_is : rule_of c.action-file.result ≡ module_rule = search rules in
    let app_is : app_of c.in_ok-command.command ≡ check_app = c.in_ok-command.ensures.shape (search rules) ∙ ap₂ with_rule c.new-2.ensures.app rule_is in
    let free : is_simple_and_free (app_of c.in_ok-command.command) ≡ true = ap is_simple_and_free app_is ∙ is_free_check in
    sym (ap (λ (a : App). fault_of a words) app_is) ∙ c.in-Ok.ensures.kinds free

pub returns : goal.returns
returns c =
    let words = map (string_bytes {Z = Global}) c.args.words.now in
    let rule_is : rule_of c.action-file.result ≡ module_rule = search rules in
    let app_is : app_of c.in_ok-command.command ≡ check_app = c.in_ok-command.ensures.shape (search rules) ∙ ap₂ with_rule c.new-2.ensures.app rule_is in
    let free : is_simple_and_free (app_of c.in_ok-command.command) ≡ true = ap is_simple_and_free app_is ∙ is_free_check in
    let has = c.in-Err.ensures.kinds free in
    IfOk-weaker c.refusal.result _ _ (λ ask is. asked_by words c.in-Err.error ask (subst (λ (a : App). HasKind (fault_of a words) c.in-Err.error) app_is has) is) c.refusal.ensures

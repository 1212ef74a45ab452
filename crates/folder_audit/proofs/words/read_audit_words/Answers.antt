use Rattle.std.proofs.Common.{Global, map, rules, ◌≡◌, ◌∙◌, ap, ap₂, sym, subst, true}
use Rattle.std.specs.Prelude.{codes}
use Rattle.std.specs.String.{string_bytes}
use Rattle.clap.specs.Words.{App, HasKind, app_of, fault_of, is_simple_and_free, new_app, rule_of, with_rule}
use Rattle.folder_audit.specs.Words.{audit_app, folder_rule, module_rule}
use Rattle.folder_audit.proofs.AskedOf.{is_free_audit}
use Rattle.folder_audit.proofs.words.read_audit_words.Goals as goal

pub returns-in-Ok : goal.returns-in-Ok
returns-in-Ok c =
    let words = map (string_bytes {Z = Global}) c.args.words.now in
    let module_is : rule_of c.action-file.result ≡ module_rule = search rules in
    let folder_is : rule_of c.action-folder.result ≡ folder_rule = search rules in
    let first_is : app_of c.in_ok-arg.field-0 ≡ with_rule (new_app (codes "audit")) module_rule = c.in_ok-arg.ensures.shape (search rules) ∙ ap₂ with_rule c.new-3.ensures.app module_is in
    let app_is : app_of c.in_ok-command.command ≡ audit_app = c.in_ok-command.ensures.shape (search rules) ∙ ap₂ with_rule first_is folder_is in
    let free : is_simple_and_free (app_of c.in_ok-command.command) ≡ true = ap is_simple_and_free app_is ∙ is_free_audit in
    sym (ap (λ (a : App). fault_of a words) app_is) ∙ c.in-Ok.ensures.kinds free

pub returns : goal.returns
returns c =
    let words = map (string_bytes {Z = Global}) c.args.words.now in
    let module_is : rule_of c.action-file.result ≡ module_rule = search rules in
    let folder_is : rule_of c.action-folder.result ≡ folder_rule = search rules in
    let first_is : app_of c.in_ok-arg.field-0 ≡ with_rule (new_app (codes "audit")) module_rule = c.in_ok-arg.ensures.shape (search rules) ∙ ap₂ with_rule c.new-3.ensures.app module_is in
    let app_is : app_of c.in_ok-command.command ≡ audit_app = c.in_ok-command.ensures.shape (search rules) ∙ ap₂ with_rule first_is folder_is in
    let free : is_simple_and_free (app_of c.in_ok-command.command) ≡ true = ap is_simple_and_free app_is ∙ is_free_audit in
    c.refusal.ensures audit_app words (subst (λ (a : App). HasKind (fault_of a words) c.in-Err.error) app_is (c.in-Err.ensures.kinds free))

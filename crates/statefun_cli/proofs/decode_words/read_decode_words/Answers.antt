use Rattle.std.proofs.Common.{Global, map, rules, ◌≡◌, ◌∙◌, ℕ, ap, ap₂, sym, refl, subst, arith, inl, inr, codes, Bool, true, List, [], slice_index, Some}
use Rattle.std.proofs.lemmas.Result.{IfOk-weaker}
use Rattle.std.specs.String.{string_bytes}
use Rattle.clap.specs.Words.{App, Accepts, HasKind, HasMatchesOf, app_of, fault_of, found_of, is_simple_and_free, one_text, rule_of, with_rule}
use Rattle.clap.specs.declared.builder.value_parser.ValueParser.TheVariants.{Names}
use Rattle.clap.proofs.CallerReads.{one_required_read}
use Rattle.statefun_cli.specs.DecodeWords.{AreKinds, decode_app, kind_rule}
use Rattle.statefun_cli.proofs.DecodeAsked.{asked_by, taken_by, is_kind, is_free_decode}
use Rattle.statefun_cli.proofs.decode_words.read_decode_words.Goals as goal

-- clap takes only words of which KIND is a word for a kind
pub unreachable-requires : goal.unreachable-requires
unreachable-requires c =
    let names = c.as_slice.result in
    let kinds : AreKinds names = search rules in
    let arg = c.value_parser-kind.result in
    let given = c.value_parser-kind.ensures.given in
    let parser : arg.value_parser ≡ Some (Names names) = given.1 ∙ ap Some given.2 in
    let rule_is : rule_of arg ≡ kind_rule names = search rules in
    let name_id : arg.id.now ≡ codes "KIND" = search rules in
    let first : (t : List ℕ) → arg.id.now ≡ t → slice_index t 0 ≡ 75 = λ t e. rw (← e, name_id) refl in
    let read = one_required_read c.new-2.result c.in_ok-command.command arg c.in-Ok.matches
    c.in_ok-command.ensures (search rules) (search rules) (search rules) (search rules) (search rules) (search rules) (search rules)
    (search rules) (search rules) (search rules)
    (λ e. let bad : 0 ≡ 75 = first [] e in absurd (omega arith))
    (λ auto. elim auto [
      | inl h ↦ let bad : 104 ≡ 75 = first _ h in absurd (omega arith)
      | inr h ↦ let bad : 118 ≡ 75 = first _ h in absurd (omega arith)
    ])
    (Names names) parser c.in-Ok.ensures.parsed in
    let text : one_text (found_of c.in-Ok.matches) (codes "KIND") ≡ Some read.0 = subst (λ (id : List ℕ). one_text (found_of c.in-Ok.matches) id ≡ Some read.0) name_id read.1 in
    let accepted = subst (λ (b : Bool). Accepts b (Names names) read.0) (ap (λ rule. rule.ignore_case) rule_is) read.2 in
    is_kind names read.0 kinds accepted (c.in-None.ensures.value read.0 text).1

pub returns-in-Some : goal.returns-in-Some
returns-in-Some c =
    let names = c.as_slice.result in
    let kinds : AreKinds names = search rules in
    let arg = c.value_parser-kind.result in
    let given = c.value_parser-kind.ensures.given in
    let parser : arg.value_parser ≡ Some (Names names) = given.1 ∙ ap Some given.2 in
    let rule_is : rule_of arg ≡ kind_rule names = search rules in
    let words = map (string_bytes {Z = Global}) c.args.words.now in
    let command = c.in_ok-command.command in
    let app_is : app_of command ≡ decode_app names = c.in_ok-command.ensures.shape (search rules)
    ∙ ap₂ with_rule c.new-2.ensures.app rule_is in
    let free : is_simple_and_free (app_of command) ≡ true = ap is_simple_and_free app_is ∙ is_free_decode names in
    let name_id : arg.id.now ≡ codes "KIND" = search rules in
    let first : (t : List ℕ) → arg.id.now ≡ t → slice_index t 0 ≡ 75 = λ t e. rw (← e, name_id) refl in
    let read = one_required_read c.new-2.result c.in_ok-command.command arg c.in-Ok.matches
    c.in_ok-command.ensures (search rules) (search rules) (search rules) (search rules) (search rules) (search rules) (search rules)
    (search rules) (search rules) (search rules)
    (λ e. let bad : 0 ≡ 75 = first [] e in absurd (omega arith))
    (λ auto. elim auto [
      | inl h ↦ let bad : 104 ≡ 75 = first _ h in absurd (omega arith)
      | inr h ↦ let bad : 118 ≡ 75 = first _ h in absurd (omega arith)
    ])
    (Names names) parser c.in-Ok.ensures.parsed in
    let text : one_text (found_of c.in-Ok.matches) (codes "KIND") ≡ Some read.0 = subst (λ (id : List ℕ). one_text (found_of c.in-Ok.matches) id ≡ Some read.0) name_id read.1 in
    taken_by names words c.in-Ok.matches c.in-Some.kind read.0 kinds
    (sym (ap (λ (a : App). fault_of a words) app_is) ∙ c.in-Ok.ensures.kinds free)
    (subst (λ (a : App). HasMatchesOf a words c.in-Ok.matches) app_is c.in-Ok.ensures.matches)
    text (c.in-Some.ensures.value read.0 text)

pub returns-in-Err : goal.returns-in-Err
returns-in-Err c =
    let names = c.as_slice.result in
    let kinds : AreKinds names = search rules in
    let arg = c.value_parser-kind.result in
    let given = c.value_parser-kind.ensures.given in
    let parser : arg.value_parser ≡ Some (Names names) = given.1 ∙ ap Some given.2 in
    let rule_is : rule_of arg ≡ kind_rule names = search rules in
    let words = map (string_bytes {Z = Global}) c.args.words.now in
    let command = c.in_ok-command.command in
    let app_is : app_of command ≡ decode_app names = c.in_ok-command.ensures.shape (search rules)
    ∙ ap₂ with_rule c.new-2.ensures.app rule_is in
    let free : is_simple_and_free (app_of command) ≡ true = ap is_simple_and_free app_is ∙ is_free_decode names in
    let has = c.in-Err.ensures.kinds free in
    IfOk-weaker c.refusal.result _ _ (λ ask is. asked_by names words c.in-Err.error ask kinds (subst (λ (a : App). HasKind (fault_of a words) c.in-Err.error) app_is has) is) c.refusal.ensures

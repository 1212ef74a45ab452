use Rattle.std.proofs.Common.{Global, map, rules, ◌≡◌, ◌≤◌, ◌∙◌, ℕ, ap, ap₂, sym, refl, subst, arith, inl, inr, codes, true, List, [], slice_index}
use Rattle.std.specs.Prelude.{Some, pos}
use Rattle.std.specs.String.{string_bytes}
use Rattle.std.specs.Str.Parse.{ParsesUnsigned, ExplainsUnsignedError, HasUnsignedDigitsIfOk}
use Rattle.std.proofs.lemmas.Result.{IfOk-weaker}
use Rattle.clap.specs.Words.{App, Accepts, HasKind, HasMatchesOf, app_of, fault_of, found_of, is_simple_and_free, one_text, read_as, reading_of, rule_of, with_rule, without_minus}
use Rattle.clap.specs.declared.builder.value_parser.ValueParser.{ValueParser}
use Rattle.clap.specs.declared.builder.value_parser.ValueParser.TheVariants as vp
use Rattle.clap.proofs.CallerReads.{one_required_read, signed_reads}
use Rattle.serve_words.specs.Words.{port_rule, serve_app}
use Rattle.serve_words.proofs.Asked.{asked_by, is_free_serve, none_some, one_some, taken_by}
use Rattle.serve_words.proofs.words.read_serve_words.Goals as goal

-- clap takes only words of which PORT is a number in the range
pub unreachable-requires : goal.unreachable-requires
unreachable-requires c =
    let arg = c.value_parser-port.result in
    let given = c.value_parser-port.ensures.given in
    let name_id : arg.id.now ≡ codes "PORT" = search rules in
    let first : (t : List ℕ) → arg.id.now ≡ t → slice_index t 0 ≡ 80 = λ t e. rw (← e, name_id) refl in
    let read = one_required_read c.new-2.result c.in_ok-command.command arg c.in-Ok.matches
    c.in_ok-command.ensures (search rules) (search rules) (search rules) (search rules) (search rules) (search rules) (search rules)
    (search rules) (search rules) (search rules)
    (λ e. let bad : 0 ≡ 80 = first [] e in absurd (omega arith))
    (λ auto. elim auto [
      | inl h ↦ let bad : 104 ≡ 80 = first _ h in absurd (omega arith)
      | inr h ↦ let bad : 118 ≡ 80 = first _ h in absurd (omega arith)
    ])
    given.0 given.1 c.in-Ok.ensures.parsed in
    let made : c.range.result ≡ vp.Signed (pos 1) (pos 65535) = rw c.value_parser.ensures at c.range.ensures in
    let is_q : given.0 ≡ vp.Signed (pos 1) (pos 65535) = given.2 ∙ made in
    let accepted = subst (λ (q : ValueParser). Accepts arg.ignore_case q read.0) is_q read.2 in
    let at_id : one_text (found_of c.in-Ok.matches) arg.id.now ≡ Some (without_minus read.0) =
    subst (λ (q : ValueParser). one_text (found_of c.in-Ok.matches) arg.id.now ≡ Some (read_as (reading_of q) read.0)) is_q read.1 in
    let text : one_text (found_of c.in-Ok.matches) (codes "PORT") ≡ Some (without_minus read.0) =
    subst (λ (id : List ℕ). one_text (found_of c.in-Ok.matches) id ≡ Some (without_minus read.0)) name_id at_id in
    let one = c.get_one.ensures.value (without_minus read.0) text in
    let got = signed_reads _ (λ bs r. ParsesUnsigned 16 10 bs r × ExplainsUnsignedError 10 bs r × HasUnsignedDigitsIfOk bs r) 16 1 65535 read.0 c.get_one.result one (λ u x g. g.0) (omega arith) accepted in
    absurd (none_some c.get_one.result got.0 c.in-None.is got.1)

pub returns-in-Some : goal.returns-in-Some
returns-in-Some c =
    let words = map (string_bytes {Z = Global}) c.args.words.now in
    let given = c.value_parser-port.ensures.given in
    let made : c.range.result ≡ vp.Signed (pos 1) (pos 65535) = rw c.value_parser.ensures at c.range.ensures in
    let parser : c.value_parser-port.result.value_parser ≡ Some (vp.Signed (pos 1) (pos 65535)) = given.1 ∙ ap Some (given.2 ∙ made) in
    let rule_is : rule_of c.value_parser-port.result ≡ port_rule = search rules in
    let app_is : app_of c.in_ok-command.command ≡ serve_app = c.in_ok-command.ensures.shape (search rules) ∙ ap₂ with_rule c.new-2.ensures.app rule_is in
    let free : is_simple_and_free (app_of c.in_ok-command.command) ≡ true = ap is_simple_and_free app_is ∙ is_free_serve in
    let arg = c.value_parser-port.result in
    let name_id : arg.id.now ≡ codes "PORT" = search rules in
    let first : (t : List ℕ) → arg.id.now ≡ t → slice_index t 0 ≡ 80 = λ t e. rw (← e, name_id) refl in
    let read = one_required_read c.new-2.result c.in_ok-command.command arg c.in-Ok.matches
    c.in_ok-command.ensures (search rules) (search rules) (search rules) (search rules) (search rules) (search rules) (search rules)
    (search rules) (search rules) (search rules)
    (λ e. let bad : 0 ≡ 80 = first [] e in absurd (omega arith))
    (λ auto. elim auto [
      | inl h ↦ let bad : 104 ≡ 80 = first _ h in absurd (omega arith)
      | inr h ↦ let bad : 118 ≡ 80 = first _ h in absurd (omega arith)
    ])
    given.0 given.1 c.in-Ok.ensures.parsed in
    let is_q : given.0 ≡ vp.Signed (pos 1) (pos 65535) = given.2 ∙ made in
    let accepted = subst (λ (q : ValueParser). Accepts arg.ignore_case q read.0) is_q read.2 in
    let at_id : one_text (found_of c.in-Ok.matches) arg.id.now ≡ Some (without_minus read.0) =
    subst (λ (q : ValueParser). one_text (found_of c.in-Ok.matches) arg.id.now ≡ Some (read_as (reading_of q) read.0)) is_q read.1 in
    let text : one_text (found_of c.in-Ok.matches) (codes "PORT") ≡ Some (without_minus read.0) =
    subst (λ (id : List ℕ). one_text (found_of c.in-Ok.matches) id ≡ Some (without_minus read.0)) name_id at_id in
    let one = c.get_one.ensures.value (without_minus read.0) text in
    let got = signed_reads _ (λ bs r. ParsesUnsigned 16 10 bs r × ExplainsUnsignedError 10 bs r × HasUnsignedDigitsIfOk bs r) 16 1 65535 read.0 c.get_one.result one (λ u x g. g.0) (omega arith) accepted in
    let same : got.0 ≡ c.in-Some.port = one_some c.get_one.result got.0 c.in-Some.port got.1 c.in-Some.is in
    taken_by words c.in-Ok.matches c.in-Some.port (without_minus read.0)
    (sym (ap (λ (a : App). fault_of a words) app_is) ∙ c.in-Ok.ensures.kinds free)
    (subst (λ (a : App). HasMatchesOf a words c.in-Ok.matches) app_is c.in-Ok.ensures.matches)
    text (c.in-Some.ensures.value (without_minus read.0) text).0.1 (subst (λ (n : ℕ). 1 ≤ n) same got.2) (subst (λ (n : ℕ). n ≤ 65535) same got.3)

pub returns-in-Err : goal.returns-in-Err
returns-in-Err c =
    let words = map (string_bytes {Z = Global}) c.args.words.now in
    let given = c.value_parser-port.ensures.given in
    let made : c.range.result ≡ vp.Signed (pos 1) (pos 65535) = rw c.value_parser.ensures at c.range.ensures in
    let parser : c.value_parser-port.result.value_parser ≡ Some (vp.Signed (pos 1) (pos 65535)) = given.1 ∙ ap Some (given.2 ∙ made) in
    let rule_is : rule_of c.value_parser-port.result ≡ port_rule = search rules in
    let app_is : app_of c.in_ok-command.command ≡ serve_app = c.in_ok-command.ensures.shape (search rules) ∙ ap₂ with_rule c.new-2.ensures.app rule_is in
    let free : is_simple_and_free (app_of c.in_ok-command.command) ≡ true = ap is_simple_and_free app_is ∙ is_free_serve in
    let has = c.in-Err.ensures.kinds free in
    IfOk-weaker c.refusal.result _ _ (λ ask is. asked_by words c.in-Err.error ask (subst (λ (a : App). HasKind (fault_of a words) c.in-Err.error) app_is has) is) c.refusal.ensures

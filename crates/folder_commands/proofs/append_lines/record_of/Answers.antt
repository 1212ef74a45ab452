use Rattle.std.proofs.Common.{ℕ, List, ◌<◌, ◌≡◌, length, sym, ◌∙◌, ap, subst, arith}
use Rattle.std.specs.Prelude.{Some, None}
use Rattle.std.specs.List.{position_or_len, before_first, after_first}
use Rattle.std.proofs.lemmas.Str.Pattern.{split_once_first}
use Rattle.folder_commands.specs.Lines.{is_tab}
use Rattle.folder_commands.proofs.LineSteps.{no_tab, no_text, with_tab}
use Rattle.folder_commands.proofs.append_lines.record_of.Goals as goal

pub returns-in_default : goal.returns-in_default
returns-in_default c = no_text c.args.line.now c.in_default.ensures.cases.0

pub returns-in_ok-record_with-in-Some : goal.returns-in_ok-record_with-in-Some
returns-in_ok-record_with-in-Some c =
    let line = c.in-Ok.ensures.cases in
    let split = split_once_first 9 c.in-Ok.line.now (Some (c.in-Some.key, c.in-Some.text)) c.in-Some.ensures.cases (omega arith) in
    ap Some c.in_ok-record_with-in-Some.ensures
    ∙ with_tab c.args.line.now c.in-Some.key.now c.in-Some.text.now line.1
    (subst (λ (l : List ℕ). position_or_len is_tab l < length l) line.0 split.0)
    (split.1 ∙ ap (before_first is_tab) line.0) (split.2 ∙ ap (after_first is_tab) line.0)

pub returns-in-None : goal.returns-in-None
returns-in-None c =
    let line = c.in-Ok.ensures.cases in
    let split = split_once_first 9 c.in-Ok.line.now None c.in-None.ensures.cases (omega arith) in
    no_tab c.args.line.now line.1 (subst (λ (l : List ℕ). position_or_len is_tab l ≡ length l) line.0 split)

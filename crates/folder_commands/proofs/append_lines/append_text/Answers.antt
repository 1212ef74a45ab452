use Rattle.std.proofs.Common.{◌≡◌, ℕ, Bool, true, false, ◌||◌, not, List, length, sym, ◌∙◌, ap, ap₂, arith}
use Rattle.std.proofs.lemmas.Result.{IfOk-weaker}
use Rattle.folder_commands.specs.LogText.{log_text}
use Rattle.folder_commands.specs.Lines.{good, has_bad}
use Rattle.folder_commands.proofs.LineSteps.{long, short}
use Rattle.folder_commands.proofs.append_lines.append_text.Goals as goal

pub returns-then-heard-le-LIMIT-clause-log : goal.returns-then-heard-le-LIMIT-clause-log
returns-then-heard-le-LIMIT-clause-log c =
    let lines = short c.args.heard.now c.if-heard-le-LIMIT.true in
    IfOk-weaker c.lines_appended.result _ _ (λ made read. read.log ∙ ap (λ (l : List (List ℕ)). log_text (good l)) (sym lines.0)) c.lines_appended.ensures.read

pub returns-then-heard-le-LIMIT-clause-records : goal.returns-then-heard-le-LIMIT-clause-records
returns-then-heard-le-LIMIT-clause-records c =
    let lines = short c.args.heard.now c.if-heard-le-LIMIT.true in
    IfOk-weaker c.lines_appended.result _ _ (λ made read. read.records ∙ ap (λ (l : List (List ℕ)). length (good l)) (sym lines.0)) c.lines_appended.ensures.read

pub returns-then-heard-le-LIMIT-clause-bad : goal.returns-then-heard-le-LIMIT-clause-bad
returns-then-heard-le-LIMIT-clause-bad c =
    let lines = short c.args.heard.now c.if-heard-le-LIMIT.true in
    IfOk-weaker c.lines_appended.result _ _ (λ made read. read.bad ∙ ap₂ (λ (l : List (List ℕ)) (b : Bool). has_bad l || not b) (sym lines.0) (sym lines.1)) c.lines_appended.ensures.read

pub returns-else-heard-le-LIMIT-clause-log : goal.returns-else-heard-le-LIMIT-clause-log
returns-else-heard-le-LIMIT-clause-log c =
    let lines = long c.args.heard.now c.split_at.result.0.now (omega (arith, c.if-heard-le-LIMIT.false)) c.split_at.ensures.front in
    IfOk-weaker c.lines_appended-else-heard-le-LIMIT.result _ _ (λ made read. read.log ∙ ap (λ (l : List (List ℕ)). log_text (good l)) (sym lines.0)) c.lines_appended-else-heard-le-LIMIT.ensures.read

pub returns-else-heard-le-LIMIT-clause-records : goal.returns-else-heard-le-LIMIT-clause-records
returns-else-heard-le-LIMIT-clause-records c =
    let lines = long c.args.heard.now c.split_at.result.0.now (omega (arith, c.if-heard-le-LIMIT.false)) c.split_at.ensures.front in
    IfOk-weaker c.lines_appended-else-heard-le-LIMIT.result _ _ (λ made read. read.records ∙ ap (λ (l : List (List ℕ)). length (good l)) (sym lines.0)) c.lines_appended-else-heard-le-LIMIT.ensures.read

pub returns-else-heard-le-LIMIT-clause-bad : goal.returns-else-heard-le-LIMIT-clause-bad
returns-else-heard-le-LIMIT-clause-bad c =
    let lines = long c.args.heard.now c.split_at.result.0.now (omega (arith, c.if-heard-le-LIMIT.false)) c.split_at.ensures.front in
    IfOk-weaker c.lines_appended-else-heard-le-LIMIT.result _ _ (λ made read. read.bad ∙ ap₂ (λ (l : List (List ℕ)) (b : Bool). has_bad l || not b) (sym lines.0) (sym lines.1)) c.lines_appended-else-heard-le-LIMIT.ensures.read

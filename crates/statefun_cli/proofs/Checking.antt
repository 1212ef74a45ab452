-- Faults of `check` by its status; its runs on right words, and for help.
use Rattle.std.proofs.Common.{◌≡◌, ◌≢◌, inl, inr, ℕ, List, [], ◌∷◌, ap, sym, subst, ◌∙◌, refl, arith, Option, Some, None}
use Rattle.clap.specs.Words.{fault_of}
use Rattle.clap.specs.declared.error.kind.ErrorKind.{ErrorKind}
use Rattle.clap.specs.declared.error.kind.ErrorKind.TheVariants.{DisplayHelp}
use Rattle.std.specs.Prelude.{Result, Ok, Err}
use Rattle.address_routing.specs.declared.module.Module.{Module}
use Rattle.module_yaml.specs.Files.{Refused, module_in}
use Rattle.sf_outside.specs.declared.fault.Fault.{Fault}
use Rattle.sf_outside.specs.declared.fault.Fault.TheVariants.{Failed, OutOfMemory}
use Rattle.sf_outside.specs.Told.{HasCause, Rose, more-nil}
use Rattle.sf_outside.specs.Left.{ahead-nil}
use Rattle.statefun_cli.specs.declared.check_words.CheckAsk.{CheckAsk}
use Rattle.statefun_cli.specs.declared.check_words.CheckAsk.TheVariants.{Module as ModuleAsked, Help as HelpAsked, Usage as UsageAsked}
use Rattle.statefun_cli.specs.declared.check.CheckEnd.{CheckEnd}
use Rattle.statefun_cli.specs.declared.check.CheckEnd.TheVariants.{Accepted, Refused as ModuleRefused, Help, Usage, ModuleFault}
use Rattle.statefun_cli.specs.CheckWords.{IsRefused, IsWrong, check_app}
use Rattle.statefun_cli.specs.Decode.{AsksForHelp}
use Rattle.statefun_cli.specs.Outside.{IsUnread, Outside, Tells}
use Rattle.statefun_cli.specs.Check.{IsAnswered, IsAsked, IsAskedRun, IsChecked, IsHelpRun, IsPlain, IsRightRun, check_help, check_status, end_by, reader}
use Rattle.statefun_cli.proofs.CheckAsked.{help_is_shown, long_help_is_shown, right_is_taken}
use Rattle.statefun_cli.proofs.Decoding.{among_help, none_among}
use Rattle.statefun_cli.proofs.Telling.{read_end, told_end}

-- a status is that of one end alone
pub usage_end : (end : Result CheckEnd Fault) (status : ℕ) → status ≡ check_status end → status ≡ 2 → end ≡ Ok Usage
usage_end (Ok Accepted) status is at = absurd (omega arith)
usage_end (Ok ModuleRefused) status is at = absurd (omega arith)
usage_end (Ok Help) status is at = absurd (omega arith)
usage_end (Ok Usage) status is at = refl
usage_end (Ok ModuleFault) status is at = absurd (omega arith)
usage_end (Err Failed) status is at = absurd (omega arith)
usage_end (Err OutOfMemory) status is at = absurd (omega arith)

fault_end : (end : Result CheckEnd Fault) (status : ℕ) → status ≡ check_status end → status ≡ 3 → end ≡ Ok ModuleFault
fault_end (Ok Accepted) status is at = absurd (omega arith)
fault_end (Ok ModuleRefused) status is at = absurd (omega arith)
fault_end (Ok Help) status is at = absurd (omega arith)
fault_end (Ok Usage) status is at = absurd (omega arith)
fault_end (Ok ModuleFault) status is at = refl
fault_end (Err Failed) status is at = absurd (omega arith)
fault_end (Err OutOfMemory) status is at = absurd (omega arith)

pub write_fault : (before now : ℕ) (end : Result CheckEnd Fault) (status : ℕ) → HasCause before now end → status ≡ check_status end → status ≡ 11 → Rose before now
write_fault before now (Ok Accepted) status cause is at = absurd (omega arith)
write_fault before now (Ok ModuleRefused) status cause is at = absurd (omega arith)
write_fault before now (Ok Help) status cause is at = absurd (omega arith)
write_fault before now (Ok Usage) status cause is at = absurd (omega arith)
write_fault before now (Ok ModuleFault) status cause is at = absurd (omega arith)
write_fault before now (Err Failed) status cause is at = cause.1
write_fault before now (Err OutOfMemory) status cause is at = absurd (omega arith)

pub no_write_fault : (before now : ℕ) (end : Result CheckEnd Fault) (status : ℕ) → HasCause before now end → status ≡ check_status end → status ≢ 11 → now ≡ before
no_write_fault before now (Ok end) status cause is other = cause
no_write_fault before now (Err Failed) status cause is other = absurd (other is)
no_write_fault before now (Err OutOfMemory) status cause is other = cause

no_fault_end : (meaning : Result Module Refused) → end_by meaning ≡ ModuleFault → ⊥
no_fault_end (Ok m) e = cc
no_fault_end (Err refused) e = cc

no_usage_end : (meaning : Result Module Refused) → end_by meaning ≡ Usage → ⊥
no_usage_end (Ok m) e = cc
no_usage_end (Err refused) e = cc

answered_fault : (before after : Outside) (end : Result CheckEnd Fault) (ask : Option CheckAsk) → IsAnswered ask before after end → end ≡ Ok ModuleFault → Rose before.read_faults after.read_faults
answered_fault before after end None answered is = let memory = answered.1 in absurd cc
answered_fault before after end (Some ModuleAsked) answered is = elim (read_end reader before after ModuleFault end answered is) [
  | inl h ↦ absurd (no_fault_end (module_in h.0) h.1)
  | inr h ↦ h.1
]
answered_fault before after end (Some HelpAsked) answered is = let told = told_end _ _ check_help Help ModuleFault end answered.1 is in absurd cc
answered_fault before after end (Some UsageAsked) answered is = let told = told_end _ _ _ Usage ModuleFault end answered.1 is in absurd cc

pub module_fault : (words : List (List ℕ)) (before after : Outside) (end : Result CheckEnd Fault) (status : ℕ)
    → IsAskedRun words before after end → status ≡ check_status end → status ≡ 3 → Rose before.read_faults after.read_faults
module_fault words before after end status run is at = answered_fault before after end run.ask run.answered (fault_end end status is at)

wrong_by : (words : List (List ℕ)) (before after : Outside) (end : Result CheckEnd Fault) (ask : Option CheckAsk) → IsAsked words ask → IsAnswered ask before after end → end ≡ Ok Usage → IsWrong words
wrong_by words before after end None asked answered is = let memory = answered.1 in absurd cc
wrong_by words before after end (Some ModuleAsked) asked answered is = elim (read_end reader before after Usage end answered is) [
  | inl h ↦ absurd (no_usage_end (module_in h.0) h.1)
  | inr h ↦ let other = h.0 in absurd cc
]
wrong_by words before after end (Some HelpAsked) asked answered is = let told = told_end _ _ check_help Help Usage end answered.1 is in absurd cc
wrong_by words before after end (Some UsageAsked) asked answered is = asked

pub usage : (words : List (List ℕ)) (before after : Outside) (end : Result CheckEnd Fault) (status : ℕ)
    → IsAskedRun words before after end → status ≡ check_status end → status ≡ 2 → IsWrong words
usage words before after end status run is at = wrong_by words before after end run.ask run.asked run.answered (usage_end end status is at)

-- ---- right words

not_refused : (words : List (List ℕ)) (cause : ErrorKind) → fault_of check_app words ≡ [] → IsRefused words cause → ⊥
not_refused words cause taken refused = none_among cause _ taken refused

checked_by : (words : List (List ℕ)) (before after : Outside) (end : Result CheckEnd Fault) (ask : Option CheckAsk)
    → fault_of check_app words ≡ [] → IsAsked words ask → IsAnswered ask before after end → IsChecked before after end
checked_by words before after end None taken asked answered = record {
  heard = [];
  taken = sym (ahead-nil after.left ∙ answered.0.0);
  bound = omega arith;
  read = Err OutOfMemory;
  read_cause = answered.0.1;
  settled = (answered.1, answered.2);
}
checked_by words before after end (Some ModuleAsked) taken asked answered = answered
checked_by words before after end (Some HelpAsked) taken asked answered = absurd (not_refused words _ taken asked)
checked_by words before after end (Some UsageAsked) taken asked answered = absurd (not_refused words _ taken asked.refused)

-- a run on right words checks a module file
pub right_run : (words : List (List ℕ)) (first path : List ℕ) (before after : Outside) (end : Result CheckEnd Fault) (status : ℕ)
    → IsAskedRun words before after end → status ≡ check_status end → words ≡ first ∷ path ∷ [] → IsPlain path → IsRightRun before after status
right_run words first path before after end status run is right plain = record {
  end = end;
  status_is = is;
  checked = checked_by words before after end run.ask (ap (fault_of check_app) right ∙ right_is_taken first path plain) run.asked run.answered;
  sink_cause = run.sink_cause;
}

-- ---- help

only_help : (words : List (List ℕ)) → AsksForHelp words → fault_of check_app words ≡ DisplayHelp ∷ []
only_help words (first, inl is) = ap (fault_of check_app) is ∙ help_is_shown first
only_help words (first, inr is) = ap (fault_of check_app) is ∙ long_help_is_shown first

helped_by : (words : List (List ℕ)) (before after : Outside) (end : Result CheckEnd Fault) (ask : Option CheckAsk) → AsksForHelp words → IsAsked words ask → IsAnswered ask before after end
    → IsUnread before after × Tells before.written after.written check_help Help end
helped_by words before after end None help asked answered =
    (answered.0, subst (λ (end : Result CheckEnd Fault). Tells before.written after.written check_help Help end) (sym answered.1) (0, omega arith, answered.2 ∙ sym (more-nil before.written)))
helped_by words before after end (Some ModuleAsked) help asked answered = let only = only_help words help in let none = asked in absurd cc
helped_by words before after end (Some HelpAsked) help asked answered = answered
helped_by words before after end (Some UsageAsked) help asked answered = absurd (asked.no_help (among_help asked.cause _ (only_help words help) asked.refused))

pub help_run : (words : List (List ℕ)) (before after : Outside) (end : Result CheckEnd Fault) (status : ℕ)
    → IsAskedRun words before after end → status ≡ check_status end → AsksForHelp words → IsHelpRun before after status
help_run words before after end status run is help =
    let helped = helped_by words before after end run.ask help run.asked run.answered in
    record { end = end; status_is = is; unread = helped.0; told = helped.1; sink_cause = run.sink_cause }

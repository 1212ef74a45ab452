-- What follows from the runs of a command.
use Rattle.std.proofs.Common.{◌≡◌, ◌≢◌, ◌≤◌, ◌⊎◌, inl, inr, ℕ, zero, suc, List, [], ◌∷◌, take, length, ap, sym, subst, ◌∙◌, refl, arith, Option, Some, None}
use Rattle.std.specs.Prelude.{Result, Ok, Err}
use Rattle.clap.specs.Words.{App, fault_of}
use Rattle.clap.specs.declared.error.kind.ErrorKind.{ErrorKind}
use Rattle.clap.specs.declared.error.kind.ErrorKind.TheVariants.{DisplayHelp}
use Rattle.sf_outside.specs.declared.fault.Fault.{Fault}
use Rattle.sf_outside.specs.declared.fault.Fault.TheVariants.{Failed, OutOfMemory}
use Rattle.sf_outside.specs.Told.{HasCause, Rose, more}
use Rattle.command_io.specs.declared.words.Asked.{Asked}
use Rattle.command_io.specs.declared.words.Asked.TheVariants.{Work, Help, Usage}
use Rattle.command_io.specs.Words.{IsRefused, IsWrong, AsksForHelp}
use Rattle.command_io.specs.Telling.{Output, IsTold, Writes, status_by}
use Rattle.command_io.specs.Runs.{Command, IsAnswered, IsAsked, Ends, IsRun, IsWorkRun, IsHelpRun}
use Rattle.command_io.proofs.Refused.{none_among, among_help}

-- ---- how an end was told

-- a status is that of the end, or one of a write
by_write : (told status : ℕ) (wrote : Result (Unit {0}) Fault) → status ≡ status_by told wrote → status ≢ 11 → status ≢ 15 → status ≡ told
by_write told status (Ok x) is not_write not_memory = is
by_write told status (Err Failed) is not_write not_memory = absurd (not_write is)
by_write told status (Err OutOfMemory) is not_write not_memory = absurd (not_memory is)

pub told_status : (out out' : Output) (text : List ℕ) (told status : ℕ) → IsTold out out' text told status → status ≢ 11 → status ≢ 15 → status ≡ told
told_status out out' text told status is not_write not_memory = by_write told status is.wrote is.status_is not_write not_memory

rose_by : (before now told status : ℕ) (wrote : Result (Unit {0}) Fault) → HasCause before now wrote → status ≡ status_by told wrote → told ≢ 11 → status ≡ 11 → Rose before now
rose_by before now told status (Ok x) cause is other at = absurd (other (sym is ∙ at))
rose_by before now told status (Err Failed) cause is other at = cause.1
rose_by before now told status (Err OutOfMemory) cause is other at = absurd (omega (arith, is, at))

-- 11 comes from a write, where it is the status of no end
pub write_fault : (out out' : Output) (text : List ℕ) (told status : ℕ) → IsTold out out' text told status → told ≢ 11 → status ≡ 11 → Rose out.faults out'.faults
write_fault out out' text told status is other at = rose_by out.faults out'.faults told status is.wrote is.cause is.status_is other at

stands_by : (before now told status : ℕ) (wrote : Result (Unit {0}) Fault) → HasCause before now wrote → status ≡ status_by told wrote → status ≢ 11 → now ≡ before
stands_by before now told status (Ok x) cause is other = cause
stands_by before now told status (Err Failed) cause is other = absurd (other is)
stands_by before now told status (Err OutOfMemory) cause is other = cause

pub no_write_fault : (out out' : Output) (text : List ℕ) (told status : ℕ) → IsTold out out' text told status → status ≢ 11 → out'.faults ≡ out.faults
no_write_fault out out' text told status is other = stands_by out.faults out'.faults told status is.wrote is.cause is.status_is other

-- ---- what the words ask for

-- how the end was told, by the status that was told
pub told_run : {S E : Type 0} (command : Command S E) (words : List (List ℕ)) (before after : S) (out out' : Output) (end : E) (told status : ℕ)
    → Ends command words before after end → told ≡ command.status end → IsTold out out' (command.text end) told status → IsRun command words before after out out' status
told_run command words before after out out' end told status ends is as_told = record {
  end = end;
  ends = ends;
  told = subst (λ (n : ℕ). IsTold out out' (command.text end) n status) is as_told;
}

module _ {S E : Type 0} (command : Command S E) (words : List (List ℕ)) (before after : S) where
  -- words that clap takes ask for the work
  works_by : (end : E) (asked : Option Asked) → fault_of command.app words ≡ [] → (after ≡ before → command.works before after command.memory)
      → IsAsked command.app words asked → IsAnswered command asked before after end → command.works before after end
  works_by end None taken memory asks answered = subst (command.works before after) (sym answered.1) (memory answered.0)
  works_by end (Some Work) taken memory asks answered = answered
  works_by end (Some Help) taken memory asks answered = absurd (none_among _ _ taken asks)
  works_by end (Some Usage) taken memory asks answered = absurd (none_among _ _ taken asks.refused)

  pub work_run : (out out' : Output) (status : ℕ) → fault_of command.app words ≡ [] → (after ≡ before → command.works before after command.memory)
      → IsRun command words before after out out' status → IsWorkRun command before after out out' status
  work_run out out' status taken memory run = record { end = run.end; works = works_by run.end run.ends.asked taken memory run.ends.asks run.ends.answered; told = run.told }

  helps : (end : E) (asked : Option Asked) → fault_of command.app words ≡ DisplayHelp ∷ [] → IsAsked command.app words asked → IsAnswered command asked before after end
      → (after ≡ before) × ((end ≡ command.memory) ⊎ (end ≡ command.help))
  helps end None only asks answered = (answered.0, inl answered.1)
  helps end (Some Work) only asks answered = absurd cc
  helps end (Some Help) only asks answered = (answered.0, inr answered.1)
  helps end (Some Usage) only asks answered = absurd (asks.no_help (among_help asks.cause _ only asks.refused))

  -- a status that no work ends with, but wrong words do
  wrong_by : (end : E) (asked : Option Asked) → command.status end ≡ 2 → ((e : E) → command.works before after e → command.status e ≢ 2) → command.status command.help ≢ 2 → command.status command.memory ≢ 2
      → IsAsked command.app words asked → IsAnswered command asked before after end → IsWrong command.app words
  wrong_by end None at no_work no_help no_memory asks answered = absurd (no_memory (sym (ap command.status answered.1) ∙ at))
  wrong_by end (Some Work) at no_work no_help no_memory asks answered = absurd (no_work end answered at)
  wrong_by end (Some Help) at no_work no_help no_memory asks answered = absurd (no_help (sym (ap command.status answered.1) ∙ at))
  wrong_by end (Some Usage) at no_work no_help no_memory asks answered = asks

  pub wrong_run : (out out' : Output) (status : ℕ) → ((e : E) → command.works before after e → command.status e ≢ 2) → command.status command.help ≢ 2 → command.status command.memory ≢ 2
      → IsRun command words before after out out' status → status ≡ 2 → IsWrong command.app words
  wrong_run out out' status no_work no_help no_memory run at =
      let told = told_status out out' (command.text run.end) (command.status run.end) status run.told (λ is. omega (arith, is, at)) (λ is. omega (arith, is, at)) in
      wrong_by run.end run.ends.asked (sym told ∙ at) no_work no_help no_memory run.ends.asks run.ends.answered

  -- an end that neither help, wrong words nor want of memory have is one of the work
  end_by : (end : E) (asked : Option Asked) (at : ℕ) → command.status end ≡ at → command.status command.help ≢ at → command.status command.usage ≢ at → command.status command.memory ≢ at
      → IsAnswered command asked before after end → command.works before after end
  end_by end None at is no_help no_usage no_memory answered = absurd (no_memory (sym (ap command.status answered.1) ∙ is))
  end_by end (Some Work) at is no_help no_usage no_memory answered = answered
  end_by end (Some Help) at is no_help no_usage no_memory answered = absurd (no_help (sym (ap command.status answered.1) ∙ is))
  end_by end (Some Usage) at is no_help no_usage no_memory answered = absurd (no_usage (sym (ap command.status answered.1) ∙ is))

  -- so a run with that status did the work
  pub ended_so : (out out' : Output) (status at : ℕ) → at ≢ 11 → at ≢ 15 → command.status command.help ≢ at → command.status command.usage ≢ at → command.status command.memory ≢ at
      → (run : IsRun command words before after out out' status) → status ≡ at → (command.status run.end ≡ at) × command.works before after run.end
  ended_so out out' status at not_write not_memory no_help no_usage no_memory run is =
      let told = told_status out out' (command.text run.end) (command.status run.end) status run.told (λ e. not_write (sym is ∙ e)) (λ e. not_memory (sym is ∙ e)) in
      let end_is = sym told ∙ is in
      (end_is, end_by run.end run.ends.asked at end_is no_help no_usage no_memory run.ends.answered)

nothing : (k : ℕ) (none : List ℕ) → none ≡ [] → take k none ≡ []
nothing zero none is = refl
nothing (suc k) none is = rw is refl

-- memory that runs out before an end is told has told a part of it, of no length
untold : (out out' : Output) (text : List ℕ) (told memory status : ℕ) → memory ≡ 15 → IsTold out out' [] memory status → IsTold out out' text told status
untold out out' text told memory status is_memory is = by is.wrote is.cause is.written is.status_is
  where
    by : (wrote : Result (Unit {0}) Fault) → HasCause out.faults out'.faults wrote → Writes out.written out'.written [] wrote → status ≡ status_by memory wrote → IsTold out out' text told status
    by (Ok x) cause written status_is = record { wrote = Err OutOfMemory; cause = cause; written = (0, omega arith, written); status_is = status_is ∙ is_memory }
    by (Err Failed) cause written status_is = record { wrote = Err Failed; cause = cause; written = (0, omega arith, written.2 ∙ ap (more out.written) (nothing written.0 [] refl)); status_is = status_is }
    by (Err OutOfMemory) cause written status_is = record { wrote = Err OutOfMemory; cause = cause; written = (0, omega arith, written.2 ∙ ap (more out.written) (nothing written.0 [] refl)); status_is = status_is }

module _ {S E : Type 0} (command : Command S E) (words : List (List ℕ)) (before after : S) (out out' : Output) (status : ℕ) where
  told_by : (end : E) → IsTold out out' (command.text end) (command.status end) status → command.text command.memory ≡ [] → command.status command.memory ≡ 15
      → (end ≡ command.memory) ⊎ (end ≡ command.help) → IsTold out out' (command.text command.help) (command.status command.help) status
  told_by end told none at (inl is) = untold out out' _ _ (command.status end) status (ap command.status is ∙ at) (subst (λ (t : List ℕ). IsTold out out' t (command.status end) status) (ap command.text is ∙ none) told)
  told_by end told none at (inr is) = subst (λ (e : E). IsTold out out' (command.text e) (command.status e) status) is told

  pub help_run : fault_of command.app words ≡ DisplayHelp ∷ [] → command.text command.memory ≡ [] → command.status command.memory ≡ 15
      → IsRun command words before after out out' status → IsHelpRun command before after out out' status
  help_run only none at run =
      let helped = helps command words before after run.end run.ends.asked only run.ends.asks run.ends.answered in
      record { untouched = helped.0; told = told_by run.end run.told none at helped.1 }

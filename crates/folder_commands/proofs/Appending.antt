-- What follows from the ends of an appending.
use Rattle.std.proofs.Common.{◌≡◌, ◌≢◌, ◌≤◌, ◌⊎◌, inl, inr, ℕ, List, [], zero, suc, refl, sym, ◌∙◌, ap, subst, arith, length, take, Option, Some, None}
use Rattle.sf_outside.specs.Told.{Rose, more, more-nil}
use Rattle.sf_outside.specs.Left.{ahead-nil}
use Rattle.command_io.specs.Telling.{Output, IsTold}
use Rattle.command_io.specs.Runs.{IsRun, Ends, IsAnswered}
use Rattle.command_io.specs.declared.words.Asked.{Asked}
use Rattle.command_io.specs.declared.words.Asked.TheVariants.{Work, Help as HelpAsked, Usage as UsageAsked}
use Rattle.command_io.proofs.Ran.{ended_so, write_fault}
use Rattle.folder_commands.specs.declared.append.AppendEnd.{AppendEnd}
use Rattle.folder_commands.specs.declared.append.AppendEnd.TheVariants.{Appended, BadLine, Help, Usage, ReadFault, LogFault, OutOfMemory}
use Rattle.folder_commands.specs.LogText.{log_text}
use Rattle.folder_commands.specs.Lines.{records_in}
use Rattle.folder_commands.specs.Append.{IsAppended, Outside, append_command, end_status}

-- no work ends with the status of wrong words
pub no_usage : (before after : Outside) (end : AppendEnd) → IsAppended before after end → end_status end ≢ 2
no_usage before after (Appended records) works is = omega (arith, is)
no_usage before after (BadLine line) works is = omega (arith, is)
no_usage before after Help works is = omega (arith, is)
no_usage before after Usage works is = works.settled.2
no_usage before after ReadFault works is = omega (arith, is)
no_usage before after LogFault works is = omega (arith, is)
no_usage before after OutOfMemory works is = omega (arith, is)

-- nothing was read or put
pub nothing_put : (before after : Outside) → after ≡ before → IsAppended before after OutOfMemory
nothing_put before after same = subst (λ (o : Outside). IsAppended before o OutOfMemory) (sym same) (record {
  heard = [];
  taken = sym (ahead-nil before.left);
  bound = omega arith;
  settled = (refl, (refl, (0, omega arith, sym (more-nil before.log.written))));
})

by_read : (before after : Outside) (end : AppendEnd) → IsAppended before after end → end_status end ≡ 9 → Rose before.read_faults after.read_faults
by_read before after (Appended records) works is = absurd (omega (arith, is))
by_read before after (BadLine line) works is = absurd (omega (arith, is))
by_read before after Help works is = absurd (omega (arith, is))
by_read before after Usage works is = absurd (omega (arith, is))
by_read before after ReadFault works is = works.settled.1
by_read before after LogFault works is = absurd (omega (arith, is))
by_read before after OutOfMemory works is = absurd (omega (arith, is))

pub read_faults : (words : List (List ℕ)) (before after : Outside) (out out' : Output) (status : ℕ) → IsRun append_command words before after out out' status → status ≡ 9 → Rose before.read_faults after.read_faults
read_faults words before after out out' status run at =
    let so = ended_so append_command words before after out out' status 9 (λ e. omega (arith, e)) (λ e. omega (arith, e)) (λ e. omega (arith, e)) (λ e. omega (arith, e)) (λ e. omega (arith, e)) run at in
    by_read before after run.end so.1 so.0

-- 11 is the status of a log's fault, or of a write of the text
module _ (before after : Outside) (out out' : Output) (status : ℕ) where
  by_log : (end : AppendEnd) → IsAppended before after end → IsTold out out' (append_command.text end) (end_status end) status → status ≡ 11 → Rose before.log.faults after.log.faults ⊎ Rose out.faults out'.faults
  by_log (Appended records) works told at = inr (write_fault out out' _ 0 status told (λ e. omega (arith, e)) at)
  by_log (BadLine line) works told at = inr (write_fault out out' _ 4 status told (λ e. omega (arith, e)) at)
  by_log Help works told at = inr (write_fault out out' _ 0 status told (λ e. omega (arith, e)) at)
  by_log Usage works told at = inr (write_fault out out' _ 2 status told (λ e. omega (arith, e)) at)
  by_log ReadFault works told at = inr (write_fault out out' _ 9 status told (λ e. omega (arith, e)) at)
  by_log LogFault works told at = inl works.settled.2.1
  by_log OutOfMemory works told at = inr (write_fault out out' _ 15 status told (λ e. omega (arith, e)) at)

  by_words : (end : AppendEnd) (asked : Option Asked) → IsAnswered append_command asked before after end → IsTold out out' (append_command.text end) (end_status end) status → status ≡ 11 → Rose before.log.faults after.log.faults ⊎ Rose out.faults out'.faults
  by_words end (Some Work) answered told at = by_log end answered told at
  by_words end None answered told at = inr (write_fault out out' _ _ status told (λ e. let is = ap end_status answered.1 in omega (arith, e, is)) at)
  by_words end (Some HelpAsked) answered told at = inr (write_fault out out' _ _ status told (λ e. let is = ap end_status answered.1 in omega (arith, e, is)) at)
  by_words end (Some UsageAsked) answered told at = inr (write_fault out out' _ _ status told (λ e. let is = ap end_status answered.1 in omega (arith, e, is)) at)

  pub write_faults : (words : List (List ℕ)) → IsRun append_command words before after out out' status → status ≡ 11 → Rose before.log.faults after.log.faults ⊎ Rose out.faults out'.faults
  write_faults words run at = by_words run.end run.ends.asked run.ends.answered run.told at

-- What follows from the ends of a showing.
use Rattle.std.proofs.Common.{◌≡◌, ◌≢◌, ℕ, List, refl, sym, ap, arith, subst}
use Rattle.sf_outside.specs.Told.{Rose}
use Rattle.sf_disk.specs.Moments.{WhereTold}
use Rattle.snapshot_files.specs.Opening.{seen}
use Rattle.command_io.specs.Telling.{Output}
use Rattle.command_io.specs.Folders.{DiskState}
use Rattle.command_io.specs.Runs.{IsRun}
use Rattle.command_io.proofs.Ran.{ended_so}
use Rattle.folder_commands.specs.declared.show.ShowEnd.{ShowEnd}
use Rattle.folder_commands.specs.declared.show.ShowEnd.TheVariants.{Shown, Help, Usage, DiskFault, NotAStore, OutOfMemory}
use Rattle.folder_commands.specs.Show.{IsNoFolder, Works, end_status, show_command}

-- no work ends with the status of wrong words
pub no_usage : (before after : DiskState) (end : ShowEnd) → Works before after end → end_status end ≢ 2
no_usage before after (Shown text) works is = omega (arith, is)
no_usage before after Help works is = omega (arith, is)
no_usage before after Usage works is = works
no_usage before after DiskFault works is = omega (arith, is)
no_usage before after (NotAStore file place) works is = omega (arith, is)
no_usage before after OutOfMemory works is = omega (arith, is)

pub nothing_read : (before after : DiskState) → after ≡ before → Works before after OutOfMemory
nothing_read before after same = ap (λ (s : DiskState). s.faults) same

-- no end has the status of a write that failed
pub no_write : (end : ShowEnd) → end_status end ≢ 11
no_write (Shown text) is = omega (arith, is)
no_write Help is = omega (arith, is)
no_write Usage is = omega (arith, is)
no_write DiskFault is = omega (arith, is)
no_write (NotAStore file place) is = omega (arith, is)
no_write OutOfMemory is = omega (arith, is)

by_disk : (before after : DiskState) (end : ShowEnd) → Works before after end → end_status end ≡ 10 → Rose before.faults after.faults
by_disk before after (Shown text) works is = absurd (omega (arith, is))
by_disk before after Help works is = absurd (omega (arith, is))
by_disk before after Usage works is = absurd (omega (arith, is))
by_disk before after DiskFault works is = works.1
by_disk before after (NotAStore file place) works is = absurd (omega (arith, is))
by_disk before after OutOfMemory works is = absurd (omega (arith, is))

by_form : (before after : DiskState) (end : ShowEnd) → Works before after end → end_status end ≡ 13 → WhereTold before.moments (λ now. (file : ℕ) × (place : ℕ) × IsNoFolder (seen now) file place)
by_form before after (Shown text) works is = absurd (omega (arith, is))
by_form before after Help works is = absurd (omega (arith, is))
by_form before after Usage works is = absurd (omega (arith, is))
by_form before after DiskFault works is = absurd (omega (arith, is))
by_form before after (NotAStore file place) works is = λ m told. (file, place, works.1 m told)
by_form before after OutOfMemory works is = absurd (omega (arith, is))

module _ (words : List (List ℕ)) (before after : DiskState) (out out' : Output) (status : ℕ) (run : IsRun show_command words before after out out' status) where
  pub disk_faults : status ≡ 10 → Rose before.faults after.faults
  disk_faults at =
      let so = ended_so show_command words before after out out' status 10 (λ e. omega (arith, e)) (λ e. omega (arith, e)) (λ e. omega (arith, e)) (λ e. omega (arith, e)) (λ e. omega (arith, e)) run at in
      by_disk before after run.end so.1 so.0

  pub no_form : status ≡ 13 → WhereTold before.moments (λ now. (file : ℕ) × (place : ℕ) × IsNoFolder (seen now) file place)
  no_form at =
      let so = ended_so show_command words before after out out' status 13 (λ e. omega (arith, e)) (λ e. omega (arith, e)) (λ e. omega (arith, e)) (λ e. omega (arith, e)) (λ e. omega (arith, e)) run at in
      by_form before after run.end so.1 so.0

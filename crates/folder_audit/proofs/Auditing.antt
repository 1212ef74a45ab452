-- What follows from the ends of an audit.
use Rattle.std.proofs.Common.{◌≡◌, ◌≢◌, ℕ, List, [], refl, sym, ap, arith, subst}
use Rattle.sf_outside.specs.Told.{Rose}
use Rattle.sf_outside.specs.Left.{ahead-nil}
use Rattle.command_io.specs.Telling.{Output}
use Rattle.command_io.specs.Runs.{IsRun}
use Rattle.command_io.proofs.Ran.{ended_so}
use Rattle.folder_audit.specs.declared.end.AuditEnd.{AuditEnd}
use Rattle.folder_audit.specs.declared.end.AuditEnd.TheVariants.{Yes, NoEntry, NoState, Help, Usage, ModuleFault, ModuleRefused, IngressFault, DiskFault, NotAStore, StoreOfOther, OutOfMemory}
use Rattle.folder_audit.specs.Ends.{end_status}
use Rattle.folder_audit.specs.Audited.{IsAudited, Outside, audit_command}

-- no work ends with the status of wrong words
pub no_usage : (before after : Outside) (end : AuditEnd) → IsAudited before after end → end_status end ≢ 2
no_usage before after (Yes checkpoint entries) works is = omega (arith, is)
no_usage before after (NoEntry entry) works is = omega (arith, is)
no_usage before after NoState works is = omega (arith, is)
no_usage before after Help works is = omega (arith, is)
no_usage before after Usage works is = works.audited.2.2.2.3.2
no_usage before after ModuleFault works is = omega (arith, is)
no_usage before after (ModuleRefused document line kind) works is = omega (arith, is)
no_usage before after IngressFault works is = omega (arith, is)
no_usage before after DiskFault works is = omega (arith, is)
no_usage before after (NotAStore file place) works is = omega (arith, is)
no_usage before after StoreOfOther works is = omega (arith, is)
no_usage before after OutOfMemory works is = omega (arith, is)

-- nothing was touched
pub nothing_read : (before after : Outside) → after ≡ before → IsAudited before after OutOfMemory
nothing_read before after same = subst (λ (o : Outside). IsAudited before o OutOfMemory) (sym same) (record {
  heard = [];
  taken = sym (ahead-nil before.left);
  bound = omega arith;
  audited = (refl, refl, refl);
})

-- no end has the status of a write that failed
pub no_write : (end : AuditEnd) → end_status end ≢ 11
no_write (Yes checkpoint entries) is = omega (arith, is)
no_write (NoEntry entry) is = omega (arith, is)
no_write NoState is = omega (arith, is)
no_write Help is = omega (arith, is)
no_write Usage is = omega (arith, is)
no_write ModuleFault is = omega (arith, is)
no_write (ModuleRefused document line kind) is = omega (arith, is)
no_write IngressFault is = omega (arith, is)
no_write DiskFault is = omega (arith, is)
no_write (NotAStore file place) is = omega (arith, is)
no_write StoreOfOther is = omega (arith, is)
no_write OutOfMemory is = omega (arith, is)

-- the end that has a status of its own
is_module_fault : (end : AuditEnd) → end_status end ≡ 3 → end ≡ ModuleFault
is_module_fault (Yes checkpoint entries) is = absurd (omega (arith, is))
is_module_fault (NoEntry entry) is = absurd (omega (arith, is))
is_module_fault NoState is = absurd (omega (arith, is))
is_module_fault Help is = absurd (omega (arith, is))
is_module_fault Usage is = absurd (omega (arith, is))
is_module_fault ModuleFault is = refl
is_module_fault (ModuleRefused document line kind) is = absurd (omega (arith, is))
is_module_fault IngressFault is = absurd (omega (arith, is))
is_module_fault DiskFault is = absurd (omega (arith, is))
is_module_fault (NotAStore file place) is = absurd (omega (arith, is))
is_module_fault StoreOfOther is = absurd (omega (arith, is))
is_module_fault OutOfMemory is = absurd (omega (arith, is))

is_ingress_fault : (end : AuditEnd) → end_status end ≡ 9 → end ≡ IngressFault
is_ingress_fault (Yes checkpoint entries) is = absurd (omega (arith, is))
is_ingress_fault (NoEntry entry) is = absurd (omega (arith, is))
is_ingress_fault NoState is = absurd (omega (arith, is))
is_ingress_fault Help is = absurd (omega (arith, is))
is_ingress_fault Usage is = absurd (omega (arith, is))
is_ingress_fault ModuleFault is = absurd (omega (arith, is))
is_ingress_fault (ModuleRefused document line kind) is = absurd (omega (arith, is))
is_ingress_fault IngressFault is = refl
is_ingress_fault DiskFault is = absurd (omega (arith, is))
is_ingress_fault (NotAStore file place) is = absurd (omega (arith, is))
is_ingress_fault StoreOfOther is = absurd (omega (arith, is))
is_ingress_fault OutOfMemory is = absurd (omega (arith, is))

is_disk_fault : (end : AuditEnd) → end_status end ≡ 10 → end ≡ DiskFault
is_disk_fault (Yes checkpoint entries) is = absurd (omega (arith, is))
is_disk_fault (NoEntry entry) is = absurd (omega (arith, is))
is_disk_fault NoState is = absurd (omega (arith, is))
is_disk_fault Help is = absurd (omega (arith, is))
is_disk_fault Usage is = absurd (omega (arith, is))
is_disk_fault ModuleFault is = absurd (omega (arith, is))
is_disk_fault (ModuleRefused document line kind) is = absurd (omega (arith, is))
is_disk_fault IngressFault is = absurd (omega (arith, is))
is_disk_fault DiskFault is = refl
is_disk_fault (NotAStore file place) is = absurd (omega (arith, is))
is_disk_fault StoreOfOther is = absurd (omega (arith, is))
is_disk_fault OutOfMemory is = absurd (omega (arith, is))

module _ (words : List (List ℕ)) (before after : Outside) (out out' : Output) (status : ℕ) (run : IsRun audit_command words before after out out' status) where
  pub module_faults : status ≡ 3 → Rose before.module_faults after.module_faults
  module_faults at =
      let so = ended_so audit_command words before after out out' status 3 (λ e. omega (arith, e)) (λ e. omega (arith, e)) (λ e. omega (arith, e)) (λ e. omega (arith, e)) (λ e. omega (arith, e)) run at in
      let works : IsAudited before after ModuleFault = subst (IsAudited before after) (is_module_fault run.end so.0) so.1 in
      works.audited.0.1

  pub ingress_faults : status ≡ 9 → Rose before.ingress_faults after.ingress_faults
  ingress_faults at =
      let so = ended_so audit_command words before after out out' status 9 (λ e. omega (arith, e)) (λ e. omega (arith, e)) (λ e. omega (arith, e)) (λ e. omega (arith, e)) (λ e. omega (arith, e)) run at in
      let works : IsAudited before after IngressFault = subst (IsAudited before after) (is_ingress_fault run.end so.0) so.1 in
      works.audited.2.2.0.1

  pub disk_faults : status ≡ 10 → Rose before.disk_faults after.disk_faults
  disk_faults at =
      let so = ended_so audit_command words before after out out' status 10 (λ e. omega (arith, e)) (λ e. omega (arith, e)) (λ e. omega (arith, e)) (λ e. omega (arith, e)) (λ e. omega (arith, e)) run at in
      let works : IsAudited before after DiskFault = subst (IsAudited before after) (is_disk_fault run.end so.0) so.1 in
      works.audited.2.2.1.1

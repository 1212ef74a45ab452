-- Ends, from that of a judged record up to that of the module file.
use Rattle.std.proofs.Common.{◌≡◌, ◌⊎◌, inl, inr, ℕ, List, Option}
use Rattle.std.specs.Prelude.{Ok}
use Rattle.sf_outside.specs.Splits.{Lists}
use Rattle.sf_disk.specs.Moments.{Moment, WhereTold}
use Rattle.address_routing.specs.declared.module.Module.{Module}
use Rattle.module_yaml.specs.Files.{module_in}
use Rattle.run_record.specs.declared.entry.Entry.{Entry}
use Rattle.folder_form.specs.declared.loaded.Loaded.{Loaded}
use Rattle.snapshot_files.specs.Opening.{seen}
use Rattle.command_io.specs.Reading.{IsWhole}
use Rattle.folder_audit.specs.declared.end.AuditEnd.{AuditEnd}
use Rattle.folder_audit.specs.declared.end.AuditEnd.TheVariants.{Yes, NoEntry, NoState, Help, Usage, ModuleFault, ModuleRefused, IngressFault, DiskFault, NotAStore, StoreOfOther, OutOfMemory}
use Rattle.folder_audit.specs.Stored.{HasRecord}
use Rattle.folder_audit.specs.Judged.{IsJudged}
use Rattle.folder_audit.specs.Audited.{IsBytesAudited, IsFileAudited, IsJobAudited, IsRecordAudited, Outside, longest_file}

pub of_record : (m : Module) (entries : List Entry) (loaded : Loaded) (lists : Option Lists) (before now : ℕ) (end : AuditEnd) → now ≡ before → IsJudged m lists entries loaded end → IsRecordAudited m entries loaded lists before now end
of_record m entries loaded lists before now (Yes checkpoint count) same judged = (same, judged)
of_record m entries loaded lists before now (NoEntry entry) same judged = (same, judged)
of_record m entries loaded lists before now NoState same judged = (same, judged)
of_record m entries loaded lists before now Help same judged = absurd judged.2
of_record m entries loaded lists before now Usage same judged = absurd judged.2
of_record m entries loaded lists before now ModuleFault same judged = absurd judged.2
of_record m entries loaded lists before now (ModuleRefused document line kind) same judged = absurd judged.2
of_record m entries loaded lists before now IngressFault same judged = absurd judged.2
of_record m entries loaded lists before now DiskFault same judged = absurd judged.2
of_record m entries loaded lists before now (NotAStore file place) same judged = absurd judged.2
of_record m entries loaded lists before now StoreOfOther same judged = absurd judged.2
of_record m entries loaded lists before now OutOfMemory same judged = absurd judged.2

pub of_job : (m : Module) (entries : List Entry) (loaded : Loaded) (moments : List Moment) (lists : Option Lists) (ingress ingress' disk disk' : ℕ) (end : AuditEnd)
    → disk' ≡ disk → WhereTold moments (λ now. HasRecord m entries loaded (seen now)) → IsRecordAudited m entries loaded lists ingress ingress' end → IsJobAudited m moments lists ingress ingress' disk disk' end
of_job m entries loaded moments lists ingress ingress' disk disk' (Yes checkpoint count) same told r = (r.0, same, inl (entries, loaded, told, r.1))
of_job m entries loaded moments lists ingress ingress' disk disk' (NoEntry entry) same told r = (r.0, same, (entries, loaded, told, r.1))
of_job m entries loaded moments lists ingress ingress' disk disk' NoState same told r = (r.0, same, (entries, loaded, told, r.1))
of_job m entries loaded moments lists ingress ingress' disk disk' Help same told r = absurd r.1.2
of_job m entries loaded moments lists ingress ingress' disk disk' Usage same told r = absurd r.1.2
of_job m entries loaded moments lists ingress ingress' disk disk' ModuleFault same told r = absurd r.1.2
of_job m entries loaded moments lists ingress ingress' disk disk' (ModuleRefused document line kind) same told r = absurd r.1.2
of_job m entries loaded moments lists ingress ingress' disk disk' IngressFault same told r = (r, same)
of_job m entries loaded moments lists ingress ingress' disk disk' DiskFault same told r = absurd r.1.2
of_job m entries loaded moments lists ingress ingress' disk disk' (NotAStore file place) same told r = absurd r.1.2
of_job m entries loaded moments lists ingress ingress' disk disk' StoreOfOther same told r = absurd r.1.2
of_job m entries loaded moments lists ingress ingress' disk disk' OutOfMemory same told r = (r, same)

pub of_bytes : (m : Module) (bytes : List ℕ) (moments : List Moment) (lists : Option Lists) (ingress ingress' disk disk' : ℕ) (end : AuditEnd)
    → module_in bytes ≡ Ok m → IsJobAudited m moments lists ingress ingress' disk disk' end → IsBytesAudited bytes moments lists ingress ingress' disk disk' end
of_bytes m bytes moments lists ingress ingress' disk disk' (Yes checkpoint count) means r = (m, means, r)
of_bytes m bytes moments lists ingress ingress' disk disk' (NoEntry entry) means r = (m, means, r)
of_bytes m bytes moments lists ingress ingress' disk disk' NoState means r = (m, means, r)
of_bytes m bytes moments lists ingress ingress' disk disk' Help means r = (m, means, r)
of_bytes m bytes moments lists ingress ingress' disk disk' Usage means r = (m, means, r)
of_bytes m bytes moments lists ingress ingress' disk disk' ModuleFault means r = (m, means, r)
of_bytes m bytes moments lists ingress ingress' disk disk' (ModuleRefused document line kind) means r = absurd r.2.3.2
of_bytes m bytes moments lists ingress ingress' disk disk' IngressFault means r = (m, means, r)
of_bytes m bytes moments lists ingress ingress' disk disk' DiskFault means r = (m, means, r)
of_bytes m bytes moments lists ingress ingress' disk disk' (NotAStore file place) means r = (m, means, r)
of_bytes m bytes moments lists ingress ingress' disk disk' StoreOfOther means r = (m, means, r)
of_bytes m bytes moments lists ingress ingress' disk disk' OutOfMemory means r = r

pub of_file : (heard : List ℕ) (before after : Outside) (end : AuditEnd) → after.module_faults ≡ before.module_faults → IsWhole longest_file heard after.left
    → IsBytesAudited heard before.moments after.lists before.ingress_faults after.ingress_faults before.disk_faults after.disk_faults end → IsFileAudited heard before after end
of_file heard before after (Yes checkpoint count) same whole r = (same, whole, r)
of_file heard before after (NoEntry entry) same whole r = (same, whole, r)
of_file heard before after NoState same whole r = (same, whole, r)
of_file heard before after Help same whole r = (same, whole, r)
of_file heard before after Usage same whole r = (same, whole, r)
of_file heard before after ModuleFault same whole r = absurd r.2.2.3.2
of_file heard before after (ModuleRefused document line kind) same whole r = (same, whole, r)
of_file heard before after IngressFault same whole r = (same, whole, r)
of_file heard before after DiskFault same whole r = (same, whole, r)
of_file heard before after (NotAStore file place) same whole r = (same, whole, r)
of_file heard before after StoreOfOther same whole r = (same, whole, r)
of_file heard before after OutOfMemory same whole r = (same, r.0, r.1)

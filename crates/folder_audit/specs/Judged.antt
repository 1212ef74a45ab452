-- What the replay of a record says of a checkpoint.
use Rattle.std.specs.Prelude.{◌≡◌, ℕ, List, length, Option, Some}
use Rattle.sf_outside.specs.Splits.{Lists}
use Rattle.address_routing.specs.declared.module.Module.{Module}
use Rattle.run_record.specs.declared.entry.Entry.{Entry}
use Rattle.run_record.specs.Machine.{State, first_state}
use Rattle.run_record.specs.Record.{replayed}
use Rattle.run_record.specs.Replays.{AreListsOf, IsRefusedAt}
use Rattle.folder_form.specs.declared.loaded.Loaded.{Loaded}
use Rattle.checkpoint_state.specs.Matching.{StandsAt}
use Rattle.folder_audit.specs.declared.end.AuditEnd.{AuditEnd}
use Rattle.folder_audit.specs.declared.end.AuditEnd.TheVariants.{Yes, NoEntry, NoState, Help, Usage, ModuleFault, ModuleRefused, IngressFault, DiskFault, NotAStore, StoreOfOther, OutOfMemory}

-- the record replays over the lists to this state
abbrev pub LeadsTo : Module → Lists → List Entry → State → Type 0
LeadsTo m lists entries st = replayed m lists first_state entries ≡ Some st

-- Yes: the replay is defined, and its state is the checkpoint's in all parts but egress. No entry: this one is the first that is not
-- allowed. No state: the replay is defined, and its state is another.
abbrev pub IsJudgedOver : Module → Lists → List Entry → Loaded → AuditEnd → Type 0
IsJudgedOver m lists entries loaded (Yes checkpoint count) = (checkpoint ≡ loaded.number) × (count ≡ length entries) × (st : State) × LeadsTo m lists entries st × StandsAt st loaded
IsJudgedOver m lists entries loaded (NoEntry entry) = IsRefusedAt m lists entries entry
IsJudgedOver m lists entries loaded NoState = (st : State) × LeadsTo m lists entries st × (StandsAt st loaded → ⊥)
IsJudgedOver m lists entries loaded Help = ⊥
IsJudgedOver m lists entries loaded Usage = ⊥
IsJudgedOver m lists entries loaded ModuleFault = ⊥
IsJudgedOver m lists entries loaded (ModuleRefused document line kind) = ⊥
IsJudgedOver m lists entries loaded IngressFault = ⊥
IsJudgedOver m lists entries loaded DiskFault = ⊥
IsJudgedOver m lists entries loaded (NotAStore file place) = ⊥
IsJudgedOver m lists entries loaded StoreOfOther = ⊥
IsJudgedOver m lists entries loaded OutOfMemory = ⊥

-- so over lists that may be the ingress'
abbrev pub IsJudged : Module → Option Lists → List Entry → Loaded → AuditEnd → Type 0
IsJudged m told entries loaded end = (lists : Lists) × AreListsOf told lists × IsJudgedOver m lists entries loaded end

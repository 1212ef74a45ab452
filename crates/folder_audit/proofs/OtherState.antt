-- A record that leads to another state than the checkpoint's.
use Rattle.std.proofs.Common.{◌≡◌, Bool, true, false, List, Option, ap, sym, subst}
use Rattle.std.specs.Prelude.{◌↔◌, IsTrue}
use Rattle.sf_outside.specs.Splits.{Lists}
use Rattle.address_routing.specs.declared.module.Module.{Module}
use Rattle.run_record.specs.declared.entry.Entry.{Entry}
use Rattle.run_record.specs.declared.machine.Machine.{Machine}
use Rattle.run_record.specs.declared.replaying.Replayed.{Replayed}
use Rattle.run_record.specs.declared.replaying.Replayed.TheVariants.{State as Reached}
use Rattle.run_record.specs.Replays.{IsReplayed, Replays}
use Rattle.run_record.specs.StateOf.{state_of}
use Rattle.folder_form.specs.declared.loaded.Loaded.{Loaded}
use Rattle.checkpoint_state.specs.Matching.{StandsAt}
use Rattle.folder_audit.specs.declared.end.AuditEnd.TheVariants.{NoState}
use Rattle.folder_audit.specs.Judged.{IsJudged}

pub no_state : (told : Option Lists) (m routes : Module) (entries : List Entry) (loaded : Loaded) (machine : Machine) (replay : Replayed) (same : Bool)
    → routes ≡ m → Replays told routes entries replay → replay ≡ Reached machine → (IsTrue same ↔ StandsAt (state_of machine) loaded) → same ≡ false → IsJudged m told entries loaded NoState
no_state told m routes entries loaded machine replay same is_m replays is_reached decides differs =
    let leads : IsReplayed routes replays.lists entries (Reached machine) = subst (IsReplayed routes replays.lists entries) is_reached replays.is in
    let over : IsReplayed m replays.lists entries (Reached machine) = subst (λ (r : Module). IsReplayed r replays.lists entries (Reached machine)) is_m leads in
    (replays.lists, replays.are, (state_of machine, over, λ stands. let holds = decides.1 stands in absurd cc))

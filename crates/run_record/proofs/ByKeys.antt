-- Records in order of keys, by the laws of actors.
use Rattle.std.proofs.Common.{◌≡◌, ◌∙◌, sym, ap, subst, refl, ◌+◌, count_by, List, [], ◌∷◌, true, false, cond, Some}
use Rattle.std.specs.List.{AllByRecursion}
use Rattle.typed_values.specs.declared.address.Address.{Address}
use Rattle.typed_values.specs.declared.value.TypedValue.{TypedValue}
use Rattle.typed_values.specs.declared.letter.Sender.{Sender}
use Rattle.typed_values.specs.declared.letter.Sender.TheVariants.{Function}
use Rattle.typed_values.specs.Sameness.{same_sender}
use Rattle.sf_outside.specs.Splits.{Lists}
use Rattle.address_routing.specs.declared.module.Module.{Module}
use Rattle.actor_rules.specs.Rules.{World, IsRun}
use Rattle.actor_rules.specs.Keys.{Rises, placed as placed_by, merged_behind as merged_by}
use Rattle.actor_rules.specs.Apart.{parts, taken_by, WereSent, LeadTo}
use Rattle.actor_rules.proofs.Lists.{all-map}
use Rattle.actor_rules.proofs.Placing.{run-placed}
use Rattle.actor_rules.proofs.Cuts.{merge_runs}
use Rattle.run_record.specs.declared.entry.Entry.{Entry}
use Rattle.run_record.specs.Machine.{Own, State, actor_of}
use Rattle.run_record.specs.Record.{step_after, replayed, key_before, placed, merged_behind}
use Rattle.run_record.specs.Actors.{looked_at, actors, world_in, ReplaysTo}
use Rattle.run_record.proofs.ByActors.{keys_order, sound, step_allowed, run_replays, replay_runs}

placed_is : (entry : Entry) (entries : List Entry) → placed_by key_before entry entries ≡ placed entry entries
placed_is entry [] = refl
placed_is entry (other ∷ others) = ap (λ rest. cond (key_before entry other) (entry ∷ other ∷ others) (other ∷ rest)) (placed_is entry others)

merged_is : (front entries : List Entry) → merged_by key_before front entries ≡ merged_behind front entries
merged_is front [] = refl
merged_is front (entry ∷ entries) = ap (λ fs. merged_by key_before fs entries) (placed_is entry front) ∙ merged_is (placed entry front) entries

module _ (m : Module) (lists : Lists) where
  pub step_at_key : (st last next : State) (entries : List Entry) (entry : Entry) → Rises key_before entries
      → AllByRecursion (λ other. key_before entry other ≡ false → key_before other entry ≡ true) entries
      → AllByRecursion (λ other. actor_of other.step ≡ actor_of entry.step → key_before other entry ≡ true) entries
      → replayed m lists st entries ≡ Some last → step_after m lists last entry.step ≡ Some next
      → ((sender : Sender) (target : Address) → Function target ≡ actor_of entry.step → WereSent (actors m lists) (world_in st) (parts (actors m lists) entries) (λ other. key_before other entry ≡ true) sender target
      (taken_by (actors m lists) (parts (actors m lists) entries (actor_of entry.step)) sender + count_by (same_sender sender) (looked_at entry.step)))
      → ReplaysTo m lists st (placed entry entries) (world_in next)
  step_at_key st last next entries entry rises apart own replays steps early =
      let is = step_allowed m lists last next entry steps in
      let decides = (sound m lists).decides in
      let mine = all-map (λ (other : Entry). actor_of other.step ≡ actor_of entry.step → key_before other entry ≡ true) (λ (other : Entry). same_sender (actor_of entry.step) (actor_of other.step) ≡ true → key_before other entry ≡ true) entries
      (λ other h t. h ((decides (actor_of other.step) (actor_of entry.step)).0 t)) own in
      let run = run-placed (actors m lists) (sound m lists) key_before keys_order (world_in st) (world_in last) entries entry rises apart mine (replay_runs m lists st last entries replays) is.0
      (λ sender target t. early sender target ((decides (Function target) (actor_of entry.step)).0 t)) in
      subst (λ es. ReplaysTo m lists st es (world_in next)) (placed_is entry entries)
      (run_replays m lists st (placed_by key_before entry entries) (world_in next) (subst (IsRun (actors m lists) (world_in st) (placed_by key_before entry entries)) (sym is.1) run.1))

  pub merge_replays : (first st : State) (old entries : List Entry) (world : World Sender Address Own TypedValue) → replayed m lists first old ≡ Some st
      → AllByRecursion (λ entry. AllByRecursion (λ other. key_before entry other ≡ false) old) entries
      → ((actor : Sender) → Rises key_before (parts (actors m lists) entries actor))
      → LeadTo (actors m lists) key_before (world_in st) (parts (actors m lists) entries) world
      → ReplaysTo m lists first (merged_behind old entries) world
  merge_replays first st old entries world replays later rises lead =
      subst (λ es. ReplaysTo m lists first es world) (merged_is old entries)
      (run_replays m lists first (merged_by key_before old entries) world
      (merge_runs (actors m lists) (sound m lists) key_before keys_order (world_in first) (world_in st) world old entries (replay_runs m lists first st old replays) later rises lead))

-- The machine as actors: each split and each address has something of its own, and a step is one actor's.
use Rattle.std.specs.Prelude.{◌≡◌, ◌↔◌, ◌+◌, List, [], Bool, true, false, ◌&&◌, Option, Some, is_some, count_by}
use Rattle.std.specs.Option.{option_map_or}
use Rattle.std.specs.List.{AllByRecursion}
use Rattle.typed_values.specs.declared.address.Address.{Address}
use Rattle.typed_values.specs.declared.value.TypedValue.{TypedValue}
use Rattle.typed_values.specs.declared.letter.Sender.{Sender}
use Rattle.typed_values.specs.declared.letter.Sender.TheVariants.{Function}
use Rattle.typed_values.specs.Sameness.{same_sender}
use Rattle.sf_outside.specs.Splits.{Lists}
use Rattle.address_routing.specs.declared.module.Module.{Module}
use Rattle.actor_rules.specs.Rules.{Rules, World, IsRun}
use Rattle.actor_rules.specs.Keys.{Rises}
use Rattle.actor_rules.specs.Apart.{parts, taken_by, WereSent, LeadTo}
use Rattle.run_record.specs.declared.entry.Entry.{Entry}
use Rattle.run_record.specs.declared.entry.Step.{Step}
use Rattle.run_record.specs.declared.entry.Reply.{Reply}
use Rattle.run_record.specs.Machine.{Own, Mail, State, Act, arguments_of, actor_of, reply_of, leaving, may_act, act_of, left}
use Rattle.run_record.specs.Record.{next_record, step_after, replayed, key_before, placed, merged_behind}

-- what a step does, by its actor's own alone
abbrev pub act_by : Module → Lists → Step → Own → Option Act
act_by m lists step own = act_of m (next_record lists (actor_of step) own) own step

-- the senders whose letters a step looks at
abbrev pub looked_at : Step → List Sender
looked_at step = option_map_or (λ (reply : Reply). reply.picks) (reply_of step) []

-- whether it may be made, by its actor's own and those letters
abbrev pub is_made_by : Module → Lists → Step → Own → Mail → Bool
is_made_by m lists step own mail = may_act m own mail step && is_some (act_by m lists step own)

-- of each target the owner is the function there
abbrev pub actors : Module → Lists → Rules Sender Address Own TypedValue Entry
actors m lists = record {
  same = λ x actor. same_sender actor x;
  maker = λ e. actor_of e.step;
  owner = Function;
  looks = λ e x. count_by (same_sender x) (looked_at e.step);
  takes = λ e x. count_by (same_sender x) (leaving e.step);
  test = λ e. is_made_by m lists e.step;
  leaves = λ e own. option_map_or (λ act. left act own) (act_by m lists e.step own) own;
  sends = λ e own target. option_map_or (λ (act : Act). arguments_of (actor_of e.step) target act.letters) (act_by m lists e.step own) [];
}

-- a state but for its egress, which is what the answers of a record spell
abbrev pub world_in : State → World Sender Address Own TypedValue
world_in st = record { own = st.own; mail = st.mail }

-- a record leads from a state to one with this world
abbrev pub ReplaysTo : Module → Lists → State → List Entry → World Sender Address Own TypedValue → Type 0
ReplaysTo m lists st entries world = (last : State) × (replayed m lists st entries ≡ Some last) × (world_in last ≡ world)

-- ---- laws

-- the four steps are those of actors: a record replays exactly where it is a run of theirs
abbrev pub ReplaysAreRuns : Type 0
ReplaysAreRuns =
    (m : Module) (lists : Lists) (st : State) (entries : List Entry) (world : World Sender Address Own TypedValue)
    → IsRun (actors m lists) (world_in st) entries world ↔ ReplaysTo m lists st entries world

-- A step that may be made behind a record, behind all of its actor's own, and whose letters were sent by earlier keys, may stand at
-- its key's place.
abbrev pub StepsGoToTheirKeys : Type 0
StepsGoToTheirKeys =
    (m : Module) (lists : Lists) (st last next : State) (entries : List Entry) (entry : Entry) → Rises key_before entries
    → AllByRecursion (λ other. key_before entry other ≡ false → key_before other entry ≡ true) entries
    → AllByRecursion (λ other. actor_of other.step ≡ actor_of entry.step → key_before other entry ≡ true) entries
    → replayed m lists st entries ≡ Some last → step_after m lists last entry.step ≡ Some next
    → let own = parts (actors m lists) entries in
    ((sender : Sender) (target : Address) → Function target ≡ actor_of entry.step → WereSent (actors m lists) (world_in st) own
    (λ other. key_before other entry ≡ true) sender target
    (taken_by (actors m lists) (own (actor_of entry.step)) sender + count_by (same_sender sender) (looked_at entry.step)))
    → ReplaysTo m lists st (placed entry entries) (world_in next)

-- Steps that each actor made by itself, and that fit, replay when they are merged, also behind an old record of earlier keys.
abbrev pub MergesReplay : Type 0
MergesReplay =
    (m : Module) (lists : Lists) (first st : State) (old entries : List Entry) (world : World Sender Address Own TypedValue)
    → replayed m lists first old ≡ Some st
    → AllByRecursion (λ entry. AllByRecursion (λ other. key_before entry other ≡ false) old) entries
    → ((actor : Sender) → Rises key_before (parts (actors m lists) entries actor))
    → LeadTo (actors m lists) key_before (world_in st) (parts (actors m lists) entries) world
    → ReplaysTo m lists first (merged_behind old entries) world

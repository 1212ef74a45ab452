-- Records of steps: what they mean, and their order.
use Rattle.std.specs.Prelude.{◌^◌, ◌<◌, nat_eq, nat_lt, List, [], ◌∷◌, Bool, ◌&&◌, ◌||◌, if◌then◌else◌, Option, Some, None, option_and_then}
use Rattle.std.specs.List.{flat_map}
use Rattle.typed_values.specs.declared.letter.Sender.{Sender}
use Rattle.typed_values.specs.declared.letter.Sender.TheVariants.{Split, Function}
use Rattle.sf_outside.specs.declared.ingress.IngressRecord.{IngressRecord}
use Rattle.sf_outside.specs.Splits.{Lists, record_at}
use Rattle.address_routing.specs.declared.module.Module.{Module}
use Rattle.run_record.specs.declared.entry.Entry.{Entry}
use Rattle.run_record.specs.declared.entry.Step.{Step}
use Rattle.run_record.specs.Machine.{Own, State, actor_of, step_with}

-- ---- replay

-- the record that an actor takes next: of a split the next of its list
abbrev pub next_record : Lists → Sender → Own → Option IngressRecord
next_record lists (Split split) own = record_at lists split own.taken
next_record lists (Function address) own = None

-- the state after a step over the lists of an ingress, where it is allowed
abbrev pub step_after : Module → Lists → State → Step → Option State
step_after m lists st step = step_with m (next_record lists (actor_of step) (st.own (actor_of step))) st step

-- the state after the steps of a record, one after the other, where each is allowed
abbrev pub replayed : Module → Lists → State → List Entry → Option State
replayed m lists st [] = Some st
replayed m lists st (entry ∷ entries) = option_and_then (λ next. replayed m lists next entries) (step_after m lists st entry.step)

-- a count that is to rise is below 2^63
abbrev pub HasRoom : Sender → Option IngressRecord → State → Type 0
HasRoom (Split split) (Some found) st = (st.own (Split split)).taken < 2 ^ 63
HasRoom (Split split) None st = Unit {0}
HasRoom (Function address) found st = Unit {0}

-- ---- order

-- keys: the leg, then the stamp, then the node
abbrev pub key_before : Entry → Entry → Bool
key_before a b = nat_lt a.leg b.leg || (nat_eq a.leg b.leg && (nat_lt a.stamp b.stamp || (nat_eq a.stamp b.stamp && nat_lt a.node b.node)))

-- an entry goes behind all whose key is not above its own
abbrev pub placed : Entry → List Entry → List Entry
placed entry [] = entry ∷ []
placed entry (other ∷ others) = if key_before entry other then entry ∷ other ∷ others else other ∷ placed entry others

-- The entries of lists in order of their keys; entries of equal keys stand as in the lists, one list after the other.
abbrev pub merged_behind : List Entry → List Entry → List Entry
merged_behind front [] = front
merged_behind front (entry ∷ entries) = merged_behind (placed entry front) entries

unfoldable pub merged : List (List Entry) → List Entry
merged lists = merged_behind [] (flat_map (λ entries. entries) lists)

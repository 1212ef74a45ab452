-- What follows from what checkpoints mean: how the record grows, and what a partition has to do with a checkpoint.
use Rattle.std.specs.Prelude.{◌≡◌, ◌≤◌, ◌<◌, ℕ, not, get_or, List, [], ◌∷◌, ◌++◌, filter, Some}
use Rattle.std.specs.List.{AllByRecursion, IsDistinct}
use Rattle.typed_values.specs.declared.name.TypeName.{TypeName}
use Rattle.typed_values.specs.declared.address.Address.{Address}
use Rattle.typed_values.specs.declared.value.TypedValue.{TypedValue}
use Rattle.typed_values.specs.declared.record.EgressRecord.{EgressRecord}
use Rattle.sf_outside.specs.declared.call.Call.{Call}
use Rattle.sf_outside.specs.declared.call.Exchange.{Exchange}
use Rattle.sf_outside.specs.Splits.{Lists, GrowTo}
use Rattle.sf_outside.specs.Answers.{Extends}
use Rattle.batch_queue.specs.Post.{IsAll}
use Rattle.address_routing.specs.declared.module.Module.{Module}
use Rattle.actor_rules.specs.Keys.{Rises}
use Rattle.run_record.specs.declared.entry.Entry.{Entry}
use Rattle.run_record.specs.Machine.{State, first_state}
use Rattle.run_record.specs.Record.{key_before, replayed}
use Rattle.run_record.specs.Backed.{AreBacked, calls_of, same_call}
use Rattle.run_record.specs.Egress.{egress_of}
use Rattle.piece_messages.specs.declared.piece.Piece.{Piece}
use Rattle.piece_messages.specs.Stands.{cells_at, seen_at}
use Rattle.partition_core.specs.Work.{Work, state_of}
use Rattle.partition_core.specs.KeptWork.{kept_work}
use Rattle.folder_form.specs.declared.mark.Mark.{Mark}
use Rattle.folder_form.specs.declared.loaded.Loaded.{Loaded}
use Rattle.folder_form.specs.Folders.{Part, Contents, no_contents, with_leg, with_checkpoint, takes, loaded_checkpoint, loaded_of, record_of}
use Rattle.checkpoint_state.specs.Stored.{states_in, delays_in, letters_in, on_the_way, stored_state}
use Rattle.checkpoint_state.specs.Meaning.{given_by, state_in, moment_of, IsGood}

-- ---- the record grows

-- the entries of a checkpoint of one partition: the takes stand in its mark, all others in its piece
pub record AreParted (entries : List Entry) (mark : Mark) (part : Part) : Type 0 where
  pub in_mark : mark.takes ≡ filter takes entries
  pub in_piece : part.piece.entries ≡ filter (λ (entry : Entry). not (takes entry)) entries

-- entries whose keys rise, all of later legs than those of a record, stand behind it
abbrev pub RecordsGrow : Type 0
RecordsGrow =
    (contents : Contents) (bound : ℕ) (entries : List Entry) (mark : Mark) (part : Part)
    → AllByRecursion (λ (entry : Entry). entry.leg ≤ bound) (record_of contents) → AllByRecursion (λ (entry : Entry). bound < entry.leg) entries
    → Rises key_before entries → AreParted entries mark part
    → record_of (with_checkpoint mark (part ∷ []) contents) ≡ record_of contents ++ entries

-- what is loaded then is that checkpoint
abbrev pub TheLastIsLoaded : Type 0
TheLastIsLoaded = (mark : Mark) (parts : List Part) (contents : Contents) → loaded_of (with_checkpoint mark parts contents) ≡ loaded_checkpoint (record { mark = mark; parts = parts })

-- ---- good contents stay good

-- a leg behind a bound, and not behind the last
abbrev pub IsFrom : ℕ → ℕ → ℕ → Type 0
IsFrom bound last leg = (bound < leg) × (leg ≤ last)

-- What a checkpoint of one partition has to be behind contents: its entries are of the legs behind a bound, up to its own, and lead
-- from what the contents stand for to what it stands for.
pub record IsNext (m : Module) (told : Lists) (contents : Contents) (bound : ℕ) (entries : List Entry) (mark : Mark) (part : Part) : Type 0 where
  pub parted : AreParted entries mark part
  pub rises : Rises key_before entries
  -- legs and moments
  pub loaded : (loaded_of contents).leg ≤ bound
  pub later : bound ≤ mark.leg
  pub legs : AllByRecursion (λ (entry : Entry). IsFrom bound mark.leg entry.leg) entries
  pub moment : (loaded_of contents).moment ≤ mark.moment
  pub moments : AllByRecursion (λ (entry : Entry). moment_of entry.step ≤ mark.moment) entries
  -- calls
  pub called : AllByRecursion (λ (call : Call). call.leg ≤ bound) (calls_of (record_of contents))
  pub calls : AllByRecursion (λ (call : Call). IsFrom bound mark.leg call.leg) (calls_of entries)
  pub distinct : IsDistinct same_call (calls_of entries)
  pub replays : replayed m told (state_in contents) entries ≡ Some (state_in (with_checkpoint mark (part ∷ []) contents))

-- good contents, with these entries behind the record of those before, and no call of a leg behind the checkpoint's
pub record HaveGrown (m : Module) (told : Lists) (contents : Contents) (entries : List Entry) (mark : Mark) (new : Contents) : Type 0 where
  pub good : IsGood m told new
  pub behind : record_of new ≡ record_of contents ++ entries
  pub calls : AllByRecursion (λ (call : Call). call.leg ≤ mark.leg) (calls_of (record_of new))

abbrev pub NextKeepsGood : Type 0
NextKeepsGood =
    (m : Module) (told : Lists) (contents : Contents) (bound : ℕ) (entries : List Entry) (mark : Mark) (part : Part)
    → IsGood m told contents → IsNext m told contents bound entries mark part
    → HaveGrown m told contents entries mark (with_checkpoint mark (part ∷ []) contents)

-- where nothing stands
abbrev pub NoneIsGood : Type 0
NoneIsGood = (m : Module) (told : Lists) → IsGood m told no_contents

-- a later leg that is stored
abbrev pub LegsKeepGood : Type 0
LegsKeepGood = (m : Module) (told : Lists) (contents : Contents) (leg : ℕ) → IsGood m told contents → IsGood m told (with_leg leg contents)

-- over lists that have grown
abbrev pub ListsKeepGood : Type 0
ListsKeepGood = (m : Module) (old new : Lists) (contents : Contents) → GrowTo old new → IsGood m old contents → IsGood m new contents

-- ---- no step looks at egress

-- what was given before stands in front
abbrev pub given_before : (Address → TypeName → List TypedValue) → State → State
given_before before st = record st { egress = λ address name. before address name ++ st.egress address name }

abbrev pub EgressChangesNoStep : Type 0
EgressChangesNoStep =
    (m : Module) (told : Lists) (before : Address → TypeName → List TypedValue) (st last : State) (entries : List Entry)
    → replayed m told st entries ≡ Some last → replayed m told (given_before before st) entries ≡ Some (given_before before last)

-- so a record that leads from work to work does so whatever was given before
abbrev pub WorkLeadsOn : Type 0
WorkLeadsOn =
    (m : Module) (told : Lists) (counts after : ℕ → ℕ) (before given : List EgressRecord) (work left : Work) (entries : List Entry)
    → replayed m told (state_of counts [] work) entries ≡ Some (state_of after given left)
    → replayed m told (state_of counts before work) entries ≡ Some (state_of after (before ++ given) left)

-- and is backed
abbrev pub EgressBacksNoStep : Type 0
EgressBacksNoStep =
    (exchanges : List Exchange) (m : Module) (told : Lists) (counts : ℕ → ℕ) (before : List EgressRecord) (work : Work) (entries : List Entry)
    → AreBacked exchanges m told (state_of counts [] work) entries → AreBacked exchanges m told (state_of counts before work) entries

-- ---- a record that is backed goes on

abbrev pub BackingGrows : Type 0
BackingGrows =
    (old new : List Exchange) (m : Module) (before told : Lists) (st middle : State) (entries others : List Entry)
    → Extends old new → GrowTo before told
    → AreBacked old m before st entries → replayed m before st entries ≡ Some middle → AreBacked new m told middle others
    → AreBacked new m told st (entries ++ others)

-- the record of good contents, with that of the next checkpoint behind it, by what contents stand for
abbrev pub NextIsBacked : Type 0
NextIsBacked =
    (old new : List Exchange) (m : Module) (before told : Lists) (contents next : Contents) (counts : ℕ → ℕ) (work : Work) (entries : List Entry)
    → Extends old new → GrowTo before told
    → IsGood m before contents → AreBacked old m before first_state (record_of contents)
    → state_in contents ≡ state_of counts (given_by contents) work → AreBacked new m told (state_of counts [] work) entries
    → record_of next ≡ record_of contents ++ entries → AreBacked new m told first_state (record_of next)

-- ---- partitions and checkpoints

abbrev pub counts_in : List ℕ → ℕ → ℕ
counts_in counts split = get_or counts split 0

-- what a checkpoint stands for is the work that it keeps
abbrev pub CheckpointsAreWork : Type 0
CheckpointsAreWork =
    (loaded : Loaded) (given : List EgressRecord)
    → stored_state loaded given
    ≡ state_of (counts_in loaded.taken) given (kept_work (letters_in loaded.pieces ++ on_the_way loaded.feedback) (states_in loaded.pieces) (delays_in loaded.pieces))

-- a piece keeps a work
pub record IsKeptIn (piece : Piece) (work : Work) : Type 0 where
  pub letters : IsAll work.post piece.letters
  pub cells : cells_at piece.states ≡ work.cells
  pub seen : seen_at piece.states ≡ work.seen
  pub delays : piece.delays ≡ work.delays

-- a checkpoint of one partition that keeps a work, with these counts and nothing on the way
pub record IsOf (mark : Mark) (part : Part) (counts : ℕ → ℕ) (work : Work) : Type 0 where
  pub taken : counts_in mark.taken ≡ counts
  pub kept : IsKeptIn part.piece work
  pub letters : part.letters ≡ []

-- such a checkpoint stands for that work, beside what was given to egresses up to it
abbrev pub WorkIsStored : Type 0
WorkIsStored =
    (contents : Contents) (mark : Mark) (part : Part) (counts : ℕ → ℕ) (work : Work) → IsOf mark part counts work
    → state_in (with_checkpoint mark (part ∷ []) contents) ≡ state_of counts (given_by contents ++ part.piece.egress) work

-- Where contents stand for a work, and entries lead on from it, they lead to the checkpoint that keeps what they leave and what they
-- gave to egresses.
abbrev pub EntriesLeadToTheNext : Type 0
EntriesLeadToTheNext =
    (m : Module) (told : Lists) (contents : Contents) (counts after : ℕ → ℕ) (work left : Work) (entries : List Entry) (mark : Mark) (part : Part)
    → state_in contents ≡ state_of counts (given_by contents) work
    → replayed m told (state_of counts [] work) entries ≡ Some (state_of after (egress_of entries) left)
    → IsOf mark part after left → part.piece.egress ≡ egress_of entries
    → let new = with_checkpoint mark (part ∷ []) contents in
    (replayed m told (state_in contents) entries ≡ Some (state_in new)) × (state_in new ≡ state_of after (given_by new) left)

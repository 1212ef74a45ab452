-- Entries of later legs stand behind a record, whether they are takes or not.
use Rattle.std.proofs.Common.{◌≡◌, ◌∙◌, sym, ap, refl, ℕ, ◌<◌, ◌≤◌, List, [], ◌∷◌, ◌++◌, Bool, true, false, cond, filter, arith}
use Rattle.std.specs.Prelude.{not}
use Rattle.std.specs.List.{AllByRecursion, flat_map}
use Rattle.std.proofs.lemmas.List.{append-nil}
use Rattle.std.proofs.lemmas.Grind.{flat_map-append}
use Rattle.std.proofs.lemmas.Bool.Decides.{nat_tests}
use Rattle.actor_rules.specs.Keys.{Rises}
use Rattle.actor_rules.proofs.Lists.{all-append, all-map, all-filter}
use Rattle.run_record.specs.declared.entry.Entry.{Entry}
use Rattle.run_record.specs.Record.{key_before, placed, merged_behind, merged}
use Rattle.folder_form.specs.declared.mark.Mark.{Mark}
use Rattle.folder_form.specs.Folders.{Part, Contents, with_checkpoint, takes, entry_lists, record_of}
use Rattle.checkpoint_state.specs.Laws.{RecordsGrow}

-- ---- keys

one_way : (e f : Entry) → key_before e f ≡ true → key_before f e ≡ false
one_way e f h = grind (arith, nat_tests)

later_leg : (bound : ℕ) (e f : Entry) → f.leg ≤ bound → bound < e.leg → key_before e f ≡ false
later_leg bound e f h k = grind (arith, nat_tests)

-- none of some entries is before one of a front
abbrev AreBehind : List Entry → List Entry → Type 0
AreBehind front entries = AllByRecursion (λ e. AllByRecursion (λ f. key_before e f ≡ false) front) entries

all_later : (bound : ℕ) (front entries : List Entry) → AllByRecursion (λ f. f.leg ≤ bound) front → AllByRecursion (λ e. bound < e.leg) entries → AreBehind front entries
all_later bound front entries old new =
    all-map (λ e. bound < e.leg) (λ e. AllByRecursion (λ f. key_before e f ≡ false) front) entries
    (λ e k. all-map (λ f. f.leg ≤ bound) (λ f. key_before e f ≡ false) front (λ f h. later_leg bound e f h k) old) new

-- ---- merging

placed_behind : (front others : List Entry) (e : Entry) → AllByRecursion (λ f. key_before e f ≡ false) front → placed e (front ++ others) ≡ front ++ placed e others
placed_behind [] others e h = refl
placed_behind (f ∷ front) others e h = rw h.0 (ap (λ es. f ∷ es) (placed_behind front others e h.1))

placed_first : (e : Entry) (others : List Entry) → AllByRecursion (λ f. key_before e f ≡ true) others → placed e others ≡ e ∷ others
placed_first e [] h = refl
placed_first e (f ∷ others) h = rw h.0 refl

-- what goes behind a front leaves it as it is
behind_front : (front others entries : List Entry) → AreBehind front entries → merged_behind (front ++ others) entries ≡ front ++ merged_behind others entries
behind_front front others [] h = refl
behind_front front others (e ∷ entries) h = ap (λ es. merged_behind es entries) (placed_behind front others e h.0) ∙ behind_front front (placed e others) entries h.1

merged-append : (front entries others : List Entry) → merged_behind front (entries ++ others) ≡ merged_behind (merged_behind front entries) others
merged-append front [] others = refl
merged-append front (e ∷ entries) others = merged-append (placed e front) entries others

behind_first : (e : Entry) (entries : List Entry) → AllByRecursion (λ f. key_before e f ≡ true) entries → AreBehind (e ∷ []) entries
behind_first e entries h = all-map (λ f. key_before e f ≡ true) (λ f. AllByRecursion (λ g. key_before f g ≡ false) (e ∷ [])) entries (λ f first. (one_way e f first, tt)) h

-- entries in order stay so
merged-rising : (entries : List Entry) → Rises key_before entries → merged_behind [] entries ≡ entries
merged-rising [] rises = refl
merged-rising (e ∷ entries) rises = behind_front (e ∷ []) [] entries (behind_first e entries rises.0) ∙ ap (λ es. e ∷ es) (merged-rising entries rises.1)

rises-filter : (p : Entry → Bool) (entries : List Entry) → Rises key_before entries → Rises key_before (filter p entries)
rises-filter p [] rises = tt
rises-filter p (e ∷ entries) rises = by (p e) (rises-filter p entries rises.1)
  where
    by : (b : Bool) → Rises key_before (filter p entries) → Rises key_before (cond b (e ∷ filter p entries) (filter p entries))
    by true rest = (all-filter (λ f. key_before e f ≡ true) p entries rises.0, rest)
    by false rest = rest

-- entries in order that were parted by a test are put together again
merged-parted : (p : Entry → Bool) (entries : List Entry) → Rises key_before entries → merged_behind (filter p entries) (filter (λ (e : Entry). not (p e)) entries) ≡ entries
merged-parted p [] rises = refl
merged-parted p (e ∷ entries) rises = one (p e) (merged-parted p entries rises.1)
  where
    one : (b : Bool) → merged_behind (filter p entries) (filter (λ (f : Entry). not (p f)) entries) ≡ entries → merged_behind (cond b (e ∷ filter p entries) (filter p entries)) (cond (not b) (e ∷ filter (λ (f : Entry). not (p f)) entries) (filter (λ (f : Entry). not (p f)) entries)) ≡ e ∷ entries
    one true rest =
        behind_front (e ∷ []) (filter p entries) (filter (λ (f : Entry). not (p f)) entries) (behind_first e (filter (λ (f : Entry). not (p f)) entries) (all-filter (λ f. key_before e f ≡ true) (λ (f : Entry). not (p f)) entries rises.0))
        ∙ ap (λ es. e ∷ es) rest
    one false rest =
        ap (λ es. merged_behind es (filter (λ (f : Entry). not (p f)) entries)) (placed_first e (filter p entries) (all-filter (λ f. key_before e f ≡ true) p entries rises.0))
        ∙ behind_front (e ∷ []) (filter p entries) (filter (λ (f : Entry). not (p f)) entries) (behind_first e (filter (λ (f : Entry). not (p f)) entries) (all-filter (λ f. key_before e f ≡ true) (λ (f : Entry). not (p f)) entries rises.0))
        ∙ ap (λ es. e ∷ es) rest

-- ---- a record

-- the entries of a checkpoint are merged behind those before it
record-with : (mark : Mark) (part : Part) (contents : Contents) → record_of (with_checkpoint mark (part ∷ []) contents) ≡ merged_behind (record_of contents) (mark.takes ++ part.piece.entries)
unfolding record_of merged
record-with mark part contents =
    ap (λ lists. merged_behind [] (flat_map (λ entries. entries) lists)) (flat_map-append entry_lists contents.checkpoints (record { mark = mark; parts = part ∷ [] } ∷ []))
    ∙ ap (merged_behind []) (flat_map-append (λ (entries : List Entry). entries) (flat_map entry_lists contents.checkpoints) (mark.takes ∷ part.piece.entries ∷ []))
    ∙ merged-append [] (flat_map (λ entries. entries) (flat_map entry_lists contents.checkpoints)) (mark.takes ++ (part.piece.entries ++ []))
    ∙ ap (λ es. merged_behind (merged_behind [] (flat_map (λ entries. entries) (flat_map entry_lists contents.checkpoints))) (mark.takes ++ es)) (append-nil part.piece.entries)

pub records_grow : RecordsGrow
records_grow contents bound entries mark part old new rises parted =
    let own = filter takes entries in
    let others = filter (λ (entry : Entry). not (takes entry)) entries in
    let later = λ (q : Entry → Bool). all-filter (λ e. bound < e.leg) q entries new in
    let behind = all_later bound (record_of contents) (own ++ others) old (all-append (λ e. bound < e.leg) own others (later takes) (later (λ (entry : Entry). not (takes entry)))) in
    record-with mark part contents
    ∙ (λ i. merged_behind (record_of contents) (parted.in_mark i ++ parted.in_piece i))
    ∙ ap (λ es. merged_behind es (own ++ others)) (sym (append-nil (record_of contents)))
    ∙ behind_front (record_of contents) [] (own ++ others) behind
    ∙ ap (λ es. record_of contents ++ es) (
    merged-append [] own others
    ∙ ap (λ es. merged_behind es others) (merged-rising own (rises-filter takes entries rises))
    ∙ merged-parted takes entries rises)

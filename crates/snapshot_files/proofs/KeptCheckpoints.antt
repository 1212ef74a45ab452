-- The checkpoints that a store keeps, and what is read of them.
use Rattle.std.proofs.Common.{◌≡◌, ⊎_elim, ℕ, zero, suc, ◌+◌, ◌-◌, ◌<◌, Bool, true, false, if◌then◌else◌, List, [], ◌∷◌, ◌++◌, map, length, take, slice_get, slice_index_or, Option, Some, None, Result, Ok, Err, refl, sym, ◌∙◌, ap, subst, arith, append_assoc}
use Rattle.std.proofs.lemmas.List.{append-nil}
use Rattle.std.proofs.lemmas.List.Concat.{flat_map-append}
use Rattle.std.specs.List.{flat_map}
use Rattle.std.specs.Option.{option_map}
use Rattle.std.specs.Result.{IfOk}
use Rattle.typed_values.specs.declared.letter.Letter.{Letter}
use Rattle.typed_values.specs.declared.record.EgressRecord.{EgressRecord}
use Rattle.run_record.specs.declared.entry.Entry.{Entry}
use Rattle.run_record.specs.Record.{merged}
use Rattle.block_log.specs.Logs.{IsOpen}
use Rattle.piece_messages.specs.declared.piece.Piece.{Piece}
use Rattle.sf_disk.specs.Moments.{Moment, WhereTold, newest}
use Rattle.block_log.specs.Blocks.{Body}
use Rattle.block_log.proofs.Reading.{untold}
use Rattle.store_faults.specs.declared.fault.StoreFault.{StoreFault}
use Rattle.store_faults.specs.declared.fault.StoreFault.TheVariants.{DiskFault, NotAStore, StoreOfOther, OutOfMemory}
use Rattle.folder_messages.specs.declared.manifest.Manifest.{Manifest}
use Rattle.folder_messages.specs.declared.manifest.Manifest.TheVariants as says
use Rattle.folder_messages.specs.declared.manifest.Complete.{Complete}
use Rattle.folder_messages.specs.declared.manifest.Place.{Place}
use Rattle.folder_messages.specs.ManifestSpelling.{manifest_value}
use Rattle.folder_form.specs.declared.shape.Shape.{Shape}
use Rattle.folder_form.specs.declared.mark.Mark.{Mark}
use Rattle.folder_form.specs.declared.loaded.Loaded.{Loaded}
use Rattle.folder_form.specs.Shapes.{shape_in}
use Rattle.folder_form.specs.Folders.{Checkpoint, Contents, Files, Held, Part, Reading, and_then, block_at, completed, contents_from, count_of, egress_in, egress_of, entries_of, entry_lists, record_of, feedback_of, form_from, is_next, job_in, loaded_checkpoint, loaded_from, loaded_of, mark_of, no_contents, nothing_loaded, or_break, parts_from, pieces_of, said, spelled_at, step_in, valued, with_checkpoint, with_leg}
use Rattle.snapshot_files.specs.declared.store.Store.{Store}
use Rattle.snapshot_files.specs.Stores.{AreKept, IsKept, IsStore, Pending, complete_in}
use Rattle.snapshot_files.specs.Reading.{HasComplete, HasPartsAt, IsUntold, RefusesComplete}
use Rattle.snapshot_files.proofs.Growing.{then_parts}
use Rattle.snapshot_files.proofs.AllOpened.{pushed_get}
use Rattle.snapshot_files.proofs.Advancing.{next_facts}
use Rattle.snapshot_files.proofs.Loads.{lengths, some_same, taken_next}

-- ---- each checkpoint has a part for each partition

abbrev AllFull : Shape → List Checkpoint → Type 0
AllFull shape checkpoints = (k : ℕ) (checkpoint : Checkpoint) → slice_get checkpoints k ≡ Some checkpoint → length checkpoint.parts ≡ shape.partitions

full_next : (shape : Shape) (checkpoints : List Checkpoint) (checkpoint : Checkpoint) → length checkpoint.parts ≡ shape.partitions → AllFull shape checkpoints → AllFull shape (checkpoints ++ checkpoint ∷ [])
full_next shape checkpoints checkpoint here full = λ k found is. ⊎_elim (λ h. full k found h.0) (λ h. ap (λ (c : Checkpoint). length c.parts) h.1 ∙ here) (pushed_get checkpoints checkpoint found k is)

completed_full : (t : Bool) (shape : Shape) (files : Files) (complete : Complete) (c d : Contents) (o : Reading Contents) → (t ≡ true → length complete.places ≡ shape.partitions) → (o ≡ Ok d → ⊥) → AllFull shape c.checkpoints → (if t then completed shape files complete c else o) ≡ Ok d → AllFull shape d.checkpoints
completed_full false shape files complete c d o places never full is = absurd (never is)
completed_full true shape files complete c d o places never full is =
    let p = then_parts (parts_from shape.partitions 0 files complete.moment complete.places) (λ parts. Ok (with_checkpoint (mark_of complete) parts c)) d is in
    let same : with_checkpoint (mark_of complete) p.0 c ≡ d = cc in
    subst (λ (x : Contents). AllFull shape x.checkpoints) same (full_next shape c.checkpoints (record { mark = mark_of complete; parts = p.0 }) (lengths shape.partitions 0 files complete.moment complete.places p.0 p.1 ∙ places refl) full)

said_full : (shape : Shape) (files : Files) (place : ℕ) (c d : Contents) (o : Option Manifest) → AllFull shape c.checkpoints → said shape files place c o ≡ Ok d → AllFull shape d.checkpoints
said_full shape files place c d None full is = absurd cc
said_full shape files place c d (Some (says.Job job)) full is = absurd cc
said_full shape files place c d (Some (says.Opening opening)) full is = let same : with_leg opening.leg c ≡ d = cc in subst (λ (x : Contents). AllFull shape x.checkpoints) same full
said_full shape files place c d (Some (says.Complete complete)) full is = completed_full (is_next shape (length c.checkpoints) complete) shape files complete c d _ (λ next. (next_facts shape (length c.checkpoints) complete next).2) (λ e. absurd cc) full is

contents_full : (shape : Shape) (files : Files) (place : ℕ) (c d : Contents) (bodies : List Body) → AllFull shape c.checkpoints → contents_from shape files place c bodies ≡ Ok d → AllFull shape d.checkpoints
contents_full shape files place c d [] full is = let same : c ≡ d = cc in subst (λ (x : Contents). AllFull shape x.checkpoints) same full
contents_full shape files place c d (x ∷ bodies) full is =
    let p = then_parts (step_in shape files place c x) (λ next. contents_from shape files (place + 9 + length x) next bodies) d is in
    contents_full shape files (place + 9 + length x) p.0 d bodies (said_full shape files place c p.0 (valued (manifest_value x)) full p.1) p.2

abbrev held_of : List ℕ → Shape → Contents → Reading (Option Held)
held_of text shape contents = Ok (Some (record { text = text; shape = shape; contents = contents }))

form_full : (files : Files) (bodies : List Body) (held : Held) → form_from files bodies ≡ Ok (Some held) → AllFull held.shape held.contents.checkpoints
form_full files [] held is = absurd cc
form_full files (job ∷ rest) held is =
    let place = 9 + length job in
    let t = then_parts (or_break 0 0 (job_in job)) (λ text. and_then (or_break 0 0 (shape_in text)) (λ shape. and_then (contents_from shape files place no_contents rest) (held_of text shape))) (Some held) is in
    let s = then_parts (or_break 0 0 (shape_in t.0)) (λ shape. and_then (contents_from shape files place no_contents rest) (held_of t.0 shape)) (Some held) t.2 in
    let c = then_parts (contents_from s.0 files place no_contents rest) (held_of t.0 s.0) (Some held) s.2 in
    let same : record { text = t.0; shape = s.0; contents = c.0 } ≡ held = cc in
    subst (λ (h : Held). AllFull h.shape h.contents.checkpoints) same (contents_full s.0 files place no_contents c.0 rest (λ k found at. absurd cc) c.1)

-- ---- one checkpoint

kept_at : (shape : Shape) (files : Files) (places : List ℕ) (checkpoints : List Checkpoint) (k : ℕ) → AreKept shape files places checkpoints → k < length places → (checkpoint : Checkpoint) × (slice_get checkpoints k ≡ Some checkpoint) × IsKept shape files (slice_index_or places k 0) checkpoint
kept_at shape files [] checkpoints k are less = absurd (omega (arith, less))
kept_at shape files (place ∷ places) [] k are less = absurd are
kept_at shape files (place ∷ places) (checkpoint ∷ checkpoints) zero are less = (checkpoint, refl, are.0)
kept_at shape files (place ∷ places) (checkpoint ∷ checkpoints) (suc k) are less = kept_at shape files places checkpoints k are.1 (omega (arith, less))

-- the checkpoint of that number, as it was read
pub record Found (store : Store) (contents : Contents) (complete : Complete) (k : ℕ) (now : Moment) (files : Files) : Type 0 where
  pub checkpoint : Checkpoint
  pub at : slice_get contents.checkpoints k ≡ Some checkpoint
  pub mark : checkpoint.mark ≡ mark_of complete
  pub has : HasPartsAt store complete.moment complete.places now files checkpoint.parts

module _ (store : Store) (k place : ℕ) (less : k < length store.completes) (place_is : place ≡ slice_index_or store.completes k 0) where
  kept_here : (contents : Contents) (pending : ℕ → Pending) (now : Moment) (is : IsStore store contents pending now) → (checkpoint : Checkpoint) × (slice_get contents.checkpoints k ≡ Some checkpoint) × IsKept store.shape is.files place checkpoint
  kept_here contents pending now is = let r = kept_at store.shape is.files store.completes contents.checkpoints k is.kept less in (r.0, r.1, subst (λ (p : ℕ). IsKept store.shape is.files p r.0) (sym place_is) r.2)

  pub found : (contents : Contents) (pending : ℕ → Pending) (now : Moment) (is : IsStore store contents pending now) (complete : Complete) → HasComplete is.files place complete → Found store contents complete k now is.files
  found contents pending now is complete has =
      let r = kept_here contents pending now is in
      let same : r.2.complete ≡ complete = some_same (spelled_at complete_in (block_at place (is.files 0))) r.2.complete complete r.2.block has in
      record {
        checkpoint = r.0;
        at = r.1;
        mark = r.2.mark ∙ ap mark_of same;
        has = record { opened = is.logs; are = subst (λ (x : Complete). parts_from store.shape.partitions 0 is.files x.moment x.places ≡ Ok r.0.parts) same r.2.parts };
      }

  pub complete_untold : (a : List Moment) → WhereTold a (λ now. (contents : Contents) × (pending : (ℕ → Pending)) × IsStore store contents pending now) → (fault : StoreFault) → RefusesComplete store place a fault → IsUntold a fault
  complete_untold a exist DiskFault r = tt
  complete_untold a exist (NotAStore file at) r = untold a (λ m told.
      let e = exist m told in
      let h = kept_here e.0 e.1 m e.2 in
      r m told e.2.files h.2.complete e.2.manifest h.2.block (sym (lengths store.shape.partitions 0 e.2.files h.2.complete.moment h.2.complete.places h.0.parts h.2.parts) ∙ form_full e.2.files (e.2.files 0) _ e.2.form_is k h.0 h.1))
  complete_untold a exist (StoreOfOther kept given) r = absurd r
  complete_untold a exist OutOfMemory r = tt

  pub parts_told : (a b : List Moment) → b ≡ a → WhereTold a (λ now. (contents : Contents) × (pending : (ℕ → Pending)) × IsStore store contents pending now) → (complete : Complete)
      → ((m : Moment) → newest a ≡ Some m → (contents : Contents) (pending : ℕ → Pending) (is : IsStore store contents pending m) → HasComplete is.files place complete)
      → (places : List Place) → places ≡ complete.places → WhereTold b (λ now. (files : Files) × (parts : List Part) × HasPartsAt store complete.moment places now files parts)
  parts_told a b same exist complete has places lent = λ m told_now.
      let told = ap newest (sym same) ∙ told_now in
      let e = exist m told in
      let f = found e.0 e.1 m e.2 complete (has m told e.0 e.1 e.2) in
      (e.2.files, f.checkpoint.parts, subst (λ (l : List Place). HasPartsAt store complete.moment l m e.2.files f.checkpoint.parts) (sym lent) f.has)

-- ---- the newest one

loaded_last : (loaded : Loaded) (checkpoints : List Checkpoint) (checkpoint : Checkpoint) → slice_get checkpoints (length checkpoints - 1) ≡ Some checkpoint → loaded_from loaded checkpoints ≡ loaded_checkpoint checkpoint
loaded_last loaded [] checkpoint is = absurd cc
loaded_last loaded (x ∷ []) checkpoint is = let same : x ≡ checkpoint = cc in ap loaded_checkpoint same
loaded_last loaded (x ∷ y ∷ rest) checkpoint is =
    let there : length (y ∷ rest) - 1 ≡ length rest = omega arith in
    let from : length (x ∷ y ∷ rest) - 1 ≡ suc (length rest) = omega arith in
    loaded_last (loaded_checkpoint x) (y ∷ rest) checkpoint (ap (slice_get (y ∷ rest)) there ∙ sym (ap (slice_get (x ∷ y ∷ rest)) from) ∙ is)

pub loaded_is : (contents : Contents) (n : ℕ) (checkpoint : Checkpoint) (complete : Complete) (taken : List ℕ) (pieces : List Piece) (feedback : List (List Letter)) → n ≡ length contents.checkpoints → slice_get contents.checkpoints (n - 1) ≡ Some checkpoint
    → checkpoint.mark ≡ mark_of complete → taken ≡ map count_of complete.taken → pieces ≡ pieces_of checkpoint.parts → feedback ≡ feedback_of checkpoint.parts
    → record { number = complete.number; leg = complete.leg; moment = complete.moment; taken = taken; pieces = pieces; feedback = feedback } ≡ loaded_of contents
unfolding loaded_of
loaded_is contents n checkpoint complete taken pieces feedback count at mark counted read fed =
    ap (λ (l : List ℕ). record { number = complete.number; leg = complete.leg; moment = complete.moment; taken = l; pieces = pieces; feedback = feedback }) counted
    ∙ ap (λ (l : List Piece). record { number = complete.number; leg = complete.leg; moment = complete.moment; taken = map count_of complete.taken; pieces = l; feedback = feedback }) read
    ∙ ap (λ (l : List (List Letter)). record { number = complete.number; leg = complete.leg; moment = complete.moment; taken = map count_of complete.taken; pieces = pieces_of checkpoint.parts; feedback = l }) fed
    ∙ ap (λ (x : Mark). record { number = x.number; leg = x.leg; moment = x.moment; taken = x.taken; pieces = pieces_of checkpoint.parts; feedback = feedback_of checkpoint.parts }) (sym mark)
    ∙ sym (loaded_last nothing_loaded contents.checkpoints checkpoint (ap (λ (k : ℕ). slice_get contents.checkpoints (k - 1)) (sym count) ∙ at))

pub nothing_is : (contents : Contents) → length contents.checkpoints ≡ 0 → nothing_loaded ≡ loaded_of contents
unfolding loaded_of
nothing_is contents none = ap (loaded_from nothing_loaded) (sym (empty contents.checkpoints none))
  where
    empty : (l : List Checkpoint) → length l ≡ 0 → l ≡ []
    empty [] e = refl
    empty (x ∷ l) e = absurd (omega (arith, e))

-- ---- what is read of one

module _ (store : Store) (k place : ℕ) (less : k < length store.completes) (place_is : place ≡ slice_index_or store.completes k 0) (complete : Complete) (places : List Place) (lent : places ≡ complete.places) (a b : List Moment) (same : b ≡ a) (has : (m : Moment) → newest a ≡ Some m → (contents : Contents) (pending : ℕ → Pending) (is : IsStore store contents pending m) → HasComplete is.files place complete) where
  found_there : (m : Moment) → newest a ≡ Some m → (contents : Contents) (pending : ℕ → Pending) (is : IsStore store contents pending m) → (f : Found store contents complete k m is.files) × HasPartsAt store complete.moment places m is.files f.checkpoint.parts
  found_there m told contents pending is =
      let f = found store k place less place_is contents pending m is complete (has m told contents pending is) in
      (f, subst (λ (l : List Place). HasPartsAt store complete.moment l m is.files f.checkpoint.parts) (sym lent) f.has)

  pub egress_read : (r : Result (List EgressRecord) StoreFault) → IfOk r (λ given. WhereTold b (λ now. (files : Files) (parts : List Part) → HasPartsAt store complete.moment places now files parts → given ≡ flat_map egress_of (pieces_of parts)))
      → IfOk r (λ given. WhereTold a (λ now. (contents : Contents) (pending : (ℕ → Pending)) → IsStore store contents pending now → option_map egress_in (slice_get contents.checkpoints k) ≡ Some given))
  unfolding egress_in
  egress_read (Err e) h = tt
  egress_read (Ok given) h = λ m told contents pending is.
      let f = found_there m told contents pending is in
      ap (option_map egress_in) f.0.at ∙ ap (λ (l : List EgressRecord). Some l) (sym (h m (ap newest same ∙ told) is.files f.0.checkpoint.parts f.1))

  pub entries_more : (old pushed new : List (List Entry)) → pushed ≡ old ++ complete.takes ∷ []
      → WhereTold b (λ now. (files : Files) (parts : List Part) → HasPartsAt store complete.moment places now files parts → new ≡ pushed ++ map entries_of (pieces_of parts))
      → (m : Moment) → newest a ≡ Some m → (contents : Contents) (pending : ℕ → Pending) (is : IsStore store contents pending m) → old ≡ flat_map entry_lists (take k contents.checkpoints) → new ≡ flat_map entry_lists (take (k + 1) contents.checkpoints)
  entries_more old pushed new pushes added m told contents pending is before =
      let f = found_there m told contents pending is in
      let cp = f.0.checkpoint in
      let takes : cp.mark.takes ≡ complete.takes = ap (λ (x : Mark). x.takes) f.0.mark in
      let entries = map entries_of (pieces_of cp.parts) in
      added m (ap newest same ∙ told) is.files cp.parts f.1
      ∙ ap (λ (l : List (List Entry)). l ++ entries) pushes
      ∙ append_assoc old (complete.takes ∷ []) entries
      ∙ ap (λ (l : List Entry). old ++ l ∷ entries) (sym takes)
      ∙ ap (λ (l : List (List Entry)). l ++ entry_lists cp) before
      ∙ ap (λ (l : List (List Entry)). flat_map entry_lists (take k contents.checkpoints) ++ l) (sym (append-nil (entry_lists cp)))
      ∙ sym (flat_map-append entry_lists (take k contents.checkpoints) (cp ∷ []))
      ∙ ap (flat_map entry_lists) (sym (taken_next contents.checkpoints k cp f.0.at))

pub untold_before : (a b : List Moment) → b ≡ a → (fault : StoreFault) → IsUntold b fault → IsUntold a fault
untold_before a b same fault h = subst (λ (l : List Moment). IsUntold l fault) same h

pub open_then : (store : Store) (a b : List Moment) → b ≡ a → WhereTold a (λ now. (contents : Contents) × (pending : (ℕ → Pending)) × IsStore store contents pending now) → WhereTold b (λ now. (contents : Contents) × (pending : (ℕ → Pending)) × IsStore store contents pending now)
open_then store a b same exist = λ m told. exist m (ap newest (sym same) ∙ told)

pub manifest_open : (store : Store) (a b : List Moment) → b ≡ a → WhereTold a (λ now. (contents : Contents) × (pending : (ℕ → Pending)) × IsStore store contents pending now) → WhereTold b (λ now. (files : Files) × IsOpen store.manifest (files 0) (now 0))
manifest_open store a b same exist = λ m told. let e = exist m (ap newest (sym same) ∙ told) in (e.2.files, e.2.manifest)

pub record_is : (contents : Contents) (lists : List (List Entry)) (entries : List Entry) → lists ≡ flat_map entry_lists contents.checkpoints → entries ≡ merged lists → entries ≡ record_of contents
unfolding record_of
record_is contents lists entries all is = is ∙ ap merged all
